use Rattle.nts_canonical.proofs.FilledQueries.{query_has, query_filled}
use Rattle.nts_vectors.proofs.inputs.filled_query.Goals as goal

pub instantiate_canonical-requires-clause-positions : goal.instantiate_canonical-requires-clause-positions
instantiate_canonical-requires-clause-positions c = query_has _ _ c.args.canonical.value c.requires.positions

pub returns-clause-tree : goal.returns-clause-tree
returns-clause-tree c = query_filled _ c.args.cx.now.nodes c.instantiate_canonical.new.cx.nodes c.args.canonical.value c.in_ok-query.query c.in_ok-query.ensures.tree
