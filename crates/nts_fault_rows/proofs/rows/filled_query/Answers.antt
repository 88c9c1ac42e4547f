use Rattle.nts_canonical.proofs.FilledQueries.{query_has}
use Rattle.nts_fault_rows.proofs.rows.filled_query.Goals as goal

pub instantiate_canonical-requires-clause-positions : goal.instantiate_canonical-requires-clause-positions
instantiate_canonical-requires-clause-positions c = query_has _ _ c.args.canonical.value c.requires.positions
