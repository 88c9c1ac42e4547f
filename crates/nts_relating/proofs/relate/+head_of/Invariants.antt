use Rattle.nts_model.specs.Tables.Resolving.{variable_rank}
use Rattle.nts_store.specs.Growth.{tree_at}
use Rattle.nts_relating.proofs.relate.+head_of.Given as goal

abbrev pub decreases-head_of : goal.decreases-head_of
decreases-head_of l = variable_rank (tree_at l.nodes.now l.t)
