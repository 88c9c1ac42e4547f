use Rattle.nts_model.specs.Tables.Resolving.{variable_rank}
use Rattle.nts_store.specs.Growth.{tree_at}
use Rattle.nts_table.proofs.infer_ctxt.InferCtxt.+look_up.Given as goal

abbrev pub decreases-look_up : goal.decreases-look_up
decreases-look_up l = variable_rank (tree_at l.nodes.now l.t)
