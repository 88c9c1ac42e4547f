use Rattle.nts_model.specs.Tables.Resolving.{deeply_resolved}
use Rattle.nts_store.specs.Growth.{tree_at, IsIn, Extends}
use Rattle.nts_unify.specs.Reading.{content_of}
use Rattle.nts_table.specs.Registering.{NoneBefore}
use Rattle.std.specs.Prelude.{◌≡◌}
use Rattle.nts_table.proofs.infer_ctxt.InferCtxt.place_of_hidden.Given as goal

abbrev pub invariant-loop-i : goal.invariant-loop-i
invariant-loop-i l = record {
  extends : Extends l.fn.nodes l.nodes;
  within : IsIn l.nodes l.args;
  args : tree_at l.nodes l.args ≡ deeply_resolved (content_of l.fn.nodes l.self.entries) (tree_at l.fn.nodes l.hidden.args.node);
  none : NoneBefore l.fn.nodes (content_of l.fn.nodes l.self.entries) l.i l.self.entries.hidden.lookup l.hidden;
}
