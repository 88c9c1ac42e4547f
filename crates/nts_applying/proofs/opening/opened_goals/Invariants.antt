use Rattle.std.proofs.Common.{take, map}
use Rattle.nts_model.specs.Terms.Substitutions.{filled}
use Rattle.nts_model.specs.Derivations.Handlers.{premise_by}
use Rattle.nts_store.specs.Growth.{tree_at, Extends}
use Rattle.nts_response.specs.Forms.{HoldsOpen, premise_at}
use Rattle.nts_response.specs.Replacing.{ReplacesEach}
use Rattle.nts_applying.proofs.opening.opened_goals.Given as goal

abbrev pub invariant-loop-i : goal.invariant-loop-i
invariant-loop-i l = record {
  each : ReplacesEach HoldsOpen premise_at (premise_by (filled (map (tree_at l.fn.nodes) l.chosen))) l.fn.nodes l.nodes (take l.i l.goals) l.opened.items;
  extends : Extends l.fn.nodes l.nodes;
}
