use Rattle.std.proofs.Common.{◌≡◌, map, take}
use Rattle.std.specs.Prelude.{All}
use Rattle.nts_unify.specs.Reading.{recorded_of}
use Rattle.nts_response.specs.Forms.{recorded_at, StoreHoldsConstraint}
use Rattle.nts_meaning.proofs.response.told_constraints.Given as goal

abbrev pub invariant-loop-i : goal.invariant-loop-i
invariant-loop-i l = record {
  trees : map (recorded_at l.cx.nodes) l.told.items ≡ map (recorded_of l.cx.nodes) (take l.i l.constraints.items);
  holds : All (StoreHoldsConstraint l.cx.nodes) l.told.items;
}
