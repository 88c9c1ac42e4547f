use Rattle.std.proofs.Common.{map, take}
use Rattle.nts_model.specs.Terms.Substitutions.{filled}
use Rattle.nts_store.specs.Growth.{tree_at, Extends}
use Rattle.nts_canonical.specs.Replaced.{AreImages}
use Rattle.nts_canonical.proofs.queries.fill_hidden.Given as goal

abbrev pub invariant-loop-i : goal.invariant-loop-i
invariant-loop-i l = record {
  images : AreImages (filled (map (tree_at l.fn.nodes) l.values)) l.fn.nodes l.nodes (take l.i l.opaque_types) l.hidden.items;
  extends : Extends l.fn.nodes l.nodes;
}
