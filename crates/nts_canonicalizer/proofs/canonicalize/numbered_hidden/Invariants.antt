use Rattle.std.proofs.Common.{take}
use Rattle.nts_model.specs.Terms.Substitutions.{replace}
use Rattle.nts_model.specs.Canonical.Numbered.{numbered_leaf, no_leaf}
use Rattle.nts_store.specs.Growth.{Extends}
use Rattle.nts_canonical.specs.Replaced.{AreImages}
use Rattle.nts_canonicalizer.proofs.canonicalize.numbered_hidden.Given as goal

abbrev pub invariant-loop-i : goal.invariant-loop-i
invariant-loop-i l = record {
  images : AreImages (replace (numbered_leaf no_leaf l.leaves)) l.fn.nodes l.nodes (take l.i l.opaque_types) l.hidden.items;
  extends : Extends l.fn.nodes l.nodes;
}
