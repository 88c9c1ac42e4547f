use Rattle.std.proofs.Common.{◌≡◌, drop}
use Rattle.nts_model.specs.Canonical.Numbered.{seen, no_leaf}
use Rattle.nts_canonical.specs.Forms.{hidden_pairs}
use Rattle.nts_canonicalizer.proofs.canonicalize.collect_all.Given as goal

abbrev pub invariant-loop-i : goal.invariant-loop-i
invariant-loop-i l =
    seen no_leaf l.leaves (hidden_pairs l.cx.nodes (drop l.i l.opaque_types)) ≡ seen no_leaf l.initial.leaves (hidden_pairs l.cx.nodes l.opaque_types)
