-- Constraints that are recorded.
use Rattle.std.proofs.Common.{◌≡◌, ◌⊎◌, Bool, true, false, List}
use Rattle.nts_model.specs.Terms.Trees.{Tree}
use Rattle.nts_terms.specs.declared.modes.VisibleForLeakCheck.{VisibleForLeakCheck}
use Rattle.nts_terms.specs.declared.modes.VisibleForLeakCheck.TheVariants.{Yes, No}
use Rattle.nts_terms.specs.nts_store.specs.Growth.{tree_at}
use Rattle.nts_unify.specs.declared.contents.Constraint.{Constraint}
use Rattle.nts_unify.specs.Entries.{Entries, constrained}

-- the leak check sees it
abbrev pub is_visible : VisibleForLeakCheck → Bool
is_visible Yes = true
is_visible No = false

-- one more constraint, unless its sides are one tree
abbrev pub Records : List Tree → Entries → Entries → Constraint → Type 0
Records ts e f x =
    ((tree_at ts x.left ≡ tree_at ts x.right) × (f ≡ e)) ⊎ ((tree_at ts x.left ≡ tree_at ts x.right → ⊥) × (f ≡ constrained e x))
