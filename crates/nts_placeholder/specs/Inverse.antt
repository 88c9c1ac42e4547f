-- Closing after opening.
use Rattle.std.specs.Prelude.{◌≡◌, ℕ, true, false, List, length, Option, Some, None, slice_get}
use Rattle.nts_model.specs.declared.labels.Sort.{Sort}
use Rattle.nts_model.specs.Terms.Trees.{Tree, empty, more, node, any_label, is_infer, is_region_infer, IsClosedUnder}
use Rattle.nts_model.specs.Tables.Contents.{Content}
use Rattle.nts_model.specs.Tables.Resolving.{deeply_resolved}
use Rattle.nts_placeholder.specs.declared.maps.Placeholder.{Placeholder}
use Rattle.nts_placeholder.specs.declared.maps.BoundVar.{BoundVar}
use Rattle.nts_placeholder.specs.Closing.{placeholder_of, entry_of, closed_by}
use Rattle.nts_placeholder.specs.Escaping.{escapes}
use Rattle.nts_placeholder.specs.Opening.{entry_for, opened_by, AreMapsOf}

-- no universe is listed twice
abbrev pub AreUniversesDistinct : List (Option ℕ) → Type 0
AreUniversesDistinct U = (i j u : ℕ) → slice_get U i ≡ Some (Some u) → slice_get U j ≡ Some (Some u) → i ≡ j

-- the placeholder, if it is one, is of no listed universe
abbrev pub IsUnlisted : List (Option ℕ) → Option (Sort × Placeholder) → Type 0
IsUnlisted U None = Unit {0}
IsUnlisted U (Some p) = entry_of U p.1.universe ≡ None

abbrev pub AllUnlisted : List (Option ℕ) → Tree → Type 0
AllUnlisted U empty = Unit {0}
AllUnlisted U (more a b) = AllUnlisted U a × AllUnlisted U b
AllUnlisted U (node l t) = IsUnlisted U (placeholder_of l) × AllUnlisted U t

-- each entry that an escaping bound variable names has a universe
abbrev pub NamesUniverses : List (Option ℕ) → Tree → Type 0
NamesUniverses U t = (s : Sort) (b : BoundVar) → escapes t s b ≡ true → (u : ℕ) × (slice_get U (entry_for U b) ≡ Some (Some u))

-- closing gives back what was opened, where the universes are distinct and the tree holds no variable and no placeholder of one of them
abbrev pub ClosingGivesBack : Type 0
ClosingGivesBack = (c : Content) (U : List (Option ℕ)) (M : Sort → Placeholder → Option BoundVar) (t : Tree) → AreUniversesDistinct U → IsClosedUnder (length U) t → NamesUniverses U t → AreMapsOf U (escapes t) M → AllUnlisted U t → any_label is_infer t ≡ false → any_label is_region_infer t ≡ false
    → closed_by M U 0 (deeply_resolved c (opened_by U 0 t)) ≡ t
