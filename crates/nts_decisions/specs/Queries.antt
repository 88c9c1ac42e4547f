-- The query of a decided goal: its terms, its positions, and what it answers of them.
use Rattle.std.specs.Prelude.{◌≡◌, ℕ, suc, false, List, [], ◌∷◌, slice_get, Some}
use Rattle.nts_model.specs.declared.labels.Sort.{Sort}
use Rattle.nts_model.specs.declared.labels.Leaf.{Leaf}
use Rattle.nts_model.specs.declared.labels.Leaf.TheVariants as leaf
use Rattle.nts_model.specs.Terms.Trees.{Tree, any_label, is_infer, is_region_infer}
use Rattle.nts_model.specs.Terms.Placeholders.{constant_level, free_region_level, CanName}
use Rattle.nts_model.specs.Terms.Substitutions.{Occurs}
use Rattle.nts_model.specs.Canonical.Numbered.{position}
use Rattle.nts_model.specs.Canonical.Inputs.{PositionKind, placeholder}

-- a term over positions without variables
pub record HasNoVariables (t : Tree) : Type 0 where
  pub infer : any_label is_infer t ≡ false
  pub regions : any_label is_region_infer t ≡ false

-- no variable, and named by the universe u
abbrev pub IsNamedConstant : ℕ → Leaf → Type 0
IsNamedConstant u (leaf.Variable k n) = ⊥
IsNamedConstant u (leaf.Region r) = CanName u (free_region_level r)
IsNamedConstant u (leaf.TyConstant a) = CanName u (constant_level a)
IsNamedConstant u (leaf.ConstConstant a) = CanName u (constant_level a)

abbrev pub AreConstants : ℕ → Tree → Type 0
AreConstants u t = (l : Leaf) → Occurs l t → IsNamedConstant u l

-- the placeholders of the root with the names from n on
abbrev pub AreRootKinds : ℕ → List PositionKind → Type 0
AreRootKinds n [] = Unit {0}
AreRootKinds n (k ∷ ks) = ((s : Sort) × (k ≡ placeholder s 0 n)) × AreRootKinds (suc n) ks

-- the value is the original with this number: a position that stands for it
pub record IsOwn (ks : List PositionKind) (n : ℕ) (v : Tree) : Type 0 where
  pub sort : Sort
  pub at : ℕ
  pub is : v ≡ position sort at
  pub kind : slice_get ks at ≡ Some (placeholder sort 0 n)

-- from n on, value by value
abbrev pub AreOwn : List PositionKind → ℕ → List Tree → List Tree → Type 0
AreOwn ks n [] [] = Unit {0}
AreOwn ks n (v ∷ vs) (o ∷ os) = IsOwn ks n v × AreOwn ks (suc n) vs os
AreOwn ks n vs os = ⊥
