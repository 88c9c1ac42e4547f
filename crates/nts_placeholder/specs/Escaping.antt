-- The bound variables of a tree whose binders stand outside of it.
use Rattle.std.specs.Prelude.{◌≡◌, ℕ, ◌+◌, ◌-◌, ◌≤◌, ◌||◌, ◌&&◌, nat_eq, Bool, true, false, List, [], ◌∷◌, get_or}
use Rattle.nts_model.specs.declared.labels.Sort.{Sort}
use Rattle.nts_model.specs.declared.labels.Sort.TheVariants as sort
use Rattle.nts_model.specs.declared.labels.BoundVarIndexKind.TheVariants as index
use Rattle.nts_model.specs.declared.labels.Label.{Label}
use Rattle.nts_model.specs.declared.labels.Label.TheVariants as label
use Rattle.nts_model.specs.Terms.Trees.{Tree, empty, more, node, binders}
use Rattle.nts_store.specs.Levels.{above}
use Rattle.nts_placeholder.specs.declared.maps.BoundVar.{BoundVar}
use Rattle.nts_placeholder.specs.declared.escaping.Escaping.{Escaping}

abbrev pub same_sort : Sort → Sort → Bool
same_sort sort.Ty sort.Ty = true
same_sort sort.Region sort.Region = true
same_sort sort.Const sort.Const = true
same_sort r s = false

-- the label, under c binders of a value, is this bound variable, whose level is counted outside of the value
abbrev pub is_bound : Sort → BoundVar → ℕ → Label → Bool
is_bound s b c (label.Bound r (index.Bound d) n) = same_sort r s && (nat_eq d (b.level + c) && nat_eq n b.var)
is_bound s b c l = false

-- this bound variable stands in a tree that is under c binders of the value
abbrev pub escapes_under : Sort → BoundVar → ℕ → Tree → Bool
escapes_under s b c empty = false
escapes_under s b c (more x y) = escapes_under s b c x || escapes_under s b c y
escapes_under s b c (node l x) = is_bound s b c l || escapes_under s b (c + binders l) x

-- .. in a value
abbrev pub escapes : Tree → Sort → BoundVar → Bool
escapes t s b = escapes_under s b 0 t

-- .. in a list of such variables
abbrev pub is_it : Escaping → Sort → BoundVar → Bool
is_it x s b = same_sort x.sort s && (nat_eq x.bound.level b.level && nat_eq x.bound.var b.var)

abbrev pub is_among : List Escaping → Sort → BoundVar → Bool
is_among [] s b = false
is_among (x ∷ xs) s b = is_it x s b || is_among xs s b

-- .. in one of these terms, which are under d binders of the value
abbrev pub escapes_any : Sort → BoundVar → ℕ → List Tree → List ℕ → Bool
escapes_any s b d ts [] = false
escapes_any s b d ts (k ∷ ks) = escapes_under s b d (get_or ts k empty) || escapes_any s b d ts ks

-- the terms one binder deeper that are left once these are visited, and the variables found so far
pub record IsDeeper (d : ℕ) (ts : List Tree) (here deeper : List ℕ) (old new : List Escaping) : Type 0 where
  pub below : above deeper ≤ above here - 1
  pub found : (s : Sort) (b : BoundVar) → (is_among new s b || escapes_any s b (d + 1) ts deeper) ≡ (is_among old s b || escapes_any s b d ts here)
