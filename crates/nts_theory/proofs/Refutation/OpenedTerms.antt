-- What is formed is so once leaves of their sorts stand for what it binds.
use Rattle.std.proofs.Common.{◌≡◌, ℕ, ◌+◌, Bool, true, false, List, [], ◌∷◌, Some, refl, ap}
use Rattle.std.specs.Prelude.{◌==◌, if◌then◌else◌}
use Rattle.nts_model.specs.declared.labels.Sort.{Sort}
use Rattle.nts_model.specs.declared.labels.Leaf.{Leaf}
use Rattle.nts_model.specs.declared.labels.BoundVarIndexKind.TheVariants as index
use Rattle.nts_model.specs.declared.labels.Label.{Label}
use Rattle.nts_model.specs.declared.labels.Label.TheVariants as label
use Rattle.nts_model.specs.Terms.Trees.{Tree, empty, more, node, kind_of, of_sort, binders, sort_of_leaf, Place, FitsPlace, HavePlaces, AllFit, Shape, in_order, each, Meets, shape, IsFormed}
use Rattle.nts_model.specs.Terms.Substitutions.{leaf_tree}
use Rattle.nts_model.specs.Derivations.Rules.{opened, opened_at}

module _ (f : Sort → ℕ → Leaf) (sorts : (s : Sort) (n : ℕ) → sort_of_leaf (f s n) ≡ s) where
  kind_if : (b : Bool) (s : Sort) (d n : ℕ) (t : Tree) → kind_of (if b then leaf_tree (f s n) else node (label.Bound s (index.Bound d) n) t) ≡ Some (of_sort s)
  kind_if true s d n t = ap (λ z. Some (of_sort z)) (sorts s n)
  kind_if false s d n t = refl

  kind_at : (c : ℕ) (l : Label) (t u : Tree) → kind_of (opened_at f c l t) ≡ kind_of (node l u)
  kind_at c (label.Bound s (index.Bound d) n) t u = kind_if (d == c) s d n t
  kind_at c (label.Bound s index.Canonical n) t u = refl
  kind_at c (label.Leaf x) t u = refl
  kind_at c (label.Ty x) t u = refl
  kind_at c (label.Const x) t u = refl
  kind_at c (label.Clause x) t u = refl
  kind_at c (label.Predicate x) t u = refl
  kind_at c (label.List x) t u = refl

  kind_same : (c : ℕ) (t : Tree) → kind_of (opened f c t) ≡ kind_of t
  kind_same c empty = refl
  kind_same c (more a b) = refl
  kind_same c (node l t) = kind_at c l (opened f (c + binders l) t) t

  fits_opened : (c : ℕ) (p : Place) (t : Tree) → FitsPlace p (kind_of t) → FitsPlace p (kind_of (opened f c t))
  fits_opened c p t h = rw (kind_same c t) h

  places_opened : (c : ℕ) (ps : List Place) (t : Tree) → HavePlaces ps t → HavePlaces ps (opened f c t)
  places_opened c [] empty h = tt
  places_opened c [] (more a b) h = absurd h
  places_opened c [] (node l t) h = absurd h
  places_opened c (p ∷ ps) empty h = absurd h
  places_opened c (p ∷ ps) (more a b) h = (fits_opened c p a h.0, places_opened c ps b h.1)
  places_opened c (p ∷ ps) (node l t) h = absurd h

  all_opened : (c : ℕ) (p : Place) (t : Tree) → AllFit p t → AllFit p (opened f c t)
  all_opened c p empty h = tt
  all_opened c p (more a b) h = (fits_opened c p a h.0, all_opened c p b h.1)
  all_opened c p (node l t) h = absurd h

  meets_opened : (c : ℕ) (s : Shape) (t : Tree) → Meets s t → Meets s (opened f c t)
  meets_opened c (in_order ps) t h = places_opened c ps t h
  meets_opened c (each p) t h = all_opened c p t h

  formed_if : (b : Bool) (s : Sort) (d n : ℕ) (t : Tree) → IsFormed (node (label.Bound s (index.Bound d) n) t) → IsFormed (if b then leaf_tree (f s n) else node (label.Bound s (index.Bound d) n) t)
  formed_if true s d n t h = (tt, tt)
  formed_if false s d n t h = h

  formed_at : (c : ℕ) (l : Label) (t : Tree) → IsFormed (node l t) → IsFormed (opened_at f c l t)
  formed_at c (label.Bound s (index.Bound d) n) t h = formed_if (d == c) s d n t h
  formed_at c (label.Bound s index.Canonical n) t h = h
  formed_at c (label.Leaf x) t h = h
  formed_at c (label.Ty x) t h = h
  formed_at c (label.Const x) t h = h
  formed_at c (label.Clause x) t h = h
  formed_at c (label.Predicate x) t h = h
  formed_at c (label.List x) t h = h

  pub opened_formed : (c : ℕ) (t : Tree) → IsFormed t → IsFormed (opened f c t)
  opened_formed c empty h = tt
  opened_formed c (more a b) h = (opened_formed c a h.0, opened_formed c b h.1)
  opened_formed c (node l t) h = formed_at c l (opened f (c + binders l) t) (meets_opened (c + binders l) (shape l) t h.0, opened_formed (c + binders l) t h.1)
