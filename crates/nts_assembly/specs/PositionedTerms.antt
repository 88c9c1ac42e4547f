-- What has positions in place of what a binder binds is a term like the one that it was made of.
use Rattle.std.proofs.Common.{◌≡◌, ℕ, zero, suc, ◌+◌, ◌==◌, if◌then◌else◌, Bool, true, false, List, [], ◌∷◌, Some, refl, sym, subst}
use Rattle.nts_model.specs.declared.labels.Sort.{Sort}
use Rattle.nts_model.specs.declared.labels.BoundVarIndexKind.TheVariants as index
use Rattle.nts_model.specs.declared.labels.ListHead.TheVariants as list
use Rattle.nts_model.specs.declared.labels.Label.{Label}
use Rattle.nts_model.specs.declared.labels.Label.TheVariants as label
use Rattle.nts_model.specs.Terms.Trees.{Tree, empty, more, node, binders, kind_of, label_of, shape, Shape, Place, in_order, each, FitsPlace, HavePlaces, AllFit, Meets, IsFormed}
use Rattle.nts_model.specs.Terms.Scoping.{sorts_of, HasSortAt, IsListed, AllListed, ListsBound, IsWellBound}
use Rattle.nts_assembly.specs.Assumptions.{positioned, positioned_at}

-- its kind
kind_if : (b : Bool) (s : Sort) (d n : ℕ) (x : Tree) → kind_of (if b then node (label.Bound s index.Canonical n) x else node (label.Bound s (index.Bound d) n) x) ≡ kind_of (node (label.Bound s (index.Bound d) n) x)
kind_if true s d n x = refl
kind_if false s d n x = refl

kind_at : (c : ℕ) (l : Label) (x t : Tree) → kind_of (positioned_at c l x) ≡ kind_of (node l t)
kind_at c (label.Bound s (index.Bound d) n) x t = kind_if (d == c) s d n x
kind_at c (label.Bound s index.Canonical n) x t = refl
kind_at c (label.Leaf y) x t = refl
kind_at c (label.Ty y) x t = refl
kind_at c (label.Const y) x t = refl
kind_at c (label.Clause y) x t = refl
kind_at c (label.Predicate y) x t = refl
kind_at c (label.List y) x t = refl

pub kind_positioned : (c : ℕ) (t : Tree) → kind_of (positioned c t) ≡ kind_of t
kind_positioned c empty = refl
kind_positioned c (more a b) = refl
kind_positioned c (node l t) = kind_at c l (positioned (c + binders l) t) t

-- its children fit their places
places_positioned : (ps : List Place) (c : ℕ) (t : Tree) → HavePlaces ps t → HavePlaces ps (positioned c t)
places_positioned [] c empty h = tt
places_positioned [] c (more a b) h = absurd h
places_positioned [] c (node l t) h = absurd h
places_positioned (p ∷ ps) c empty h = absurd h
places_positioned (p ∷ ps) c (more a b) h = (subst (FitsPlace p) (sym (kind_positioned c a)) h.0, places_positioned ps c b h.1)
places_positioned (p ∷ ps) c (node l t) h = absurd h

all_positioned : (p : Place) (c : ℕ) (t : Tree) → AllFit p t → AllFit p (positioned c t)
all_positioned p c empty h = tt
all_positioned p c (more a b) h = (subst (FitsPlace p) (sym (kind_positioned c a)) h.0, all_positioned p c b h.1)
all_positioned p c (node l t) h = absurd h

meets_positioned : (z : Shape) (c : ℕ) (t : Tree) → Meets z t → Meets z (positioned c t)
meets_positioned (in_order ps) c t h = places_positioned ps c t h
meets_positioned (each p) c t h = all_positioned p c t h

formed_if : (b : Bool) (s : Sort) (d n : ℕ) (x : Tree) → IsFormed (node (label.Bound s (index.Bound d) n) x) → IsFormed (if b then node (label.Bound s index.Canonical n) x else node (label.Bound s (index.Bound d) n) x)
formed_if true s d n x h = h
formed_if false s d n x h = h

formed_at : (c : ℕ) (l : Label) (x : Tree) → IsFormed (node l x) → IsFormed (positioned_at c l x)
formed_at c (label.Bound s (index.Bound d) n) x h = formed_if (d == c) s d n x h
formed_at c (label.Bound s index.Canonical n) x h = h
formed_at c (label.Leaf y) x h = h
formed_at c (label.Ty y) x h = h
formed_at c (label.Const y) x h = h
formed_at c (label.Clause y) x h = h
formed_at c (label.Predicate y) x h = h
formed_at c (label.List y) x h = h

pub positioned_formed : (c : ℕ) (t : Tree) → IsFormed t → IsFormed (positioned c t)
positioned_formed c empty h = tt
positioned_formed c (more a b) h = (positioned_formed c a h.0, positioned_formed c b h.1)
positioned_formed c (node l t) h = formed_at c l (positioned (c + binders l) t) (meets_positioned (shape l) (c + binders l) t h.0, positioned_formed (c + binders l) t h.1)

-- its binders list what they bind
abbrev KeepsSorts : Tree → Tree → Type 0
KeepsSorts ss us = (n : ℕ) (s : Sort) → HasSortAt ss n s → HasSortAt us n s

label_positioned : (c : ℕ) (a : Tree) (s : Sort) → label_of a ≡ Some (label.List (list.Sort s)) → label_of (positioned c a) ≡ Some (label.List (list.Sort s))
label_positioned c (node (label.List (list.Sort r)) x) s h = h
label_positioned c (node (label.List list.Args) x) s h = cc
label_positioned c (node (label.List list.Env) x) s h = cc
label_positioned c (node (label.List list.Sorts) x) s h = cc
label_positioned c (node (label.List list.Binder) x) s h = cc
label_positioned c a s h = cc

sort_at_positioned : (c : ℕ) (ss : Tree) → KeepsSorts ss (positioned c ss)
sort_at_positioned c empty n s h = cc
sort_at_positioned c (more a b) zero s h = label_positioned c a s h
sort_at_positioned c (more a b) (suc n) s h = sort_at_positioned c b n s h
sort_at_positioned c (node l x) n s h = cc

sorts_positioned : (c : ℕ) (t : Tree) → KeepsSorts (sorts_of t) (sorts_of (positioned c t))
sorts_positioned c (more (node (label.List list.Sorts) ss) b) n s h = sort_at_positioned (c + 0) ss n s h
sorts_positioned c (more (node (label.List list.Args) ss) b) n s h = cc
sorts_positioned c (more (node (label.List list.Env) ss) b) n s h = cc
sorts_positioned c (more (node (label.List (list.Sort r)) ss) b) n s h = cc
sorts_positioned c (more (node (label.List list.Binder) ss) b) n s h = cc
sorts_positioned c t n s h = cc

listed_if : (b : Bool) (us : Tree) (d e n : ℕ) (s : Sort) (x : Tree) → IsListed us d (label.Bound s (index.Bound e) n) → AllListed us (d + 0) x → AllListed us d (if b then node (label.Bound s index.Canonical n) x else node (label.Bound s (index.Bound e) n) x)
listed_if true us d e n s x h k = (tt, k)
listed_if false us d e n s x h k = (h, k)

listed_at : (ss us : Tree) → KeepsSorts ss us → (d c : ℕ) (l : Label) (x : Tree) → IsListed ss d l → AllListed us (d + binders l) x → AllListed us d (positioned_at c l x)
listed_at ss us m d c (label.Bound s (index.Bound e) n) x h k = listed_if (e == c) us d e n s x (λ q. m n s (h q)) k
listed_at ss us m d c (label.Bound s index.Canonical n) x h k = (tt, k)
listed_at ss us m d c (label.Leaf y) x h k = (tt, k)
listed_at ss us m d c (label.Ty y) x h k = (tt, k)
listed_at ss us m d c (label.Const y) x h k = (tt, k)
listed_at ss us m d c (label.Clause y) x h k = (tt, k)
listed_at ss us m d c (label.Predicate y) x h k = (tt, k)
listed_at ss us m d c (label.List y) x h k = (tt, k)

listed_positioned : (ss us : Tree) → KeepsSorts ss us → (d c : ℕ) (t : Tree) → AllListed ss d t → AllListed us d (positioned c t)
listed_positioned ss us m d c empty h = tt
listed_positioned ss us m d c (more a b) h = (listed_positioned ss us m d c a h.0, listed_positioned ss us m d c b h.1)
listed_positioned ss us m d c (node l t) h = listed_at ss us m d c l (positioned (c + binders l) t) h.0 (listed_positioned ss us m (d + binders l) (c + binders l) t h.1)

lists_positioned : (k c : ℕ) (t : Tree) → ListsBound k t → ListsBound k (positioned c t)
lists_positioned zero c t h = tt
lists_positioned (suc k) c t h = listed_positioned (sorts_of t) (sorts_of (positioned c t)) (sorts_positioned c t) 0 c t h

well_if : (b : Bool) (s : Sort) (d n : ℕ) (x : Tree) → IsWellBound x → IsWellBound (if b then node (label.Bound s index.Canonical n) x else node (label.Bound s (index.Bound d) n) x)
well_if true s d n x h = (tt, h)
well_if false s d n x h = (tt, h)

well_at : (c : ℕ) (l : Label) (x : Tree) → ListsBound (binders l) x → IsWellBound x → IsWellBound (positioned_at c l x)
well_at c (label.Bound s (index.Bound d) n) x h k = well_if (d == c) s d n x k
well_at c (label.Bound s index.Canonical n) x h k = (tt, k)
well_at c (label.Leaf y) x h k = (h, k)
well_at c (label.Ty y) x h k = (h, k)
well_at c (label.Const y) x h k = (h, k)
well_at c (label.Clause y) x h k = (h, k)
well_at c (label.Predicate y) x h k = (h, k)
well_at c (label.List y) x h k = (h, k)

pub positioned_well_bound : (c : ℕ) (t : Tree) → IsWellBound t → IsWellBound (positioned c t)
positioned_well_bound c empty h = tt
positioned_well_bound c (more a b) h = (positioned_well_bound c a h.0, positioned_well_bound c b h.1)
positioned_well_bound c (node l t) h =
    well_at c l (positioned (c + binders l) t) (lists_positioned (binders l) (c + binders l) t h.0) (positioned_well_bound (c + binders l) t h.1)
