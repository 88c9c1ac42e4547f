-- Positions and values in place of what a binder binds.
use Rattle.std.proofs.Common.{◌≡◌, inl, inr, ℕ, zero, suc, ◌+◌, ◌<◌, ◌==◌, if◌then◌else◌, Bool, true, false, List, Some, map, get_or, slice_get, arith, refl, sym, ap, subst, eqb-true}
use Rattle.nts_model.specs.declared.labels.Sort.{Sort}
use Rattle.nts_model.specs.declared.labels.Leaf.{Leaf}
use Rattle.nts_model.specs.declared.labels.BoundVarIndexKind.TheVariants as index
use Rattle.nts_model.specs.declared.labels.Label.{Label}
use Rattle.nts_model.specs.declared.labels.Label.TheVariants as label
use Rattle.nts_model.specs.Terms.Trees.{Tree, empty, more, node, binders, any_label, is_canonical, IsBoundBelow, IsClosedUnder}
use Rattle.nts_model.specs.Terms.Scoping.{HasSortAt, IsListed, AllListed}
use Rattle.nts_model.specs.Terms.Substitutions.{put, replace, Occurs}
use Rattle.nts_model.specs.Derivations.Handlers.{NamesFresh}
use Rattle.nts_model.specs.Terms.Substitutions.{filled_under}
use Rattle.nts_delegate.specs.OwnTerms.{both_false, value_replaced}
use Rattle.nts_assembly.specs.Assumptions.{positioned, positioned_at, valued, valued_at, sort_read, sorts_in}

-- a tree in which nothing names that binder stays
not_same : (d c : ℕ) → d < c → (d == c) ≡ false
not_same d c h = grind (arith, h)

given_at_closed : (vs : List Tree) (c : ℕ) (l : Label) (t x : Tree) → IsBoundBelow c l → x ≡ t → valued_at vs c l x ≡ node l t
given_at_closed vs c (label.Bound s (index.Bound d) n) t x h e = rw (not_same d c h) (ap (node (label.Bound s (index.Bound d) n)) e)
given_at_closed vs c (label.Bound s index.Canonical n) t x h e = ap (node (label.Bound s index.Canonical n)) e
given_at_closed vs c (label.Leaf y) t x h e = ap (node (label.Leaf y)) e
given_at_closed vs c (label.Ty y) t x h e = ap (node (label.Ty y)) e
given_at_closed vs c (label.Const y) t x h e = ap (node (label.Const y)) e
given_at_closed vs c (label.Clause y) t x h e = ap (node (label.Clause y)) e
given_at_closed vs c (label.Predicate y) t x h e = ap (node (label.Predicate y)) e
given_at_closed vs c (label.List y) t x h e = ap (node (label.List y)) e

pub valued_closed : (vs : List Tree) (c : ℕ) (t : Tree) → IsClosedUnder c t → valued vs c t ≡ t
valued_closed vs c empty h = refl
valued_closed vs c (more a b) h = let x = valued_closed vs c a h.0 in let y = valued_closed vs c b h.1 in cc (x, y)
valued_closed vs c (node l t) h = given_at_closed vs c l t (valued vs (c + binders l) t) h.0 (valued_closed vs (c + binders l) t h.1)

-- .. also where positions are put in
stays_at : (c : ℕ) (l : Label) (t x : Tree) → IsBoundBelow c l → x ≡ t → positioned_at c l x ≡ node l t
stays_at c (label.Bound s (index.Bound d) n) t x h e = rw (not_same d c h) (ap (node (label.Bound s (index.Bound d) n)) e)
stays_at c (label.Bound s index.Canonical n) t x h e = ap (node (label.Bound s index.Canonical n)) e
stays_at c (label.Leaf y) t x h e = ap (node (label.Leaf y)) e
stays_at c (label.Ty y) t x h e = ap (node (label.Ty y)) e
stays_at c (label.Const y) t x h e = ap (node (label.Const y)) e
stays_at c (label.Clause y) t x h e = ap (node (label.Clause y)) e
stays_at c (label.Predicate y) t x h e = ap (node (label.Predicate y)) e
stays_at c (label.List y) t x h e = ap (node (label.List y)) e

pub stays_positioned : (c : ℕ) (t : Tree) → IsClosedUnder c t → positioned c t ≡ t
stays_positioned c empty h = refl
stays_positioned c (more a b) h = let x = stays_positioned c a h.0 in let y = stays_positioned c b h.1 in cc (x, y)
stays_positioned c (node l t) h = stays_at c l t (positioned (c + binders l) t) h.0 (stays_positioned (c + binders l) t h.1)

-- leaves stand for trees in which nothing names a binder around
abbrev pub AreClosedBelow : (Leaf → Tree) → Type 0
AreClosedBelow f = (c : ℕ) (l : Leaf) → IsClosedUnder c (f l)

-- an instance of what has positions is the instance with values in place of them
filled_if : (b : Bool) (f : Leaf → Tree) (vs : List Tree) (s : Sort) (d n : ℕ) (t x : Tree) → filled_under f vs t ≡ x → filled_under f vs (if b then node (label.Bound s index.Canonical n) t else node (label.Bound s (index.Bound d) n) t) ≡ (if b then get_or vs n empty else node (label.Bound s (index.Bound d) n) x)
filled_if true f vs s d n t x e = refl
filled_if false f vs s d n t x e = ap (node (label.Bound s (index.Bound d) n)) e

filled_at : (f : Leaf → Tree) (vs : List Tree) → AreClosedBelow f → (c : ℕ) (l : Label) (t u : Tree) → is_canonical l ≡ false → filled_under f vs t ≡ valued vs (c + binders l) u → filled_under f vs (positioned_at c l t) ≡ valued vs c (put f l u)
filled_at f vs k c (label.Bound s (index.Bound d) n) t u h e = filled_if (d == c) f vs s d n t (valued vs (c + 0) u) e
filled_at f vs k c (label.Bound s index.Canonical n) t u h e = cc
filled_at f vs k c (label.Leaf y) t u h e = sym (valued_closed vs c (f y) (k c y))
filled_at f vs k c (label.Ty y) t u h e = ap (node (label.Ty y)) e
filled_at f vs k c (label.Const y) t u h e = ap (node (label.Const y)) e
filled_at f vs k c (label.Clause y) t u h e = ap (node (label.Clause y)) e
filled_at f vs k c (label.Predicate y) t u h e = ap (node (label.Predicate y)) e
filled_at f vs k c (label.List y) t u h e = ap (node (label.List y)) e

pub filled_positioned : (f : Leaf → Tree) (vs : List Tree) → AreClosedBelow f → (c : ℕ) (t : Tree) → any_label is_canonical t ≡ false → filled_under f vs (positioned c t) ≡ valued vs c (replace f t)
filled_positioned f vs k c empty h = refl
filled_positioned f vs k c (more a b) h =
    let s = both_false (any_label is_canonical a) (any_label is_canonical b) h in
    let x = filled_positioned f vs k c a s.0 in
    let y = filled_positioned f vs k c b s.1 in
    cc (x, y)
filled_positioned f vs k c (node l t) h =
    let s = both_false (is_canonical l) (any_label is_canonical t) h in
    filled_at f vs k c l (positioned (c + binders l) t) (replace f t) s.0 (filled_positioned f vs k (c + binders l) t s.1)

-- an instance of what has values
replaced_if : (b : Bool) (f : Leaf → Tree) (vs : List Tree) (s : Sort) (d n : ℕ) (t x : Tree) → replace f t ≡ x → replace f (if b then get_or vs n empty else node (label.Bound s (index.Bound d) n) t) ≡ (if b then get_or (map (replace f) vs) n empty else node (label.Bound s (index.Bound d) n) x)
replaced_if true f vs s d n t x e = value_replaced f vs n
replaced_if false f vs s d n t x e = ap (node (label.Bound s (index.Bound d) n)) e

replaced_at : (f : Leaf → Tree) (vs : List Tree) → AreClosedBelow f → (c : ℕ) (l : Label) (t u : Tree) → replace f t ≡ valued (map (replace f) vs) (c + binders l) u → replace f (valued_at vs c l t) ≡ valued (map (replace f) vs) c (put f l u)
replaced_at f vs k c (label.Bound s (index.Bound d) n) t u e = replaced_if (d == c) f vs s d n t (valued (map (replace f) vs) (c + 0) u) e
replaced_at f vs k c (label.Bound s index.Canonical n) t u e = ap (node (label.Bound s index.Canonical n)) e
replaced_at f vs k c (label.Leaf y) t u e = sym (valued_closed (map (replace f) vs) c (f y) (k c y))
replaced_at f vs k c (label.Ty y) t u e = ap (node (label.Ty y)) e
replaced_at f vs k c (label.Const y) t u e = ap (node (label.Const y)) e
replaced_at f vs k c (label.Clause y) t u e = ap (node (label.Clause y)) e
replaced_at f vs k c (label.Predicate y) t u e = ap (node (label.Predicate y)) e
replaced_at f vs k c (label.List y) t u e = ap (node (label.List y)) e

pub replaced_valued : (f : Leaf → Tree) (vs : List Tree) → AreClosedBelow f → (c : ℕ) (t : Tree) → replace f (valued vs c t) ≡ valued (map (replace f) vs) c (replace f t)
replaced_valued f vs k c empty = refl
replaced_valued f vs k c (more a b) =
    let x = replaced_valued f vs k c a in
    let y = replaced_valued f vs k c b in
    cc (x, y)
replaced_valued f vs k c (node l t) = replaced_at f vs k c l (valued vs (c + binders l) t) (replace f t) (replaced_valued f vs k (c + binders l) t)

-- where leaves are renamed
moved_if : (b : Bool) (f : Leaf → Tree) (s : Sort) (d n : ℕ) (t x : Tree) → replace f t ≡ x → replace f (if b then node (label.Bound s index.Canonical n) t else node (label.Bound s (index.Bound d) n) t) ≡ (if b then node (label.Bound s index.Canonical n) x else node (label.Bound s (index.Bound d) n) x)
moved_if true f s d n t x e = ap (node (label.Bound s index.Canonical n)) e
moved_if false f s d n t x e = ap (node (label.Bound s (index.Bound d) n)) e

-- .. to leaves
abbrev pub StayPositioned : (Leaf → Tree) → Type 0
StayPositioned f = (c : ℕ) (l : Leaf) → positioned c (f l) ≡ f l

moved_at : (f : Leaf → Tree) → StayPositioned f → (c : ℕ) (l : Label) (t u : Tree) → replace f t ≡ positioned (c + binders l) u → replace f (positioned_at c l t) ≡ positioned c (put f l u)
moved_at f k c (label.Bound s (index.Bound d) n) t u e = moved_if (d == c) f s d n t (positioned (c + 0) u) e
moved_at f k c (label.Bound s index.Canonical n) t u e = ap (node (label.Bound s index.Canonical n)) e
moved_at f k c (label.Leaf y) t u e = sym (k c y)
moved_at f k c (label.Ty y) t u e = ap (node (label.Ty y)) e
moved_at f k c (label.Const y) t u e = ap (node (label.Const y)) e
moved_at f k c (label.Clause y) t u e = ap (node (label.Clause y)) e
moved_at f k c (label.Predicate y) t u e = ap (node (label.Predicate y)) e
moved_at f k c (label.List y) t u e = ap (node (label.List y)) e

pub moved_positioned : (f : Leaf → Tree) → StayPositioned f → (c : ℕ) (t : Tree) → replace f (positioned c t) ≡ positioned c (replace f t)
moved_positioned f k c empty = refl
moved_positioned f k c (more a b) =
    let x = moved_positioned f k c a in
    let y = moved_positioned f k c b in
    cc (x, y)
moved_positioned f k c (node l t) = moved_at f k c l (positioned (c + binders l) t) (replace f t) (moved_positioned f k (c + binders l) t)

-- its leaves are those of the tree
leaf_if : (b : Bool) (x : Leaf) (s : Sort) (d n : ℕ) (t u : Tree) → (Occurs x t → Occurs x u) → Occurs x (if b then node (label.Bound s index.Canonical n) t else node (label.Bound s (index.Bound d) n) t) → Occurs x (node (label.Bound s (index.Bound d) n) u)
leaf_if true x s d n t u h (inl e) = cc
leaf_if true x s d n t u h (inr o) = inr (h o)
leaf_if false x s d n t u h (inl e) = cc
leaf_if false x s d n t u h (inr o) = inr (h o)

leaf_under : (x : Leaf) (l : Label) (t u : Tree) → (Occurs x t → Occurs x u) → Occurs x (node l t) → Occurs x (node l u)
leaf_under x l t u h (inl e) = inl e
leaf_under x l t u h (inr o) = inr (h o)

leaf_at : (x : Leaf) (c : ℕ) (l : Label) (t u : Tree) → (Occurs x t → Occurs x u) → Occurs x (positioned_at c l t) → Occurs x (node l u)
leaf_at x c (label.Bound s (index.Bound d) n) t u h o = leaf_if (d == c) x s d n t u h o
leaf_at x c (label.Bound s index.Canonical n) t u h o = leaf_under x (label.Bound s index.Canonical n) t u h o
leaf_at x c (label.Leaf y) t u h o = leaf_under x (label.Leaf y) t u h o
leaf_at x c (label.Ty y) t u h o = leaf_under x (label.Ty y) t u h o
leaf_at x c (label.Const y) t u h o = leaf_under x (label.Const y) t u h o
leaf_at x c (label.Clause y) t u h o = leaf_under x (label.Clause y) t u h o
leaf_at x c (label.Predicate y) t u h o = leaf_under x (label.Predicate y) t u h o
leaf_at x c (label.List y) t u h o = leaf_under x (label.List y) t u h o

pub positioned_leaves : (x : Leaf) (c : ℕ) (t : Tree) → Occurs x (positioned c t) → Occurs x t
positioned_leaves x c empty o = absurd o
positioned_leaves x c (more a b) (inl o) = inl (positioned_leaves x c a o)
positioned_leaves x c (more a b) (inr o) = inr (positioned_leaves x c b o)
positioned_leaves x c (node l t) o = leaf_at x c l (positioned (c + binders l) t) t (positioned_leaves x (c + binders l) t) o

-- nothing names the binder any more
closed_if : (b : Bool) (c d n : ℕ) (s : Sort) (t : Tree) → (d == c) ≡ b → d < c + 1 → IsClosedUnder (c + 0) t → IsClosedUnder c (if b then node (label.Bound s index.Canonical n) t else node (label.Bound s (index.Bound d) n) t)
closed_if true c d n s t e h k = (tt, k)
closed_if false c d n s t e h k = (grind (arith, e, h), k)

closed_at : (c : ℕ) (l : Label) (t : Tree) → IsBoundBelow (c + 1) l → IsClosedUnder (c + binders l) t → IsClosedUnder c (positioned_at c l t)
closed_at c (label.Bound s (index.Bound d) n) t h k = closed_if (d == c) c d n s t refl h k
closed_at c (label.Bound s index.Canonical n) t h k = (tt, k)
closed_at c (label.Leaf y) t h k = (tt, k)
closed_at c (label.Ty y) t h k = (tt, k)
closed_at c (label.Const y) t h k = (tt, k)
closed_at c (label.Clause y) t h k = (tt, k)
closed_at c (label.Predicate y) t h k = (tt, k)
closed_at c (label.List y) t h k = (tt, k)

pub positioned_closed : (c : ℕ) (t : Tree) → IsClosedUnder (c + 1) t → IsClosedUnder c (positioned c t)
positioned_closed c empty h = tt
positioned_closed c (more a b) h = (positioned_closed c a h.0, positioned_closed c b h.1)
positioned_closed c (node l t) h =
    let deeper : (c + 1) + binders l ≡ (c + binders l) + 1 = omega arith in
    closed_at c l (positioned (c + binders l) t) h.0 (positioned_closed (c + binders l) t (subst (λ n. IsClosedUnder n t) deeper h.1))

-- the positions are of the sorts that the binder lists
pub sort_listed : (ss : Tree) (n : ℕ) (s : Sort) → HasSortAt ss n s → slice_get (sorts_in ss) n ≡ Some s
sort_listed empty n s h = cc
sort_listed (more a b) zero s h = ap (λ o. Some (sort_read o)) h
sort_listed (more a b) (suc n) s h = sort_listed b n s h
sort_listed (node l c) n s h = cc

names_if : (b : Bool) (ss : Tree) (c d n : ℕ) (s : Sort) (t : Tree) → (d == c) ≡ b → (d ≡ c → HasSortAt ss n s) → NamesFresh (sorts_in ss) t → NamesFresh (sorts_in ss) (if b then node (label.Bound s index.Canonical n) t else node (label.Bound s (index.Bound d) n) t)
names_if true ss c d n s t e h k = (rw (sort_listed ss n s (h (eqb-true d c e))) refl, k)
names_if false ss c d n s t e h k = (tt, k)

names_at : (ss : Tree) (c : ℕ) (l : Label) (t : Tree) → is_canonical l ≡ false → IsListed ss c l → NamesFresh (sorts_in ss) t → NamesFresh (sorts_in ss) (positioned_at c l t)
names_at ss c (label.Bound s (index.Bound d) n) t f h k = names_if (d == c) ss c d n s t refl h k
names_at ss c (label.Bound s index.Canonical n) t f h k = cc
names_at ss c (label.Leaf y) t f h k = (tt, k)
names_at ss c (label.Ty y) t f h k = (tt, k)
names_at ss c (label.Const y) t f h k = (tt, k)
names_at ss c (label.Clause y) t f h k = (tt, k)
names_at ss c (label.Predicate y) t f h k = (tt, k)
names_at ss c (label.List y) t f h k = (tt, k)

pub positioned_names : (ss : Tree) (c : ℕ) (t : Tree) → any_label is_canonical t ≡ false → AllListed ss c t → NamesFresh (sorts_in ss) (positioned c t)
positioned_names ss c empty f h = tt
positioned_names ss c (more a b) f h =
    let s = both_false (any_label is_canonical a) (any_label is_canonical b) f in
    (positioned_names ss c a s.0 h.0, positioned_names ss c b s.1 h.1)
positioned_names ss c (node l t) f h =
    let s = both_false (is_canonical l) (any_label is_canonical t) f in
    names_at ss c l (positioned (c + binders l) t) s.0 h.0 (positioned_names ss (c + binders l) t s.1 h.1)
