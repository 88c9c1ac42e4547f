-- What a tree is once its leaves are numbered, and that the originals give it back.
use Rattle.std.proofs.Common.{◌≡◌, Bool, true, false, cond, List, map, inl, inr, refl, sym, ap, ◌∙◌}
use Rattle.std.specs.Prelude.{◌||◌}
use Rattle.nts_model.specs.declared.labels.Leaf.{Leaf}
use Rattle.nts_model.specs.declared.labels.BoundVarIndexKind.TheVariants as index
use Rattle.nts_model.specs.declared.labels.Label.{Label}
use Rattle.nts_model.specs.declared.labels.Label.TheVariants as label
use Rattle.nts_model.specs.Terms.Trees.{Tree, empty, more, node, any_label, is_canonical, IsFormed, sort_of_leaf}
use Rattle.nts_model.specs.Terms.Substitutions.{leaf_tree, put, replace, filled}
use Rattle.nts_model.specs.Lists.{Among}
use Rattle.nts_model.specs.Canonical.Numbered.{number, added, seen_node, seen, position, numbered_leaf, numbered, AreDistinct}
use Rattle.nts_model.proofs.Terms.Substituting.{replace-leaf}
use Rattle.nts_model.proofs.Terms.Listed.{either, added-has, added-keeps, distinct-added, number-kept, number-added, original}
use Rattle.nts_model.proofs.Terms.Unpositioned.{or_false}

-- each leaf of the tree is so
abbrev pub AtNode : (Leaf → Type 0) → Label → Type 0 → Type 0
AtNode P (label.Leaf x) inside = P x
AtNode P l inside = inside

abbrev pub AllLeaves : (Leaf → Type 0) → Tree → Type 0
AllLeaves P empty = Unit {0}
AllLeaves P (more a b) = AllLeaves P a × AllLeaves P b
AllLeaves P (node l c) = AtNode P l (AllLeaves P c)

AtNode-map : (P Q : Leaf → Type 0) (A B : Type 0) → ((l : Leaf) → P l → Q l) → (A → B) → (l : Label) → AtNode P l A → AtNode Q l B
AtNode-map P Q A B f g (label.Leaf x) h = f x h
AtNode-map P Q A B f g (label.Bound s i n) h = g h
AtNode-map P Q A B f g (label.Ty x) h = g h
AtNode-map P Q A B f g (label.Const x) h = g h
AtNode-map P Q A B f g (label.Clause x) h = g h
AtNode-map P Q A B f g (label.Predicate x) h = g h
AtNode-map P Q A B f g (label.List x) h = g h

pub AllLeaves-map : (P Q : Leaf → Type 0) (t : Tree) → ((l : Leaf) → P l → Q l) → AllLeaves P t → AllLeaves Q t
AllLeaves-map P Q empty f h = tt
AllLeaves-map P Q (more a b) f h = (AllLeaves-map P Q a f h.0, AllLeaves-map P Q b f h.1)
AllLeaves-map P Q (node l c) f h = AtNode-map P Q (AllLeaves P c) (AllLeaves Q c) f (AllLeaves-map P Q c f) l h

AtNode-each : (P : Leaf → Type 0) (A : Type 0) → ((l : Leaf) → P l) → A → (l : Label) → AtNode P l A
AtNode-each P A f a (label.Leaf x) = f x
AtNode-each P A f a (label.Bound s i n) = a
AtNode-each P A f a (label.Ty x) = a
AtNode-each P A f a (label.Const x) = a
AtNode-each P A f a (label.Clause x) = a
AtNode-each P A f a (label.Predicate x) = a
AtNode-each P A f a (label.List x) = a

pub AllLeaves-each : (P : Leaf → Type 0) (t : Tree) → ((l : Leaf) → P l) → AllLeaves P t
AllLeaves-each P empty f = tt
AllLeaves-each P (more a b) f = (AllLeaves-each P a f, AllLeaves-each P b f)
AllLeaves-each P (node l c) f = AtNode-each P (AllLeaves P c) f (AllLeaves-each P c f) l

-- maps that agree on the leaves, and only they, replace alike
put-equal : (f g : Leaf → Tree) (A : Type 0) (l : Label) (c d : Tree) → (A → c ≡ d) → AtNode (λ x. f x ≡ g x) l A → put f l c ≡ put g l d
put-equal f g A (label.Leaf x) c d e h = h
put-equal f g A (label.Bound s i n) c d e h = ap (node (label.Bound s i n)) (e h)
put-equal f g A (label.Ty x) c d e h = ap (node (label.Ty x)) (e h)
put-equal f g A (label.Const x) c d e h = ap (node (label.Const x)) (e h)
put-equal f g A (label.Clause x) c d e h = ap (node (label.Clause x)) (e h)
put-equal f g A (label.Predicate x) c d e h = ap (node (label.Predicate x)) (e h)
put-equal f g A (label.List x) c d e h = ap (node (label.List x)) (e h)

pub replace-agree : (f g : Leaf → Tree) (t : Tree) → AllLeaves (λ l. f l ≡ g l) t → replace f t ≡ replace g t
replace-agree f g empty h = refl
replace-agree f g (more a b) h = cc (replace-agree f g a h.0, replace-agree f g b h.1)
replace-agree f g (node l c) h = put-equal f g (AllLeaves (λ x. f x ≡ g x) c) l (replace f c) (replace g c) (replace-agree f g c) h

put-tells : (f g : Leaf → Tree) (A : Type 0) (l : Label) (c d : Tree) → (c ≡ d → A) → put f l c ≡ put g l d → AtNode (λ x. f x ≡ g x) l A
put-tells f g A (label.Leaf x) c d e h = h
put-tells f g A (label.Bound s i n) c d e h = e (cc)
put-tells f g A (label.Ty x) c d e h = e (cc)
put-tells f g A (label.Const x) c d e h = e (cc)
put-tells f g A (label.Clause x) c d e h = e (cc)
put-tells f g A (label.Predicate x) c d e h = e (cc)
put-tells f g A (label.List x) c d e h = e (cc)

pub replace-tells : (f g : Leaf → Tree) (t : Tree) → replace f t ≡ replace g t → AllLeaves (λ l. f l ≡ g l) t
replace-tells f g empty e = tt
replace-tells f g (more a b) e = (replace-tells f g a (cc), replace-tells f g b (cc))
replace-tells f g (node l c) e = put-tells f g (AllLeaves (λ x. f x ≡ g x) c) l (replace f c) (replace g c) (replace-tells f g c) e

-- values in the place of positions that a map gave
abbrev pub HasNoPositions : Tree → Type 0
HasNoPositions t = any_label is_canonical t ≡ false

pub first_none : (a b : Tree) → HasNoPositions (more a b) → HasNoPositions a
first_none a b e = (or_false (any_label is_canonical a) (any_label is_canonical b) e).0

pub rest_none : (a b : Tree) → HasNoPositions (more a b) → HasNoPositions b
rest_none a b e = (or_false (any_label is_canonical a) (any_label is_canonical b) e).1

filled-put : (vs : List Tree) (g : Leaf → Tree) (l : Label) (c : Tree) → is_canonical l ≡ false → filled vs (put g l c) ≡ put (λ x. filled vs (g x)) l (filled vs c)
filled-put vs g (label.Leaf x) c e = refl
filled-put vs g (label.Bound s (index.Bound d) n) c e = refl
filled-put vs g (label.Bound s index.Canonical n) c e = absurd (let f : true ≡ false = e in cc)
filled-put vs g (label.Ty x) c e = refl
filled-put vs g (label.Const x) c e = refl
filled-put vs g (label.Clause x) c e = refl
filled-put vs g (label.Predicate x) c e = refl
filled-put vs g (label.List x) c e = refl

pub filled-replace : (vs : List Tree) (g : Leaf → Tree) (t : Tree) → HasNoPositions t → filled vs (replace g t) ≡ replace (λ l. filled vs (g l)) t
filled-replace vs g empty e = refl
filled-replace vs g (more a b) e = cc (filled-replace vs g a (first_none a b e), filled-replace vs g b (rest_none a b e))
filled-replace vs g (node l c) e =
    let h = or_false (is_canonical l) (any_label is_canonical c) e in
    filled-put vs g l (replace g c) h.0 ∙ ap (put (λ x. filled vs (g x)) l) (filled-replace vs g c h.1)

-- a list that has seen more
pub record Extends (s u : List Leaf) : Type 0 where
  pub within : (l : Leaf) → Among s l → Among u l
  pub kept : (l : Leaf) → Among s l → number u l ≡ number s l

pub extends-self : (s : List Leaf) → Extends s s
extends-self s = record { within = λ l i. i; kept = λ l i. refl }

pub extends-trans : {s t u : List Leaf} → Extends s t → Extends t u → Extends s u
extends-trans h k = record { within = λ l i. k.within l (h.within l i); kept = λ l i. k.kept l (h.within l i) ∙ h.kept l i }

extends-added : (s : List Leaf) (l : Leaf) → Extends s (added s l)
extends-added s l = record { within = λ m i. added-keeps s l m i; kept = λ m i. number-kept s l m i }

extends-node : (stays : Leaf → Bool) (s u : List Leaf) (l : Label) → Extends s u → Extends s (seen_node stays s l u)
extends-node stays s u (label.Leaf x) h = elim (either (stays x)) [ inl e ↦ rw e (extends-self s) | inr e ↦ rw e (extends-added s x) ]
extends-node stays s u (label.Bound o i n) h = h
extends-node stays s u (label.Ty x) h = h
extends-node stays s u (label.Const x) h = h
extends-node stays s u (label.Clause x) h = h
extends-node stays s u (label.Predicate x) h = h
extends-node stays s u (label.List x) h = h

pub extends-seen : (stays : Leaf → Bool) (s : List Leaf) (t : Tree) → Extends s (seen stays s t)
extends-seen stays s empty = extends-self s
extends-seen stays s (more a b) = extends-trans (extends-seen stays s a) (extends-seen stays (seen stays s a) b)
extends-seen stays s (node l c) = extends-node stays s (seen stays s c) l (extends-seen stays s c)

distinct-node : (stays : Leaf → Bool) (s u : List Leaf) (l : Label) → AreDistinct s → AreDistinct u → AreDistinct (seen_node stays s l u)
distinct-node stays s u (label.Leaf x) d h = elim (either (stays x)) [ inl e ↦ rw e d | inr e ↦ rw e (distinct-added s x d) ]
distinct-node stays s u (label.Bound o i n) d h = h
distinct-node stays s u (label.Ty x) d h = h
distinct-node stays s u (label.Const x) d h = h
distinct-node stays s u (label.Clause x) d h = h
distinct-node stays s u (label.Predicate x) d h = h
distinct-node stays s u (label.List x) d h = h

pub distinct-seen : (stays : Leaf → Bool) (s : List Leaf) (t : Tree) → AreDistinct s → AreDistinct (seen stays s t)
distinct-seen stays s empty d = d
distinct-seen stays s (more a b) d = distinct-seen stays (seen stays s a) b (distinct-seen stays s a d)
distinct-seen stays s (node l c) d = distinct-node stays s (seen stays s c) l d (distinct-seen stays s c d)

-- each leaf of the tree that doesn't stay is seen
abbrev pub IsSeen : (Leaf → Bool) → List Leaf → Leaf → Type 0
IsSeen stays u l = stays l ≡ false → Among u l

AtNode-seen : (stays : Leaf → Bool) (s inside u : List Leaf) (A : Type 0) (l : Label) → (Extends inside u → A) → Extends (seen_node stays s l inside) u → AtNode (IsSeen stays u) l A
AtNode-seen stays s inside u A (label.Leaf x) f h = λ e. h.within x (rw e (added-has s x))
AtNode-seen stays s inside u A (label.Bound o i n) f h = f h
AtNode-seen stays s inside u A (label.Ty x) f h = f h
AtNode-seen stays s inside u A (label.Const x) f h = f h
AtNode-seen stays s inside u A (label.Clause x) f h = f h
AtNode-seen stays s inside u A (label.Predicate x) f h = f h
AtNode-seen stays s inside u A (label.List x) f h = f h

pub all-seen : (stays : Leaf → Bool) (s : List Leaf) (t : Tree) (u : List Leaf) → Extends (seen stays s t) u → AllLeaves (IsSeen stays u) t
all-seen stays s empty u h = tt
all-seen stays s (more a b) u h = (all-seen stays s a u (extends-trans (extends-seen stays (seen stays s a) b) h), all-seen stays (seen stays s a) b u h)
all-seen stays s (node l c) u h = AtNode-seen stays s (seen stays s c) u (AllLeaves (IsSeen stays u) c) l (all-seen stays s c u) h

-- one pass gives what two passes give: first the list, then the numbers
numbered-leaf : (stays : Leaf → Bool) (s u : List Leaf) (l : Leaf) → Extends (cond (stays l) s (added s l)) u → numbered_leaf stays s l ≡ numbered_leaf stays u l
numbered-leaf stays s u l h = elim (either (stays l)) [ inl e ↦ rw e refl | inr e ↦ go e (rw e at h) ]
  where
    go : stays l ≡ false → Extends (added s l) u → numbered_leaf stays s l ≡ numbered_leaf stays u l
    go e k = rw e (ap (position (sort_of_leaf l)) (sym (k.kept l (added-has s l) ∙ number-added s l)))

numbered-node : (stays : Leaf → Bool) (s inside u : List Leaf) (l : Label) (c d : Tree) → (Extends inside u → c ≡ d) → Extends (seen_node stays s l inside) u → put (numbered_leaf stays s) l c ≡ put (numbered_leaf stays u) l d
numbered-node stays s inside u (label.Leaf x) c d e h = numbered-leaf stays s u x h
numbered-node stays s inside u (label.Bound o i n) c d e h = ap (node (label.Bound o i n)) (e h)
numbered-node stays s inside u (label.Ty x) c d e h = ap (node (label.Ty x)) (e h)
numbered-node stays s inside u (label.Const x) c d e h = ap (node (label.Const x)) (e h)
numbered-node stays s inside u (label.Clause x) c d e h = ap (node (label.Clause x)) (e h)
numbered-node stays s inside u (label.Predicate x) c d e h = ap (node (label.Predicate x)) (e h)
numbered-node stays s inside u (label.List x) c d e h = ap (node (label.List x)) (e h)

pub numbered-replace : (stays : Leaf → Bool) (s : List Leaf) (t : Tree) (u : List Leaf) → Extends (seen stays s t) u → numbered stays s t ≡ replace (numbered_leaf stays u) t
numbered-replace stays s empty u h = refl
numbered-replace stays s (more a b) u h = cc (numbered-replace stays s a u (extends-trans (extends-seen stays (seen stays s a) b) h), numbered-replace stays (seen stays s a) b u h)
numbered-replace stays s (node l c) u h = numbered-node stays s (seen stays s c) u l (numbered stays s c) (replace (numbered_leaf stays u) c) (numbered-replace stays s c u) h

-- the originals in place of the numbers
filled-leaf : (stays : Leaf → Bool) (u : List Leaf) (l : Leaf) → IsSeen stays u l → filled (map leaf_tree u) (numbered_leaf stays u l) ≡ leaf_tree l
filled-leaf stays u l h = elim (either (stays l)) [ inl e ↦ rw e refl | inr e ↦ rw e (original u l (h e)) ]

pub filled-numbered : (stays : Leaf → Bool) (s : List Leaf) (t : Tree) (u : List Leaf) → IsFormed t → HasNoPositions t → Extends (seen stays s t) u → filled (map leaf_tree u) (numbered stays s t) ≡ t
filled-numbered stays s t u f p h =
    ap (filled (map leaf_tree u)) (numbered-replace stays s t u h)
    ∙ filled-replace (map leaf_tree u) (numbered_leaf stays u) t p
    ∙ replace-agree (λ l. filled (map leaf_tree u) (numbered_leaf stays u l)) leaf_tree t (AllLeaves-map _ _ t (filled-leaf stays u) (all-seen stays s t u h))
    ∙ replace-leaf t f
