-- Numbering doesn't see the names of leaves.
use Rattle.std.proofs.Common.{◌≡◌, Bool, true, false, cond, List, [], ◌∷◌, map, ◌⊎◌, inl, inr, refl, sym, ap, ◌∙◌}
use Rattle.nts_model.specs.declared.labels.Sort.{Sort}
use Rattle.nts_model.specs.declared.labels.Sort.TheVariants as sort
use Rattle.nts_model.specs.declared.labels.Leaf.{Leaf}
use Rattle.nts_model.specs.declared.labels.Leaf.TheVariants as leaf
use Rattle.nts_model.specs.declared.labels.Label.{Label}
use Rattle.nts_model.specs.declared.labels.Label.TheVariants as label
use Rattle.nts_model.specs.Terms.Trees.{Tree, empty, more, node, IsFormed, sort_of_leaf, sort_of_variable}
use Rattle.nts_model.specs.Terms.Substitutions.{leaf_tree, put, replace, Occurs, LeafSort, of_variable, of_constant, leaf_sort, filled}
use Rattle.nts_model.specs.Lists.{Among}
use Rattle.nts_model.specs.Canonical.Numbered.{added, seen_node, seen, position, numbered_leaf, numbered}
use Rattle.nts_model.specs.Canonical.Inputs.{label_or_leaf}
use Rattle.nts_model.proofs.Terms.Substituting.{replace-replace, replace-leaf, leaf_alone}
use Rattle.nts_model.proofs.Terms.Listed.{either, added-has, among-added, IsInjective, added-map, number-map}
use Rattle.nts_model.proofs.Canonical.Numbering.{AtNode, AllLeaves, AllLeaves-map, AllLeaves-each, replace-agree, replace-tells, HasNoPositions, filled-replace, extends-seen}

-- the leaves that don't stay are moved
abbrev pub moved : (Leaf → Bool) → (Leaf → Leaf) → Leaf → Leaf
moved stays f l = cond (stays l) l (f l)

abbrev pub moved_leaf : (Leaf → Bool) → (Leaf → Leaf) → Leaf → Tree
moved_leaf stays f l = leaf_tree (moved stays f l)

abbrev pub moved_tree : (Leaf → Bool) → (Leaf → Leaf) → Tree → Tree
moved_tree stays f = replace (moved_leaf stays f)

-- a moved leaf is none of those that stay
abbrev pub Keeps : (Leaf → Bool) → (Leaf → Leaf) → Leaf → Type 0
Keeps stays f l = stays (moved stays f l) ≡ stays l

-- a map of leaves that keeps their sorts, no two of them to one
pub record IsMap (f : Leaf → Leaf) : Type 0 where
  pub injective : IsInjective f
  pub keeps_sorts : (l : Leaf) → leaf_sort (f l) ≡ leaf_sort l

abbrev tree_sort : LeafSort → Sort
tree_sort (of_variable k) = sort_of_variable k
tree_sort (of_constant s) = s

sort_of_leaf-sort : (l : Leaf) → sort_of_leaf l ≡ tree_sort (leaf_sort l)
sort_of_leaf-sort (leaf.Variable k n) = refl
sort_of_leaf-sort (leaf.Region r) = refl
sort_of_leaf-sort (leaf.TyConstant c) = refl
sort_of_leaf-sort (leaf.ConstConstant c) = refl

tree_sort-kept : (f : Leaf → Leaf) → IsMap f → (l : Leaf) → sort_of_leaf (f l) ≡ sort_of_leaf l
tree_sort-kept f j l = sort_of_leaf-sort (f l) ∙ ap tree_sort (j.keeps_sorts l) ∙ sym (sort_of_leaf-sort l)

-- what is seen of the moved tree are the moved leaves
seen-moved-leaf : (stays : Leaf → Bool) (f : Leaf → Leaf) → IsMap f → (s : List Leaf) (l : Leaf) → Keeps stays f l → seen stays (map f s) (moved_leaf stays f l) ≡ map f (cond (stays l) s (added s l))
seen-moved-leaf stays f j s l h = rw h (elim (either (stays l)) [ inl e ↦ rw e refl | inr e ↦ rw e (added-map f j.injective s l) ])

seen-moved-node : (stays : Leaf → Bool) (f : Leaf → Leaf) → IsMap f → (s inside : List Leaf) (A : Type 0) (l : Label) (d : Tree)
    → (A → seen stays (map f s) d ≡ map f inside) → AtNode (Keeps stays f) l A → seen stays (map f s) (put (moved_leaf stays f) l d) ≡ map f (seen_node stays s l inside)
seen-moved-node stays f j s i A (label.Leaf x) d e h = seen-moved-leaf stays f j s x h
seen-moved-node stays f j s i A (label.Bound o b n) d e h = e h
seen-moved-node stays f j s i A (label.Ty x) d e h = e h
seen-moved-node stays f j s i A (label.Const x) d e h = e h
seen-moved-node stays f j s i A (label.Clause x) d e h = e h
seen-moved-node stays f j s i A (label.Predicate x) d e h = e h
seen-moved-node stays f j s i A (label.List x) d e h = e h

pub seen-moved : (stays : Leaf → Bool) (f : Leaf → Leaf) → IsMap f → (s : List Leaf) (t : Tree) → AllLeaves (Keeps stays f) t → seen stays (map f s) (moved_tree stays f t) ≡ map f (seen stays s t)
seen-moved stays f j s empty h = refl
seen-moved stays f j s (more a b) h = ap (λ z. seen stays z (moved_tree stays f b)) (seen-moved stays f j s a h.0) ∙ seen-moved stays f j (seen stays s a) b h.1
seen-moved stays f j s (node l c) h = seen-moved-node stays f j s (seen stays s c) (AllLeaves (Keeps stays f) c) l (moved_tree stays f c) (seen-moved stays f j s c) h

-- .. and its numbers are the same
numbered-moved-leaf : (stays : Leaf → Bool) (f : Leaf → Leaf) → IsMap f → (s : List Leaf) (l : Leaf) → Keeps stays f l → numbered_leaf stays (map f s) (moved stays f l) ≡ numbered_leaf stays s l
numbered-moved-leaf stays f j s l h = rw h (elim (either (stays l)) [ inl e ↦ rw e refl | inr e ↦ rw e (rw (tree_sort-kept f j l, number-map f j.injective s l) refl) ])

numbered-moved-node : (stays : Leaf → Bool) (f : Leaf → Leaf) → IsMap f → (s : List Leaf) (A : Type 0) (l : Label) (d c : Tree)
    → (A → numbered stays (map f s) d ≡ c) → AtNode (Keeps stays f) l A → numbered stays (map f s) (put (moved_leaf stays f) l d) ≡ put (numbered_leaf stays s) l c
numbered-moved-node stays f j s A (label.Leaf x) d c e h = numbered-moved-leaf stays f j s x h
numbered-moved-node stays f j s A (label.Bound o b n) d c e h = ap (node (label.Bound o b n)) (e h)
numbered-moved-node stays f j s A (label.Ty x) d c e h = ap (node (label.Ty x)) (e h)
numbered-moved-node stays f j s A (label.Const x) d c e h = ap (node (label.Const x)) (e h)
numbered-moved-node stays f j s A (label.Clause x) d c e h = ap (node (label.Clause x)) (e h)
numbered-moved-node stays f j s A (label.Predicate x) d c e h = ap (node (label.Predicate x)) (e h)
numbered-moved-node stays f j s A (label.List x) d c e h = ap (node (label.List x)) (e h)

pub numbered-moved : (stays : Leaf → Bool) (f : Leaf → Leaf) → IsMap f → (s : List Leaf) (t : Tree) → AllLeaves (Keeps stays f) t → numbered stays (map f s) (moved_tree stays f t) ≡ numbered stays s t
numbered-moved stays f j s empty h = refl
numbered-moved stays f j s (more a b) h = rw (numbered-moved stays f j s a h.0, seen-moved stays f j s a h.0, numbered-moved stays f j (seen stays s a) b h.1) refl
numbered-moved stays f j s (node l c) h = numbered-moved-node stays f j s (AllLeaves (Keeps stays f) c) l (moved_tree stays f c) (numbered stays s c) (numbered-moved stays f j s c) h

-- a renaming, where the leaves that stay are labels
abbrev pub renamed : (Leaf → Leaf) → Tree → Tree
renamed f = replace (λ l. leaf_tree (f l))

pub record MapsTree (stays : Leaf → Bool) (f : Leaf → Leaf) (t u : Tree) : Type 0 where
  pub image : u ≡ moved_tree stays f t
  pub keeps : AllLeaves (Keeps stays f) t

-- at most this leaf stays
pub record StaysAlone (stays : Leaf → Bool) (k : Leaf) : Type 0 where
  pub alone : (l : Leaf) → stays l ≡ true → l ≡ k

-- that leaf in place of the label
abbrev with_leaf : Leaf → Tree → Tree
with_leaf k = filled (leaf_tree k ∷ [])

with_leaf-label : (stays : Leaf → Bool) (k : Leaf) → StaysAlone stays k → (l : Leaf) → with_leaf k (label_or_leaf stays l) ≡ leaf_tree l
with_leaf-label stays k a l = elim (either (stays l)) [ inl e ↦ rw e (ap leaf_tree (sym (a.alone l e))) | inr e ↦ rw e refl ]

with_leaf-renamed : (stays : Leaf → Bool) (k : Leaf) (f : Leaf → Leaf) → StaysAlone stays k → (l : Leaf) → with_leaf k (renamed f (label_or_leaf stays l)) ≡ moved_leaf stays f l
with_leaf-renamed stays k f a l = elim (either (stays l)) [ inl e ↦ rw e (ap leaf_tree (sym (a.alone l e))) | inr e ↦ rw e refl ]

image_of : (stays : Leaf → Bool) (k : Leaf) (f : Leaf → Leaf) (t u : Tree) → StaysAlone stays k → HasNoPositions t → HasNoPositions u → IsFormed u
    → renamed f (replace (label_or_leaf stays) t) ≡ replace (label_or_leaf stays) u → u ≡ moved_tree stays f t
image_of stays k f t u a p q formed e =
    sym (replace-leaf u formed)
    ∙ sym (replace-agree (λ l. with_leaf k (label_or_leaf stays l)) leaf_tree u (AllLeaves-each _ u (with_leaf-label stays k a)))
    ∙ sym (filled-replace (leaf_tree k ∷ []) (label_or_leaf stays) u q)
    ∙ ap (with_leaf k) (sym e)
    ∙ ap (with_leaf k) (replace-replace (λ l. leaf_tree (f l)) (label_or_leaf stays) t)
    ∙ filled-replace (leaf_tree k ∷ []) (λ l. renamed f (label_or_leaf stays l)) t p
    ∙ replace-agree (λ l. with_leaf k (renamed f (label_or_leaf stays l))) (moved_leaf stays f) t (AllLeaves-each _ t (with_leaf-renamed stays k f a))

keeps-label : (stays : Leaf → Bool) (f : Leaf → Leaf) (l : Leaf) → label_or_leaf stays (moved stays f l) ≡ renamed f (label_or_leaf stays l) → Keeps stays f l
keeps-label stays f l h = elim (either (stays l)) [ inl e ↦ rw e e | inr e ↦ rw e (go (rw e at h)) ]
  where
    go : label_or_leaf stays (f l) ≡ leaf_tree (f l) → stays (f l) ≡ false
    go g = elim (either (stays (f l))) [ inl d ↦ absurd (let c : position sort.Region 0 ≡ leaf_tree (f l) = rw d at g in cc) | inr d ↦ d ]

pub maps_tree : (stays : Leaf → Bool) (k : Leaf) (f : Leaf → Leaf) (t u : Tree) → StaysAlone stays k → HasNoPositions t → HasNoPositions u → IsFormed u
    → renamed f (replace (label_or_leaf stays) t) ≡ replace (label_or_leaf stays) u → MapsTree stays f t u
maps_tree stays k f t u a p q formed e =
    let i = image_of stays k f t u a p q formed e in
    let g : replace (λ l. label_or_leaf stays (moved stays f l)) t ≡ replace (λ l. renamed f (label_or_leaf stays l)) t =
    sym (replace-replace (label_or_leaf stays) (moved_leaf stays f) t) ∙ ap (replace (label_or_leaf stays)) (sym i) ∙ sym e ∙ replace-replace (λ l. leaf_tree (f l)) (label_or_leaf stays) t in
    record { image = i; keeps = AllLeaves-map _ _ t (keeps-label stays f) (replace-tells _ _ t g) }

label-kept : (stays : Leaf → Bool) (f : Leaf → Leaf) (l : Leaf) → Keeps stays f l → renamed f (label_or_leaf stays l) ≡ label_or_leaf stays (moved stays f l)
label-kept stays f l h = elim (either (stays l)) [ inl e ↦ rw e (rw e refl) | inr e ↦ rw e (let g : stays (f l) ≡ false = rw e at h in rw g refl) ]

pub maps_tree-back : (stays : Leaf → Bool) (f : Leaf → Leaf) (t u : Tree) → MapsTree stays f t u → renamed f (replace (label_or_leaf stays) t) ≡ replace (label_or_leaf stays) u
maps_tree-back stays f t u m =
    replace-replace (λ l. leaf_tree (f l)) (label_or_leaf stays) t
    ∙ replace-agree _ _ t (AllLeaves-map _ _ t (label-kept stays f) m.keeps)
    ∙ sym (replace-replace (label_or_leaf stays) (moved_leaf stays f) t)
    ∙ ap (replace (label_or_leaf stays)) (sym m.image)

-- what is seen stands in the tree
seen-leaf : (stays : Leaf → Bool) (s : List Leaf) (m l : Leaf) → Among (cond (stays m) s (added s m)) l → Among s l ⊎ ((stays l ≡ false) × (l ≡ m))
seen-leaf stays s m l h = elim (either (stays m)) [ inl e ↦ inl (rw e at h) | inr e ↦ elim (among-added s m l (rw e at h)) [ inl p ↦ inr (ap stays p ∙ e, p) | inr j ↦ inl j ] ]

seen-node : (stays : Leaf → Bool) (s inside : List Leaf) (l : Label) (c : Tree) (m : Leaf) → (Among inside m → Among s m ⊎ ((stays m ≡ false) × Occurs m c)) → Among (seen_node stays s l inside) m
    → Among s m ⊎ ((stays m ≡ false) × Occurs m (node l c))
seen-node stays s i (label.Leaf x) c m f h = elim (seen-leaf stays s x m h) [ inl j ↦ inl j | inr p ↦ inr (p.0, inl (ap label.Leaf p.1)) ]
seen-node stays s i (label.Bound o b n) c m f h = elim (f h) [ inl j ↦ inl j | inr p ↦ inr (p.0, inr p.1) ]
seen-node stays s i (label.Ty x) c m f h = elim (f h) [ inl j ↦ inl j | inr p ↦ inr (p.0, inr p.1) ]
seen-node stays s i (label.Const x) c m f h = elim (f h) [ inl j ↦ inl j | inr p ↦ inr (p.0, inr p.1) ]
seen-node stays s i (label.Clause x) c m f h = elim (f h) [ inl j ↦ inl j | inr p ↦ inr (p.0, inr p.1) ]
seen-node stays s i (label.Predicate x) c m f h = elim (f h) [ inl j ↦ inl j | inr p ↦ inr (p.0, inr p.1) ]
seen-node stays s i (label.List x) c m f h = elim (f h) [ inl j ↦ inl j | inr p ↦ inr (p.0, inr p.1) ]

pub among-seen : (stays : Leaf → Bool) (s : List Leaf) (t : Tree) (m : Leaf) → Among (seen stays s t) m → Among s m ⊎ ((stays m ≡ false) × Occurs m t)
among-seen stays s empty m h = inl h
among-seen stays s (more a b) m h =
    elim (among-seen stays (seen stays s a) b m h) [ inl j ↦ elim (among-seen stays s a m j) [ inl k ↦ inl k | inr o ↦ inr (o.0, inl o.1) ] | inr o ↦ inr (o.0, inr o.1) ]
among-seen stays s (node l c) m h = seen-node stays s (seen stays s c) l c m (among-seen stays s c m) h

-- .. and what stands in it is seen
occurs-leaf : (stays : Leaf → Bool) (s : List Leaf) (x m : Leaf) (c : Tree) → c ≡ empty → stays m ≡ false → Occurs m (node (label.Leaf x) c) → Among (cond (stays x) s (added s x)) m
occurs-leaf stays s x m c b e (inl p) = let q : m ≡ x = cc in rw (ap stays (sym q) ∙ e, q) (added-has s x)
occurs-leaf stays s x m c b e (inr o) = absurd (rw b at o)

occurs-node : (stays : Leaf → Bool) (s inside : List Leaf) (l : Label) (c : Tree) (m : Leaf) → (Occurs m c → Among inside m) → IsFormed (node l c) → stays m ≡ false → Occurs m (node l c) → Among (seen_node stays s l inside) m
occurs-node stays s i (label.Leaf x) c m f h e o = occurs-leaf stays s x m c (leaf_alone x c h) e o
occurs-node stays s i (label.Bound a b n) c m f h e (inl p) = cc
occurs-node stays s i (label.Bound a b n) c m f h e (inr o) = f o
occurs-node stays s i (label.Ty x) c m f h e (inl p) = cc
occurs-node stays s i (label.Ty x) c m f h e (inr o) = f o
occurs-node stays s i (label.Const x) c m f h e (inl p) = cc
occurs-node stays s i (label.Const x) c m f h e (inr o) = f o
occurs-node stays s i (label.Clause x) c m f h e (inl p) = cc
occurs-node stays s i (label.Clause x) c m f h e (inr o) = f o
occurs-node stays s i (label.Predicate x) c m f h e (inl p) = cc
occurs-node stays s i (label.Predicate x) c m f h e (inr o) = f o
occurs-node stays s i (label.List x) c m f h e (inl p) = cc
occurs-node stays s i (label.List x) c m f h e (inr o) = f o

pub occurs-seen : (stays : Leaf → Bool) (s : List Leaf) (t : Tree) (m : Leaf) → IsFormed t → stays m ≡ false → Occurs m t → Among (seen stays s t) m
occurs-seen stays s empty m h e o = elim o [ ]
occurs-seen stays s (more a b) m h e (inl o) = (extends-seen stays (seen stays s a) b).within m (occurs-seen stays s a m h.0 e o)
occurs-seen stays s (more a b) m h e (inr o) = occurs-seen stays (seen stays s a) b m h.1 e o
occurs-seen stays s (node l c) m h e o = occurs-node stays s (seen stays s c) l c m (occurs-seen stays s c m h.1 e) h e o
