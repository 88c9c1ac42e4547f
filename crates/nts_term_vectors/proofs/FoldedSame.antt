-- A folder that answers for nothing and changes nothing leaves each tree as it is.
use Rattle.std.proofs.Common.{◌≡◌, Some, None, refl, ap, ◌∙◌}
use Rattle.nts_model.specs.declared.labels.Sort.TheVariants as sort
use Rattle.nts_model.specs.Terms.Trees.{Tree, empty, more, node, kind_of_label, NodeKind, of_sort, arguments, environment, bound_predicate, statement, sort_list, one_sort}
use Rattle.nts_folding.specs.Folding.{MayAnswer, asked_as, HandsOver, Walk, done, next, answer, down}

never_asked : {S : Type 0} (k : NodeKind) (s t : S) (x u : Tree) → MayAnswer (λ r z o v. o ≡ None) k s x (Some u) t → ⊥
never_asked (of_sort m) s t x u h = let q : Some u ≡ None = h in cc
never_asked bound_predicate s t x u h = let q : Some u ≡ None = h in cc
never_asked arguments s t x u h = let q : Some u ≡ None = h.0 in cc
never_asked environment s t x u h = let q : Some u ≡ None = h.0 in cc
never_asked statement s t x u h = let q : Some u ≡ None = h.0 in cc
never_asked sort_list s t x u h = let q : Some u ≡ None = h.0 in cc
never_asked one_sort s t x u h = let q : Some u ≡ None = h.0 in cc

handed_same : {S : Type 0} (k : NodeKind) (s t : S) (x y : Tree) → HandsOver (λ r z w v. w ≡ z) k s x y t → y ≡ x
handed_same (of_sort sort.Ty) s t x y h = h
handed_same (of_sort sort.Region) s t x y h = h.0
handed_same (of_sort sort.Const) s t x y h = h
handed_same bound_predicate s t x y h = h.0
handed_same arguments s t x y h = h.0
handed_same environment s t x y h = h.0
handed_same statement s t x y h = h.0
handed_same sort_list s t x y h = h.0
handed_same one_sort s t x y h = h.0

pub walk_same : {S : Type 0} (E L : S → S → Type 0) (x y : Tree) (s t : S) → Walk (λ r z o v. o ≡ None) E L (λ r z w v. w ≡ z) s x y t → y ≡ x
walk_same E L empty y s t done = refl
walk_same E L (more a b) y s t (next v w) = cc (walk_same E L a _ _ _ v, walk_same E L b _ _ _ w)
walk_same E L (node l c) y s t (answer a) = absurd (never_asked (asked_as (node l c)) _ _ _ _ a.asks)
walk_same E L (node l c) y s t (down g w b) =
    handed_same (kind_of_label l) _ _ _ _ b.hands ∙ ap (node l) (walk_same E L c _ _ _ w)
