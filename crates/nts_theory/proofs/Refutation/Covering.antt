-- What related trees without aliases are, what gives place to nothing, and by which rule a handler's goal follows.
use Rattle.std.proofs.Common.{◌≡◌, inl, inr, ℕ, true, false, Option, Some, List, [], refl, sym, ap, subst, ◌∙◌}
use Rattle.nts_model.specs.declared.labels.Variance.{Variance}
use Rattle.nts_model.specs.declared.labels.Variance.TheVariants as variance
use Rattle.nts_model.specs.declared.labels.Relation.TheVariants as relation
use Rattle.nts_model.specs.declared.labels.TyHead.{TyHead}
use Rattle.nts_model.specs.declared.labels.TyHead.TheVariants as ty
use Rattle.nts_model.specs.declared.labels.AliasHead.{AliasHead}
use Rattle.nts_model.specs.declared.labels.AliasHead.TheVariants as alias_of
use Rattle.nts_model.specs.declared.labels.ListHead.TheVariants as list
use Rattle.nts_model.specs.declared.labels.Label.{Label}
use Rattle.nts_model.specs.declared.labels.Label.TheVariants as label
use Rattle.nts_model.specs.Terms.Trees.{Tree, empty, more, node, kind_of, label_of, NodeKind, of_sort, one_sort, is_alias, any_term, FitsPlace, HavePlaces, Meets, shape, IsClosed, IsFormed}
use Rattle.nts_model.specs.Terms.Regions.{IsRegion}
use Rattle.nts_model.specs.Tables.Passing.{AllLabels}
use Rattle.nts_model.specs.Tables.Alike.{Alike, one_tree as same_tree, two_regions, one_label, two_rows}
use Rattle.nts_model.specs.Derivations.Related.{Constraint, pair, unbound, alias_goal, alias_label, alias, IsAlias, Related, AreRelatedByArgument, one_tree, regions, constructors, functions, values, open_aliases, aliases, subtypes, no_more, and_more, times, region_constraint, first_variance}
use Rattle.nts_model.specs.Derivations.Sequents.{Premise, Hidden}
use Rattle.nts_model.specs.Derivations.Rules.{Mode, Meaning, statement_of, goal_kind, Replaced, chosen, kept_empty, kept_more, kept_node, Stands, opened, IsHandlers, IsBuiltIn, IsApplied, IsPlainRule, bound, IsRule}
use Rattle.nts_model.specs.Derivations.Rules.{region_lives, type_lives, subtyped, coerced, const_typed, error_typed, allowed, dyn_compatible, formed, constant_evaluated, value_evaluated, error_evaluated, alias_evaluated, aliases_relate}
use Rattle.nts_theory.specs.RelatingCandidates.{may_be_argument, AreTypesApart}
use Rattle.nts_theory.specs.Refutation.Refutation.{HasNoAlias, ComesTo, same_tree as one_and_same, by_alias, by_row as row_by, by_node as node_by}
use Rattle.nts_theory.proofs.Refutation.PlainTerms.{no_head, none_is_alias}
use Rattle.nts_theory.proofs.Derivations.ClosedStatements.{opened_closed, one_statement as unbound_statement}

-- a region is an argument, and no type
region_argument : (t : Tree) → IsRegion t → may_be_argument (kind_of t) ≡ true
region_argument empty (x, e) = cc e
region_argument (more a b) (x, e) = cc e
region_argument (node (label.Leaf l) c) i = refl
region_argument (node (label.Bound s n m) c) i = refl
region_argument (node (label.Ty l) c) i = refl
region_argument (node (label.Const l) c) i = refl
region_argument (node (label.Clause l) empty) (x, e) = cc e
region_argument (node (label.Clause l) (more a b)) (x, e) = cc e
region_argument (node (label.Clause l) (node m d)) (x, e) = cc e
region_argument (node (label.Predicate l) empty) (x, e) = cc e
region_argument (node (label.Predicate l) (more a b)) (x, e) = cc e
region_argument (node (label.Predicate l) (node m d)) (x, e) = cc e
region_argument (node (label.List l) empty) (x, e) = cc e
region_argument (node (label.List l) (more a b)) (x, e) = cc e
region_argument (node (label.List l) (node m d)) (x, e) = cc e

region_no_type : (t : Tree) (l : TyHead) → IsRegion t → label_of t ≡ Some (label.Ty l) → ⊥
region_no_type (node (label.Ty k) empty) l (x, e) q = cc e
region_no_type (node (label.Ty k) (more a b)) l (x, e) q = cc e
region_no_type (node (label.Ty k) (node m d)) l (x, e) q = cc e
region_no_type t l i q = cc q

any_argument_of : (k : Option NodeKind) → FitsPlace any_term k → may_be_argument k ≡ true
any_argument_of (Some (of_sort s)) h = refl
any_argument_of k h = absurd h

alias_no_type : (t : Tree) (l : TyHead) → IsAlias t → label_of t ≡ Some (label.Ty l) → is_alias (label.Ty l) ≡ false → ⊥
alias_no_type t l i q n = by_head i.head (sym q ∙ ap label_of i.is)
  where
    by_head : (h : AliasHead) → Some (label.Ty l) ≡ Some (alias_label h) → ⊥
    by_head (alias_of.Ty j) e = (let same : l ≡ ty.Alias j = cc e in let z : true ≡ false = ap (λ x. is_alias (label.Ty x)) (sym same) ∙ n in cc z)
    by_head (alias_of.Const j) e = cc e

same_head : (a b : TyHead) → Some (label.Ty a) ≡ Some (label.Ty b) → a ≡ b
same_head a b e = cc e

-- related trees without aliases, where equalities are true, are one; and so are those that are no arguments. Types that are apart are
-- not related
module _ (D : ℕ → List Variance) (S : Tree → Type 0) (H : Constraint → Type 0) (P : Tree → Type 0)
    (h : (a b : Tree) → H (record { relation = relation.Equal; left = a; right = b }) → a ≡ b) where
  mutual
    pub related_equal : (v : Variance) (a b : Tree) → v ≡ variance.Invariant → HasNoAlias a → HasNoAlias b → Related D S H P v a b → a ≡ b
    related_equal v a b e x y (one_tree s) = refl
    related_equal v a b e x y (regions i j k) = h a b (subst (λ z. H (region_constraint z a b)) e k)
    related_equal v a b e x y (constructors r) = cc (all_equal v _ _ _ e x.1.0.1 y.1.0.1 r)
    related_equal v a b e x y (functions r) = cc (all_equal v _ _ _ e x.1.1.0.1 y.1.1.0.1 r)
    related_equal v a b e x y (values r) = cc (related_equal variance.Invariant _ _ refl x.1.0 y.1.0 r)
    related_equal v a b e x y (open_aliases {ts = ts} k c d r) = absurd (no_head k ts x)
    related_equal v a b e x y (aliases i ca cb p) = elim i [ inl j ↦ absurd (none_is_alias a x j) | inr j ↦ absurd (none_is_alias b y j) ]
    related_equal v a b e x y (subtypes z i j k ca cb p) = absurd (i e)

    all_equal : (v : Variance) (ws : List Variance) (a b : Tree) → v ≡ variance.Invariant → HasNoAlias a → HasNoAlias b → AreRelatedByArgument D S H P v ws a b → a ≡ b
    all_equal v ws a b e x y no_more = refl
    all_equal v ws (more a ts) (more b us) e x y (and_more r rs) = cc (related_equal _ a b (ap (λ z. times z (first_variance ws)) e) x.0 y.0 r, all_equal v _ ts us e x.1 y.1 rs)

  -- where no alias stands in the one, the other is that one, once its aliases gave place to what they are related with
  module _ (R : Tree → Tree → Type 0) where
    module _ (f : (a b : Tree) → IsAlias a → IsClosed b → HasNoAlias b → P (alias_goal variance.Invariant a b) → R a b) where
      mutual
        pub related_by_left : (v : Variance) (a b : Tree) → v ≡ variance.Invariant → HasNoAlias b → Related D S H P v a b → ComesTo R a b
        related_by_left v a b e y (one_tree s) = one_and_same
        related_by_left v a b e y (regions i j k) = subst (ComesTo R a) (h a b (subst (λ z. H (region_constraint z a b)) e k)) one_and_same
        related_by_left v a b e y (constructors r) = node_by (row_by (node_by (all_by_left v _ _ _ e y.1.0.1 r)) one_and_same)
        related_by_left v a b e y (functions r) = node_by (row_by one_and_same (row_by (node_by (all_by_left v _ _ _ e y.1.1.0.1 r)) one_and_same))
        related_by_left v a b e y (values r) = node_by (row_by (related_by_left variance.Invariant _ _ refl y.1.0 r) one_and_same)
        related_by_left v a b e y (open_aliases {us = us} k c d r) = absurd (no_head k us y)
        related_by_left v a b e y (aliases i ca cb p) = elim i [ inl j ↦ by_alias (f a b j cb y (subst (λ z. P (alias_goal z a b)) e p)) | inr j ↦ absurd (none_is_alias b y j) ]
        related_by_left v a b e y (subtypes z i j k ca cb p) = absurd (i e)

        all_by_left : (v : Variance) (ws : List Variance) (a b : Tree) → v ≡ variance.Invariant → HasNoAlias b → AreRelatedByArgument D S H P v ws a b → ComesTo R a b
        all_by_left v ws a b e y no_more = one_and_same
        all_by_left v ws (more a ts) (more b us) e y (and_more r rs) = row_by (related_by_left _ a b (ap (λ z. times z (first_variance ws)) e) y.0 r) (all_by_left v _ ts us e y.1 rs)

    module _ (f : (a b : Tree) → IsAlias b → IsClosed a → HasNoAlias a → P (alias_goal variance.Invariant a b) → R b a) where
      mutual
        pub related_by_right : (v : Variance) (a b : Tree) → v ≡ variance.Invariant → HasNoAlias a → Related D S H P v a b → ComesTo R b a
        related_by_right v a b e x (one_tree s) = one_and_same
        related_by_right v a b e x (regions i j k) = subst (λ z. ComesTo R z a) (h a b (subst (λ z. H (region_constraint z a b)) e k)) one_and_same
        related_by_right v a b e x (constructors r) = node_by (row_by (node_by (all_by_right v _ _ _ e x.1.0.1 r)) one_and_same)
        related_by_right v a b e x (functions r) = node_by (row_by one_and_same (row_by (node_by (all_by_right v _ _ _ e x.1.1.0.1 r)) one_and_same))
        related_by_right v a b e x (values r) = node_by (row_by (related_by_right variance.Invariant _ _ refl x.1.0 r) one_and_same)
        related_by_right v a b e x (open_aliases {ts = ts} k c d r) = absurd (no_head k ts x)
        related_by_right v a b e x (aliases i ca cb p) = elim i [ inl j ↦ absurd (none_is_alias a x j) | inr j ↦ by_alias (f a b j ca x (subst (λ z. P (alias_goal z a b)) e p)) ]
        related_by_right v a b e x (subtypes z i j k ca cb p) = absurd (i e)

        all_by_right : (v : Variance) (ws : List Variance) (a b : Tree) → v ≡ variance.Invariant → HasNoAlias a → AreRelatedByArgument D S H P v ws a b → ComesTo R b a
        all_by_right v ws a b e x no_more = one_and_same
        all_by_right v ws (more a ts) (more b us) e x (and_more r rs) = row_by (related_by_right _ a b (ap (λ z. times z (first_variance ws)) e) x.0 r) (all_by_right v _ ts us e x.1 rs)

  pub related_other : ((a b : Tree) → P (alias_goal variance.Invariant a b) → FitsPlace any_term (kind_of b)) → (v : Variance) (a b : Tree) → v ≡ variance.Invariant → may_be_argument (kind_of b) ≡ false → Related D S H P v a b → a ≡ b
  related_other f v a b e n (one_tree s) = refl
  related_other f v a b e n (regions i j k) = absurd (let z : true ≡ false = sym (region_argument b j) ∙ n in cc z)
  related_other f v a b e n (constructors r) = cc n
  related_other f v a b e n (functions r) = cc n
  related_other f v a b e n (values r) = cc n
  related_other f v a b e n (open_aliases {us = us} k c d r) = absurd (by_head k n)
    where
      by_head : (k : AliasHead) → may_be_argument (kind_of (alias k us)) ≡ false → ⊥
      by_head (alias_of.Ty j) q = cc q
      by_head (alias_of.Const j) q = cc q
  related_other f v a b e n (aliases i ca cb p) = absurd (let z : true ≡ false = sym (any_argument_of (kind_of b) (f a b (subst (λ y. P (alias_goal y a b)) e p))) ∙ n in cc z)
  related_other f v a b e n (subtypes z i j k ca cb p) = absurd (i e)

  pub related_apart : (v : Variance) (a b : Tree) → v ≡ variance.Invariant → AreTypesApart a b → Related D S H P v a b → ⊥
  related_apart v a b e x (one_tree s) = x.apart (same_head x.left x.right (sym x.of_left ∙ x.of_right))
  related_apart v a b e x (regions i j k) = region_no_type a x.left i x.of_left
  related_apart v a b e x (constructors r) = x.apart (same_head x.left x.right (sym x.of_left ∙ x.of_right))
  related_apart v a b e x (functions r) = x.apart (same_head x.left x.right (sym x.of_left ∙ x.of_right))
  related_apart v a b e x (values r) = cc x.of_left
  related_apart v a b e x (open_aliases k c d r) = x.apart (same_head x.left x.right (sym x.of_left ∙ x.of_right))
  related_apart v a b e x (aliases i ca cb p) = elim i [ inl j ↦ alias_no_type a x.left j x.of_left x.left_plain | inr j ↦ alias_no_type b x.right j x.of_right x.right_plain ]
  related_apart v a b e x (subtypes z i j k ca cb p) = i e

pub alike_equal : (R : Tree → Tree → Type 0) → ((a b : Tree) → R a b → a ≡ b) → (a b : Tree) → Alike R a b → a ≡ b
alike_equal R h a b same_tree = refl
alike_equal R h a b (two_regions i j r) = h a b r
alike_equal R h (node l c) (node m d) (one_label i r) = cc (alike_equal R h c d r)
alike_equal R h (more a s) (more b t) (two_rows r q) = cc (alike_equal R h a b r, alike_equal R h s t q)

-- nothing is put in place of aliases in a tree without aliases, where what comes of it is formed
unreplaced_leaf : (C : Tree → Tree → Type 0) → ((a v : Tree) → C a v → FitsPlace any_term (kind_of v)) → (c d : Tree) → HavePlaces [] d → Replaced C c d → c ≡ d
unreplaced_leaf C f c d h (chosen i k x) = by_row d h (f c d x)
  where
    by_row : (t : Tree) → HavePlaces [] t → FitsPlace any_term (kind_of t) → c ≡ t
    by_row empty k y = absurd y
    by_row (more a b) k y = absurd k
    by_row (node l t) k y = absurd k
unreplaced_leaf C f c d h kept_empty = refl
unreplaced_leaf C f c d h (kept_more r q) = absurd h
unreplaced_leaf C f c d h (kept_node n r) = absurd h

pub unreplaced : (C : Tree → Tree → Type 0) → ((a v : Tree) → C a v → FitsPlace any_term (kind_of v)) → (t u : Tree) → HasNoAlias t → IsFormed u → Replaced C t u → t ≡ u
unreplaced C f t u n g (chosen i k x) = absurd (none_is_alias t n i)
unreplaced C f empty empty n g kept_empty = refl
unreplaced C f (more a s) (more b t) n g (kept_more r q) = cc (unreplaced C f a b n.0 g.0 r, unreplaced C f s t n.1 g.1 q)
unreplaced C f (node (label.Leaf x) c) (node m d) n g (kept_node i r) = cc (unreplaced_leaf C f c d g.0 r)
unreplaced C f (node (label.Bound s j k) c) (node m d) n g (kept_node i r) = cc (unreplaced_leaf C f c d g.0 r)
unreplaced C f (node (label.Ty x) c) (node m d) n g (kept_node i r) = cc (unreplaced C f c d n.1 g.1 r)
unreplaced C f (node (label.Const x) c) (node m d) n g (kept_node i r) = cc (unreplaced C f c d n.1 g.1 r)
unreplaced C f (node (label.Clause x) c) (node m d) n g (kept_node i r) = cc (unreplaced C f c d n.1 g.1 r)
unreplaced C f (node (label.Predicate x) c) (node m d) n g (kept_node i r) = cc (unreplaced C f c d n.1 g.1 r)
unreplaced C f (node (label.List x) c) (node m d) n g (kept_node i r) = cc (unreplaced C f c d n.1 g.1 r)

-- nor in the sorts of a binder
no_term : (k : Option NodeKind) → k ≡ Some one_sort → FitsPlace any_term k → ⊥
no_term (Some (of_sort s)) e h = cc e
no_term k e h = h

one_unreplaced : (C : Tree → Tree → Type 0) → ((a v : Tree) → C a v → FitsPlace any_term (kind_of v)) → (l : Label) (c d : Tree) → kind_of (node l d) ≡ Some one_sort → IsFormed (node l d) → Replaced C c d → node l c ≡ node l d
one_unreplaced C f (label.List (list.Sort s)) c d k z w = cc (unreplaced_leaf C f c d z.0 w)
one_unreplaced C f (label.List list.Args) c d k z w = cc k
one_unreplaced C f (label.List list.Env) c d k z w = cc k
one_unreplaced C f (label.List list.Sorts) c d k z w = cc k
one_unreplaced C f (label.List list.Binder) c d k z w = cc k
one_unreplaced C f (label.Leaf x) c d k z w = cc k
one_unreplaced C f (label.Bound x y v) c d k z w = cc k
one_unreplaced C f (label.Ty x) c d k z w = cc k
one_unreplaced C f (label.Const x) c d k z w = cc k
one_unreplaced C f (label.Clause x) c d k z w = cc k
one_unreplaced C f (label.Predicate x) c d k z w = cc k

unreplaced_sort : (C : Tree → Tree → Type 0) → ((a v : Tree) → C a v → FitsPlace any_term (kind_of v)) → (x y : Tree) → kind_of y ≡ Some one_sort → IsFormed y → Replaced C x y → x ≡ y
unreplaced_sort C f x y k z (chosen i j w) = absurd (no_term (kind_of y) k (f x y w))
unreplaced_sort C f empty empty k z kept_empty = refl
unreplaced_sort C f (more p q) (more u v) k z (kept_more m l) = cc k
unreplaced_sort C f (node l c) (node m d) k z (kept_node i w) = one_unreplaced C f l c d k z w

no_row_term : (t : Tree) → Meets (shape (label.List list.Sorts)) t → FitsPlace any_term (kind_of t) → ⊥
no_row_term empty k y = y
no_row_term (more a b) k y = y
no_row_term (node l t) k y = k

unreplaced_sorts : (C : Tree → Tree → Type 0) → ((a v : Tree) → C a v → FitsPlace any_term (kind_of v)) → (c d : Tree) → Meets (shape (label.List list.Sorts)) d → IsFormed d → Replaced C c d → c ≡ d
unreplaced_sorts C f c d h g (chosen i k x) = absurd (no_row_term d h (f c d x))
unreplaced_sorts C f empty empty h g kept_empty = refl
unreplaced_sorts C f (node l c) (node m d) h g (kept_node n r) = absurd h
unreplaced_sorts C f (more a s) (more b t) h g (kept_more r q) = cc (unreplaced_sort C f a b h.0 g.0 r, unreplaced_sorts C f s t h.1 g.1 q)

-- a predicate with its binder
abbrev pub predicate_with : Tree → Tree → Tree
predicate_with sorts s = node (label.List list.Binder) (pair (node (label.List list.Sorts) sorts) s)

-- so a goal whose statement has no alias stands as it is
module _ (C : Tree → Tree → Type 0) (f : (a v : Tree) → C a v → FitsPlace any_term (kind_of v)) (sorts s : Tree) (g : IsFormed (predicate_with sorts s)) where
  by_sorts : (a : Tree) → Replaced C a (node (label.List list.Sorts) sorts) → a ≡ node (label.List list.Sorts) sorts
  by_sorts a (chosen j k x) = absurd (f a (node (label.List list.Sorts) sorts) x)
  by_sorts (node m d) (kept_node j q) = (let z = g.1.0 in cc (unreplaced_sorts C f d sorts z.0 z.1 q))

  by_end : (b : Tree) → Replaced C b empty → b ≡ empty
  by_end b (chosen j k x) = absurd (f b empty x)
  by_end empty kept_empty = refl

  by_last : (a y z : Tree) → a ≡ node (label.List list.Sorts) sorts → z ≡ empty → HasNoAlias (statement_of (node (label.List list.Binder) (more a (more y z)))) → Replaced C y s → node (label.List list.Binder) (more a (more y z)) ≡ predicate_with sorts s
  by_last a y z e o m q =
      let said : HasNoAlias y = subst (λ k. HasNoAlias (statement_of (node (label.List list.Binder) (more a (more y k))))) o m in
      let same : y ≡ s = unreplaced C f y s said (let k = g.1 in k.1.0) q in
      cc (e, o, same)

  by_rest : (a b : Tree) → a ≡ node (label.List list.Sorts) sorts → HasNoAlias (statement_of (node (label.List list.Binder) (more a b))) → Replaced C b (more s empty) → node (label.List list.Binder) (more a b) ≡ predicate_with sorts s
  by_rest a b e m (chosen j k x) = absurd (f b (more s empty) x)
  by_rest a (more y z) e m (kept_more q w) = by_last a y z e (by_end z w) m q

  by_row : (d : Tree) → HasNoAlias (statement_of (node (label.List list.Binder) d)) → Replaced C d (pair (node (label.List list.Sorts) sorts) s) → node (label.List list.Binder) d ≡ predicate_with sorts s
  by_row d m (chosen j k x) = absurd (f d (pair (node (label.List list.Sorts) sorts) s) x)
  by_row (more a b) m (kept_more q w) = by_rest a b (by_sorts a q) m w

  pub unreplaced_goal : (p : Tree) → HasNoAlias (statement_of p) → Replaced C p (predicate_with sorts s) → p ≡ predicate_with sorts s
  unreplaced_goal p n (chosen i k x) = absurd (f p (predicate_with sorts s) x)
  unreplaced_goal (node l c) n (kept_node i r) = by_row c n r

-- where labels are of a kind in what comes of a tree, and in the aliases that gave place, they are in the tree
pub replaced_labels : (A : Label → Type 0) (C : Tree → Tree → Type 0) → ((a v : Tree) → C a v → AllLabels A a) → (t u : Tree) → AllLabels A u → Replaced C t u → AllLabels A t
replaced_labels A C f t u h (chosen i k x) = f t u x
replaced_labels A C f empty empty h kept_empty = tt
replaced_labels A C f (more a s) (more b t) h (kept_more r q) = (replaced_labels A C f a b h.0 r, replaced_labels A C f s t h.1 q)
replaced_labels A C f (node l c) (node m d) h (kept_node i r) = (h.0, replaced_labels A C f c d h.1 r)

-- a handler's goal follows by no rule of the engine
pub not_built_in : (m : Meaning) (G : Tree → Type 0) (H : Constraint → Type 0) (P : Premise → Type 0) (e s : Tree) → IsHandlers s → IsBuiltIn m G H P e s → ⊥
not_built_in m G H P e s h (region_lives i j k) = h
not_built_in m G H P e s h (type_lives i k) = h
not_built_in m G H P e s h (subtyped x r) = h
not_built_in m G H P e s h (coerced r) = h
not_built_in m G H P e s h (const_typed r u x y z) = h
not_built_in m G H P e s h (error_typed x) = h
not_built_in m G H P e s h (allowed x) = h
not_built_in m G H P e s h (dyn_compatible x) = h
not_built_in m G H P e s h (formed gs x y) = h
not_built_in m G H P e s h constant_evaluated = h
not_built_in m G H P e s h value_evaluated = h
not_built_in m G H P e s h error_evaluated = h
not_built_in m G H P e s h (alias_evaluated x) = h
not_built_in m G H P e s h (aliases_relate r q x y z) = h

bound_statement : (sorts s t : Tree) → unbound s ≡ bound sorts t → s ≡ t
bound_statement sorts s t e = cc e

pub applied_by_rule : (m : Meaning) (mode : Mode) (G : Tree → Type 0) (H : Constraint → Type 0) (D : Hidden → Type 0) (P : Premise → Type 0) (e s : Tree) → IsHandlers s → IsClosed s → IsRule m mode G H D P e (unbound s)
    → IsApplied m mode G H D (Stands G P (goal_kind m (unbound s))) e (unbound s)
applied_by_rule m mode G H D P e s h c (inl (t, is, plain)) = by_plain (subst (IsPlainRule m mode G H D P e) (sym (unbound_statement s t is)) plain)
  where
    by_plain : IsPlainRule m mode G H D P e s → IsApplied m mode G H D (Stands G P (goal_kind m (unbound s))) e (unbound s)
    by_plain (inl (i, a)) = a
    by_plain (inr b) = absurd (not_built_in m G H _ e s h b)
applied_by_rule m mode G H D P e s h c (inr (sorts, t, f, is, fresh, plain)) =
    by_plain (subst (IsPlainRule m mode G H D P e) (ap (opened f 0) (sym (bound_statement sorts s t is)) ∙ opened_closed f 0 s c) plain)
  where
    by_plain : IsPlainRule m mode G H D P e s → IsApplied m mode G H D (Stands G P (goal_kind m (unbound s))) e (unbound s)
    by_plain (inl (i, a)) = a
    by_plain (inr b) = absurd (not_built_in m G H _ e s h b)
