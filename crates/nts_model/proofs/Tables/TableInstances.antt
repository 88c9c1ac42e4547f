-- The tree under a table is an instance of the tree, and a goal proved under a table is proved under each later one.
use Rattle.std.proofs.Common.{◌≡◌, ℕ, Bool, true, false, Option, Some, None, refl, sym, ap, ◌∙◌}
use Rattle.nts_model.specs.declared.labels.VariableKind.{VariableKind}
use Rattle.nts_model.specs.declared.labels.VariableKind.TheVariants as kind
use Rattle.nts_model.specs.declared.labels.Leaf.{Leaf}
use Rattle.nts_model.specs.declared.labels.Leaf.TheVariants as leaf
use Rattle.nts_model.specs.declared.labels.Label.{Label}
use Rattle.nts_model.specs.declared.labels.Label.TheVariants as label
use Rattle.nts_model.specs.Terms.Trees.{Tree, empty, more, node, IsClosed, IsFormed, variable_of, variable_tree}
use Rattle.nts_model.specs.Tables.Contents.{Content, kind_at}
use Rattle.nts_model.specs.Tables.Resolving.{rooted, deeply_resolved, Knows, KnowsVariable, IsSound}
use Rattle.nts_model.specs.Tables.Holding.{Continues}
use Rattle.nts_model.specs.Terms.Regions.{of_free}
use Rattle.nts_model.specs.Terms.Fitting.{Fits}
use Rattle.nts_model.specs.Terms.Substitutions.{leaf_tree, put, replace, FitsLeaf, IsConstant, Instance, instance_of}
use Rattle.nts_model.specs.Derivations.Proving.{HoldsTerms}
use Rattle.nts_model.proofs.Tables.Resolved.{resolved-more, deeply_resolved-node, deeply_resolved-empty}
use Rattle.nts_model.proofs.Tables.Slots.{Knows-kept}
use Rattle.nts_model.proofs.Tables.Open.{Knows-deeply_resolved}
use Rattle.nts_model.proofs.Terms.Substituting.{leaf_alone}
use Rattle.nts_model.proofs.Terms.Composing.{fits_itself}
use Rattle.nts_model.proofs.Tables.ResolvedTerms.{IsFormed-deeply_resolved, IsClosed-deeply_resolved, Fits-deeply_resolved}

abbrev are_one_kind : VariableKind → VariableKind → Bool
are_one_kind kind.Ty kind.Ty = true
are_one_kind kind.Int kind.Int = true
are_one_kind kind.Float kind.Float = true
are_one_kind kind.Const kind.Const = true
are_one_kind kind.Region kind.Region = true
are_one_kind j k = false

abbrev is_kind : Option VariableKind → VariableKind → Bool
is_kind None k = false
is_kind (Some j) k = are_one_kind j k

are_one_kind-same : (j k : VariableKind) → are_one_kind j k ≡ true → j ≡ k
are_one_kind-same kind.Ty kind.Ty e = refl
are_one_kind-same kind.Int kind.Int e = refl
are_one_kind-same kind.Float kind.Float e = refl
are_one_kind-same kind.Const kind.Const e = refl
are_one_kind-same kind.Region kind.Region e = refl
are_one_kind-same j k e = cc

are_one_kind-itself : (k : VariableKind) → are_one_kind k k ≡ true
are_one_kind-itself kind.Ty = refl
are_one_kind-itself kind.Int = refl
are_one_kind-itself kind.Float = refl
are_one_kind-itself kind.Const = refl
are_one_kind-itself kind.Region = refl

is_kind-same : (o : Option VariableKind) (k : VariableKind) → is_kind o k ≡ true → o ≡ Some k
is_kind-same None k e = cc
is_kind-same (Some j) k e = ap Some (are_one_kind-same j k e)

-- what a leaf is under a table: a variable of the table its value or root, another leaf itself
abbrev read_variable : Content → VariableKind → ℕ → Bool → Tree
read_variable c k n true = deeply_resolved c (variable_tree k n)
read_variable c k n false = variable_tree k n

abbrev pub read_leaf : Content → Leaf → Tree
read_leaf c (leaf.Variable k n) = read_variable c k n (is_kind (kind_at c n) k)
read_leaf c l = leaf_tree l

read_known : (c : Content) (k : VariableKind) (n : ℕ) → kind_at c n ≡ Some k → read_leaf c (leaf.Variable k n) ≡ deeply_resolved c (variable_tree k n)
read_known c k n e = let q : is_kind (kind_at c n) k ≡ true = rw e (are_one_kind-itself k) in rw q refl

pub deeply_resolved-more : (c : Content) (a b : Tree) → deeply_resolved c (more a b) ≡ more (deeply_resolved c a) (deeply_resolved c b)
deeply_resolved-more c a b = ap (rooted c) (resolved-more c a b)

-- the tree under a table has read leaves
read_node : (c : Content) (l : Label) (x : Tree) → KnowsVariable c (variable_of l) → IsFormed (node l x) → put (read_leaf c) l (deeply_resolved c x) ≡ deeply_resolved c (node l x)
read_node c (label.Leaf (leaf.Variable k n)) x h i = rw (leaf_alone (leaf.Variable k n) x i) (read_known c k n h)
read_node c (label.Leaf (leaf.Region r)) x h i =
    rw (leaf_alone (leaf.Region r) x i) (sym (deeply_resolved-node c (label.Leaf (leaf.Region r)) empty refl ∙ ap (node (label.Leaf (leaf.Region r))) (deeply_resolved-empty c)))
read_node c (label.Leaf (leaf.TyConstant a)) x h i =
    rw (leaf_alone (leaf.TyConstant a) x i) (sym (deeply_resolved-node c (label.Leaf (leaf.TyConstant a)) empty refl ∙ ap (node (label.Leaf (leaf.TyConstant a))) (deeply_resolved-empty c)))
read_node c (label.Leaf (leaf.ConstConstant a)) x h i =
    rw (leaf_alone (leaf.ConstConstant a) x i) (sym (deeply_resolved-node c (label.Leaf (leaf.ConstConstant a)) empty refl ∙ ap (node (label.Leaf (leaf.ConstConstant a))) (deeply_resolved-empty c)))
read_node c (label.Bound a b d) x h i = sym (deeply_resolved-node c (label.Bound a b d) x refl)
read_node c (label.Ty a) x h i = sym (deeply_resolved-node c (label.Ty a) x refl)
read_node c (label.Const a) x h i = sym (deeply_resolved-node c (label.Const a) x refl)
read_node c (label.Clause a) x h i = sym (deeply_resolved-node c (label.Clause a) x refl)
read_node c (label.Predicate a) x h i = sym (deeply_resolved-node c (label.Predicate a) x refl)
read_node c (label.List a) x h i = sym (deeply_resolved-node c (label.List a) x refl)

pub replace-read_leaf : (c : Content) (t : Tree) → Knows c t → IsFormed t → replace (read_leaf c) t ≡ deeply_resolved c t
replace-read_leaf c empty k h = sym (deeply_resolved-empty c)
replace-read_leaf c (more a b) k h =
    let x = replace-read_leaf c a k.0 h.0 in
    let y = replace-read_leaf c b k.1 h.1 in
    rw (x, y) (sym (deeply_resolved-more c a b))
replace-read_leaf c (node l x) k h = ap (put (read_leaf c) l) (replace-read_leaf c x k.1 h.1) ∙ read_node c l x k.0.0 h

-- the values of a table make an instance
read_fits : (c : Content) (l : Leaf) → IsSound c → HoldsTerms c → FitsLeaf l (read_leaf c l)
read_fits c (leaf.Variable k n) s h = by_kind (is_kind (kind_at c n) k) refl
  where
    by_kind : (z : Bool) → is_kind (kind_at c n) k ≡ z → Fits k (read_variable c k n z)
    by_kind true e = Fits-deeply_resolved c k n s h (is_kind-same (kind_at c n) k e)
    by_kind false e = fits_itself (leaf.Variable k n)
read_fits c (leaf.Region r) s h = (of_free r, refl)
read_fits c (leaf.TyConstant a) s h = (a, refl)
read_fits c (leaf.ConstConstant a) s h = (a, refl)

read_formed : (c : Content) (l : Leaf) → IsSound c → HoldsTerms c → IsFormed (read_leaf c l)
read_formed c (leaf.Variable k n) s h = by_kind (is_kind (kind_at c n) k) refl
  where
    by_kind : (z : Bool) → is_kind (kind_at c n) k ≡ z → IsFormed (read_variable c k n z)
    by_kind true e = IsFormed-deeply_resolved c (variable_tree k n) s h ((is_kind-same (kind_at c n) k e, tt, refl), tt, tt) (tt, tt)
    by_kind false e = (tt, tt)
read_formed c (leaf.Region r) s h = (tt, tt)
read_formed c (leaf.TyConstant a) s h = (tt, tt)
read_formed c (leaf.ConstConstant a) s h = (tt, tt)

read_closed : (c : Content) (l : Leaf) → HoldsTerms c → IsClosed (read_leaf c l)
read_closed c (leaf.Variable k n) h = by_kind (is_kind (kind_at c n) k)
  where
    by_kind : (z : Bool) → IsClosed (read_variable c k n z)
    by_kind true = IsClosed-deeply_resolved c (variable_tree k n) h (tt, tt)
    by_kind false = (tt, tt)
read_closed c (leaf.Region r) h = (tt, tt)
read_closed c (leaf.TyConstant a) h = (tt, tt)
read_closed c (leaf.ConstConstant a) h = (tt, tt)

read_distinct : (c : Content) (l m : Leaf) → IsConstant l → IsConstant m → read_leaf c l ≡ read_leaf c m → l ≡ m
read_distinct c (leaf.TyConstant a) (leaf.TyConstant b) h i e = cc e
read_distinct c (leaf.TyConstant a) (leaf.ConstConstant b) h i e = cc e
read_distinct c (leaf.ConstConstant a) (leaf.TyConstant b) h i e = cc e
read_distinct c (leaf.ConstConstant a) (leaf.ConstConstant b) h i e = cc e
read_distinct c (leaf.Variable k n) m h i e = absurd h
read_distinct c (leaf.Region r) m h i e = absurd h
read_distinct c (leaf.TyConstant a) (leaf.Variable k n) h i e = absurd i
read_distinct c (leaf.TyConstant a) (leaf.Region r) h i e = absurd i
read_distinct c (leaf.ConstConstant a) (leaf.Variable k n) h i e = absurd i
read_distinct c (leaf.ConstConstant a) (leaf.Region r) h i e = absurd i

pub reading_of : (c : Content) → IsSound c → HoldsTerms c → Instance
reading_of c s h =
    record {
      value = read_leaf c;
      fits = λ l. read_fits c l s h;
      formed = λ l. read_formed c l s h;
      closed = λ l. read_closed c l h;
      distinct = read_distinct c;
      stays = λ r i. refl;
    }

pub instance_of-reading : (c : Content) (s : IsSound c) (h : HoldsTerms c) (t : Tree) → Knows c t → IsFormed t → instance_of (reading_of c s h) t ≡ deeply_resolved c t
unfolding reading_of
instance_of-reading c s h t k i = replace-read_leaf c t k i

pub reading-leaf : (c : Content) (s : IsSound c) (h : HoldsTerms c) (l : Leaf) → (reading_of c s h).value l ≡ read_leaf c l
unfolding reading_of
reading-leaf c s h l = refl

-- under a later table
pub instance_of-later : (c d : Content) (s : IsSound c) (r : IsSound d) (h : HoldsTerms c) (i : HoldsTerms d) (t : Tree) → Continues c d → Knows c t → IsFormed t
    → instance_of (reading_of d r i) (deeply_resolved c t) ≡ deeply_resolved d t
instance_of-later c d s r h i t g k f =
    instance_of-reading d r i (deeply_resolved c t) (Knows-kept c d (deeply_resolved c t) (record { grows = g.grows; kinds = g.kinds }) (Knows-deeply_resolved c t s k)) (IsFormed-deeply_resolved c t s h k f)
    ∙ g.values t k
