-- A goal's predicate, under a table, and what it says where it is answered.
use Rattle.std.proofs.Common.{◌≡◌, ◌≢◌, ◌⊎◌, inl, inr, Bool, true, false, List, Some, refl, sym, ap, ◌∙◌, subst}
use Rattle.std.specs.Prelude.{◌||◌, cond}
use Rattle.nts_model.specs.declared.labels.Sort.TheVariants as sort
use Rattle.nts_model.specs.declared.labels.Variance.{Variance}
use Rattle.nts_model.specs.declared.labels.Variance.TheVariants as variance
use Rattle.nts_model.specs.declared.labels.AliasHead.{AliasHead}
use Rattle.nts_model.specs.declared.labels.AliasHead.TheVariants as alias_of
use Rattle.nts_model.specs.declared.labels.PredicateHead.{PredicateHead}
use Rattle.nts_model.specs.declared.labels.PredicateHead.TheVariants as predicate
use Rattle.nts_model.specs.declared.labels.Label.TheVariants as label
use Rattle.nts_model.specs.Terms.Trees.{Tree, kind_of, of_sort, shape, any_term, FitsPlace, Meets}
use Rattle.nts_model.specs.Derivations.Related.{IsAlias, alias, pair, direction_of}
use Rattle.nts_variance_model.specs.Variances.Relations.{Relating as Pair}
use Rattle.nts_store.specs.Growth.{tree_at, IsIn, Extends}
use Rattle.nts_variance.specs.declared.along.Relating.{Relating as Goal}
use Rattle.nts_variance.specs.Terms.{pair_at, IsGoal}
use Rattle.nts_variance.specs.Goals.{in_order, ordered, is_alias_node, expects_first, goal_head}
use Rattle.nts_model.proofs.Tables.AlikeNodes.{alias_label_is as alias_is_alias}
use Rattle.nts_variance.proofs.Exact.{or_left as left_or}

-- an alias stays one
alias_node : (t : Tree) → IsAlias t → is_alias_node t ≡ true
alias_node t x = ap is_alias_node x.is ∙ alias_is_alias x.head

right_or : (a b : Bool) → b ≡ true → (a || b) ≡ true
right_or true b e = refl
right_or false true e = refl
right_or false false e = cc

head_of_alias : (p : Pair) → IsAlias p.left ⊎ IsAlias p.right → goal_head p ≡ predicate.AliasRelate (direction_of p.variance)
head_of_alias p (inl x) = rw (left_or (is_alias_node p.left) (is_alias_node p.right) (alias_node p.left x)) refl
head_of_alias p (inr x) = rw (right_or (is_alias_node p.left) (is_alias_node p.right) (alias_node p.right x)) refl

-- the sides of a goal stand at the places of its predicate
alias_term : (t : Tree) → IsAlias t → FitsPlace any_term (kind_of t)
alias_term t x = rw x.is (by_head x.head)
  where
    by_head : (h : AliasHead) → FitsPlace any_term (kind_of (alias h x.parts))
    by_head (alias_of.Ty i) = λ e. cc
    by_head (alias_of.Const i) = λ e. cc

type_term : (t : Tree) → kind_of t ≡ Some (of_sort sort.Ty) → FitsPlace any_term (kind_of t)
type_term t e = rw e (λ q. cc)

abbrev pub FitPlaces : PredicateHead → Tree → Tree → Type 0
FitPlaces h a b = Meets (shape (label.Predicate h)) (pair a b)

-- in both orders
abbrev pub FitInOrders : Pair → PredicateHead → Type 0
FitInOrders p h = FitPlaces h p.left p.right × FitPlaces h p.right p.left

alias_places : (p : Pair) → IsGoal p → IsAlias p.left ⊎ IsAlias p.right → FitsPlace any_term (kind_of p.left) × FitsPlace any_term (kind_of p.right)
alias_places p g (inl x) = (let t = alias_term p.left x in (t, subst (FitsPlace any_term) g.kinds t))
alias_places p g (inr x) = (let t = alias_term p.right x in (subst (FitsPlace any_term) (sym g.kinds) t, t))

pub goal_places : (p : Pair) → IsGoal p → FitInOrders p (goal_head p)
goal_places p g = by_rest g.rests
  where
    by_rest : (IsAlias p.left ⊎ IsAlias p.right) ⊎ ((p.variance ≢ variance.Invariant) × (kind_of p.left ≡ Some (of_sort sort.Ty)) × (kind_of p.right ≡ Some (of_sort sort.Ty))) → FitInOrders p (goal_head p)
    by_rest (inl x) = (let t = alias_places p g x in rw (head_of_alias p x) ((t.0, (t.1, tt)), (t.1, (t.0, tt))))
    by_rest (inr x) = by_node (is_alias_node p.left || is_alias_node p.right)
      where
        right : kind_of p.right ≡ Some (of_sort sort.Ty)
        right = x.2

        by_node : (o : Bool) → FitInOrders p (cond o (predicate.AliasRelate (direction_of p.variance)) (predicate.Subtype (expects_first p.variance)))
        by_node true = (let a = type_term p.left x.1 in let b = type_term p.right right in ((a, (b, tt)), (b, (a, tt))))
        by_node false = ((x.1, (right, tt)), (right, (x.1, tt)))

places_in_order : (ts : List Tree) (v : Variance) (p : Goal) (h : PredicateHead) → FitInOrders (pair_at ts p) h → FitPlaces h (tree_at ts (in_order v p).left) (tree_at ts (in_order v p).right)
places_in_order ts variance.Invariant p h f = f.0
places_in_order ts variance.Covariant p h f = f.0
places_in_order ts variance.Contravariant p h f = f.1

pub ordered_places : (ts : List Tree) (p : Goal) → IsGoal (pair_at ts p) → FitPlaces (goal_head (pair_at ts p)) (tree_at ts (ordered p).left) (tree_at ts (ordered p).right)
ordered_places ts p g = places_in_order ts p.variance p (goal_head (pair_at ts p)) (goal_places (pair_at ts p) g)

in_order_within : (ts : List Tree) (v : Variance) (p : Goal) → IsIn ts p.left → IsIn ts p.right → IsIn ts (in_order v p).left × IsIn ts (in_order v p).right
in_order_within ts variance.Invariant p a b = (a, b)
in_order_within ts variance.Covariant p a b = (a, b)
in_order_within ts variance.Contravariant p a b = (b, a)

-- .. in each later store
pub places_kept : (ts us : List Tree) (p : Goal) (h : PredicateHead) (q : Goal) → Extends ts us → IsIn ts p.left → IsIn ts p.right → q ≡ ordered p → h ≡ goal_head (pair_at ts p) → FitPlaces (goal_head (pair_at ts p)) (tree_at ts (ordered p).left) (tree_at ts (ordered p).right) → FitPlaces h (tree_at us q.left) (tree_at us q.right)
places_kept ts us p h q ext left right is head f =
    let within = in_order_within ts p.variance p left right in
    let one : tree_at us (ordered p).left ≡ tree_at ts (ordered p).left = ext.kept (ordered p).left within.0 in
    let two : tree_at us (ordered p).right ≡ tree_at ts (ordered p).right = ext.kept (ordered p).right within.1 in
    rw (is, head, one, two) f
