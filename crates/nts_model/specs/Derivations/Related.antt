-- Trees related by a variance, where the region constraints and the premises at hand are given.
use Rattle.std.specs.Prelude.{◌≡◌, ◌⊎◌, ℕ, Bool, List, [], ◌∷◌, Some}
use Rattle.nts_model.specs.declared.labels.Sort.TheVariants as sort
use Rattle.nts_model.specs.declared.labels.Variance.{Variance}
use Rattle.nts_model.specs.declared.labels.Variance.TheVariants as variance
use Rattle.nts_model.specs.declared.labels.Relation.{Relation}
use Rattle.nts_model.specs.declared.labels.Relation.TheVariants as relation
use Rattle.nts_model.specs.declared.labels.AliasRelationDirection.{AliasRelationDirection}
use Rattle.nts_model.specs.declared.labels.AliasRelationDirection.TheVariants as direction
use Rattle.nts_model.specs.declared.labels.AliasHead.{AliasHead}
use Rattle.nts_model.specs.declared.labels.AliasHead.TheVariants as alias_of
use Rattle.nts_model.specs.declared.labels.TyHead.TheVariants as ty
use Rattle.nts_model.specs.declared.labels.ConstHead.TheVariants as konst
use Rattle.nts_model.specs.declared.labels.PredicateHead.{PredicateHead}
use Rattle.nts_model.specs.declared.labels.PredicateHead.TheVariants as predicate
use Rattle.nts_model.specs.declared.labels.ListHead.TheVariants as list
use Rattle.nts_model.specs.declared.labels.Label.{Label}
use Rattle.nts_model.specs.declared.labels.Label.TheVariants as label
use Rattle.nts_model.specs.Terms.Trees.{Tree, empty, more, node, kind_of, of_sort, IsClosed}
use Rattle.nts_model.specs.Terms.Regions.{IsRegion}

-- a region constraint: its two sides are one region, or the left one, a region or a type, outlives the right
pub record Constraint : Type 0 where
  pub relation : Relation
  pub left : Tree
  pub right : Tree

-- the variance of an argument of variance w in a pair of variance v
abbrev pub times : Variance → Variance → Variance
times variance.Invariant w = variance.Invariant
times variance.Covariant w = w
times variance.Contravariant variance.Covariant = variance.Contravariant
times variance.Contravariant variance.Invariant = variance.Invariant
times variance.Contravariant variance.Contravariant = variance.Covariant

-- the constraint that relates two regions
abbrev pub region_constraint : Variance → Tree → Tree → Constraint
region_constraint variance.Invariant a b = record { relation = relation.Equal; left = a; right = b }
region_constraint variance.Covariant a b = record { relation = relation.RegionOutlives; left = a; right = b }
region_constraint variance.Contravariant a b = record { relation = relation.RegionOutlives; left = b; right = a }

abbrev pub pair : Tree → Tree → Tree
pair a b = more a (more b empty)

-- what a predicate says, and the predicate that binds nothing
abbrev pub no_sorts : Tree
no_sorts = node (label.List list.Sorts) empty

abbrev pub unbound : Tree → Tree
unbound s = node (label.List list.Binder) (pair no_sorts s)

-- a goal about two related trees: the lesser stands first
abbrev pub directed : PredicateHead → Variance → Tree → Tree → Tree
directed h variance.Contravariant a b = unbound (node (label.Predicate h) (pair b a))
directed h v a b = unbound (node (label.Predicate h) (pair a b))

abbrev pub direction_of : Variance → AliasRelationDirection
direction_of variance.Invariant = direction.Equate
direction_of v = direction.Subtype

-- the AliasRelate goal, and the Subtype goal, of two related trees
abbrev pub alias_goal : Variance → Tree → Tree → Tree
alias_goal v = directed (predicate.AliasRelate (direction_of v)) v

abbrev pub subtype_goal : Bool → Variance → Tree → Tree → Tree
subtype_goal e v = directed (predicate.Subtype e) v

-- types and consts by their arguments
abbrev pub arguments : Tree → Tree
arguments ts = more (node (label.List list.Args) ts) empty

abbrev pub constructor : ℕ → Tree → Tree
constructor i ts = node (label.Ty (ty.Ctor i)) (arguments ts)

abbrev pub function : Tree → Tree → Tree
function sorts ts = node (label.Ty ty.FnPtr) (more (node (label.List list.Sorts) sorts) (arguments ts))

abbrev pub value : ℕ → Tree → Tree
value b t = node (label.Const (konst.Value b)) (more t empty)

-- an alias of a type, and a const that is to be evaluated
abbrev pub alias_label : AliasHead → Label
alias_label (alias_of.Ty i) = label.Ty (ty.Alias i)
alias_label (alias_of.Const i) = label.Const (konst.Unevaluated i)

abbrev pub alias : AliasHead → Tree → Tree
alias h ts = node (alias_label h) (arguments ts)

-- an alias without escaping bound variables
pub record IsAlias (t : Tree) : Type 0 where
  pub head : AliasHead
  pub parts : Tree
  pub is : t ≡ alias head parts
  pub closed : IsClosed t

-- all but the last argument of a function are its inputs
abbrev pub function_variances : Tree → List Variance
function_variances (more t empty) = variance.Covariant ∷ []
function_variances (more t ts) = variance.Contravariant ∷ function_variances ts
function_variances t = []

abbrev pub first_variance : List Variance → Variance
first_variance [] = variance.Invariant
first_variance (w ∷ ws) = w

abbrev pub rest_variances : List Variance → List Variance
rest_variances [] = []
rest_variances (w ∷ ws) = ws

-- related by a variance, where constructors have declared variances: `Same` are the trees that may stand
-- for themselves, `Holds` the constraints at hand, and `Proved` the premises at hand
module _ (declared : ℕ → List Variance) (Same : Tree → Type 0) (Holds : Constraint → Type 0) (Proved : Tree → Type 0) where
  mutual
    -- two trees are related by a variance, where what may be one tree, what constraints hold and what is proved is given
    pub data Related : Variance → Tree → Tree → Type 0 where
      one_tree : {v : Variance} {t : Tree} → Same t → Related v t t
      regions : {v : Variance} {a b : Tree} → IsRegion a → IsRegion b → Holds (region_constraint v a b) → Related v a b
      constructors : {v : Variance} {i : ℕ} {ts us : Tree} → AreRelatedByArgument v (declared i) ts us → Related v (constructor i ts) (constructor i us)
      functions : {v : Variance} {sorts ts us : Tree} → AreRelatedByArgument v (function_variances ts) ts us → Related v (function sorts ts) (function sorts us)
      values : {v : Variance} {b : ℕ} {t u : Tree} → Related variance.Invariant t u → Related v (value b t) (value b u)
      open_aliases : {v : Variance} {ts us : Tree} (h : AliasHead) → (IsClosed (alias h ts) → ⊥) → (IsClosed (alias h us) → ⊥)
          → AreRelatedByArgument v [] ts us → Related v (alias h ts) (alias h us)
      aliases : {v : Variance} {a b : Tree} → IsAlias a ⊎ IsAlias b → IsClosed a → IsClosed b → Proved (alias_goal v a b) → Related v a b
      subtypes : {v : Variance} {a b : Tree} (e : Bool) → (v ≡ variance.Invariant → ⊥) → kind_of a ≡ Some (of_sort sort.Ty) → kind_of b ≡ Some (of_sort sort.Ty)
          → IsClosed a → IsClosed b → Proved (subtype_goal e v a b) → Related v a b

    -- two rows are related argument by argument; what has no declared variance is invariant
    pub data AreRelatedByArgument : Variance → List Variance → Tree → Tree → Type 0 where
      no_more : {v : Variance} {ws : List Variance} → AreRelatedByArgument v ws empty empty
      and_more : {v : Variance} {ws : List Variance} {a b ts us : Tree} → Related (times v (first_variance ws)) a b → AreRelatedByArgument v (rest_variances ws) ts us
          → AreRelatedByArgument v ws (more a ts) (more b us)
