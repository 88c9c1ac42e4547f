-- Trees that are related under a table, where goals are answered.
use Rattle.std.specs.Prelude.{◌≡◌, ◌⊎◌, ℕ, Bool, List, [], ◌∷◌, Some}
use Rattle.nts_model.specs.declared.labels.Sort.TheVariants as sort
use Rattle.nts_model.specs.declared.labels.Variance.{Variance}
use Rattle.nts_model.specs.declared.labels.Variance.TheVariants as variance
use Rattle.nts_model.specs.Terms.Trees.{Tree, kind_of, of_sort, IsClosed}
use Rattle.nts_model.specs.Tables.Contents.{Content}
use Rattle.nts_model.specs.Tables.Resolving.{IsSound, deeply_resolved}
use Rattle.nts_model.specs.Tables.Holding.{Continues, HoldsConstraint}
use Rattle.nts_model.specs.Derivations.Related.{alias_goal, subtype_goal, IsAlias, Related, AreRelatedByArgument}
use Rattle.nts_model.specs.Lists.{Among}
use Rattle.nts_model.specs.Derivations.Proving.{recorded_as}
use Rattle.nts_variance_model.specs.Variances.Relations.{Relating}

-- related under a table, which holds the constraints; the premises are among the goals ks, resolved
abbrev pub RelatedUnder : (ℕ → List Variance) → Content → List Tree → Variance → Tree → Tree → Type 0
RelatedUnder declared f ks v a b =
    Related declared (λ t. Unit {0}) (λ x. HoldsConstraint f (recorded_as x)) (Among ks) v (deeply_resolved f a) (deeply_resolved f b)

abbrev pub RowsUnder : (ℕ → List Variance) → Content → List Tree → Variance → List Variance → Tree → Tree → Type 0
RowsUnder declared f ks v ws a b =
    AreRelatedByArgument declared (λ t. Unit {0}) (λ x. HoldsConstraint f (recorded_as x)) (Among ks) v ws (deeply_resolved f a) (deeply_resolved f b)

-- the goal of a pair is among the goals: its AliasRelate goal where a side is an alias, or its Subtype goal
abbrev pub IsAnswered : Content → List Tree → Relating → Type 0
IsAnswered f ks p =
    (IsAlias (deeply_resolved f p.left) ⊎ IsAlias (deeply_resolved f p.right)) × IsClosed (deeply_resolved f p.left) × IsClosed (deeply_resolved f p.right)
    × Among ks (alias_goal p.variance (deeply_resolved f p.left) (deeply_resolved f p.right))
    ⊎ ((e : Bool) × (p.variance ≡ variance.Invariant → ⊥) × (kind_of (deeply_resolved f p.left) ≡ Some (of_sort sort.Ty)) × (kind_of (deeply_resolved f p.right) ≡ Some (of_sort sort.Ty))
    × IsClosed (deeply_resolved f p.left) × IsClosed (deeply_resolved f p.right) × Among ks (subtype_goal e p.variance (deeply_resolved f p.left) (deeply_resolved f p.right)))

abbrev pub AllAnswered : Content → List Tree → List Relating → Type 0
AllAnswered f ks [] = Unit {0}
AllAnswered f ks (p ∷ ps) = IsAnswered f ks p × AllAnswered f ks ps

abbrev pub AllRelatedUnder : (ℕ → List Variance) → Content → List Tree → List Relating → Type 0
AllRelatedUnder declared f ks [] = Unit {0}
AllRelatedUnder declared f ks (p ∷ ps) = RelatedUnder declared f ks p.variance p.left p.right × AllRelatedUnder declared f ks ps

-- under each later table that answers the goals, what was taken is related if what is left is
pub record RelatesBy (declared : ℕ → List Variance) (d : Content) (ps qs gs : List Relating) : Type 0 where
  pub related : (f : Content) → IsSound f → Continues d f → (ks : List Tree) → AllAnswered f ks gs → AllRelatedUnder declared f ks qs → AllRelatedUnder declared f ks ps
