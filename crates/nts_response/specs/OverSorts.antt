-- Terms and entries of a response over positions of given sorts.
use Rattle.std.specs.Prelude.{◌≡◌, Bool, false, List, All}
use Rattle.nts_model.specs.declared.labels.Sort.{Sort}
use Rattle.nts_model.specs.declared.labels.Label.{Label}
use Rattle.nts_model.specs.declared.labels.Label.TheVariants as label
use Rattle.nts_model.specs.Terms.Trees.{Tree}
use Rattle.nts_model.specs.Terms.Substitutions.{position_of}
use Rattle.nts_model.specs.Derivations.Handlers.{NamesAt}
use Rattle.nts_terms.specs.declared.handles.AliasTerm.{AliasTerm}
use Rattle.nts_terms.specs.declared.handles.GenericArg.{GenericArg}
use Rattle.nts_terms.specs.declared.handles.Goal.{Goal}
use Rattle.nts_terms.specs.declared.handles.Ty.{Ty}
use Rattle.nts_terms.specs.declared.modes.VisibleForLeakCheck.{VisibleForLeakCheck}
use Rattle.nts_terms.specs.Handles.{HoldsArg}
use Rattle.nts_candidates.specs.nts_certainty.specs.declared.sources.GoalSource.{GoalSource}
use Rattle.nts_candidates.specs.declared.data.RegionConstraint.{RegionConstraint}
use Rattle.nts_candidates.specs.Foreign.{is_foreign_leaf}
use Rattle.nts_canonical.specs.Forms.{IsHidden}
use Rattle.nts_response.specs.declared.types.Response.{Response}
use Rattle.nts_response.specs.Forms.{StoreHoldsConstraint, HoldsOpen}
use Rattle.nts_response.specs.Applicable.{IsOverSorts, IsConstraintOver, IsHiddenOver, IsGoalOver}

-- a leaf, other than of a region that stays itself
abbrev pub is_moved : Label → Bool
is_moved (label.Leaf l) = is_foreign_leaf l
is_moved l = false

-- .. over positions of these sorts
abbrev pub MayStay : List Sort → Label → Type 0
MayStay ss l = NamesAt ss (position_of l) l × (is_moved l ≡ false)

-- entries of the store, over positions of these sorts
abbrev pub IsArgIn : List Tree → List Sort → GenericArg → Type 0
IsArgIn ts ss v = HoldsArg ts v × IsOverSorts ts ss v.node

abbrev pub IsConstraintIn : List Tree → List Sort → RegionConstraint × VisibleForLeakCheck → Type 0
IsConstraintIn ts ss x = StoreHoldsConstraint ts x × IsConstraintOver ts ss x

abbrev pub IsHiddenIn : List Tree → List Sort → AliasTerm × Ty → Type 0
IsHiddenIn ts ss h = IsHidden ts h × IsHiddenOver ts ss h

abbrev pub IsGoalIn : List Tree → List Sort → GoalSource × Goal → Type 0
IsGoalIn ts ss g = HoldsOpen ts g × IsGoalOver ts ss g

-- .. all of a response
pub record IsValueOver (ts : List Tree) (ss : List Sort) (r : Response) : Type 0 where
  pub values : All (IsArgIn ts ss) r.var_values.items
  pub constraints : All (IsConstraintIn ts ss) r.external_constraints.region_constraints.items
  pub hidden : All (IsHiddenIn ts ss) r.external_constraints.opaque_types.items
  pub open_goals : All (IsGoalIn ts ss) r.external_constraints.normalization_nested_goals.items
