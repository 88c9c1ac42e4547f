-- What responses stand for.
use Rattle.std.specs.Prelude.{◌≡◌, ℕ, ◌<◌, List, [], map, length, get_or, All}
use Rattle.nts_model.specs.declared.labels.Sort.{Sort}
use Rattle.nts_model.specs.Terms.Trees.{Tree, empty}
use Rattle.nts_model.specs.Canonical.Numbered.{position}
use Rattle.nts_model.specs.Tables.Contents.{Content, Recorded}
use Rattle.nts_model.specs.Tables.Resolving.{Knows}
use Rattle.nts_model.specs.Derivations.Sequents.{Premise}
use Rattle.nts_model.specs.Answers.Responses.{Findings, row_of, Response as Form, IsIdentity}
use Rattle.nts_candidates.specs.nts_certainty.specs.declared.sources.GoalSource.{GoalSource}
use Rattle.nts_candidates.specs.nts_certainty.specs.declared.certainty.Certainty.{Certainty}
use Rattle.nts_terms.specs.declared.handles.AliasTerm.{AliasTerm}
use Rattle.nts_terms.specs.declared.handles.GenericArg.{GenericArg}
use Rattle.nts_terms.specs.declared.handles.Goal.{Goal}
use Rattle.nts_terms.specs.declared.handles.Ty.{Ty}
use Rattle.nts_terms.specs.declared.modes.VisibleForLeakCheck.{VisibleForLeakCheck}
use Rattle.nts_store.specs.Growth.{tree_at}
use Rattle.nts_canonical.specs.nts_unify.specs.Recording.{is_visible}
use Rattle.nts_candidates.specs.declared.data.RegionConstraint.{RegionConstraint}
use Rattle.nts_candidates.specs.Offered.{source_of, hidden_of}
use Rattle.nts_canonical.specs.declared.types.Canonical.{Canonical}
use Rattle.nts_terms.specs.Handles.{HoldsArg, HoldsRegion, HoldsGoal}
use Rattle.nts_canonical.specs.Forms.{kind_of_var, trees_of, IsHidden}
use Rattle.nts_response.specs.declared.types.ExternalConstraintsData.{ExternalConstraintsData}
use Rattle.nts_response.specs.declared.types.Response.{Response}

-- a region constraint, a goal that is left open, and all that was found out, as trees
abbrev pub recorded_at : List Tree → RegionConstraint × VisibleForLeakCheck → Recorded
recorded_at ts x =
    record {
      relation = x.0.relation;
      left = tree_at ts x.0.left.node;
      right = tree_at ts x.0.right.node;
      is_visible = is_visible x.1;
    }

abbrev pub premise_at : List Tree → GoalSource × Goal → Premise
premise_at ts g =
    record {
      source = source_of g.0;
      environment = tree_at ts g.1.param_env.node;
      predicate = tree_at ts g.1.predicate.node;
    }

abbrev pub findings_at : List Tree → Response → Findings
findings_at ts r =
    record {
      values = trees_of ts r.var_values.items;
      constraints = map (recorded_at ts) r.external_constraints.region_constraints.items;
      hidden = map (hidden_of ts) r.external_constraints.opaque_types.items;
      open_goals = map (premise_at ts) r.external_constraints.normalization_nested_goals.items;
    }

-- the response that a canonical one stands for in a store
abbrev pub response_at : List Tree → Canonical Response → Form
response_at ts c =
    record {
      findings = findings_at ts c.value;
      kinds = map kind_of_var c.var_kinds.items;
      max_universe = c.max_universe;
    }

-- its terms are of the store
pub record StoreHoldsConstraint (ts : List Tree) (x : RegionConstraint × VisibleForLeakCheck) : Type 0 where
  pub left : HoldsArg ts x.0.left
  pub right : HoldsRegion ts x.0.right

pub record HoldsOpen (ts : List Tree) (g : GoalSource × Goal) : Type 0 where
  pub goal : HoldsGoal ts g.1

-- all terms of the response are of the store
pub record HoldsResponse (ts : List Tree) (r : Response) : Type 0 where
  pub values : All (HoldsArg ts) r.var_values.items
  pub constraints : All (StoreHoldsConstraint ts) r.external_constraints.region_constraints.items
  pub hidden : All (IsHidden ts) r.external_constraints.opaque_types.items
  pub open_goals : All (HoldsOpen ts) r.external_constraints.normalization_nested_goals.items

-- its trees are of the table
pub record KnowsFindings (c : Content) (x : Findings) : Type 0 where
  pub trees : Knows c (row_of x)

-- a response, its memory left out
abbrev pub found_in : ExternalConstraintsData → List (RegionConstraint × VisibleForLeakCheck) × List (AliasTerm × Ty) × List (GoalSource × Goal)
found_in x = (x.region_constraints.items, x.opaque_types.items, x.normalization_nested_goals.items)

abbrev pub response_parts : Response → Certainty × List GenericArg × List (RegionConstraint × VisibleForLeakCheck) × List (AliasTerm × Ty) × List (GoalSource × Goal)
response_parts r =
    let x = r.external_constraints in
    (r.certainty, r.var_values.items, x.region_constraints.items, x.opaque_types.items, x.normalization_nested_goals.items)

-- no region constraints, no hidden types and no open goals
abbrev pub FoundNothing : ExternalConstraintsData → Type 0
FoundNothing x = (x.region_constraints.items ≡ []) × (x.opaque_types.items ≡ []) × (x.normalization_nested_goals.items ≡ [])

-- each tree is the position of its own number
abbrev pub ArePositions : List Tree → Type 0
ArePositions ts = (i : ℕ) → i < length ts → (s : Sort) × (get_or ts i empty ≡ position s i)

-- it says nothing of types and consts, hides no types and leaves no goals
pub record HasOnlyRegionConstraints (ts : List Tree) (c : Canonical Response) : Type 0 where
  pub identity : IsIdentity 0 (trees_of ts c.value.var_values.items)
  pub no_hidden : c.value.external_constraints.opaque_types.items ≡ []
  pub no_goals : c.value.external_constraints.normalization_nested_goals.items ≡ []
