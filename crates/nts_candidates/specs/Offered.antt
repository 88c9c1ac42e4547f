-- A candidate's data as trees.
use Rattle.std.specs.Prelude.{Bool, true, false, List, map}
use Rattle.nts_certainty.specs.nts_model.specs.Terms.Trees.{Tree}
use Rattle.nts_certainty.specs.nts_model.specs.Derivations.Related.{Constraint}
use Rattle.nts_certainty.specs.nts_model.specs.Derivations.Sequents.{PathKind, coinductive, unknown, inductive, forced_ambiguity, Source, misc, type_relating, impl_where_bound, alias_bound_const, alias_well_formed, normalize_goal, Premise, Hidden}
use Rattle.nts_certainty.specs.nts_model.specs.Derivations.Rules.{Equation, related, alike}
use Rattle.nts_certainty.specs.nts_model.specs.Derivations.Handlers.{Cause, ambiguity, overflow, Certainty, certain, perhaps, Candidate}
use Rattle.nts_certainty.specs.declared.certainty.Certainty.{Certainty as CertaintyData}
use Rattle.nts_certainty.specs.declared.certainty.Certainty.TheVariants as certainty_data
use Rattle.nts_certainty.specs.declared.certainty.MaybeCause.{MaybeCause}
use Rattle.nts_certainty.specs.declared.certainty.MaybeCause.TheVariants as cause_data
use Rattle.nts_certainty.specs.declared.certainty.OpaqueTypesJank.{OpaqueTypesJank}
use Rattle.nts_certainty.specs.declared.certainty.OpaqueTypesJank.TheVariants as jank_data
use Rattle.nts_certainty.specs.declared.sources.PathKind.{PathKind as PathKindData}
use Rattle.nts_certainty.specs.declared.sources.PathKind.TheVariants as path_data
use Rattle.nts_certainty.specs.declared.sources.GoalSource.{GoalSource}
use Rattle.nts_certainty.specs.declared.sources.GoalSource.TheVariants as source_data
use Rattle.nts_certainty.specs.Accesses.{access_of}
use Rattle.nts_certainty.specs.nts_terms.specs.declared.handles.AliasTerm.{AliasTerm}
use Rattle.nts_certainty.specs.nts_store.specs.Growth.{tree_at}
use Rattle.nts_certainty.specs.nts_terms.specs.Kinds.{tree_of_alias}
use Rattle.nts_certainty.specs.nts_terms.specs.Modes.{numbers_of}
use Rattle.nts_candidates.specs.declared.data.Equation.{Equation as EquationData}
use Rattle.nts_candidates.specs.declared.data.EquationKind.{EquationKind}
use Rattle.nts_candidates.specs.declared.data.EquationKind.TheVariants as kind_data
use Rattle.nts_certainty.specs.nts_terms.specs.declared.handles.Ty.{Ty}
use Rattle.nts_candidates.specs.declared.data.RegionConstraint.{RegionConstraint}
use Rattle.nts_candidates.specs.declared.data.CandidateGoal.{CandidateGoal}
use Rattle.nts_candidates.specs.declared.data.CandidateData.{CandidateData}

-- how sure an answer is
abbrev pub cause_of : MaybeCause → Cause
cause_of cause_data.Ambiguity = ambiguity
cause_of (cause_data.Overflow s k) = overflow s k

abbrev pub may_be_error : OpaqueTypesJank → Bool
may_be_error jank_data.AllGood = false
may_be_error jank_data.ErrorIfRigidSelfTy = true

abbrev pub certainty_of : CertaintyData → Certainty
certainty_of certainty_data.Yes = certain
certainty_of (certainty_data.Maybe m) = perhaps (cause_of m.cause) (may_be_error m.opaque_types_jank)

-- why a goal is asked
abbrev pub path_kind_of : PathKindData → PathKind
path_kind_of path_data.Coinductive = coinductive
path_kind_of path_data.Unknown = unknown
path_kind_of path_data.Inductive = inductive
path_kind_of path_data.ForcedAmbiguity = forced_ambiguity

abbrev pub source_of : GoalSource → Source
source_of source_data.Misc = misc
source_of source_data.TypeRelating = type_relating
source_of source_data.ImplWhereBound = impl_where_bound
source_of source_data.AliasBoundConstCondition = alias_bound_const
source_of source_data.AliasWellFormed = alias_well_formed
source_of (source_data.NormalizeGoal k) = normalize_goal (path_kind_of k)

-- the parts of a candidate, whose terms are of the store
abbrev pub equation_as : EquationKind → Tree → Tree → Equation
equation_as kind_data.Related a b = related a b
equation_as kind_data.Structural a b = alike a b

abbrev pub equation_of : List Tree → EquationData → Equation
equation_of ts q = equation_as q.kind (tree_at ts q.lhs.node) (tree_at ts q.rhs.node)

abbrev pub constraint_of : List Tree → RegionConstraint → Constraint
constraint_of ts x =
    record { relation = x.relation; left = tree_at ts x.left.node; right = tree_at ts x.right.node }

abbrev pub hidden_of : List Tree → AliasTerm × Ty → Hidden
hidden_of ts h = record { key = tree_of_alias ts h.0; hidden_type = tree_at ts h.1.node }

abbrev pub premise_of : List Tree → CandidateGoal → Premise
premise_of ts q =
    record {
      source = source_of q.source;
      environment = tree_at ts q.goal.param_env.node;
      predicate = tree_at ts q.goal.predicate.node;
    }

abbrev pub candidate_of : List Tree → CandidateData → Candidate
candidate_of ts d =
    record {
      fresh = d.fresh.items;
      equations = map (equation_of ts) d.equations.items;
      constraints = map (constraint_of ts) d.region_constraints.items;
      hidden = map (hidden_of ts) d.hidden_types.items;
      goals = map (premise_of ts) d.goals.items;
      certainty = certainty_of d.certainty;
      accesses = access_of d.accesses;
    }

abbrev pub candidates_of : List Tree → List CandidateData → List Candidate
candidates_of ts ds = map (candidate_of ts) ds
