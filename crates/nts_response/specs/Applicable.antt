-- Responses that can be applied to originals, and what applying one leaves.
use Rattle.std.specs.Prelude.{◌≡◌, ℕ, ◌≤◌, Bool, List, [], ◌∷◌, ◌++◌, map, length, All}
use Rattle.nts_model.specs.declared.labels.Sort.{Sort}
use Rattle.nts_model.specs.declared.labels.Relation.{Relation}
use Rattle.nts_model.specs.declared.labels.Relation.TheVariants as relation
use Rattle.nts_model.specs.declared.labels.Leaf.{Leaf}
use Rattle.nts_model.specs.Terms.Trees.{Tree, Place, a_type, a_region, IsClosed}
use Rattle.nts_model.specs.Terms.Scoping.{IsWellBound}
use Rattle.nts_model.specs.Tables.Contents.{Content, Recorded}
use Rattle.nts_model.specs.Terms.Substitutions.{Occurs, filled}
use Rattle.nts_model.specs.Tables.Resolving.{Knows}
use Rattle.nts_model.specs.Derivations.Handlers.{NamesFresh, IsFixed, hidden_by, premise_by}
use Rattle.nts_model.specs.Derivations.Sequents.{Premise}
use Rattle.nts_model.specs.Tables.Passing.{BringsOnly}
use Rattle.nts_model.specs.Canonical.Inputs.{PositionKind}
use Rattle.nts_model.specs.Searching.Driving.{sort_at}
use Rattle.nts_model.specs.Answers.Applying.{MakesEqual, Records}
use Rattle.nts_model.specs.Tables.SubUnifying.{JoinsSubRoots}
use Rattle.nts_model.specs.Answers.Responses.{Findings, universe_of_kind, Applies, Response as Form}
use Rattle.nts_store.specs.declared.nodes.NodeId.{NodeId}
use Rattle.nts_store.specs.Filled.{HasValues}
use Rattle.nts_store.specs.Growth.{tree_at}
use Rattle.nts_terms.specs.declared.handles.AliasTerm.{AliasTerm}
use Rattle.nts_terms.specs.declared.handles.Goal.{Goal}
use Rattle.nts_terms.specs.declared.handles.Ty.{Ty}
use Rattle.nts_terms.specs.declared.modes.VisibleForLeakCheck.{VisibleForLeakCheck}
use Rattle.nts_terms.specs.Handles.{Holds}
use Rattle.nts_candidates.specs.nts_certainty.specs.declared.sources.GoalSource.{GoalSource}
use Rattle.nts_canonical.specs.nts_unify.specs.Entries.{Entries}
use Rattle.nts_canonical.specs.nts_unify.specs.Reading.{content_of}
use Rattle.nts_canonical.specs.nts_unify.specs.Changing.{AddsVisible}
use Rattle.nts_candidates.specs.declared.data.RegionConstraint.{RegionConstraint}
use Rattle.nts_candidates.specs.Offered.{hidden_of}
use Rattle.nts_canonical.specs.declared.types.Canonical.{Canonical}
use Rattle.nts_canonical.specs.Forms.{kind_of_var, hidden_pairs, AreHidden}
use Rattle.nts_response.specs.declared.types.Response.{Response}
use Rattle.nts_response.specs.Forms.{HoldsResponse, HoldsOpen, premise_at}
use Rattle.nts_response.specs.Applied.{NamesOriginal, IsFillable}
use Rattle.nts_response.specs.Opened.{IsOpenable}
use Rattle.nts_response.specs.Placing.{JoinsBy, PlacedOrOne}
use Rattle.nts_response.specs.Recorded.{sides_of, IsRecordable, AddsAllSeen}
use Rattle.nts_response.specs.Registered.{TakesAll}

-- a closed term over positions of these sorts: its leaves are regions that stay themselves, and its binders list what they bind
pub record IsOverSorts (ts : List Tree) (ss : List Sort) (t : NodeId) : Type 0 where
  pub names : NamesFresh ss (tree_at ts t)
  pub leaves : (l : Leaf) → Occurs l (tree_at ts t) → IsFixed l
  pub closed : IsClosed (tree_at ts t)
  pub well_bound : IsWellBound (tree_at ts t)

-- what may stand on the left of a constraint: a type outlives a region, other relations are between regions
abbrev pub left_place : Relation → Place
left_place relation.TypeOutlives = a_type
left_place r = a_region

pub record IsConstraintOver (ts : List Tree) (ss : List Sort) (x : RegionConstraint × VisibleForLeakCheck) : Type 0 where
  pub left : IsOverSorts ts ss x.0.left.node
  pub right : IsOverSorts ts ss x.0.right.node
  pub place : Holds (left_place x.0.relation) ts x.0.left.node

pub record IsHiddenOver (ts : List Tree) (ss : List Sort) (h : AliasTerm × Ty) : Type 0 where
  pub args : IsOverSorts ts ss h.0.args.node
  pub hidden_type : IsOverSorts ts ss h.1.node

pub record IsGoalOver (ts : List Tree) (ss : List Sort) (g : GoalSource × Goal) : Type 0 where
  pub environment : IsOverSorts ts ss g.1.param_env.node
  pub predicate : IsOverSorts ts ss g.1.predicate.node

-- a kind of a response of that greatest universe to these originals: a placeholder of the root names an original of its
-- sort
pub record IsKindFor (m : ℕ) (os : List Tree) (k : PositionKind) : Type 0 where
  pub universe : universe_of_kind k ≤ m
  pub original : NamesOriginal os k

abbrev pub response_sorts : Canonical Response → List Sort
response_sorts r = map (λ k. sort_at (kind_of_var k)) r.var_kinds.items

-- a response that can be applied to these originals: it is over positions of its kinds, and has a value for each original
pub record IsApplicable (ts : List Tree) (os : List Tree) (r : Canonical Response) : Type 0 where
  pub holds : HoldsResponse ts r.value
  pub kinds : All (λ k. IsKindFor r.max_universe os (kind_of_var k)) r.var_kinds.items
  pub values : All (λ v. IsOverSorts ts (response_sorts r) v.node) r.value.var_values.items
  pub constraints : All (IsConstraintOver ts (response_sorts r)) r.value.external_constraints.region_constraints.items
  pub hidden : All (IsHiddenOver ts (response_sorts r)) r.value.external_constraints.opaque_types.items
  pub open_goals : All (IsGoalOver ts (response_sorts r)) r.value.external_constraints.normalization_nested_goals.items
  pub long : length os ≡ length r.value.var_values.items

-- the constraints of a table to which a response was applied: those that there were, then those by which originals became equal
-- to values, which the leak check sees, and then those of the response, which it sees as told; the new ones are between closed
-- terms
pub record ShowsConstraints (xs zs : List Recorded) (r : Form) (visible : Bool) : Type 0 where
  pub equal : List Recorded
  pub related : AddsVisible xs equal
  pub seen : AddsAllSeen visible r.findings.constraints equal zs

-- goals whose terms are of the table
abbrev pub AreKnownPremises : Content → List Premise → Type 0
AreKnownPremises c [] = Unit {0}
AreKnownPremises c (p ∷ ps) = Knows c p.environment × Knows c p.predicate × AreKnownPremises c ps

-- a response was applied to originals, and these are its open goals, of the store and of the table. Values were chosen for
-- its positions: they stand in what it adds, in its hidden types and in its goals. Two variables are of one class of
-- sub-unification exactly if they were, if their positions are, if they became one, or by such variables
pub record IsResponseApplied (a b : List Tree) (e f : Entries) (os : List Tree) (r : Form) (visible : Bool) (goals : List (GoalSource × Goal)) : Type 0 where
  pub applies : Applies (content_of a e) (content_of b f) os r
  pub hidden_types : List (AliasTerm × Ty)
  pub hidden : map (hidden_of b) hidden_types ≡ map (hidden_by (filled applies.chosen)) r.findings.hidden
  pub registers : TakesAll b (content_of b f) e.hidden hidden_types f.hidden
  pub open_goals : map (premise_at b) goals ≡ map (premise_by (filled applies.chosen)) r.findings.open_goals
  pub held : All (HoldsOpen b) goals
  pub known : AreKnownPremises (content_of b f) (map (premise_at b) goals)
  pub shares : JoinsBy (PlacedOrOne (content_of a e) (content_of b f) r.kinds applies.chosen) (content_of a e) (content_of b f)
  pub shows : ShowsConstraints (content_of a e).constraints (content_of b f).constraints r visible

-- hidden types that can be filled, and are then of the table
pub record AreRegistrable (ts : List Tree) (c : Content) (xs : List Tree) (hs : List (AliasTerm × Ty)) : Type 0 where
  pub held : AreHidden ts hs
  pub positions : HasValues xs (hidden_pairs ts hs)
  pub knows : Knows c (filled xs (hidden_pairs ts hs))

-- all that a response holds can be filled
pub record IsResponseReady (ts : List Tree) (c : Content) (xs : List Tree) (r : Response) : Type 0 where
  pub holds : HoldsResponse ts r
  pub values : All (λ v. IsFillable ts c xs v.node) r.var_values.items
  pub constraints : All (IsRecordable ts c xs) r.external_constraints.region_constraints.items
  pub hidden : AreRegistrable ts c xs r.external_constraints.opaque_types.items
  pub open_goals : All (IsOpenable ts xs) r.external_constraints.normalization_nested_goals.items
  pub known : AreKnownPremises c (map (premise_by (filled xs)) (map (premise_at ts) r.external_constraints.normalization_nested_goals.items))

-- .. and was put into a table with these values in place of its positions
pub record IsPut (a b : List Tree) (e f : Entries) (os chosen : List Tree) (x : Findings) (visible : Bool) (goals : List (GoalSource × Goal)) : Type 0 where
  pub equal : Content
  pub makes : MakesEqual chosen x.values os (content_of a e) equal
  pub records : Records chosen x.constraints equal (content_of b f)
  pub joins : JoinsSubRoots (content_of a e) (content_of b f)
  pub equal_labels : BringsOnly (map (filled chosen) x.values ++ os) (content_of a e) equal
  pub recorded_labels : BringsOnly (map (filled chosen) (sides_of x.constraints)) equal (content_of b f)
  pub related : AddsVisible (content_of a e).constraints equal.constraints
  pub seen : AddsAllSeen visible x.constraints equal.constraints (content_of b f).constraints
  pub hidden_types : List (AliasTerm × Ty)
  pub hidden : map (hidden_of b) hidden_types ≡ map (hidden_by (filled chosen)) x.hidden
  pub registers : TakesAll b (content_of b f) e.hidden hidden_types f.hidden
  pub open_goals : map (premise_at b) goals ≡ map (premise_by (filled chosen)) x.open_goals
  pub held : All (HoldsOpen b) goals
  pub known : AreKnownPremises (content_of b f) (map (premise_at b) goals)
