-- Candidates of the store whose equations relate aliases: what is made equal of them, and what is related.
use Rattle.std.specs.Prelude.{◌≡◌, Bool, true, false, List, [], ◌∷◌, ◌++◌, if◌then◌else◌, map}
use Rattle.nts_model.specs.declared.labels.Label.TheVariants as label
use Rattle.nts_model.specs.declared.labels.ListHead.TheVariants as list
use Rattle.nts_model.specs.declared.labels.Variance.TheVariants as variance
use Rattle.nts_model.specs.Terms.Trees.{Tree, node, IsFormed}
use Rattle.nts_model.specs.Terms.Substitutions.{filled}
use Rattle.nts_model.specs.Tables.Passing.{BringsOnly}
use Rattle.nts_model.specs.Tables.Contents.{Content}
use Rattle.nts_model.specs.Tables.Holding.{Continues}
use Rattle.nts_theory.specs.RelatingCandidates.{relates_aliases, goals_with, IsBegunByRelating, AreEqualities}
use Rattle.nts_store.specs.declared.nodes.NodeId.{NodeId}
use Rattle.nts_store.specs.Growth.{tree_at, trees_at}
use Rattle.nts_certainty.specs.declared.sources.GoalSource.{GoalSource}
use Rattle.nts_terms.specs.declared.cx.Cx.{Cx}
use Rattle.nts_terms.specs.declared.handles.Goal.{Goal}
use Rattle.nts_terms.specs.Rest.{Grows}
use Rattle.nts_terms.specs.Signatures.{variances_in}
use Rattle.nts_unify.specs.Reading.{content_of}
use Rattle.nts_table.specs.Tables.{Table}
use Rattle.nts_candidates.specs.declared.data.Equation.{Equation}
use Rattle.nts_candidates.specs.declared.data.CandidateData.{CandidateData}
use Rattle.nts_candidates.specs.Offered.{equation_of, premise_of, candidate_of}
use Rattle.nts_delegate.specs.Candidates.{IsCandidate}
use Rattle.nts_solver_relating.specs.Sides.{IsRelatedBy}
use Rattle.nts_meaning.specs.Evaluation.{Runs, AreValues, asked_terms, goals_at}
use Rattle.nts_meaning.specs.Running.{EquatesEach, Constrains}
use Rattle.nts_trying.specs.Outliving.{IsClosedEnv}
use Rattle.nts_trying.specs.Stepping.{ArePosed, terms_of}
use Rattle.nts_trying.specs.Subtyping.{with_source}

-- the equations that relate aliases, and those that do not
abbrev pub aliased_data : List Tree → List Equation → List Equation
aliased_data ts [] = []
aliased_data ts (q ∷ qs) = if relates_aliases (equation_of ts q) then q ∷ aliased_data ts qs else aliased_data ts qs

abbrev pub plain_data : List Tree → List Equation → List Equation
plain_data ts [] = []
plain_data ts (q ∷ qs) = if relates_aliases (equation_of ts q) then plain_data ts qs else q ∷ plain_data ts qs

abbrev pub left_node : Equation → NodeId
left_node q = q.lhs.node

abbrev pub right_node : Equation → NodeId
right_node q = q.rhs.node

-- a candidate that has the variables and the plain equations of another one, and nothing else
pub record IsPlainPart (ts : List Tree) (g : Goal) (x y : CandidateData) : Type 0 where
  pub fresh : y.fresh.items ≡ x.fresh.items
  pub equations : y.equations.items ≡ plain_data ts x.equations.items
  pub candidate : IsCandidate ts g y

-- lists of the sides of equations, with the values in place of positions, in the store us that has grown from ts
abbrev pub list_of : Tree → Tree
list_of row = node (label.List list.Args) row

abbrev pub left_list : List Tree → List NodeId → List Equation → Tree
left_list ts vs qs = filled (map (tree_at ts) vs) (list_of (trees_at ts (map left_node qs)))

abbrev pub right_list : List Tree → List NodeId → List Equation → Tree
right_list ts vs qs = filled (map (tree_at ts) vs) (list_of (trees_at ts (map right_node qs)))

-- the equations were related, with the values in place of their positions, in the environment of the goal, and these goals are left
pub record RelatesEquations (a b : Cx) (t u : Table) (g : Goal) (vs : List NodeId) (qs : List Equation) (left : List (GoalSource × Goal)) : Type 0 where
  pub goals : List Goal
  pub are : left ≡ with_source goals
  pub related : IsRelatedBy (variances_in a.declarations) a.nodes b.nodes t.entries u.entries g.param_env variance.Invariant (left_list a.nodes vs qs) (right_list a.nodes vs qs) goals
  pub formed_left : IsFormed (left_list a.nodes vs qs)
  pub formed_right : IsFormed (right_list a.nodes vs qs)

-- a candidate was run by relating, from the table t to the table u: its plain part was made equal, its constraints were recorded, which came to
-- the table `held` of the store `at`; then its other equations were related, and what is left of that is followed by its own goals
pub record RunsByRelating (a b : Cx) (t u : Table) (g : Goal) (x : CandidateData) (left : List (GoalSource × Goal)) : Type 0 where
  pub values : List NodeId
  pub at : Cx
  pub related_in : Cx
  pub held : Table
  pub before : Runs a at t held
  pub during : Runs at related_in held u
  pub after : Grows related_in b
  pub known : AreValues at.nodes held x.fresh.items values
  pub equal : EquatesEach a.nodes at.nodes held values (plain_data a.nodes x.equations.items)
  pub constrains : Constrains a.nodes at.nodes held values x.region_constraints.items
  pub related : List (GoalSource × Goal)
  pub own : List (GoalSource × Goal)
  pub relates : RelatesEquations at related_in held u g values (aliased_data a.nodes x.equations.items) related
  pub goals : goals_at b.nodes own ≡ goals_with (map (tree_at at.nodes) values) (map (premise_of a.nodes) x.goals.items)
  pub own_posed : ArePosed b.nodes u own
  pub are : left ≡ related ++ own

-- .. and begun so. The goals that are left have no labels but those of the goal; `equal` is whether those that relating left say each
-- that an alias is equal to a term in which no alias stands, or to another alias
pub record BeginsByRelating (a b : Cx) (t u : Table) (g : Goal) (x : CandidateData) (left : List (GoalSource × Goal)) (equal : Bool) : Type 0 where
  pub posed : ArePosed b.nodes u left
  pub begun : IsBegunByRelating (variances_in a.declarations) (content_of a.nodes t.entries) (tree_at a.nodes g.param_env.node) (candidate_of a.nodes x) (content_of b.nodes u.entries) (goals_at b.nodes left)
  pub labels : {d : Content} → BringsOnly (terms_of b.nodes left) (content_of b.nodes u.entries) d → BringsOnly (asked_terms a.nodes g) (content_of a.nodes t.entries) d
  pub runs : RunsByRelating a b t u g x left
  pub continues : Continues begun.before (content_of b.nodes u.entries)
  pub equalities : equal ≡ true → AreEqualities (content_of b.nodes u.entries) begun.goals
  pub others : equal ≡ false → IsClosedEnv (tree_at a.nodes g.param_env.node) → AreEqualities (content_of b.nodes u.entries) begun.goals → ⊥
