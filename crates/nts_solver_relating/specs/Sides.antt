-- Terms, or lists of arguments, that are related by a variance under a table, and the predicates of the goals that this leaves.
use Rattle.std.specs.Prelude.{◌≡◌, ◌⊎◌, ℕ, ◌≤◌, length, Bool, true, false, cond, List, [], ◌∷◌, Option, Some}
use Rattle.nts_model.specs.declared.labels.Sort.{Sort}
use Rattle.nts_model.specs.declared.labels.Sort.TheVariants as sort
use Rattle.nts_model.specs.declared.labels.Variance.{Variance}
use Rattle.nts_model.specs.declared.labels.Variance.TheVariants as variance
use Rattle.nts_model.specs.declared.labels.ListHead.TheVariants as list
use Rattle.nts_model.specs.declared.labels.Label.TheVariants as label
use Rattle.nts_model.specs.Terms.Trees.{Tree, node, children, row_length, kind_of_label}
use Rattle.nts_model.specs.Tables.Contents.{Content}
use Rattle.nts_model.specs.Tables.Resolving.{Knows}
use Rattle.nts_variance_model.specs.Variances.Relations.{Relating as Pair}
use Rattle.nts_variance_model.specs.Variances.Leaving.{Refuses}
use Rattle.nts_model.specs.Tables.Equations.{AreRelated, AreUnrelated}
use Rattle.nts_model.specs.Tables.Passing.{BringsLabelsOf}
use Rattle.nts_relating.specs.Relating.{IsPlainIn}
use Rattle.nts_store.specs.declared.nodes.NodeId.{NodeId}
use Rattle.nts_store.specs.Growth.{tree_at, IsIn}
use Rattle.nts_store.specs.Sorts.{sort_of_kind}
use Rattle.nts_terms.specs.declared.handles.Goal.{Goal}
use Rattle.nts_terms.specs.declared.handles.ParamEnv.{ParamEnv}
use Rattle.nts_terms.specs.Handles.{HoldsPredicate}
use Rattle.nts_terms.specs.declared.cx.Cx.{Cx}
use Rattle.nts_terms.specs.Rest.{Grows}
use Rattle.nts_table.specs.Tables.{Table, IsTable}
use Rattle.nts_table.specs.Frames.{ChangesVariables}
use Rattle.nts_unify.specs.Entries.{Entries}
use Rattle.nts_unify.specs.Reading.{content_of}
use Rattle.nts_variance.specs.declared.along.Relating.{Relating}
use Rattle.nts_variance.specs.Terms.{pair_at, pairs_at, AreGoals, ArePairs}
use Rattle.nts_variance.specs.Due.{AreUnvaluedPairs, AreGoalsDue}
use Rattle.nts_variance.specs.Goals.{goal_of}
use Rattle.nts_variance.specs.Taking.{Takes, IsPairSide}
use Rattle.nts_variance.specs.Rows.{IsListOf, argument_pairs}

abbrev pub is_list : Tree → Bool
is_list (node (label.List list.Args) c) = true
is_list t = false

-- a const does not vary
abbrev pub variance_by : Option Sort → Variance → Variance
variance_by (Some sort.Const) v = variance.Invariant
variance_by o v = v

abbrev pub variance_at : Tree → Variance → Variance
variance_at (node l c) v = variance_by (sort_of_kind (kind_of_label l)) v
variance_at t v = v

-- what can be related: two types, regions or consts of the store and the table, or two lists of arguments
abbrev pub CanRelate : List Tree → Content → NodeId → NodeId → Type 0
CanRelate ts c a b = (IsPairSide ts c a × IsPairSide ts c b) ⊎ (IsListOf ts c a × IsListOf ts c b)

-- the pairs that are related: the two themselves, or the arguments of the two lists
abbrev pub related_pairs : Variance → Tree → Tree → List Pair
related_pairs v a b = cond (is_list a) (argument_pairs a b) (record { variance = variance_at a v; left = a; right = b } ∷ [])

abbrev pub AreOfOneLength : Tree → Tree → Type 0
AreOfOneLength a b = is_list a ≡ true → row_length (children a) ≡ row_length (children b)

-- relating them leaves goals alone: under each later table that answers the goals the pairs are related, and each settled solution in
-- which they settle goes on to one in which the goals settle
pub record SidesRelate (declared : ℕ → List Variance) (ts us : List Tree) (e f : Entries) (v : Variance) (a b : Tree) (gs : List Relating) : Type 0 where
  pub long : AreOfOneLength a b
  pub known : ArePairs us (content_of us f) gs
  pub are_goals : AreGoals (pairs_at us gs)
  pub takes : Takes declared (content_of ts e) (content_of us f) (related_pairs v a b) [] (pairs_at us gs)

-- relating two terms, or two lists, leaves these pairs as goals; they are due since each table that has no more variables than the first
-- one, and in which no variable of the sides had a value
pub record LeavesPairs (declared : ℕ → List Variance) (ts us : List Tree) (e f : Entries) (v : Variance) (a b : Tree) (gs : List Relating) : Type 0 where
  pub related : SidesRelate declared ts us e f v a b gs
  pub due : (c : Content) → length c.slots ≤ length (content_of ts e).slots → AreUnvaluedPairs c (related_pairs v a b) → AreGoalsDue c (content_of us f) (pairs_at us gs)

-- the lists are not of one length, or no settled solution of the table relates the pairs
abbrev pub RefusesSides : (ℕ → List Variance) → Content → Variance → Tree → Tree → Type 0
RefusesSides declared c v a b = (AreOfOneLength a b → ⊥) ⊎ Refuses declared c (related_pairs v a b)

-- the sides of pairs are of the store
abbrev pub AreWithin : List Tree → List Relating → Type 0
AreWithin ts [] = Unit {0}
AreWithin ts (g ∷ gs) = (IsIn ts g.left × IsIn ts g.right) × AreWithin ts gs

-- the goal of a pair in an environment, in a store that has grown
pub record IsMadeGoal (ts us : List Tree) (env : ParamEnv) (p : Relating) (g : Goal) : Type 0 where
  pub param_env : g.param_env ≡ env
  pub within : IsIn us g.predicate.node
  pub tree : tree_at us g.predicate.node ≡ goal_of (pair_at ts p)

abbrev pub AreMadeFor : List Tree → List Tree → ParamEnv → List Relating → List Goal → Type 0
AreMadeFor ts us env [] [] = Unit {0}
AreMadeFor ts us env (p ∷ ps) (g ∷ gs) = IsMadeGoal ts us env p g × AreMadeFor ts us env ps gs
AreMadeFor ts us env ps gs = ⊥

-- .. a goal of the store and the table
pub record IsGoalOfPair (ts : List Tree) (c : Content) (env : ParamEnv) (p : Relating) (g : Goal) : Type 0 where
  pub param_env : g.param_env ≡ env
  pub holds : HoldsPredicate ts g.predicate
  pub knows : Knows c (tree_at ts g.predicate.node)
  pub tree : tree_at ts g.predicate.node ≡ goal_of (pair_at ts p)

abbrev pub AreGoalsOfPairs : List Tree → Content → ParamEnv → List Relating → List Goal → Type 0
AreGoalsOfPairs ts c env [] [] = Unit {0}
AreGoalsOfPairs ts c env (p ∷ ps) (g ∷ gs) = IsGoalOfPair ts c env p g × AreGoalsOfPairs ts c env ps gs
AreGoalsOfPairs ts c env ps gs = ⊥

-- relating two terms, or two lists, left goals alone, which these are, in an environment
pub record LeavesGoals (declared : ℕ → List Variance) (ts us : List Tree) (e f : Entries) (env : ParamEnv) (v : Variance) (a b : Tree) (gs : List Goal) : Type 0 where
  pub pairs : List Relating
  pub left : LeavesPairs declared ts us e f v a b pairs
  pub goals : AreGoalsOfPairs us (content_of us f) env pairs gs

-- two terms, or the arguments of two lists, were related, and these goals alone are left, each of which is asked for: by an alias
-- without escaping bound variables; by two type variables that had no value before, or one that had none and one that was made for it;
-- or by a type variable that had no value before and has one afterwards, with another term
pub record IsRelatedBy (declared : ℕ → List Variance) (ts us : List Tree) (e f : Entries) (env : ParamEnv) (v : Variance) (a b : Tree) (gs : List Goal) : Type 0 where
  pub pairs : List Relating
  pub related : SidesRelate declared ts us e f v a b pairs
  pub goals : AreGoalsOfPairs us (content_of us f) env pairs gs
  pub due : AreGoalsDue (content_of ts e) (content_of us f) (pairs_at us pairs)

-- the two are to be made equal, and no alias stands in them, with values in place of variables
abbrev pub ArePlain : Variance → Content → Tree → Tree → Type 0
ArePlain v c a b = (v ≡ variance.Invariant) × IsPlainIn c a × IsPlainIn c b

-- the two were made equal, which leaves no goal and brings no labels but theirs and those of variables
pub record AreMadeEqual (c d : Content) (a b : Tree) (gs : List Goal) : Type 0 where
  pub none : gs ≡ []
  pub related : AreRelated c d a b
  pub labels : BringsLabelsOf c d a b

-- relating two terms of a store by a variance, from one table's entries to the other's, left these goals
abbrev pub LeavesGoalsIn : (ℕ → List Variance) → List Tree → List Tree → Entries → Entries → ParamEnv → Variance → NodeId → NodeId → List Goal → Type 0
LeavesGoalsIn declared ts us e f env v x y gs = LeavesGoals declared ts us e f env v (tree_at ts x) (tree_at ts y) gs

-- two terms of a store were related by a variance, from one table's entries to the other's, and these goals are left, each of which
-- is due
abbrev pub IsRelatedIn : (ℕ → List Variance) → List Tree → List Tree → Entries → Entries → ParamEnv → Variance → NodeId → NodeId → List Goal → Type 0
IsRelatedIn declared ts us e f env v x y gs = IsRelatedBy declared ts us e f env v (tree_at ts x) (tree_at ts y) gs

-- two terms are refused under a table of these entries: no settled solution of it relates them
abbrev pub RefusesIn : (ℕ → List Variance) → List Tree → Entries → Variance → NodeId → NodeId → Type 0
RefusesIn declared ts e v x y = RefusesSides declared (content_of ts e) v (tree_at ts x) (tree_at ts y)

-- two terms are to be made equal, and no alias stands in them, with the table's values in place of variables
abbrev pub ArePlainIn : Variance → List Tree → Entries → NodeId → NodeId → Type 0
ArePlainIn v ts e x y = ArePlain v (content_of ts e) (tree_at ts x) (tree_at ts y)

-- two terms were made equal, from one table's entries to the other's, and no goal is left
abbrev pub AreMadeEqualIn : List Tree → List Tree → Entries → Entries → NodeId → NodeId → List Goal → Type 0
AreMadeEqualIn ts us e f x y gs = AreMadeEqual (content_of ts e) (content_of us f) (tree_at ts x) (tree_at ts y) gs

-- no solution of a table of these entries makes the two terms equal
abbrev pub AreUnrelatedIn : List Tree → Entries → NodeId → NodeId → Type 0
AreUnrelatedIn ts e x y = AreUnrelated (content_of ts e) (tree_at ts x) (tree_at ts y)

-- what relating keeps, whatever it answers: the store grew at most, and the table is one of it; its snapshots, mode, current universe
-- and hidden types are as before
pub record SolverRelatingKeeps (old new : Cx) (t u : Table) : Type 0 where
  pub grows : Grows old new
  pub table : IsTable new.nodes u
  pub changes : ChangesVariables t u
