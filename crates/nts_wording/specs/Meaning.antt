-- What the nodes of a line mean as terms.
use Rattle.std.specs.Prelude.{◌≡◌, ℕ, suc, ◌<◌, ◌≤◌, All, length, List, [], ◌∷◌, Option, None, Some, map, reverse, take, drop, slice_get}
use Rattle.std.specs.Global.{Vec}
use Rattle.nts_model.specs.declared.labels.Sort.{Sort}
use Rattle.nts_model.specs.declared.labels.Sort.TheVariants as sort
use Rattle.nts_model.specs.declared.labels.Label.TheVariants as label
use Rattle.nts_model.specs.declared.labels.Leaf.TheVariants as leaf
use Rattle.nts_model.specs.declared.labels.FreeRegion.TheVariants as free
use Rattle.nts_model.specs.declared.labels.Constant.TheVariants as constant
use Rattle.nts_model.specs.declared.labels.BoundVarIndexKind.TheVariants as index
use Rattle.nts_model.specs.declared.labels.TyHead.TheVariants as ty
use Rattle.nts_model.specs.declared.labels.ClauseHead.TheVariants as clause
use Rattle.nts_model.specs.declared.labels.ListHead.TheVariants as list
use Rattle.nts_model.specs.Canonical.Numbered.{position}
use Rattle.nts_model.specs.Terms.Trees.{Tree, empty, more, node, variable_tree}
use Rattle.nts_table.specs.Fresh.{variable_kind}
use Rattle.nts_delegate.specs.declared.alias_table.NormClause.{NormClause}
use Rattle.nts_delegate.specs.declared.clauses.Clause.{Clause}
use Rattle.nts_terms.specs.Handles.{alias_head}
use Rattle.nts_model.specs.declared.labels.AliasHead.TheVariants as alias
use Rattle.nts_terms.specs.declared.handles.GenericArg.{GenericArg}
use Rattle.nts_terms.specs.declared.handles.GenericArgs.{GenericArgs}
use Rattle.nts_terms.specs.declared.kinds.ClauseKind.{ClauseKind}
use Rattle.nts_store.specs.declared.nodes.NodeId.{NodeId}
use Rattle.nts_store.specs.Growth.{tree_at, Extends}
use Rattle.nts_terms.specs.Kinds.{tree_of_clause, tree_of_vars}
use Rattle.nts_terms.specs.declared.handles.Goal.{Goal}
use Rattle.nts_terms.specs.declared.handles.ParamEnv.{ParamEnv}
use Rattle.nts_terms.specs.declared.handles.Predicate.{Predicate}
use Rattle.nts_text.specs.declared.resolver.Resolved.{Resolved}
use Rattle.nts_text.specs.declared.resolver.Resolved.TheVariants as nodes
use Rattle.nts_wording.specs.declared.build.BoundClause.{BoundClause}
use Rattle.nts_wording.specs.declared.variables.LineVariables.{LineVariables}

-- what the variables of a line stand for, by number
pub record Values : Type 0 where
  pub types : ℕ → Tree
  pub regions : ℕ → Tree

-- the list of these arguments
abbrev pub argument_row : List Tree → Tree
argument_row [] = empty
argument_row (t ∷ ts) = more t (argument_row ts)

abbrev pub argument_list : List Tree → Tree
argument_list ts = node (label.List list.Args) (argument_row ts)

-- how many arguments a node takes
abbrev pub argument_count : Resolved → ℕ
argument_count (nodes.Trait i n) = n
argument_count (nodes.Ctor i n) = n
argument_count (nodes.Alias i n) = n
argument_count (nodes.Normalizes i n) = suc n
argument_count nodes.TypeOutlives = 2
argument_count nodes.RegionOutlives = 2
argument_count r = 0

-- the term that a node means, with these arguments: a bound variable is of the innermost binder, that of
-- its predicate; a name that a binder is to bind is no term
abbrev pub term_of : Values → Resolved → List Tree → Tree
term_of v (nodes.Binds s) args = empty
term_of v (nodes.BoundType i) args = node (label.Bound sort.Ty (index.Bound 0) i) empty
term_of v (nodes.BoundRegion i) args = node (label.Bound sort.Region (index.Bound 0) i) empty
term_of v (nodes.Trait i n) args = node (label.Clause (clause.Trait i)) (more (argument_list args) empty)
term_of v nodes.TypeOutlives args = node (label.Clause clause.TypeOutlives) (argument_row args)
term_of v nodes.RegionOutlives args = node (label.Clause clause.RegionOutlives) (argument_row args)
term_of v (nodes.Ctor i n) args = node (label.Ty (ty.Ctor i)) (more (argument_list args) empty)
term_of v (nodes.Alias i n) args = node (label.Ty (ty.Alias i)) (more (argument_list args) empty)
term_of v (nodes.Normalizes i n) args =
    node (label.Clause (clause.Projection (alias.Ty i))) (more (argument_list (take n args)) (argument_row (drop n args)))
term_of v (nodes.Int i) args = node (label.Ty (ty.Int i)) empty
term_of v (nodes.Uint i) args = node (label.Ty (ty.Uint i)) empty
term_of v (nodes.TypeVariable i) args = v.types i
term_of v (nodes.TypeParam i) args = node (label.Leaf (leaf.TyConstant (constant.Param i))) empty
term_of v (nodes.RegionVariable i) args = v.regions i
term_of v (nodes.RegionParam i) args = node (label.Leaf (leaf.Region (free.EarlyParam i))) empty
term_of v nodes.Static args = node (label.Leaf (leaf.Region free.Static)) empty

-- what a predicate states, and the sorts of the variables that its binder binds, in order
pub record BoundStatement : Type 0 where
  pub binds : List Sort
  pub statement : Tree

abbrev pub binding_nothing : Tree → BoundStatement
binding_nothing t = record { binds = []; statement = t }

-- the predicate
abbrev pub predicate_tree : BoundStatement → Tree
predicate_tree b = node (label.List list.Binder) (more (tree_of_vars b.binds) (more b.statement empty))

-- the first of these binds one variable more, before the others that it binds
abbrev pub binding_first : Sort → List BoundStatement → List BoundStatement
binding_first s [] = []
binding_first s (b ∷ bs) = record b { binds = s ∷ b.binds } ∷ bs

-- what nodes mean: arguments, which a node before them may take, and predicates
pub record NodesMeaning : Type 0 where
  pub arguments : List Tree
  pub predicates : List BoundStatement

-- a predicate takes its arguments, and binds nothing as yet
abbrev pub statement_before : Values → Resolved → NodesMeaning → NodesMeaning
statement_before v r m = record {
  arguments = drop (argument_count r) m.arguments;
  predicates = binding_nothing (term_of v r (take (argument_count r) m.arguments)) ∷ m.predicates;
}

-- a node takes as many arguments as it has from the front of those that stand behind it, and a name that
-- a binder is to bind is bound in the predicate behind it
abbrev pub meaning_before : Values → Resolved → NodesMeaning → NodesMeaning
meaning_before v (nodes.Binds s) m = record m { predicates = binding_first s m.predicates }
meaning_before v (nodes.Trait i n) m = statement_before v (nodes.Trait i n) m
meaning_before v nodes.TypeOutlives m = statement_before v nodes.TypeOutlives m
meaning_before v nodes.RegionOutlives m = statement_before v nodes.RegionOutlives m
meaning_before v (nodes.Normalizes i n) m = statement_before v (nodes.Normalizes i n) m
meaning_before v r m = record {
  arguments = term_of v r (take (argument_count r) m.arguments) ∷ drop (argument_count r) m.arguments;
  predicates = m.predicates;
}

abbrev pub nodes_meaning : Values → List Resolved → NodesMeaning
nodes_meaning v [] = record { arguments = []; predicates = [] }
nodes_meaning v (r ∷ rs) = meaning_before v r (nodes_meaning v rs)

-- the tree of the value at a place
abbrev pub tree_of_value : List Tree → Option GenericArg → Tree
tree_of_value ts None = empty
tree_of_value ts (Some a) = tree_at ts a.node

abbrev pub tree_at_place : List Tree → List GenericArg → Option ℕ → Tree
tree_at_place ts values None = empty
tree_at_place ts values (Some place) = tree_of_value ts (slice_get values place)

-- the values of the variables of a line, each at its variable's place
abbrev pub values_in : List Tree → LineVariables → List GenericArg → Values
values_in ts variables values = record {
  types = λ i. tree_at_place ts values (slice_get variables.types.items i);
  regions = λ i. tree_at_place ts values (slice_get variables.regions.items i);
}

-- the places are of this sort, and no two are the same
pub record AreOwnPlaces (s : Sort) (sorts : List Sort) (places : List ℕ) : Type 0 where
  pub sorted : (i p : ℕ) → slice_get places i ≡ Some p → slice_get sorts p ≡ Some s
  pub apart : (i j p : ℕ) → slice_get places i ≡ Some p → slice_get places j ≡ Some p → i ≡ j

-- each variable of a line has a place of its own, of its sort
pub record HasOwnPlaces (v : LineVariables) : Type 0 where
  pub types : AreOwnPlaces sort.Ty v.sorts.items v.types.items
  pub regions : AreOwnPlaces sort.Region v.sorts.items v.regions.items

-- where the node is a variable, it has a place
abbrev pub HasPlace : LineVariables → Resolved → Type 0
HasPlace v (nodes.TypeVariable i) = i < length v.types.items
HasPlace v (nodes.RegionVariable i) = i < length v.regions.items
HasPlace v r = Unit {0}

-- variables that have places keep them
pub record KeepsPlaces (old new : LineVariables) : Type 0 where
  pub types : length old.types.items ≤ length new.types.items
  pub regions : length old.regions.items ≤ length new.regions.items

-- a tree for each sort, with consecutive numbers
abbrev pub trees_from : (Sort → ℕ → Tree) → ℕ → List Sort → List Tree
trees_from f n [] = []
trees_from f n (s ∷ ss) = f s n ∷ trees_from f (suc n) ss

-- the values are variables of a table with consecutive numbers, one for each sort
abbrev pub AreVariablesFrom : ℕ → List Tree → List Sort → List GenericArg → Type 0
AreVariablesFrom n ts sorts values =
    map (λ a. tree_at ts a.node) values ≡ trees_from (λ s k. variable_tree (variable_kind s) k) n sorts

-- the values are the positions of a clause, one for each sort
abbrev pub AreClausePositions : List Tree → List Sort → List GenericArg → Type 0
AreClausePositions ts sorts values = map (λ a. tree_at ts a.node) values ≡ trees_from position 0 sorts

-- the trees of arguments, the last one first
abbrev pub made_trees : List Tree → Vec GenericArg → List Tree
made_trees ts made = map (λ a. tree_at ts a.node) (reverse made.items)

-- what is stated under a binder, whose variables are kept from the last to the first
abbrev pub clause_statement : List Tree → BoundClause → BoundStatement
clause_statement ts b = record { binds = reverse b.binds.items; statement = tree_of_clause ts b.clause }

abbrev pub statements : List Tree → List BoundClause → List BoundStatement
statements ts clauses = map (clause_statement ts) clauses

-- the last predicate binds one variable more, before the others that it binds
abbrev pub BindsFirst : Sort → List BoundClause → List BoundClause → Type 0
BindsFirst s old new = (ts : List Tree) → statements ts (reverse new) ≡ binding_first s (statements ts (reverse old))

-- so many arguments are taken from the end, here and in each later store
abbrev pub TakesArguments : List Tree → Vec GenericArg → Vec GenericArg → ℕ → GenericArgs → Type 0
TakesArguments ts old new count args =
    (us : List Tree) → Extends ts us
    → (tree_at us args.node ≡ argument_list (take count (made_trees us old))) × (made_trees us new ≡ drop count (made_trees us old))

-- an argument is made, of those that were made last, here and in each later store; a predicate is none,
-- nor is what its binder is to bind
abbrev pub MakesArgument : List Tree → LineVariables → List GenericArg → Resolved → Vec GenericArg → Vec GenericArg → GenericArg → Type 0
MakesArgument ts variables values (nodes.Binds s) old new a = ⊥
MakesArgument ts variables values (nodes.Trait i n) old new a = ⊥
MakesArgument ts variables values nodes.TypeOutlives old new a = ⊥
MakesArgument ts variables values nodes.RegionOutlives old new a = ⊥
MakesArgument ts variables values (nodes.Normalizes i n) old new a = ⊥
MakesArgument ts variables values r old new a =
    (us : List Tree) → Extends ts us
    → (tree_at us a.node ≡ term_of (values_in us variables values) r (take (argument_count r) (made_trees us old)))
    × (made_trees us new ≡ drop (argument_count r) (made_trees us old))

-- the argument that was made last is taken
abbrev pub TakesLast : Vec GenericArg → Vec GenericArg → NodeId → Type 0
TakesLast old new n = (us : List Tree) → made_trees us old ≡ tree_at us n ∷ made_trees us new

-- a predicate is stated, of the arguments that were made last, here and in each later store
abbrev pub StatesOf : List Tree → Resolved → Vec GenericArg → Vec GenericArg → ClauseKind → Type 0
StatesOf ts r old new c =
    (us : List Tree) (v : Values) → Extends ts us
    → (tree_of_clause us c ≡ term_of v r (take (argument_count r) (made_trees us old)))
    × (made_trees us new ≡ drop (argument_count r) (made_trees us old))

abbrev pub MakesStatement : List Tree → Resolved → Vec GenericArg → Vec GenericArg → ClauseKind → Type 0
MakesStatement ts (nodes.Trait i n) old new c = StatesOf ts (nodes.Trait i n) old new c
MakesStatement ts nodes.TypeOutlives old new c = StatesOf ts nodes.TypeOutlives old new c
MakesStatement ts nodes.RegionOutlives old new c = StatesOf ts nodes.RegionOutlives old new c
MakesStatement ts (nodes.Normalizes i n) old new c = StatesOf ts (nodes.Normalizes i n) old new c
MakesStatement ts r old new c = ⊥

-- predicates are what nodes say, here and in each later store
abbrev pub AreSaid : List Tree → LineVariables → List GenericArg → List Resolved → List BoundClause → Type 0
AreSaid ts variables values rs clauses =
    (us : List Tree) → Extends ts us → statements us clauses ≡ (nodes_meaning (values_in us variables values) rs).predicates

abbrev pub empty_environment : Tree
empty_environment = node (label.List list.Env) empty

-- this environment is assumed, or nothing
abbrev pub IsGivenEnvironment : List Tree → Option ParamEnv → ParamEnv → Type 0
IsGivenEnvironment ts None e = tree_at ts e.node ≡ empty_environment
IsGivenEnvironment ts (Some f) e = e ≡ f

-- the one predicate that nodes say, which a goal asks in this environment, or in the empty one
pub record IsGoalOf (ts : List Tree) (env : Option ParamEnv) (variables : LineVariables) (values : List GenericArg) (rs : List Resolved) (g : Goal) : Type 0 where
  pub said : map predicate_tree (nodes_meaning (values_in ts variables values) rs).predicates ≡ tree_at ts g.predicate.node ∷ []
  pub assumed : IsGivenEnvironment ts env g.param_env

-- here and in each later store
abbrev pub IsGoalFor : List Tree → Option ParamEnv → LineVariables → List GenericArg → List Resolved → Goal → Type 0
IsGoalFor ts env variables values rs g = (us : List Tree) → Extends ts us → IsGoalOf us env variables values rs g

-- no variable stands for anything
abbrev pub no_values : Values
no_values = record { types = λ i. empty; regions = λ i. empty }

-- the environment of the predicates that nodes say, in order; they name no variables
abbrev pub environment_tree : List Tree → Tree
environment_tree ps = node (label.List list.Env) (argument_row ps)

abbrev pub IsEnvironmentOf : List Tree → List Resolved → ParamEnv → Type 0
IsEnvironmentOf ts rs e = tree_at ts e.node ≡ environment_tree (map predicate_tree (nodes_meaning no_values rs).predicates)

-- here and in each later store
abbrev pub IsEnvironmentFor : List Tree → List Resolved → ParamEnv → Type 0
IsEnvironmentFor ts rs e = (us : List Tree) → Extends ts us → IsEnvironmentOf us rs e

abbrev pub States : List Tree → BoundClause → Predicate → Type 0
States ts b p = (us : List Tree) → Extends ts us → tree_at us p.node ≡ predicate_tree (clause_statement us b)

-- predicates are what nodes say, here and in each later store
abbrev pub AreConditions : List Tree → LineVariables → List GenericArg → List Resolved → List Predicate → Type 0
AreConditions ts variables values rs ps =
    (us : List Tree) → Extends ts us
    → map (λ p. tree_at us p.node) ps ≡ map predicate_tree (nodes_meaning (values_in us variables values) rs).predicates

-- the head of a clause, as a predicate
abbrev pub head_of : List Tree → Clause → Tree
head_of ts c = node (label.Clause (clause.Trait c.trait_id.number)) (more (tree_at ts c.head.node) empty)

-- a rule has a variable for each variable of the nodes, its head states the one predicate that the first nodes
-- say, which binds nothing, and its conditions are those that the others say, in order
pub record IsStatedRule (ts : List Tree) (first others : List Resolved) (fresh : List Sort) (stated : Tree) (conditions : List Predicate) : Type 0 where
  pub variables : LineVariables
  pub values : List GenericArg
  pub own : HasOwnPlaces variables
  pub placed : All (HasPlace variables) first × All (HasPlace variables) others
  pub sorts : fresh ≡ variables.sorts.items
  pub positions : AreClausePositions ts fresh values
  pub head : (nodes_meaning (values_in ts variables values) first).predicates ≡ binding_nothing stated ∷ []
  pub body : map (λ p. tree_at ts p.node) conditions ≡ map predicate_tree (nodes_meaning (values_in ts variables values) others).predicates

-- the clause of a trait is such a rule
abbrev pub IsRuleOf : List Tree → List Resolved → List Resolved → Clause → Type 0
IsRuleOf ts first others c = IsStatedRule ts first others c.fresh.items (head_of ts c) c.body.items

-- here and in each later store
abbrev pub IsRuleFor : List Tree → List Resolved → List Resolved → Clause → Type 0
IsRuleFor ts head body c = (us : List Tree) → Extends ts us → IsRuleOf us head body c

-- what a clause says of an alias, as a predicate: with the arguments of its head it normalizes to the result
abbrev pub value_of : List Tree → NormClause → Tree
value_of ts c =
    node (label.Clause (clause.Projection (alias_head c.alias))) (more (tree_at ts c.head.node) (more (tree_at ts c.result.node) empty))

-- the clause of an alias is such a rule, which states that
abbrev pub IsNormRuleOf : List Tree → List Resolved → List Resolved → NormClause → Type 0
IsNormRuleOf ts first others c = IsStatedRule ts first others c.fresh.items (value_of ts c) c.body.items

abbrev pub IsNormRuleFor : List Tree → List Resolved → List Resolved → NormClause → Type 0
IsNormRuleFor ts head body c = (us : List Tree) → Extends ts us → IsNormRuleOf us head body c
