-- What a handle stands for.
use Rattle.std.specs.Prelude.{◌≡◌, List}
use Rattle.nts_model.specs.declared.labels.Sort.{Sort}
use Rattle.nts_model.specs.declared.labels.AliasHead.{AliasHead}
use Rattle.nts_model.specs.declared.labels.AliasHead.TheVariants as alias_of
use Rattle.nts_model.specs.Terms.Trees.{Tree, kind_of, arguments, environment, bound_predicate, sort_list, Place, is, any_term, any_argument, FitsPlace, a_type, a_region, a_const, a_result, sort_of_alias}
use Rattle.nts_store.specs.declared.nodes.NodeId.{NodeId}
use Rattle.nts_terms.specs.declared.handles.Ty.{Ty}
use Rattle.nts_terms.specs.declared.handles.Region.{Region}
use Rattle.nts_terms.specs.declared.handles.Const.{Const}
use Rattle.nts_terms.specs.declared.handles.Term.{Term}
use Rattle.nts_terms.specs.declared.handles.GenericArg.{GenericArg}
use Rattle.nts_terms.specs.declared.handles.GenericArgs.{GenericArgs}
use Rattle.nts_terms.specs.declared.handles.Predicate.{Predicate}
use Rattle.nts_terms.specs.declared.handles.ParamEnv.{ParamEnv}
use Rattle.nts_terms.specs.declared.handles.Goal.{Goal}
use Rattle.nts_terms.specs.declared.handles.BoundVars.{BoundVars}
use Rattle.nts_terms.specs.declared.handles.AliasDefId.{AliasDefId}
use Rattle.nts_terms.specs.declared.handles.AliasDefId.TheVariants as alias_def
use Rattle.nts_terms.specs.declared.handles.AliasTerm.{AliasTerm}
use Rattle.nts_store.specs.Growth.{tree_at, IsIn}

-- a term of the store that may stand at such a place
pub record Holds (p : Place) (ts : List Tree) (n : NodeId) : Type 0 where
  pub within : IsIn ts n
  pub fits : FitsPlace p (kind_of (tree_at ts n))

-- a type of the store
abbrev pub HoldsTy : List Tree → Ty → Type 0
HoldsTy ts t = Holds a_type ts t.node

-- a region of the store
abbrev pub HoldsRegion : List Tree → Region → Type 0
HoldsRegion ts r = Holds a_region ts r.node

-- a const of the store
abbrev pub HoldsConst : List Tree → Const → Type 0
HoldsConst ts c = Holds a_const ts c.node

-- a type or a const of the store
abbrev pub HoldsTerm : List Tree → Term → Type 0
HoldsTerm ts t = Holds any_term ts t.node

-- an argument of the store
abbrev pub HoldsArg : List Tree → GenericArg → Type 0
HoldsArg ts a = Holds any_argument ts a.node

-- a list of arguments of the store
abbrev pub HoldsArgs : List Tree → GenericArgs → Type 0
HoldsArgs ts a = Holds (is arguments) ts a.node

-- a binder's list of sorts of the store
abbrev pub HoldsVars : List Tree → BoundVars → Type 0
HoldsVars ts v = Holds (is sort_list) ts v.node

-- a predicate of the store, with its binder
abbrev pub HoldsPredicate : List Tree → Predicate → Type 0
HoldsPredicate ts p = Holds (is bound_predicate) ts p.node

-- an environment of the store
abbrev pub HoldsEnv : List Tree → ParamEnv → Type 0
HoldsEnv ts e = Holds (is environment) ts e.node

-- an alias by its head in a label
abbrev pub alias_head : AliasDefId → AliasHead
alias_head (alias_def.Ty a) = alias_of.Ty a.number
alias_head (alias_def.Const c) = alias_of.Const c.number

-- an alias of types, or a const that is to be evaluated
abbrev pub IsAliasOf : Sort → AliasDefId → Type 0
IsAliasOf s a = sort_of_alias (alias_head a) ≡ s

-- a term that the alias may stand for: a type or a const, as the alias is
abbrev pub HoldsResult : List Tree → AliasTerm → Term → Type 0
HoldsResult ts a t = Holds (a_result (alias_head a.def_id)) ts t.node

-- a goal of the store
pub record HoldsGoal (ts : List Tree) (g : Goal) : Type 0 where
  pub env : HoldsEnv ts g.param_env
  pub predicate : HoldsPredicate ts g.predicate
