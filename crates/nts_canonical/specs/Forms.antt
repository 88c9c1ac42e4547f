-- What canonical inputs stand for, and which input a goal in a table is.
use Rattle.std.specs.Prelude.{List, [], ◌∷◌, map}
use Rattle.nts_model.specs.declared.labels.Sort.TheVariants as sort
use Rattle.nts_model.specs.Terms.Trees.{Tree, empty, more}
use Rattle.nts_model.specs.Canonical.Inputs.{Input, CanonicalInput as Form, PositionKind, type_variable, integer_variable, float_variable, const_variable, region_variable, placeholder}
use Rattle.nts_terms.specs.declared.handles.AliasTerm.{AliasTerm}
use Rattle.nts_terms.specs.declared.handles.Ty.{Ty}
use Rattle.nts_terms.specs.declared.handles.Goal.{Goal}
use Rattle.nts_terms.specs.declared.handles.GenericArg.{GenericArg}
use Rattle.nts_store.specs.Growth.{tree_at}
use Rattle.nts_terms.specs.Handles.{HoldsTy, HoldsArgs, HoldsPredicate, HoldsEnv, IsAliasOf}
use Rattle.nts_terms.specs.Kinds.{tree_of_alias}
use Rattle.nts_unify.specs.Entries.{Entries}
use Rattle.nts_canonical.specs.declared.types.CanonicalVarKind.{CanonicalVarKind}
use Rattle.nts_canonical.specs.declared.types.CanonicalVarKind.TheVariants as var
use Rattle.nts_canonical.specs.declared.types.QueryInput.{QueryInput}
use Rattle.nts_canonical.specs.declared.types.CanonicalInput.{CanonicalInput}
use Rattle.nts_canonical.specs.SubRoots.{sub_root_in}

-- what a kind says of its position
abbrev pub kind_of_var : CanonicalVarKind → PositionKind
kind_of_var (var.Ty u r) = type_variable u r
kind_of_var var.Int = integer_variable
kind_of_var var.Float = float_variable
kind_of_var (var.Const u) = const_variable u
kind_of_var (var.Region u) = region_variable u
kind_of_var (var.PlaceholderTy p) = placeholder sort.Ty p.universe p.bound.var
kind_of_var (var.PlaceholderRegion p) = placeholder sort.Region p.universe p.bound.var
kind_of_var (var.PlaceholderConst p) = placeholder sort.Const p.universe p.bound.var

-- hidden types as one row: an alias and its type, and so on
abbrev pub hidden_pairs : List Tree → List (AliasTerm × Ty) → Tree
hidden_pairs ts [] = empty
hidden_pairs ts (h ∷ hs) = more (tree_of_alias ts h.0) (more (tree_at ts h.1.node) (hidden_pairs ts hs))

-- the environment, the predicate and the hidden types of a query, as one row
abbrev pub query_tree : List Tree → QueryInput → Tree
query_tree ts q =
    more (tree_at ts q.goal.param_env.node) (more (tree_at ts q.goal.predicate.node) (more (hidden_pairs ts q.predefined_opaques_in_body.items) empty))

-- what a canonical input stands for in a store
abbrev pub form_of : List Tree → CanonicalInput → Form
form_of ts c =
    record {
      environment = tree_at ts c.canonical.value.goal.param_env.node;
      predicate = tree_at ts c.canonical.value.goal.predicate.node;
      hidden = hidden_pairs ts c.canonical.value.predefined_opaques_in_body.items;
      kinds = map kind_of_var c.canonical.var_kinds.items;
    }

-- the input that a goal in a table is, with hidden types
abbrev pub input_of : List Tree → Entries → Goal → List (AliasTerm × Ty) → Input
input_of ts e g hs =
    record {
      environment = tree_at ts g.param_env.node;
      predicate = tree_at ts g.predicate.node;
      hidden = hidden_pairs ts hs;
      sub_root = sub_root_in e;
    }

-- the trees of arguments
abbrev pub trees_of : List Tree → List GenericArg → List Tree
trees_of ts xs = map (λ x. tree_at ts x.node) xs

-- hidden types are of the store, each behind an alias of types
pub record IsHidden (ts : List Tree) (h : AliasTerm × Ty) : Type 0 where
  pub of_types : IsAliasOf sort.Ty h.0.def_id
  pub args : HoldsArgs ts h.0.args
  pub hidden_type : HoldsTy ts h.1

abbrev pub AreHidden : List Tree → List (AliasTerm × Ty) → Type 0
AreHidden ts [] = Unit {0}
AreHidden ts (h ∷ hs) = IsHidden ts h × AreHidden ts hs

-- the terms of a query are of the store
pub record HoldsQuery (ts : List Tree) (q : QueryInput) : Type 0 where
  pub environment : HoldsEnv ts q.goal.param_env
  pub predicate : HoldsPredicate ts q.goal.predicate
  pub hidden : AreHidden ts q.predefined_opaques_in_body.items
