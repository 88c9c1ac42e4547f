-- A variable that is made an alias over new variables, with which the arguments of an alias of that head are related.
use Rattle.std.specs.Prelude.{◌≡◌, ◌⊎◌, ℕ, List, length, Some}
use Rattle.nts_model.specs.declared.labels.Sort.{Sort}
use Rattle.nts_model.specs.declared.labels.Variance.{Variance}
use Rattle.nts_model.specs.declared.labels.AliasHead.{AliasHead}
use Rattle.nts_model.specs.declared.labels.ListHead.TheVariants as list
use Rattle.nts_model.specs.declared.labels.Label.TheVariants as label
use Rattle.nts_model.specs.Terms.Trees.{Tree, node, sort_of_alias, variable_tree}
use Rattle.nts_model.specs.Tables.Contents.{Content}
use Rattle.nts_model.specs.Tables.Worlds.{World, inst, Solves}
use Rattle.nts_model.specs.Tables.Equations.{AreRelated}
use Rattle.nts_model.specs.Tables.Alike.{AreAlike}
use Rattle.nts_model.specs.Tables.Tying.{TiesNew}
use Rattle.nts_model.specs.Tables.Passing.{BringsLabelsOf}
use Rattle.nts_model.specs.Derivations.Related.{alias}
use Rattle.nts_variance_model.specs.Variances.Relations.{Relating as Pair, AllSettleIn, IsSettledWorld}
use Rattle.nts_variance_model.specs.Variances.Leaving.{Judge, judging_of, Judges}
use Rattle.nts_store.specs.declared.nodes.NodeId.{NodeId}
use Rattle.nts_store.specs.Growth.{tree_at}
use Rattle.nts_terms.specs.declared.cx.Cx.{Cx}
use Rattle.nts_terms.specs.declared.handles.AliasDefId.{AliasDefId}
use Rattle.nts_terms.specs.declared.handles.AliasTerm.{AliasTerm}
use Rattle.nts_terms.specs.declared.handles.DefId.TheVariants as def
use Rattle.nts_terms.specs.declared.handles.Goal.{Goal}
use Rattle.nts_terms.specs.declared.handles.ParamEnv.{ParamEnv}
use Rattle.nts_terms.specs.Handles.{alias_head}
use Rattle.nts_terms.specs.Signatures.{Declared, declared_sorts, AreDeclared, variances_in}
use Rattle.nts_certainty.specs.declared.sources.GoalSource.{GoalSource}
use Rattle.nts_certainty.specs.declared.sources.GoalSource.TheVariants as source
use Rattle.nts_meaning.specs.nts_search.specs.declared.kinds.CurrentGoalKind.TheVariants as kind
use Rattle.nts_unify.specs.Entries.{Entries}
use Rattle.nts_unify.specs.Reading.{content_of}
use Rattle.nts_table.specs.Classes.{shallowly_resolved}
use Rattle.nts_table.specs.Fresh.{variable_kind, with_fresh, fresh_row}
use Rattle.nts_variance.specs.Rows.{argument_pairs}
use Rattle.nts_solver_relating.specs.Sides.{IsRelatedBy}
use Rattle.nts_adding.specs.Adding.{AddsEach}

-- a term that may become an alias of that head: as the table knows it, it is a type variable for an alias of types, or a const variable
-- for a const that is to be evaluated
pub record MayBecome (c : Content) (h : AliasHead) (t : Tree) : Type 0 where
  pub number : ℕ
  pub is : shallowly_resolved c t ≡ variable_tree (variable_kind (sort_of_alias h)) number

-- the alias takes arguments of these sorts
abbrev pub TakesSorts : Declared → AliasDefId → List Sort → Type 0
TakesSorts d a ss = declared_sorts d (def.Alias a) ≡ Some ss

-- new variables of these sorts, as arguments, and the alias over them, where the table has so many variables before
abbrev pub new_arguments : ℕ → List Sort → Tree
new_arguments n ss = node (label.List list.Args) (fresh_row n ss)

abbrev pub new_alias : AliasHead → ℕ → List Sort → Tree
new_alias h n ss = alias h (fresh_row n ss)

-- under the table of the content c the term is that alias over variables that the entries e lack, of the sorts that it takes
pub record IsNewAlias (d : Declared) (a : AliasDefId) (e : Entries) (c : Content) (t : Tree) : Type 0 where
  pub sorts : List Sort
  pub takes : TakesSorts d a sorts
  pub is : AreAlike c t (new_alias (alias_head a) (length e.variables) sorts)

-- the term is made the alias of that head over new variables of these sorts: the table has the solutions that one with these variables
-- more had, and in which the two are equal
pub record BecomesAlias (ts us : List Tree) (e f : Entries) (h : AliasHead) (ss : List Sort) (t : Tree) : Type 0 where
  pub made : AreRelated (content_of ts (with_fresh e ss)) (content_of us f) t (new_alias h (length e.variables) ss)
  pub ties : TiesNew (content_of ts (with_fresh e ss)) (content_of us f)
  pub labels : BringsLabelsOf (content_of ts (with_fresh e ss)) (content_of us f) t (new_alias h (length e.variables) ss)

-- the term was made an alias of the head of the alias a over new variables, and the arguments of a were related with them, which left
-- these goals
pub record RelatesRigidly (declared : Declared) (ts us : List Tree) (e f : Entries) (env : ParamEnv) (v : Variance) (a : AliasTerm) (t : NodeId) (gs : List Goal) : Type 0 where
  pub sorts : List Sort
  pub takes : TakesSorts declared a.def_id sorts
  pub store : List Tree
  pub entries : Entries
  pub becomes : BecomesAlias ts store e entries (alias_head a.def_id) sorts (tree_at ts t)
  pub related : IsRelatedBy (variances_in declared) store us entries f env v (tree_at ts a.args.node) (new_arguments (length e.variables) sorts) gs

-- .. and this stands for the goals that are left
pub record AddsRigidly (a b : Cx) (e f : Entries) (env : ParamEnv) (v : Variance) (x : AliasTerm) (t : NodeId) (added : List (GoalSource × Goal)) : Type 0 where
  pub goals : List Goal
  pub store : List Tree
  pub entries : Entries
  pub related : RelatesRigidly a.declarations a.nodes store e entries env v x t goals
  pub adds : AddsEach store b.nodes entries f kind.Misc source.TypeRelating goals added

-- no settled solution of the table makes the two trees one and relates the pairs
pub record RefusesEqual (declared : ℕ → List Variance) (c : Content) (t u : Tree) (ps : List Pair) : Type 0 where
  pub none : (j : Judge declared) (w : World) → Solves c w → Judges declared j w → IsSettledWorld (judging_of declared j) c w → inst w t ≡ inst w u → AllSettleIn (judging_of declared j) w ps → ⊥

-- in no settled solution of the table with new variables for the arguments is the term the alias over them, with arguments that settle
-- with those of the alias a
pub record RefusesAlias (declared : Declared) (ts : List Tree) (e : Entries) (a : AliasTerm) (t : NodeId) : Type 0 where
  pub sorts : List Sort
  pub takes : TakesSorts declared a.def_id sorts
  pub refuses : RefusesEqual (variances_in declared) (content_of ts (with_fresh e sorts)) (tree_at ts t) (new_alias (alias_head a.def_id) (length e.variables) sorts) (argument_pairs (tree_at ts a.args.node) (new_arguments (length e.variables) sorts))

-- why an alias and a term are refused: the alias is not as declared, the term may not become one of its head, or no settled solution
-- relates the two
abbrev pub RefusesRigidly : Declared → List Tree → Entries → AliasTerm → NodeId → Type 0
RefusesRigidly d ts e a t =
    (AreDeclared d (def.Alias a.def_id) (tree_at ts a.args.node) → ⊥)
    ⊎ ((MayBecome (content_of ts e) (alias_head a.def_id) (tree_at ts t) → ⊥) ⊎ RefusesAlias d ts e a t)
