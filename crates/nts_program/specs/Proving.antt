-- Why a goal is answered as it is.
use Rattle.std.specs.Prelude.{List, All, Option}
use Rattle.nts_model.specs.Derivations.Handlers.{Handler, meaning}
use Rattle.nts_model.specs.Derivations.Proving.{HasRankedProofUnder}
use Rattle.nts_model.specs.Terms.Trees.{Tree}
use Rattle.nts_terms.specs.declared.cx.Cx.{Cx}
use Rattle.nts_terms.specs.Signatures.{variances_in}
use Rattle.nts_terms.specs.declared.handles.GenericArg.{GenericArg}
use Rattle.nts_terms.specs.declared.handles.Goal.{Goal}
use Rattle.nts_terms.specs.declared.handles.ParamEnv.{ParamEnv}
use Rattle.nts_store.specs.Growth.{tree_at, Extends}
use Rattle.nts_table.specs.Tables.{Table}
use Rattle.nts_unify.specs.Reading.{content_of}
use Rattle.nts_assembly.specs.Assembling.{assembled}
use Rattle.nts_delegate.specs.ClauseHandlers.{handler_of}
use Rattle.nts_terms.specs.Modes.{mode_of}
use Rattle.nts_delegate.specs.declared.clauses.Clauses.{Clauses}
use Rattle.nts_text.specs.declared.parser.Mode.{Mode}
use Rattle.nts_wording.specs.Found.{IsFoundIn}
use Rattle.nts_text.specs.declared.resolver.Resolved.{Resolved}
use Rattle.nts_wording.specs.Meaning.{HasOwnPlaces, HasPlace, AreVariablesFrom, IsGoalOf}
use Rattle.nts_wording.specs.declared.answer.Found.{Found}
use Rattle.nts_declaring.specs.Posing.{IsTypingMode}
use Rattle.nts_wording.specs.declared.answer.Answer.{Answer}
use Rattle.nts_wording.specs.declared.answer.Answer.TheVariants as answers

-- the rules of a run: those of the environment, and the clauses
abbrev pub rules_with : List Tree → Clauses → Handler
rules_with ts h = assembled (handler_of ts h)

-- a goal has a ranked proof by its environment, the clauses and the variances that are declared, in the mode of a table and under its values
pub record IsProvedGoal (a : Cx) (us : List Tree) (h : Clauses) (t : Table) (g : Goal) : Type 0 where
  pub store : List Tree
  pub extends : Extends a.nodes store
  pub proved : HasRankedProofUnder (meaning (rules_with store h) (variances_in a.declarations)) (mode_of t.mode) (content_of us t.entries) (tree_at us g.param_env.node) (tree_at us g.predicate.node)

-- the goal that nodes say holds in a table, which is told of the goal's variables; it is asked in the
-- environment and the mode of a line, of the first variables of that table, one for each variable of the line
pub record IsHeld (m : Mode) (env : Option ParamEnv) (rs : List Resolved) (a : Cx) (us : List Tree) (h : Clauses) (f : Found) : Type 0 where
  pub store : List Tree
  pub table : Table
  pub goal : Goal
  pub values : List GenericArg
  pub own : HasOwnPlaces f.variables
  pub placed : All (HasPlace f.variables) rs
  pub first : AreVariablesFrom 0 store f.variables.sorts.items values
  pub mode : IsTypingMode m table.mode
  pub asked : IsGoalOf store env f.variables values rs goal
  pub proved : IsProvedGoal a store h table goal
  pub found : IsFoundIn store us (content_of store table.entries) values (answers.Yes f)

-- a goal that is answered `yes` is proved
abbrev pub IsJustifiedAnswer : Mode → Option ParamEnv → List Resolved → Cx → List Tree → Clauses → Answer → Type 0
IsJustifiedAnswer m env rs a us h (answers.Yes f) = IsHeld m env rs a us h f
IsJustifiedAnswer m env rs a us h r = Unit {0}
