-- What a round of a query begins and ends with.
use Rattle.std.specs.Global.{Box}
use Rattle.std.specs.Prelude.{◌≡◌, ◌≢◌, List, [], ◌∷◌, ◌++◌, All, Option, Some, None, Result, Ok, Err}
use Rattle.nts_model.specs.Terms.Trees.{Tree}
use Rattle.nts_certainty.specs.declared.certainty.Certainty.TheVariants as certainty
use Rattle.nts_store.specs.declared.fault.EvalError.{EvalError}
use Rattle.nts_store.specs.declared.fault.EvalError.TheVariants as error
use Rattle.nts_store.specs.Growth.{tree_at}
use Rattle.nts_terms.specs.declared.handles.Goal.{Goal}
use Rattle.nts_terms.specs.declared.handles.GenericArg.{GenericArg}
use Rattle.nts_terms.specs.Modes.{mode_of}
use Rattle.nts_unify.specs.Reading.{content_of}
use Rattle.nts_table.specs.Tables.{Table}
use Rattle.nts_canonical.specs.declared.types.Canonical.{Canonical}
use Rattle.nts_canonical.specs.declared.types.CanonicalInput.{CanonicalInput}
use Rattle.nts_canonical.specs.Forms.{form_of, trees_of}
use Rattle.nts_canonical.specs.Building.{kinds_of, IsArgOf}
use Rattle.nts_response.specs.declared.types.Response.{Response}
use Rattle.nts_response.specs.Forms.{response_at}
use Rattle.nts_search.specs.declared.stack.StackEntry.{StackEntry}
use Rattle.nts_search.specs.declared.stack.SearchGraph.{SearchGraph}
use Rattle.nts_search.specs.Searching.{HoldsEntry, IsStack, KeepsRestOfGraph}
use Rattle.nts_meaning.specs.Asking.{first_table, first_values, asked_environment, asked_predicate}
use Rattle.nts_meaning.specs.Evaluation.{IsPosed}
use Rattle.nts_meaning.specs.Answering.{IsAnswerTo}
use Rattle.nts_theory.specs.Telling.{SaysNothing}

-- the table t of the store b is the first one of the query that is asked as the input of the store a; the goal is the input's there,
-- and these terms stand for the positions
pub record BeginsQuery (a b : List Tree) (i : CanonicalInput) (t : Table) (g : Goal) (qs : List GenericArg) : Type 0 where
  pub posed : IsPosed b t g
  pub first : content_of b t.entries ≡ first_table (kinds_of i)
  pub environment : tree_at b g.param_env.node ≡ asked_environment (form_of a i)
  pub predicate : tree_at b g.predicate.node ≡ asked_predicate (form_of a i)
  pub mode : mode_of t.mode ≡ mode_of i.typing_mode
  pub args : All (IsArgOf b t.entries) qs
  pub values : trees_of b qs ≡ first_values (kinds_of i)

-- the entry was the newest one, and is taken off the stack
pub record IsTakenOff (g h : SearchGraph) (x : StackEntry) : Type 0 where
  pub popped : g.stack.items ≡ h.stack.items ++ x ∷ []
  pub kept : (ts : List Tree) → IsStack ts g → IsStack ts h × HoldsEntry ts x
  pub rest : KeepsRestOfGraph g h

-- a round ends with what its table answered, or that there is no solution; other errors are no end of a round
abbrev pub EndsWith : Result (Box (Canonical Response)) EvalError → Option (Canonical Response) → Type 0
EndsWith (Ok b) o = o ≡ Some b.value
EndsWith (Err error.NoSolution) o = o ≡ None
EndsWith (Err error.Memory) o = ⊥
EndsWith (Err error.Full) o = ⊥

-- the response behind a box, unless memory is wanted
abbrev pub IsBoxed : Canonical Response → Result (Box (Canonical Response)) EvalError → Type 0
IsBoxed r (Ok b) = b.value ≡ r
IsBoxed r (Err e) = e ≢ error.NoSolution
