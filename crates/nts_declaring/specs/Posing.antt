-- How a goal is posed.
use Rattle.std.specs.Prelude.{◌≡◌, List, [], All, Option}
use Rattle.nts_model.specs.Terms.Trees.{Tree}
use Rattle.nts_terms.specs.declared.handles.ParamEnv.{ParamEnv}
use Rattle.nts_terms.specs.declared.modes.TypingMode.{TypingMode}
use Rattle.nts_terms.specs.declared.modes.TypingMode.TheVariants as typing
use Rattle.nts_store.specs.Growth.{Extends}
use Rattle.nts_table.specs.Tables.{IsTable}
use Rattle.nts_terms.specs.Handles.{HoldsGoal}
use Rattle.nts_text.specs.declared.parser.Mode.{Mode}
use Rattle.nts_text.specs.declared.parser.Mode.TheVariants as modes
use Rattle.nts_wording.specs.Found.{IsKnownValue}
use Rattle.nts_text.specs.declared.resolver.Resolved.{Resolved}
use Rattle.nts_wording.specs.Meaning.{HasOwnPlaces, HasPlace, AreVariablesFrom, IsGoalFor}
use Rattle.nts_declaring.specs.declared.posing.Posed.{Posed}

-- the mode that a line names, with no hidden types
abbrev pub IsTypingMode : Mode → TypingMode → Type 0
IsTypingMode modes.Coherence typing.Coherence = Unit {0}
IsTypingMode modes.Analysis (typing.Analysis hidden) = hidden.items ≡ []
IsTypingMode modes.PostAnalysis typing.PostAnalysis = Unit {0}
IsTypingMode m t = ⊥

-- the goal that nodes say, in the environment and the mode of a line, of the first variables of a table,
-- one for each variable of the line; the table is one of the store, and knows the variables
pub record IsPosedLine (m : Mode) (env : Option ParamEnv) (rs : List Resolved) (ts : List Tree) (p : Posed) : Type 0 where
  pub table : IsTable ts p.table
  pub values : All (λ v. IsKnownValue ts p.table v) p.values.items
  pub holds : HoldsGoal ts p.goal
  pub own : HasOwnPlaces p.variables
  pub placed : All (HasPlace p.variables) rs
  pub first : (us : List Tree) → Extends ts us → AreVariablesFrom 0 us p.variables.sorts.items p.values.items
  pub mode : IsTypingMode m p.table.mode
  pub asked : IsGoalFor ts env p.variables p.values.items rs p.goal
