-- How often a query was evaluated before, and what its rounds begin with.
use Rattle.std.specs.Prelude.{◌≡◌, ℕ, List, Option, Some}
use Rattle.nts_model.specs.Terms.Trees.{Tree}
use Rattle.nts_certainty.specs.declared.certainty.Certainty.TheVariants as certainty
use Rattle.nts_canonical.specs.declared.types.Canonical.{Canonical}
use Rattle.nts_canonical.specs.declared.types.CanonicalInput.{CanonicalInput}
use Rattle.nts_canonical.specs.Building.{kinds_of}
use Rattle.nts_meaning.specs.nts_response.specs.declared.types.Response.{Response}
use Rattle.nts_meaning.specs.nts_response.specs.Forms.{response_at}
use Rattle.nts_meaning.specs.Answering.{IsAnswerTo}
use Rattle.nts_theory.specs.Telling.{SaysNothing}
use Rattle.nts_asking.specs.declared.round.Round.{Round}
use Rattle.nts_asking.specs.declared.round.Ended.{Ended}

-- how many rounds of a query ended before this one
abbrev pub rounds_before : Round → ℕ
rounds_before x = x.before

-- a query before its first round: a cycle back to it is answered a yes that says nothing
pub record IsFirstRound (ts : List Tree) (i : CanonicalInput) (x : Round) : Type 0 where
  pub input : x.input ≡ i
  pub answer : Canonical Response
  pub is : x.provisional ≡ Some answer
  pub fits : IsAnswerTo ts (kinds_of i) answer
  pub nothing : SaysNothing (kinds_of i) (response_at ts answer)
  pub certain : answer.value.certainty ≡ certainty.Yes
  pub before : rounds_before x ≡ 0

-- .. and before the one after that which ended so: a cycle back to it is answered what that one found
pub record IsNextRound (e : Ended) (x : Round) : Type 0 where
  pub input : x.input ≡ e.entry.input
  pub answer : x.provisional ≡ e.answer
  pub before : rounds_before x ≡ e.entry.round
