-- What a handler means by which one trait holds where it holds.
use Rattle.std.specs.Prelude.{◌≡◌, ℕ, true, false, List, [], ◌∷◌, if◌then◌else◌}
use Rattle.nts_model.specs.Terms.Trees.{Tree}
use Rattle.nts_model.specs.Derivations.Sequents.{Premise, type_relating}
use Rattle.nts_model.specs.Derivations.Rules.{Application}
use Rattle.nts_model.specs.Derivations.Handlers.{Handler, Candidate, certain, never, never_leaks, never_at_once, no_judgements}
use Rattle.nts_marker.specs.Marking.{marks}

-- the goal itself, as relating would ask for it: by a step that is inductive
abbrev pub same_goal : Tree → Tree → Premise
same_goal e g = record { source = type_relating; environment = e; predicate = g }

-- a candidate that asks for the goal itself
abbrev pub again : Tree → Tree → Candidate
again e g = record { fresh = []; equations = []; constraints = []; hidden = []; goals = same_goal e g ∷ []; certainty = certain; accesses = never }

-- a rule of the trait, from its own conclusion
pub record IsAgain (i : ℕ) (a : Application) : Type 0 where
  pub conclusion : marks i a.conclusion ≡ true
  pub goals : a.goals ≡ same_goal a.environment a.conclusion ∷ []
  pub equations : a.equations ≡ []
  pub constraints : a.constraints ≡ []
  pub hidden : a.hidden ≡ []

abbrev pub circling : ℕ → Handler
circling i =
    record {
      applies = λ mode a. IsAgain i a;
      offers = λ mode e g. if marks i g then again e g ∷ [] else [];
      is_coinductive = λ j. false;
      leaks = never_leaks;
      judges = no_judgements;
      at_once = never_at_once;
    }
