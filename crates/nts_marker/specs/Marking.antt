-- What a handler means by which one trait holds of everything, or may.
use Rattle.std.specs.Prelude.{◌≡◌, ℕ, ◌==◌, Bool, true, false, List, [], ◌∷◌, if◌then◌else◌}
use Rattle.nts_model.specs.declared.labels.ClauseHead.TheVariants as clause
use Rattle.nts_model.specs.declared.labels.Label.TheVariants as label
use Rattle.nts_model.specs.Terms.Trees.{Tree, node}
use Rattle.nts_model.specs.Derivations.Rules.{Application, statement_of}
use Rattle.nts_model.specs.Derivations.Handlers.{Handler, Candidate, Certainty, certain, never, never_leaks, never_at_once, no_judgements}

-- whether a statement is of the trait, and whether a goal is
abbrev pub is_of : ℕ → Tree → Bool
is_of i (node (label.Clause (clause.Trait j)) ts) = j == i
is_of i t = false

abbrev pub marks : ℕ → Tree → Bool
marks i g = is_of i (statement_of g)

-- a candidate that asks for nothing, and is so sure
abbrev pub fact : Certainty → Candidate
fact c = record { fresh = []; equations = []; constraints = []; hidden = []; goals = []; certainty = c; accesses = never }

-- a rule of the trait, from nothing; where the handler is in doubt there is none
pub record IsMarked (i : ℕ) (c : Certainty) (a : Application) : Type 0 where
  pub sure : c ≡ certain
  pub conclusion : marks i a.conclusion ≡ true
  pub equations : a.equations ≡ []
  pub goals : a.goals ≡ []
  pub constraints : a.constraints ≡ []
  pub hidden : a.hidden ≡ []

abbrev pub marking : ℕ → Certainty → Handler
marking i c =
    record {
      applies = λ mode a. IsMarked i c a;
      offers = λ mode e g. if marks i g then fact c ∷ [] else [];
      is_coinductive = λ j. false;
      leaks = never_leaks;
      judges = no_judgements;
      at_once = never_at_once;
    }
