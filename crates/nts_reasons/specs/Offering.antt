-- What is offered for a goal of a run where no impl is left out.
use Rattle.std.specs.Prelude.{ℕ, List, [], ◌++◌, Option, None, Some, map}
use Rattle.nts_model.specs.Derivations.Handlers.{Handler, Candidate}
use Rattle.nts_model.specs.Terms.Trees.{Tree, children}
use Rattle.nts_assembly.specs.Assumptions.{assumed_offers}
use Rattle.nts_assembly.specs.Projections.{assumed_results}
use Rattle.nts_delegate.specs.ClauseHandlers.{ClausesOfTraits, normalization_of, offer_by, clauses_in_store, alias_offers, alias_clauses_in_store, rigid_in}
use Rattle.nts_delegate.specs.Offers.{trait_of}
use Rattle.nts_delegate.specs.declared.clauses.Clauses.{Clauses}
use Rattle.nts_program.specs.Proving.{rules_with}

-- one offer of each clause of the goal's trait, in order
abbrev pub offers_of_each : ClausesOfTraits → Tree → Option (ℕ × Tree) → List Candidate
offers_of_each clauses e None = []
offers_of_each clauses e (Some r) = map (offer_by e (children r.1)) (clauses r.0)

-- the rules of a run, by which each clause of a goal's trait is offered, whatever arguments its head has, behind what the environment
-- offers; goals about aliases are offered what the run offers for them
abbrev pub rules_of_each : List Tree → Clauses → Handler
rules_of_each ts h =
    record (rules_with ts h) {
      offers = λ mode e g. assumed_offers e (trait_of g) ++ (assumed_results e (normalization_of g) ++ (alias_offers (alias_clauses_in_store ts h) (rigid_in h) e g ++ offers_of_each (clauses_in_store ts h) e (trait_of g)));
    }
