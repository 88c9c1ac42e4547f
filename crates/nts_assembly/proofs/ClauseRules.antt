-- A list of clauses reports no leak, and neither does one behind the environment: so they are right about leaks whatever outlives what.
use Rattle.std.proofs.Common.{List, inl, inr}
use Rattle.nts_model.specs.Terms.Trees.{Tree}
use Rattle.nts_delegate.specs.declared.clauses.Clauses.{Clauses}
use Rattle.nts_assembly.specs.Assembling.{assembled}
use Rattle.nts_delegate.specs.ClauseHandlers.{handler_of}
use Rattle.nts_theory.specs.Refutation.Refutation.{RespectsLeaks}
use Rattle.nts_theory.proofs.Refutation.Tight.{tight_respects}
use Rattle.nts_model.specs.Refutation.Containing.{Truth}

pub clauses_respect_truths : (ts : List Tree) (h : Clauses) (truth : Truth) → RespectsLeaks (handler_of ts h) truth
clauses_respect_truths ts h truth = tight_respects (handler_of ts h) (λ c u l. l) truth

pub assembly_respects_truths : (ts : List Tree) (h : Clauses) (truth : Truth) → RespectsLeaks (assembled (handler_of ts h)) truth
assembly_respects_truths ts h truth =
    tight_respects (assembled (handler_of ts h)) (λ c u l. elim l [
      | inl x ↦ x
      | inr (inl x) ↦ x
      | inr (inr x) ↦ x
    ]) truth
