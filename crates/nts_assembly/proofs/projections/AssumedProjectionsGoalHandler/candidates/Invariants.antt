use Rattle.nts_terms.specs.Rest.{Grows}
use Rattle.nts_assembly.proofs.ResultOffers.{AreResults}
use Rattle.nts_assembly.proofs.projections.AssumedProjectionsGoalHandler.candidates.Given as goal

abbrev pub invariant-loop-i : goal.invariant-loop-i
invariant-loop-i l =
    record {
      grows : Grows l.fn.cx l.cx;
      results : AreResults l.cx.nodes l.goal l.asked l.i l.found.items;
    }
