use Rattle.nts_terms.specs.Rest.{Grows}
use Rattle.nts_assembly.proofs.RowOffers.{AreOffered}
use Rattle.nts_assembly.proofs.assumptions.AssumptionsGoalHandler.candidates.Given as goal

abbrev pub invariant-loop-i : goal.invariant-loop-i
invariant-loop-i l =
    record {
      grows : Grows l.fn.cx l.cx;
      offered : AreOffered l.cx.nodes l.goal l.asked l.i l.found.items;
    }
