use Rattle.nts_candidates.proofs.Results.{IfOk-map}
use Rattle.nts_evaluation.specs.nts_meaning.proofs.Evaluating.{IsPosed-admitted, IsPosed-opened, rolled_back}
use Rattle.nts_explaining.proofs.Tried.{reasons_before}
use Rattle.nts_explaining.proofs.candidates.explain.Goals as goal

pub explain_here-reasons-requires-clause-posed : goal.explain_here-reasons-requires-clause-posed
explain_here-reasons-requires-clause-posed g c = IsPosed-opened (IsPosed-admitted c.requires.table c.requires.admitted) c.start_snapshot.ensures.entries c.in_ok-snapshot.ensures.saved

pub returns-clause-same : goal.returns-clause-same
returns-clause-same g c =
    rolled_back c.in_ok-snapshot.ensures.saved c.explain_here-reasons.ensures.goes c.rollback_to.ensures.saved c.in_ok-snapshot.ensures.mode c.rollback_to.ensures.mode

pub returns-clause-reasons : goal.returns-clause-reasons
returns-clause-reasons g c =
    IfOk-map c.explain_here-reasons.result (λ rs k. reasons_before c.in_ok-snapshot.ensures.entries k) (rw c.in_ok-snapshot.ensures.mode at c.explain_here-reasons.ensures.reasons)
