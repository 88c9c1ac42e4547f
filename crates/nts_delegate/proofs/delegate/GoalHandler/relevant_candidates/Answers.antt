use Rattle.nts_delegate.proofs.Relevance.{same_offered}
use Rattle.nts_candidates.proofs.Results.{IfOk-map}
use Rattle.nts_delegate.proofs.delegate.GoalHandler.relevant_candidates.Goals as goal

pub returns-clause-offered : goal.returns-clause-offered
returns-clause-offered g c = IfOk-map c.candidates.result (λ cs e. same_offered _ _ e) c.candidates.ensures.offered
