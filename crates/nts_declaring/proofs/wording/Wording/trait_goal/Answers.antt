use Rattle.nts_declaring.proofs.Holding.{Lengthens-trans, Lengthens-append, Says-more, Says-any, on_ok}
use Rattle.nts_declaring.proofs.wording.Wording.trait_goal.Goals as goal

pub returns-clause-says : goal.returns-clause-says
returns-clause-says g c =
    on_ok c.all_pieces.result (λ h. Says-any (Says-more (Lengthens-trans (Lengthens-append _ c.in_ok-write.ensures.says) c.in_ok-open.ensures.more)) h) c.all_pieces.ensures.says
