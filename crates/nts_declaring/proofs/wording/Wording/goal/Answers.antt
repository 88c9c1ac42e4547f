use Rattle.nts_declaring.proofs.Holding.{Says-more, Says-any, on_ok}
use Rattle.nts_declaring.proofs.wording.Wording.goal.Goals as goal

pub returns-in_ok-binder-in-Clause-Trait-clause-says : goal.returns-in_ok-binder-in-Clause-Trait-clause-says
returns-in_ok-binder-in-Clause-Trait-clause-says g c =
    on_ok c.trait_goal.result (λ h. Says-any (Says-more c.in_ok-binder-in-Clause-Trait.ensures.more) h) c.trait_goal.ensures.says

pub returns-in_ok-binder-in-Clause-TypeOutlives-clause-says : goal.returns-in_ok-binder-in-Clause-TypeOutlives-clause-says
returns-in_ok-binder-in-Clause-TypeOutlives-clause-says g c =
    on_ok c.related.result (λ h. Says-any (Says-more c.in_ok-binder-in-Clause-TypeOutlives.ensures.more) h) c.related.ensures.says

pub returns-in_ok-binder-in-Clause-RegionOutlives-clause-says : goal.returns-in_ok-binder-in-Clause-RegionOutlives-clause-says
returns-in_ok-binder-in-Clause-RegionOutlives-clause-says g c =
    let e = c.related-in-Clause-RegionOutlives in
    on_ok e.result (λ h. Says-any (Says-more c.in_ok-binder-in-Clause-RegionOutlives.ensures.more) h) e.ensures.says

pub returns-in_ok-binder-in-AliasRelate-default-default-Equate-clause-says : goal.returns-in_ok-binder-in-AliasRelate-default-default-Equate-clause-says
returns-in_ok-binder-in-AliasRelate-default-default-Equate-clause-says g c =
    let e = c.related-in-AliasRelate-default-default-Equate in
    on_ok e.result (λ h. Says-any (Says-more c.in_ok-binder-in-AliasRelate-default-default-Equate.ensures.more) h) e.ensures.says
