use Rattle.std.proofs.Common.{◌∙◌, sym, subst}
use Rattle.nts_store.proofs.Growing.{Extends-refl}
use Rattle.nts_theory.specs.Affirming.{has_objects, feature_allowed}
use Rattle.nts_trying.specs.Owning.{IsOwnGoal}
use Rattle.nts_trying.proofs.Owning.{affirmed_later}
use Rattle.nts_trying.proofs.own.judge.Goals as goal

pub returns-then-trait_is_dyn_compatible-clause-judged :
    goal.returns-then-trait_is_dyn_compatible-clause-judged
returns-then-trait_is_dyn_compatible-clause-judged g c =
    let ts = c.args.cx.now.nodes in
    affirmed_later (g.H.GoalHandler.handler ts c.args.handler.now).judges (Extends-refl ts) c.terms_are_formed.ensures c.requires.holds (subst (IsOwnGoal ts c.args.goal) c.in-DynCompatible.is c.requires.own)
    (has_objects (sym (c.trait_is_dyn_compatible.ensures.meaning ts) ∙ c.if-trait_is_dyn_compatible.true))

pub returns-then-may_use_unstable_feature-clause-judged :
    goal.returns-then-may_use_unstable_feature-clause-judged
returns-then-may_use_unstable_feature-clause-judged g c =
    let ts = c.args.cx.now.nodes in
    affirmed_later (g.H.GoalHandler.handler ts c.args.handler.now).judges (Extends-refl ts) c.terms_are_formed.ensures c.requires.holds (subst (IsOwnGoal ts c.args.goal) c.in-UnstableFeature.is c.requires.own)
    (feature_allowed (sym (c.may_use_unstable_feature.ensures.meaning ts c.requires.ready c.requires.holds.env) ∙ c.if-may_use_unstable_feature.true))
