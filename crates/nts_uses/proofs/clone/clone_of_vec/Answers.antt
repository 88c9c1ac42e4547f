use Rattle.nts_store.proofs.Growing.{Extends-trans}
use Rattle.nts_delegate.specs.ClausesKept.{AreClausesReady-kept}
use Rattle.nts_uses.proofs.clone.clone_of_vec.Goals as goal

pub ask-requires-clause-ready : goal.ask-requires-clause-ready
ask-requires-clause-ready c =
    AreClausesReady-kept _ _ c.add_rule_of_vec.new.rules c.in_ok-add_rule_of_vec.ensures.ready (Extends-trans c.vec_of.ensures.grows.extends (Extends-trans c.trait_predicate.ensures.grows.extends c.in_ok-param_env.ensures.grows.extends))
