use Rattle.nts_store.proofs.Growing.{Extends-trans}
use Rattle.nts_delegate.specs.ClausesKept.{AreClausesReady-kept}
use Rattle.nts_uses.proofs.own.clone_of_sized.Goals as goal

pub ask-requires-clause-ready : goal.ask-requires-clause-ready
ask-requires-clause-ready c = (
  tt,
  AreClausesReady-kept _ _ c.add_rule_where.new.rules c.in_ok-add_rule_where.ensures.ready (Extends-trans c.vec_of.ensures.grows.extends (Extends-trans c.trait_predicate.ensures.grows.extends c.in_ok-param_env.ensures.grows.extends)),
)
