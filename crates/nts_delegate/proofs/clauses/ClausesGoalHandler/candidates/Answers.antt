use Rattle.std.proofs.Common.{ap}
use Rattle.nts_delegate.specs.ClausesKept.{AreClausesReady-kept}
use Rattle.nts_delegate.specs.ClausesLawful.{AreOffers-read}
use Rattle.nts_delegate.specs.Keeping.{AreCandidates-append}
use Rattle.nts_delegate.proofs.AliasFound.{joined_offered, joined_of_trait}
use Rattle.nts_delegate.proofs.clauses.ClausesGoalHandler.candidates.Goals as goal

pub offers-requires-clause-ready : goal.offers-requires-clause-ready
offers-requires-clause-ready c =
    AreClausesReady-kept c.args.cx.now.nodes c.offers_of_alias.new.cx.nodes c.args.self.now c.requires.ready c.offers_of_alias.ensures.grows.extends

pub returns-clause-offers : goal.returns-clause-offers
returns-clause-offers c = λ t.
    (let same = ap (λ x. x.nodes) (c.offers_of_alias.ensures.same t) in
    rw c.in_ok-joined.ensures (joined_of_trait c.args.cx.now.nodes c.offers_of_alias.new.cx.nodes c.args.goal c.args.self.now c.in_ok-found.found.items c.in_ok-more.more.items c.requires.goal t same c.in_ok-found.ensures.offered c.in_ok-more.ensures.offers))

pub returns-clause-offered : goal.returns-clause-offered
returns-clause-offered c =
    rw c.in_ok-joined.ensures (joined_offered c.offers_of_alias.new.cx.nodes c.in_ok-found.found.items c.in_ok-more.more.items _ _ c.in_ok-found.ensures.offered (AreOffers-read c.offers_of_alias.new.cx.nodes c.args.goal c.args.self.now c.in_ok-more.more.items c.in_ok-more.ensures.offers))

pub returns-clause-candidates : goal.returns-clause-candidates
returns-clause-candidates c =
    rw c.in_ok-joined.ensures (AreCandidates-append c.offers_of_alias.new.cx.nodes c.args.goal c.in_ok-found.found.items c.in_ok-more.more.items c.in_ok-found.ensures.candidates c.in_ok-more.ensures.candidates)
