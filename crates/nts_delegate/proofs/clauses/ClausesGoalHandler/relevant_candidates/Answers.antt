use Rattle.std.proofs.lemmas.List.{map-append}
use Rattle.nts_candidates.specs.Offered.{candidate_of}
use Rattle.nts_delegate.specs.ClausesKept.{AreClausesReady-kept}
use Rattle.nts_delegate.specs.Keeping.{AreCandidates-append, LeavesOut-append}
use Rattle.nts_delegate.proofs.Relevance.{same_offered}
use Rattle.nts_delegate.proofs.clauses.ClausesGoalHandler.relevant_candidates.Goals as goal

pub relevant_offers-requires-clause-ready : goal.relevant_offers-requires-clause-ready
relevant_offers-requires-clause-ready c =
    AreClausesReady-kept c.args.cx.now.nodes c.offers_of_alias.new.cx.nodes c.args.self.now c.requires.ready c.offers_of_alias.ensures.grows.extends

pub returns-clause-candidates : goal.returns-clause-candidates
returns-clause-candidates c =
    rw c.in_ok-joined.ensures (AreCandidates-append c.offers_of_alias.new.cx.nodes c.args.goal c.in_ok-found.found.items c.in_ok-more.more.items c.in_ok-found.ensures.candidates c.in_ok-more.ensures.candidates)

pub returns-clause-offered : goal.returns-clause-offered
returns-clause-offered c =
    rw (c.in_ok-joined.ensures, map-append (candidate_of c.offers_of_alias.new.cx.nodes) c.in_ok-found.found.items c.in_ok-more.more.items) (LeavesOut-append (same_offered _ _ c.in_ok-found.ensures.offered) c.in_ok-more.ensures.offered)
