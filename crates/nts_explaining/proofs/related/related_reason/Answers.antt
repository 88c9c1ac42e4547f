use Rattle.std.proofs.Common.{◌≡◌, rules, sym, subst}
use Rattle.std.specs.Prelude.{Ok, None, IfOk, IsNone}
use Rattle.nts_terms.specs.Signatures.{variances_in}
use Rattle.nts_unify.specs.Reading.{content_of}
use Rattle.nts_candidates.specs.Offered.{candidate_of}
use Rattle.nts_evaluation.specs.nts_meaning.proofs.Evaluating.{goes-back, rolled_back, IsPosed-later, IsPosed-opened, IsCandidate-extended}
use Rattle.nts_evaluation.specs.nts_meaning.proofs.Rounds.{ran}
use Rattle.nts_explaining.specs.Explaining.{CannotBegin}
use Rattle.nts_explaining.proofs.RelatedParts.{whole_same, relating_same}
use Rattle.nts_explaining.proofs.related.related_reason.Goals as goal

pub try_relating-tried-requires-clause-posed : goal.try_relating-tried-requires-clause-posed
try_relating-tried-requires-clause-posed g c = IsPosed-opened c.requires.posed c.start_snapshot.ensures.entries c.in_ok-snapshot.ensures.saved

pub unrelated_equation-requires-clause-posed : goal.unrelated_equation-requires-clause-posed
unrelated_equation-requires-clause-posed g c =
    let e = c.try_relating-tried.ensures in
    let same = rolled_back c.in_ok-snapshot.ensures.saved e.runs.goes c.rollback_to.ensures.saved c.in_ok-snapshot.ensures.mode c.rollback_to.ensures.mode in
    IsPosed-later (goes-back c.requires.posed.table e.runs.goes.extends same) c.requires.posed

pub unrelated_equation-requires-clause-candidate : goal.unrelated_equation-requires-clause-candidate
unrelated_equation-requires-clause-candidate g c = IsCandidate-extended c.try_relating-tried.ensures.runs.goes.extends c.requires.posed.holds c.requires.candidate

pub unrelated_equation-requires-clause-unbegun : goal.unrelated_equation-requires-clause-unbegun
unrelated_equation-requires-clause-unbegun g c =
    let e = c.try_relating-tried.ensures in
    let same = rolled_back c.in_ok-snapshot.ensures.saved e.runs.goes c.rollback_to.ensures.saved c.in_ok-snapshot.ensures.mode c.rollback_to.ensures.mode in
    let none : c.try_relating-tried.result ≡ Ok None = search rules in
    let unbegun = subst (λ r. IfOk r (λ o. IsNone o → CannotBegin (variances_in c.args.cx.now.declarations) (content_of c.args.cx.now.nodes c.start_snapshot.new.self.entries) (candidate_of c.args.cx.now.nodes c.args.candidate.now))) none e.unbegun in
    subst (λ M. M) (sym (whole_same c.args.candidate.now (ran e.runs) c.requires.posed.table c.requires.candidate same)) (rw c.in_ok-snapshot.ensures.entries at (unbegun (search rules)))

pub returns-clause-explains : goal.returns-clause-explains
returns-clause-explains g c =
    let e = c.try_relating-tried.ensures in
    let same = rolled_back c.in_ok-snapshot.ensures.saved e.runs.goes c.rollback_to.ensures.saved c.in_ok-snapshot.ensures.mode c.rollback_to.ensures.mode in
    subst (λ M. M) (relating_same c.args.candidate.now _ (ran e.runs) c.requires.posed c.requires.candidate same) c.in_ok-number.ensures.first
