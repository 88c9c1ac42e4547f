use Rattle.std.proofs.Common.{◌≡◌, rules, subst}
use Rattle.std.specs.Prelude.{Ok, None, IfOk, IsNone}
use Rattle.nts_model.specs.Refutation.Choosing.{IsCandidateMet}
use Rattle.nts_unify.specs.Reading.{content_of}
use Rattle.nts_candidates.specs.Offered.{candidate_of}
use Rattle.nts_evaluation.specs.nts_meaning.proofs.Evaluating.{goes-back, rolled_back, IsPosed-later, IsCandidate-extended}
use Rattle.nts_explaining.proofs.FirstEquations.{met_same, stops_same}
use Rattle.nts_explaining.proofs.candidates.plain_reason.Goals as goal

pub unmet_equation-requires-clause-posed : goal.unmet_equation-requires-clause-posed
unmet_equation-requires-clause-posed g c =
    let e = c.try_candidate-tried.ensures in
    let same = rolled_back c.in_ok-snapshot.ensures.saved e.runs.goes c.rollback_to.ensures.saved c.in_ok-snapshot.ensures.mode c.rollback_to.ensures.mode in
    IsPosed-later (goes-back c.requires.posed.table e.runs.goes.extends same) c.requires.posed

pub unmet_equation-requires-clause-candidate : goal.unmet_equation-requires-clause-candidate
unmet_equation-requires-clause-candidate g c = IsCandidate-extended c.try_candidate-tried.ensures.runs.goes.extends c.requires.posed.holds c.requires.candidate

pub unmet_equation-requires-clause-unmet : goal.unmet_equation-requires-clause-unmet
unmet_equation-requires-clause-unmet g c = λ m.
    let e = c.try_candidate-tried.ensures in
    let same = rolled_back c.in_ok-snapshot.ensures.saved e.runs.goes c.rollback_to.ensures.saved c.in_ok-snapshot.ensures.mode c.rollback_to.ensures.mode in
    let none : c.try_candidate-tried.result ≡ Ok None = search rules in
    let unmet = subst (λ r. IfOk r (λ o. IsNone o → IsCandidateMet (content_of c.args.cx.now.nodes c.start_snapshot.new.self.entries) (candidate_of c.args.cx.now.nodes c.args.candidate.now) → ⊥)) none e.unmet in
    unmet (search rules) (rw c.in_ok-snapshot.ensures.entries (subst (λ M. M) (met_same c.args.candidate.now e.runs.goes.extends c.requires.posed.table c.requires.candidate same) m))

pub returns-clause-explains : goal.returns-clause-explains
returns-clause-explains g c =
    let e = c.try_candidate-tried.ensures in
    let same = rolled_back c.in_ok-snapshot.ensures.saved e.runs.goes c.rollback_to.ensures.saved c.in_ok-snapshot.ensures.mode c.rollback_to.ensures.mode in
    subst (λ M. M) (stops_same c.args.candidate.now _ e.runs.goes.extends c.requires.posed.table c.requires.candidate same) c.in_ok-number.ensures.first
