use Rattle.std.proofs.Common.{[], refl, sym, ap, ◌∙◌, subst, arith}
use Rattle.std.specs.Prelude.{All}
use Rattle.std.proofs.lemmas.List.{take_all}
use Rattle.std.proofs.lemmas.List.Elements.{All-nil, All-push}
use Rattle.nts_store.specs.Growth.{tree_at}
use Rattle.nts_terms.specs.Modes.{mode_of}
use Rattle.nts_terms.specs.Signatures.{variances_in}
use Rattle.nts_table.specs.Tables.{Table}
use Rattle.nts_unify.specs.Reading.{content_of}
use Rattle.nts_store.proofs.Growing.{Extends-refl}
use Rattle.nts_terms.proofs.Moved.{KeepsRest-refl}
use Rattle.nts_candidates.specs.Offered.{candidates_of}
use Rattle.nts_evaluation.specs.nts_trying.proofs.Adding.{grown_more}
use Rattle.nts_evaluation.specs.nts_meaning.proofs.TraitsAsked.{IsAskedIn-extended}
use Rattle.nts_evaluation.specs.nts_meaning.proofs.Evaluating.{goes-back, IsPosed-later, IsCandidate-extended, candidate_at}
use Rattle.nts_explaining.specs.Explaining.{ExplainsEach}
use Rattle.nts_candidates.specs.HeldReasons.{HoldsReason}
use Rattle.nts_explaining.specs.Explaining.ExplainsEach.{none}
use Rattle.nts_explaining.proofs.Tried.{each_more, all_later}
use Rattle.nts_explaining.proofs.candidates.reasons_of.Goals as goal

pub loop-candidate-init : goal.loop-candidate-init
loop-candidate-init g c =
    record {
      same = refl;
      grows = record { extends = Extends-refl _; rest = KeepsRest-refl _ };
      each = subst (ExplainsEach (variances_in c.args.cx.now.declarations) (mode_of c.args.table.now.mode) (content_of c.args.cx.now.nodes c.args.table.now.entries) (tree_at c.args.cx.now.nodes c.args.goal.param_env.node) []) (sym c.new-reasons.ensures.items) none;
      holds = subst (All (HoldsReason c.args.cx.now.nodes)) (sym c.new-reasons.ensures.items) (All-nil _);
    }

pub reason_of-requires-clause-posed : goal.reason_of-requires-clause-posed
reason_of-requires-clause-posed g c =
    let i = c.loop-candidate.invariant in
    IsPosed-later (goes-back c.requires.posed.table i.grows.extends i.same) c.requires.posed

pub reason_of-requires-clause-asked : goal.reason_of-requires-clause-asked
reason_of-requires-clause-asked g c = IsAskedIn-extended c.loop-candidate.invariant.grows.extends c.requires.asked

pub reason_of-requires-clause-ready : goal.reason_of-requires-clause-ready
reason_of-requires-clause-ready g c = g.met.H.GoalHandler.ready_kept _ _ _ c.requires.ready c.loop-candidate.invariant.grows.extends

pub reason_of-requires-clause-candidate : goal.reason_of-requires-clause-candidate
reason_of-requires-clause-candidate g c =
    let i = c.loop-candidate.invariant in
    rw c.candidate-item.is (IsCandidate-extended i.grows.extends c.requires.posed.holds (candidate_at c.args.cx.now.nodes c.args.goal c.args.candidates.now c.loop-candidate.candidate-index _ c.requires.candidates c.loop-candidate-test.true))

pub loop-candidate-preserved : goal.loop-candidate-preserved
loop-candidate-preserved g c =
    let i = c.loop-candidate.invariant in
    let e = c.in_ok-reason.ensures in
    record {
      same = e.same ∙ i.same;
      grows = grown_more i.grows e.grows;
      each = each_more c.args.goal c.args.candidates.now c.loop-candidate.candidate-index c.candidate-item.result c.loop-candidate.reasons.items c.push.new.self.items c.in_ok-reason.reason c.loop-candidate-test.true c.candidate-item.is i.grows.extends c.requires.posed.table i.same c.requires.candidates c.in_ok-push.ensures.items (variances_in c.args.cx.now.declarations) (mode_of c.args.table.now.mode) (tree_at c.args.cx.now.nodes c.args.goal.param_env.node)
          (rw (ap (λ (t : Table). t.mode) i.same, (let r = i.grows.rest in r.declarations), (let holds = c.requires.posed.holds in i.grows.extends.kept c.args.goal.param_env.node holds.env.within)) at e.explains) i.each;
      holds = subst (All (HoldsReason c.reason_of.new.cx.nodes)) (sym c.in_ok-push.ensures.items) (All-push (HoldsReason c.reason_of.new.cx.nodes) c.loop-candidate.reasons.items c.in_ok-reason.reason (all_later c.loop-candidate.reasons.items e.grows.extends i.holds) e.holds);
    }

pub returns-clause-each : goal.returns-clause-each
returns-clause-each g c =
    let i = c.loop-candidate.invariant in
    subst (λ xs. ExplainsEach (variances_in c.args.cx.now.declarations) (mode_of c.args.table.now.mode) (content_of c.args.cx.now.nodes c.args.table.now.entries) (tree_at c.args.cx.now.nodes c.args.goal.param_env.node) (candidates_of c.args.cx.now.nodes xs) c.loop-candidate.reasons.items) (take_all c.loop-candidate.candidate-index c.args.candidates.now (omega (arith, c.loop-candidate-test.false))) i.each
