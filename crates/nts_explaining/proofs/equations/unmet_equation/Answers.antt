use Rattle.std.proofs.Common.{◌≡◌, ◌+◌, ◌-◌, inl, inr, length, map, refl, rules, sym, ◌∙◌, subst, arith}
use Rattle.std.proofs.lemmas.List.{length-map}
use Rattle.nts_unify.specs.Reading.{content_of}
use Rattle.nts_store.proofs.Growing.{Extends-refl}
use Rattle.nts_terms.proofs.Moved.{KeepsRest-refl}
use Rattle.nts_candidates.specs.Offered.{candidate_of, equation_of}
use Rattle.nts_evaluation.specs.nts_trying.proofs.Adding.{grown_more}
use Rattle.nts_evaluation.specs.nts_meaning.proofs.Evaluating.{goes-back, IsPosed-later, IsCandidate-extended}
use Rattle.nts_explaining.specs.Explaining.{MeetsFirst}
use Rattle.nts_explaining.proofs.FirstEquations.{first_same, stops_at, stops_last, last_before}
use Rattle.nts_explaining.proofs.equations.unmet_equation.Goals as goal

pub loop-count-init : goal.loop-count-init
loop-count-init c =
    record {
      same = refl;
      grows = record { extends = Extends-refl _; rest = KeepsRest-refl _ };
      some = omega arith;
      within = inl (omega arith);
      met = inl refl;
    }

pub are_met-requires-clause-posed : goal.are_met-requires-clause-posed
are_met-requires-clause-posed c =
    let i = c.loop-count.invariant in
    IsPosed-later (goes-back c.requires.posed.table i.grows.extends i.same) c.requires.posed

pub are_met-requires-clause-candidate : goal.are_met-requires-clause-candidate
are_met-requires-clause-candidate c = IsCandidate-extended c.loop-count.invariant.grows.extends c.requires.posed.holds c.requires.candidate

-- the first one of which the equations up to it are not met
pub returns-then-not-branch-clause-first : goal.returns-then-not-branch-clause-first
returns-then-not-branch-clause-first c =
    let i = c.loop-count.invariant in
    let e = c.in_ok-are_met.ensures in
    let same = first_same c.args.candidate.now c.loop-count.count i.grows.extends c.requires.posed.table c.requires.candidate i.same in
    let long : c.len-all.result ≡ length (map (equation_of c.args.cx.now.nodes) c.args.candidate.now.equations.items) = c.len-all.ensures ∙ c.args.candidate.now.equations.ok.0 ∙ sym (length-map c.args.candidate.now.equations.items (equation_of c.args.cx.now.nodes)) in
    stops_at _ _ c.loop-count.count i.some (omega (arith, c.loop-count-test.true, long)) i.met (λ m. (let t = e.met.1 (subst (λ M. M) (sym same) m) in let f = c.if-not-branch.true in cc))

pub loop-count-preserved : goal.loop-count-preserved
loop-count-preserved c =
    let i = c.loop-count.invariant in
    let e = c.in_ok-are_met.ensures in
    let same = first_same c.args.candidate.now c.loop-count.count i.grows.extends c.requires.posed.table c.requires.candidate i.same in
    let next : c.loop-count.count + 1 - 1 ≡ c.loop-count.count = omega arith in
    record {
      same = e.same ∙ i.same;
      grows = grown_more i.grows e.grows;
      some = omega (arith, i.some);
      within = inr (omega (arith, c.loop-count-test.true));
      met = inr (subst (λ n. MeetsFirst n (content_of c.args.cx.now.nodes c.args.table.now.entries) (candidate_of c.args.cx.now.nodes c.args.candidate.now)) (sym next) (subst (λ M. M) same (e.met.0 c.if-not-branch.false)));
    }

pub returns-clause-first : goal.returns-clause-first
returns-clause-first c =
    let i = c.loop-count.invariant in
    let long : c.len-all.result ≡ length (map (equation_of c.args.cx.now.nodes) c.args.candidate.now.equations.items) = c.len-all.ensures ∙ c.args.candidate.now.equations.ok.0 ∙ sym (length-map c.args.candidate.now.equations.items (equation_of c.args.cx.now.nodes)) in
    stops_last (content_of c.args.cx.now.nodes c.args.table.now.entries) (candidate_of c.args.cx.now.nodes c.args.candidate.now) _ _ long (search rules) (last_before (content_of c.args.cx.now.nodes c.args.table.now.entries) (candidate_of c.args.cx.now.nodes c.args.candidate.now) _ _ (λ l. absurd (omega (arith, l, c.loop-count-test.false))) i.within i.met) c.requires.unmet
