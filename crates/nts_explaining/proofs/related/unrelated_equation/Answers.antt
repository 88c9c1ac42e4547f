use Rattle.std.proofs.Common.{◌≡◌, ◌+◌, ◌-◌, Ok, inl, inr, length, map, refl, rules, sym, ap, ◌∙◌, subst, arith}
use Rattle.nts_store.specs.Growth.{tree_at}
use Rattle.nts_terms.specs.Signatures.{variances_in}
use Rattle.nts_unify.specs.Reading.{content_of}
use Rattle.std.proofs.lemmas.List.{length-map}
use Rattle.nts_store.proofs.Growing.{Extends-refl}
use Rattle.nts_terms.proofs.Moved.{KeepsRest-refl}
use Rattle.nts_candidates.specs.Offered.{equation_of, candidate_of}
use Rattle.nts_evaluation.specs.nts_trying.proofs.Adding.{grown_more}
use Rattle.nts_evaluation.specs.nts_meaning.proofs.Evaluating.{goes-back, IsPosed-later, IsCandidate-extended}
use Rattle.nts_explaining.specs.Explaining.{IsBegunSo, first_part}
use Rattle.nts_explaining.proofs.RelatedParts.{unbegun_same, begun_same, begun_last, stops_relating, stops_at_last}
use Rattle.nts_explaining.proofs.related.unrelated_equation.Goals as goal

pub loop-count-init : goal.loop-count-init
loop-count-init c = record { same = refl; grows = record { extends = Extends-refl _; rest = KeepsRest-refl _ }; some = omega arith; within = inl (omega arith); begun = inl refl }

pub is_begun-requires-clause-posed : goal.is_begun-requires-clause-posed
is_begun-requires-clause-posed c =
    let i = c.loop-count.invariant in
    IsPosed-later (goes-back c.requires.posed.table i.grows.extends i.same) c.requires.posed

pub is_begun-requires-clause-candidate : goal.is_begun-requires-clause-candidate
is_begun-requires-clause-candidate c = IsCandidate-extended c.loop-count.invariant.grows.extends c.requires.posed.holds c.requires.candidate

pub returns-then-not-branch-clause-first : goal.returns-then-not-branch-clause-first
returns-then-not-branch-clause-first c =
    let i = c.loop-count.invariant in
    let e = c.is_begun.ensures in
    let same = unbegun_same c.args.candidate.now c.loop-count.count i.grows c.requires.posed.table c.requires.candidate i.same in
    let long : c.len-all.result ≡ length (map (equation_of c.args.cx.now.nodes) c.args.candidate.now.equations.items) = c.len-all.ensures ∙ c.args.candidate.now.equations.ok.0 ∙ sym (length-map c.args.candidate.now.equations.items (equation_of c.args.cx.now.nodes)) in
    stops_relating _ _ _ _ c.loop-count.count i.some (omega (arith, c.loop-count-test.true, long)) i.begun (subst (λ M. M) same (e.no (search rules)))

pub loop-count-preserved : goal.loop-count-preserved
loop-count-preserved c =
    let i = c.loop-count.invariant in
    let e = c.in_ok-is_begun.ensures in
    let next : c.loop-count.count + 1 - 1 ≡ c.loop-count.count = omega arith in
    let ts = c.args.cx.now.nodes in
    record {
      same = e.same ∙ i.same;
      grows = grown_more i.grows e.grows;
      some = omega (arith, i.some);
      within = inr (omega (arith, c.loop-count-test.true));
      begun = inr (subst (λ n. IsBegunSo (variances_in c.args.cx.now.declarations) (content_of ts c.args.table.now.entries) (tree_at ts c.args.goal.param_env.node) (first_part n (candidate_of ts c.args.candidate.now))) (sym next)
          (subst (λ M. M) (begun_same c.args.candidate.now c.loop-count.count i.grows c.requires.posed c.requires.candidate i.same) (e.yes (ap Ok c.if-not-branch.false))));
    }

pub returns-clause-first : goal.returns-clause-first
returns-clause-first c =
    let long : c.len-all.result ≡ length (map (equation_of c.args.cx.now.nodes) c.args.candidate.now.equations.items) = c.len-all.ensures ∙ c.args.candidate.now.equations.ok.0 ∙ sym (length-map c.args.candidate.now.equations.items (equation_of c.args.cx.now.nodes)) in
    let i = c.loop-count.invariant in
    let ts = c.args.cx.now.nodes in
    let env = tree_at ts c.args.goal.param_env.node in
    let x = candidate_of ts c.args.candidate.now in
    stops_at_last _ _ _ _ _ _ long (search rules) (begun_last (variances_in c.args.cx.now.declarations) (content_of ts c.args.table.now.entries) env x _ _ (λ l. absurd (omega (arith, l, c.loop-count-test.false))) i.within i.begun) c.requires.unbegun
