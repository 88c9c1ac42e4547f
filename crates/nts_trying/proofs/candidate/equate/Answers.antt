use Rattle.std.proofs.Common.{◌≡◌, Err, arith, rules, ap, ◌<◌, get_or, length}
use Rattle.nts_store.specs.declared.fault.EvalError.TheVariants as EvalError
use Rattle.std.proofs.lemmas.List.{take_all}
use Rattle.nts_meaning.proofs.Running.{Equates-step}
use Rattle.nts_candidates.specs.declared.data.Equation.{Equation}
use Rattle.nts_delegate.specs.Candidates.{IsEquation}
use Rattle.nts_meaning.proofs.Evaluating.{Runs-trans, AreValues-later, IsEquation-extended, equation_at, IsPosed-later}
use Rattle.nts_trying.proofs.Trying.{equated_first, equated_more, none_meets}
use Rattle.nts_trying.proofs.candidate.equate.Goals as goal
use Rattle.nts_model.proofs.Tables.Bringing.{only-none, only-trans}
use Rattle.nts_trying.proofs.Labels.{only_earlier}

pub loop-equation-init : goal.loop-equation-init
loop-equation-init c =
    let e = c.in_ok-values.ensures in
    record { runs = e.runs; equal = tt; labels = only-none _ e.labels; values = rw c.deref.ensures.value at e.values; equated = equated_first _ _ (rw c.deref.ensures.value at e.fresh) }

pub equate_one-requires-clause-equation : goal.equate_one-requires-clause-equation
equate_one-requires-clause-equation c =
    rw c.deref-in-loop-equation.ensures.value (IsEquation-extended c.loop-equation.invariant.runs.goes.extends c.requires.posed.holds (
    rw c.deref-equation-items.ensures.value
    (equation_at c.args.cx.now.nodes c.args.candidate.now.fresh.items c.args.goal c.args.candidate.now.equations.items c.loop-equation.equation-index _ c.requires.candidate.equations (omega (arith, c.loop-equation-test.true, ap (length {A = Equation}) c.deref-equation-items.ensures.value)))
    ))

inside : (c : goal.In_ok-equate_one) → c.loop-equation.equation-index < length c.args.candidate.now.equations.items
inside c = omega (arith, c.loop-equation-test.true, ap (length {A = Equation}) c.deref-equation-items.ensures.value)

over : (c : goal.In_ok-equate_one) (d : Equation) → IsEquation c.args.cx.now.nodes c.args.candidate.now.fresh.items c.args.goal (get_or c.args.candidate.now.equations.items c.loop-equation.equation-index d)
over c d =
    equation_at c.args.cx.now.nodes c.args.candidate.now.fresh.items c.args.goal c.args.candidate.now.equations.items c.loop-equation.equation-index d c.requires.candidate.equations (inside c)

pub returns-in_err-equate_one-clause-runs : goal.returns-in_err-equate_one-clause-runs
returns-in_err-equate_one-clause-runs c = Runs-trans c.loop-equation.invariant.runs c.equate_one.ensures.runs

pub returns-clause-equal : goal.returns-clause-equal
returns-clause-equal c =
    rw (take_all c.loop-equation.equation-index c.args.candidate.now.equations.items (omega (arith, c.loop-equation-test.false, ap (length {A = Equation}) c.deref-equation-items.ensures.value))) at c.loop-equation.invariant.equal

pub loop-equation-preserved : goal.loop-equation-preserved
loop-equation-preserved c =
    let i = c.loop-equation.invariant in
    let e = c.in_ok-equate_one.ensures in
    record {
      runs = Runs-trans i.runs e.runs;
      equal = Equates-step _ c.args.cx.now.nodes c.in_ok-values.values.items c.args.candidate.now.equations.items c.loop-equation.equation-index c.deref-in-loop-equation-2.ensures.value c.deref-equation-items.ensures.value (inside c) e.runs.goes i.values.within i.equal i.runs.goes.extends (λ d. ((over c d).lhs.within, (over c d).rhs.within)) e.equal;
      labels = only-trans i.labels (only_earlier i.runs.goes.extends c.requires.posed.holds e.labels);
      values = AreValues-later e.runs.goes i.values;
      equated = equated_more _ c.args.candidate.now.fresh.items c.in_ok-values.values.items c.args.candidate.now.equations.items c.loop-equation.equation-index c.deref-in-loop-equation-2.ensures.value c.deref-equation-items.ensures.value (inside c) i.runs.goes.extends e.runs.goes.extends i.values.within (over c _) i.equated e.related;
    }

pub equate_one-requires-clause-posed : goal.equate_one-requires-clause-posed
equate_one-requires-clause-posed c = IsPosed-later c.loop-equation.invariant.runs.goes c.requires.posed

pub returns-in_err-equate_one-clause-unmet : goal.returns-in_err-equate_one-clause-unmet
returns-in_err-equate_one-clause-unmet c = λ q.
    let i = c.loop-equation.invariant in
    let l : c.loop-equation.equation-index < length c.args.candidate.now.equations.items = omega (arith, c.loop-equation-test.true, ap (length {A = Equation}) c.deref-equation-items.ensures.value) in
    let all = c.requires.candidate.equations in
    let one = equation_at c.args.cx.now.nodes c.args.candidate.now.fresh.items c.args.goal c.args.candidate.now.equations.items c.loop-equation.equation-index _ all l in
    let no : c.equate_one.result ≡ Err EvalError.NoSolution = search rules in
    none_meets _ c.args.candidate.now.fresh.items c.in_ok-values.values.items c.args.candidate.now.equations.items c.loop-equation.equation-index c.deref-in-loop-equation-2.ensures.value c.deref-equation-items.ensures.value l i.runs.goes.extends c.terms_are_formed.ensures c.requires.posed all one i.equated (c.equate_one.ensures.no no)
