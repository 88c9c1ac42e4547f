use Rattle.std.proofs.Common.{◌<◌, ap, ◌∙◌, sym, arith, length}
use Rattle.std.proofs.lemmas.List.{take_all, take_more}
use Rattle.nts_candidates.specs.declared.data.Equation.{Equation}
use Rattle.nts_meaning.proofs.Evaluating.{equation_at}
use Rattle.nts_trying.proofs.RelatedAliases.{plain_yes, plain_no}
use Rattle.nts_trying.proofs.relating.plain_of.Goals.{then-not-relates+in_ok-push, else-not-relates}
use Rattle.nts_trying.proofs.relating.plain_of.Goals as goal

pub loop-equation-init : goal.loop-equation-init
loop-equation-init c = c.new-chosen.ensures.items

pub relates-requires-clause-left : goal.relates-requires-clause-left
relates-requires-clause-left c =
    let i : c.loop-equation.equation-index < length c.args.candidate.now.equations.items = omega (arith, c.loop-equation-test.true, ap (length {A = Equation}) c.deref-equation-items.ensures.value) in
    let o = equation_at c.args.cx.now.nodes c.args.candidate.now.fresh.items c.args.goal c.args.candidate.now.equations.items c.loop-equation.equation-index _ c.requires.equations i in
    rw c.deref-equation-items.ensures.value o.lhs.within

pub relates-requires-clause-right : goal.relates-requires-clause-right
relates-requires-clause-right c =
    let i : c.loop-equation.equation-index < length c.args.candidate.now.equations.items = omega (arith, c.loop-equation-test.true, ap (length {A = Equation}) c.deref-equation-items.ensures.value) in
    let o = equation_at c.args.cx.now.nodes c.args.candidate.now.fresh.items c.args.goal c.args.candidate.now.equations.items c.loop-equation.equation-index _ c.requires.equations i in
    rw c.deref-equation-items.ensures.value o.rhs.within

pub loop-equation-preserved : goal.loop-equation-preserved
loop-equation-preserved c =
    let i : c.loop-equation.equation-index < length c.args.candidate.now.equations.items = omega (arith, c.loop-equation-test.true, ap (length {A = Equation}) c.deref-equation-items.ensures.value) in
    let e = take_more c.args.candidate.now.equations.items c.loop-equation.equation-index _ i in
    elim c.if-not-relates.branch [
      | then-not-relates+in_ok-push w ↦ (let more = plain_no c.args.cx.now.nodes _ _ _ e (rw c.deref-equation-items.ensures.value at (sym c.relates.ensures ∙ w.if-not-relates.true)) in let was = c.loop-equation.invariant in rw w.chosen-is (w.in_ok-push.ensures.items ∙ rw (was, c.deref-equation-items.ensures.value) (sym more)))
      | else-not-relates w ↦ (let more = plain_yes c.args.cx.now.nodes _ _ _ e (rw c.deref-equation-items.ensures.value at (sym c.relates.ensures ∙ w.if-not-relates.false)) in rw w.chosen-is (c.loop-equation.invariant ∙ sym more))
    ]

pub returns : goal.returns
returns c =
    rw (take_all c.loop-equation.equation-index c.args.candidate.now.equations.items (omega (arith, c.loop-equation-test.false, ap (length {A = Equation}) c.deref-equation-items.ensures.value))) at c.loop-equation.invariant
