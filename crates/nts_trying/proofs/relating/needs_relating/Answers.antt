use Rattle.std.proofs.Common.{◌<◌, ap, ◌∙◌, sym, arith, length}
use Rattle.std.proofs.lemmas.List.{take_all, take_more}
use Rattle.nts_candidates.specs.declared.data.Equation.{Equation}
use Rattle.nts_meaning.proofs.Evaluating.{equation_at}
use Rattle.nts_trying.proofs.RelatedAliases.{some_aliased, none_aliased, aliased_no}
use Rattle.nts_trying.proofs.relating.needs_relating.Goals as goal

pub relates-requires-clause-left : goal.relates-requires-clause-left
relates-requires-clause-left c =
    let i : c.loop-equation.equation-index < length c.args.candidate.now.equations.items = omega (arith, c.loop-equation-test.true, ap (length {A = Equation}) c.deref-equation-items.ensures.value) in
    let o = equation_at c.args.cx.now.nodes c.args.candidate.now.fresh.items c.args.goal c.args.candidate.now.equations.items c.loop-equation.equation-index _ c.requires.equations i in
    rw c.deref-equation-items.ensures.value o.lhs.within

pub relates-requires-clause-right : goal.relates-requires-clause-right
relates-requires-clause-right c =
    let i : c.loop-equation.equation-index < length c.args.candidate.now.equations.items = omega (arith, c.loop-equation-test.true, ap (length {A = Equation}) c.deref-equation-items.ensures.value) in
    let o = equation_at c.args.cx.now.nodes c.args.candidate.now.fresh.items c.args.goal c.args.candidate.now.equations.items c.loop-equation.equation-index _ c.requires.equations i in
    rw c.deref-equation-items.ensures.value o.rhs.within

pub returns-then-relates-clause-yes : goal.returns-then-relates-clause-yes
returns-then-relates-clause-yes c = λ yes.
    let i : c.loop-equation.equation-index < length c.args.candidate.now.equations.items = omega (arith, c.loop-equation-test.true, ap (length {A = Equation}) c.deref-equation-items.ensures.value) in
    some_aliased c.args.cx.now.nodes c.args.candidate.now.equations.items c.loop-equation.equation-index _ i (rw c.deref-equation-items.ensures.value at (sym c.relates.ensures ∙ c.if-relates.true))

pub loop-equation-preserved : goal.loop-equation-preserved
loop-equation-preserved c =
    let i : c.loop-equation.equation-index < length c.args.candidate.now.equations.items = omega (arith, c.loop-equation-test.true, ap (length {A = Equation}) c.deref-equation-items.ensures.value) in
    let e = take_more c.args.candidate.now.equations.items c.loop-equation.equation-index _ i in
    aliased_no c.args.cx.now.nodes _ _ _ e (rw c.deref-equation-items.ensures.value at (sym c.relates.ensures ∙ c.if-relates.false)) ∙ c.loop-equation.invariant

pub returns-clause-no : goal.returns-clause-no
returns-clause-no c = λ no.
    none_aliased c.args.cx.now.nodes c.args.candidate.now.equations.items
    (rw (take_all c.loop-equation.equation-index c.args.candidate.now.equations.items (omega (arith, c.loop-equation-test.false, ap (length {A = Equation}) c.deref-equation-items.ensures.value))) at c.loop-equation.invariant)
