use Rattle.std.proofs.Common.{Some, ap, sym, subst, ◌∙◌}
use Rattle.nts_wording.specs.Meaning.{AreVariablesFrom, IsGoalOf}
use Rattle.nts_program.proofs.Justifying.{justified}
use Rattle.nts_program.proofs.answer.ask.Goals as goal

pub evaluated-requires-clause-values : goal.evaluated-requires-clause-values
evaluated-requires-clause-values c = rw c.deref.ensures.value c.in_ok-posed.ensures.posed.values

pub returns-in-Some-Yes-clause-yes : goal.returns-in-Some-Yes-clause-yes
returns-in-Some-Yes-clause-yes c =
    let posed = c.in_ok-posed.ensures.posed in
    let p = c.in_ok-posed.posed in
    let later = c.in_ok-evaluated.ensures.grows.extends in
    let same = sym c.deref-in-Some-Yes.ensures.value in
    justified c.args.mode c.args.env c.args.nodes.now _ _ _ _ c.args.clauses.now _ p.goal p.variables _ c.answer_of.result
    posed.own posed.placed (subst (λ vs. AreVariablesFrom 0 c.evaluated.new.cx.nodes p.variables.sorts.items vs) same (posed.first _ later))
    (rw c.in_ok-evaluated.ensures.mode posed.mode)
    c.in_ok-posed.ensures.grows
    (c.in_ok-evaluated.ensures.proved (c.in-Some-Yes.is ∙ ap Some c.in-Some-Yes.field-0-is))
    (subst (λ vs. IsGoalOf c.evaluated.new.cx.nodes c.args.env p.variables vs c.args.nodes.now p.goal) same (posed.asked _ later))
    c.answer_of.ensures.variables c.answer_of.ensures.found
