use Rattle.std.proofs.Common.{sym, subst}
use Rattle.nts_canonical.specs.Building.{kinds_of}
use Rattle.nts_canonical.specs.declared.types.Canonical.{Canonical}
use Rattle.nts_meaning.specs.nts_response.specs.declared.types.Response.{Response}
use Rattle.nts_meaning.specs.nts_response.specs.Forms.{response_at}
use Rattle.nts_meaning.specs.Answering.{IsAnswerTo}
use Rattle.nts_theory.specs.Telling.{SaysNothing}
use Rattle.nts_meaning.proofs.Unchanged.{unchanged_fits, nothing_said}
use Rattle.nts_asking.proofs.round.overflow_answer.Goals as goal

pub returns-clause-fits : goal.returns-clause-fits
returns-clause-fits c =
    let k = c.in_ok-answer.ensures in
    subst (IsAnswerTo c.identity_answer.new.cx.nodes (kinds_of c.args.asked.now.input)) (sym c.in_ok-answer-2.ensures.ok)
    (unchanged_fits c.args.cx.now.nodes c.identity_answer.new.cx.nodes c.args.asked.now.input c.in_ok-answer.answer c.requires.input k.holds k.response)

pub returns-clause-nothing : goal.returns-clause-nothing
returns-clause-nothing c =
    let k = c.in_ok-answer.ensures in
    subst (λ (r : Canonical Response). SaysNothing (kinds_of c.args.asked.now.input) (response_at c.identity_answer.new.cx.nodes r)) (sym c.in_ok-answer-2.ensures.ok) (nothing_said _ _ _ k.response)
