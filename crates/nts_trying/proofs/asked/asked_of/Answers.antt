use Rattle.std.proofs.Common.{◌∙◌, arith, sym}
use Rattle.std.proofs.lemmas.List.{take_all, take_more}
use Rattle.nts_trying.proofs.AskedData.{data_asked, data_not}
use Rattle.nts_trying.proofs.asked.asked_of.Goals.{then-is_asked+in_ok-push, else-is_asked}
use Rattle.nts_trying.proofs.asked.asked_of.Goals as goal

pub loop-added-init : goal.loop-added-init
loop-added-init c = c.new-asked.ensures.items

pub loop-added-preserved : goal.loop-added-preserved
loop-added-preserved c =
    let e = take_more c.args.goals.now c.loop-added.added-index _ c.loop-added-test.true in
    elim c.if-is_asked.branch [
      | then-is_asked+in_ok-push w ↦ (let more = data_asked c.args.cx.now.nodes _ _ _ e (sym c.is_asked.ensures ∙ w.if-is_asked.true) in let was = c.loop-added.invariant in rw w.asked-is (w.in_ok-push.ensures.items ∙ rw was (sym more)))
      | else-is_asked w ↦ (let more = data_not c.args.cx.now.nodes _ _ _ e (sym c.is_asked.ensures ∙ w.if-is_asked.false) in rw w.asked-is (c.loop-added.invariant ∙ sym more))
    ]

pub returns : goal.returns
returns c = rw (take_all c.loop-added.added-index c.args.goals.now (omega (arith, c.loop-added-test.false))) at c.loop-added.invariant
