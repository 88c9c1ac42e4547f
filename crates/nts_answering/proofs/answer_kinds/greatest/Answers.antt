use Rattle.std.proofs.Common.{arith}
use Rattle.nts_answering.proofs.KindLists.{none_passed, less_passed, more_taken, all_passed}
use Rattle.nts_answering.proofs.answer_kinds.greatest.Goals as goal
use Rattle.nts_answering.proofs.answer_kinds.greatest.Goals.{then-universe-max, else-universe-max}

pub loop-i-init : goal.loop-i-init
loop-i-init c = none_passed c.args.kinds.now

pub loop-i-preserved : goal.loop-i-preserved
loop-i-preserved c =
    let ks = c.args.kinds.now in
    let l = c.loop-i-test.true in
    elim c.if-universe-max.branch [
      | then-universe-max w ↦ rw w.max-is (more_taken ks c.loop-i.i c.loop-i.max c.universe_of-universe.result _ (omega (arith, l)) c.universe_of-universe.ensures (omega (arith, w.if-universe-max)) c.loop-i.invariant)
      | else-universe-max w ↦ rw w.max-is (less_passed ks c.loop-i.i c.loop-i.max c.universe_of-universe.result _ (omega (arith, l)) c.universe_of-universe.ensures (omega (arith, w.if-universe-max)) c.loop-i.invariant)
    ]

pub returns : goal.returns
returns c = all_passed c.args.kinds.now c.loop-i.i c.loop-i.max (omega (arith, c.loop-i-test.false)) c.loop-i.invariant
