use Rattle.nts_answering.proofs.KindLists.{GreatestSoFar}
use Rattle.nts_answering.proofs.answer_kinds.greatest.Given as goal

abbrev pub invariant-loop-i : goal.invariant-loop-i
invariant-loop-i l = GreatestSoFar l.kinds l.i l.max
