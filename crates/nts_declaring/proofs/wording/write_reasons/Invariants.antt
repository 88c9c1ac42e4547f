use Rattle.std.proofs.Common.{◌≡◌, take, length}
use Rattle.nts_wording.specs.Growing.{Begins}
use Rattle.nts_declaring.specs.Held.{Says}
use Rattle.nts_declaring.specs.Origins.{origins_of}
use Rattle.nts_declaring.specs.Reasons.{AreReasonLines}
use Rattle.nts_declaring.proofs.wording.write_reasons.Given as goal

-- the first reasons have their lines
abbrev pub invariant-loop-number : goal.invariant-loop-number
invariant-loop-number g l = record {
  says : Says (AreReasonLines (take l.number (origins_of (length l.reasons) l.lines)) (take l.number l.reasons)) (g.W.Write.contents l.fn.output) (g.W.Write.contents l.output) l.initial.wording.text.items l.wording.text.items;
  rest : l.wording ≡ record l.initial.wording { text = l.wording.text };
  begins : Begins (g.W.Write.contents l.fn.output) (g.W.Write.contents l.output);
}
