use Rattle.std.proofs.Common.{take}
use Rattle.nts_wording.specs.Growing.{Begins}
use Rattle.nts_wording.specs.Answers.{IsFactLine, AreLines}
use Rattle.nts_wording.specs.Pieces.{lexicon_of, PutsText}
use Rattle.nts_wording.proofs.printer.Printer.facts.Given as goal

abbrev pub invariant-loop-fact : goal.invariant-loop-fact
invariant-loop-fact g l =
    record {
      told : PutsText (g.W.Write.contents l.fn.output) (g.W.Write.contents l.output) l.fn.self l.self (λ old text new. AreLines (IsFactLine (lexicon_of l.fn.self)) old (take l.fact-index l.facts) text new);
      begins : Begins (g.W.Write.contents l.fn.output) (g.W.Write.contents l.output);
    }
