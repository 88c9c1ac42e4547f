use Rattle.std.proofs.Common.{take}
use Rattle.std.specs.List.{zip}
use Rattle.nts_text.specs.Spelled.{type_names}
use Rattle.nts_wording.specs.Growing.{Begins}
use Rattle.nts_wording.specs.Answers.{bound_by, IsValueLine, AreLines}
use Rattle.nts_wording.specs.Pieces.{lexicon_of, PutsText}
use Rattle.nts_wording.proofs.printer.Printer.values.Given as goal

abbrev pub invariant-loop-i : goal.invariant-loop-i
invariant-loop-i g l =
    record {
      told : PutsText (g.W.Write.contents l.fn.output) (g.W.Write.contents l.output) l.fn.self l.self (λ old text new. AreLines (IsValueLine (lexicon_of l.fn.self)) old
          (bound_by l.found.values.items (zip (take l.i (type_names l.fn.self.scope.now.variables)) (take l.i l.found.variables.types.items))) text new);
      begins : Begins (g.W.Write.contents l.fn.output) (g.W.Write.contents l.output);
    }
