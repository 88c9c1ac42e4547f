use Rattle.std.proofs.Common.{ℕ, List, [], ◌∷◌, reverse}
use Rattle.nts_wording.specs.Growing.{Begins}
use Rattle.nts_wording.specs.declared.printer.Piece.TheVariants as pieces
use Rattle.nts_wording.specs.Pieces.{lexicon_of, seen_by, Puts, Completes}
use Rattle.nts_wording.proofs.printer.Printer.term.Given as goal

abbrev pub invariant-turns : goal.invariant-turns
invariant-turns g l =
    record {
      printed : (text : List ℕ) × Puts (g.W.Write.contents l.fn.output) (g.W.Write.contents l.output) l.fn.self l.self text
          × Completes (lexicon_of l.fn.self) (seen_by l.fn.self) (pieces.Term l.fn.term ∷ []) text (seen_by l.self) (reverse l.pieces.items);
      begins : Begins (g.W.Write.contents l.fn.output) (g.W.Write.contents l.output);
    }
