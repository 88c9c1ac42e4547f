use Rattle.std.proofs.Common.{◌≤◌, ◌∷◌, reverse}
use Rattle.nts_model.specs.Terms.Trees.{children}
use Rattle.nts_store.specs.Growth.{tree_at}
use Rattle.nts_wording.specs.declared.printer.Piece.TheVariants as pieces
use Rattle.nts_wording.specs.Pieces.{lexicon_of}
use Rattle.nts_wording.proofs.Printed.{PrintsFrom}
use Rattle.nts_wording.proofs.printer.Printer.open.Given as goal

abbrev pub invariant-loop-i : goal.invariant-loop-i
invariant-loop-i l = record {
  bound : l.i ≤ l.count;
  prints : PrintsFrom (lexicon_of l.fn.self) (children (tree_at l.fn.self.nodes.now l.fn.list)) (pieces.Close ∷ reverse l.fn.pieces.items) l.i (reverse l.pieces.items);
}

abbrev pub decreases-loop-i : goal.decreases-loop-i
decreases-loop-i l = l.i
