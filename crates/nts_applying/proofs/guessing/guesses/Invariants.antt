use Rattle.nts_canonical.specs.Forms.{trees_of}
use Rattle.nts_response.specs.Applied.{content_within, AreGuesses}
use Rattle.nts_applying.proofs.guessing.guesses.Given as goal

abbrev pub invariant-loop-i : goal.invariant-loop-i
invariant-loop-i l = AreGuesses l.cx.nodes (content_within l.cx.nodes l.table.entries l.universe) (trees_of l.cx.nodes l.values) (trees_of l.cx.nodes l.originals) l.kinds l.guessed.items
