use Rattle.nts_term_vectors.proofs.FoldedSame.{walk_same}
use Rattle.nts_term_vectors.proofs.folding.counted.Goals as goal

pub returns : goal.returns
returns c = walk_same _ _ _ _ _ _ c.in_ok-folded.ensures.walk
