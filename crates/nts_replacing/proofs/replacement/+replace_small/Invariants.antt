use Rattle.nts_replacing.proofs.replacement.+replace_small.Given as goal

abbrev pub decreases-replace_small : goal.decreases-replace_small
decreases-replace_small g l = l.depth
