use Rattle.nts_terms.proofs.SameModes.{same_mode}
use Rattle.nts_terms.proofs.modes.TypingMode.same.Goals as goal

pub returns : goal.returns
returns c = rw c.eq.ensures (same_mode c.args.self.now c.args.other.now)
