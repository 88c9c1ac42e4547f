use Rattle.nts_placeholder.proofs.Relabelling.{opening_keeps_known, closing_keeps_known}
use Rattle.nts_placeholder.proofs.laws.known_stays_known.Goals as goal

pub returns : goal.returns
returns c = record { opened = opening_keeps_known; closed = closing_keeps_known }
