use Rattle.nts_placeholder.proofs.Inverting.{closing_gives_back}
use Rattle.nts_placeholder.proofs.laws.closing_gives_back.Goals as goal

pub returns : goal.returns
returns c = record { given_back = closing_gives_back }
