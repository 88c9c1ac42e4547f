use Rattle.nts_contexts.proofs.Frames.{keeps_refl}
use Rattle.nts_alias_uses.proofs.normal.normalize.Goals as goal

pub returns-then-not-holds : goal.returns-then-not-holds
returns-then-not-holds c = record { keeps = keeps_refl c.requires.ready }

pub returns-then-not-holds-2 : goal.returns-then-not-holds-2
returns-then-not-holds-2 c = record { keeps = keeps_refl c.requires.ready }
