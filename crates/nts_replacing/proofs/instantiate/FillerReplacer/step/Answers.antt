use Rattle.nts_store.proofs.Filling.{filled-known}
use Rattle.nts_replacing.proofs.instantiate.FillerReplacer.step.Goals as goal

pub returns-then-not-flags-clause-step : goal.returns-then-not-flags-clause-step
returns-then-not-flags-clause-step c =
    (c.requires.within, filled-known _ _ c.flags.result c.flags.ensures c.if-not-flags.true)
