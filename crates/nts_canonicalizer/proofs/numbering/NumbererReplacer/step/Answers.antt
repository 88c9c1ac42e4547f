use Rattle.nts_canonicalizer.proofs.Leafless.{replace-known}
use Rattle.nts_canonicalizer.proofs.numbering.NumbererReplacer.step.Goals as goal

pub returns-then-not-flags-clause-step : goal.returns-then-not-flags-clause-step
returns-then-not-flags-clause-step c =
    (c.requires.within, replace-known _ _ c.flags.result c.flags.ensures c.if-not-flags.true)
