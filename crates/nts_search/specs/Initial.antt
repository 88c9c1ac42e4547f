-- How sure the first answer of a cycle is.
use Rattle.std.specs.Prelude.{false, Option, Some, None}
use Rattle.nts_model.specs.Derivations.Rules.{Mode, coherence}
use Rattle.nts_certainty.specs.declared.certainty.Certainty.{Certainty}
use Rattle.nts_certainty.specs.declared.certainty.Certainty.TheVariants as certainty
use Rattle.nts_certainty.specs.declared.sources.PathKind.{PathKind}
use Rattle.nts_certainty.specs.declared.sources.PathKind.TheVariants as path
use Rattle.nts_certainty.specs.Certainties.{overflowing}

-- a coinductive cycle holds. Any other one is a doubt, or it is refuted, if it is inductive and nothing may be added
abbrev pub first_certainty : PathKind → Mode → Option Certainty
first_certainty path.Coinductive m = Some certainty.Yes
first_certainty path.Inductive coherence = Some (overflowing false)
first_certainty path.Inductive m = None
first_certainty k m = Some (overflowing false)
