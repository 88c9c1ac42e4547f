use Rattle.nts_model.proofs.Canonical.CanonicalForms.{originals_give_input, originals_are_leaves}
use Rattle.nts_model.proofs.inputs.originals_give_input.Goals as goal

pub returns : goal.returns
returns c = record { given_back = originals_give_input; leaves = originals_are_leaves }
