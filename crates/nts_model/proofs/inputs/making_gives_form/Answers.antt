use Rattle.nts_model.proofs.Canonical.CanonicalForms.{making_gives_form}
use Rattle.nts_model.proofs.inputs.making_gives_form.Goals as goal

pub returns : goal.returns
returns c = record { same_form = making_gives_form }
