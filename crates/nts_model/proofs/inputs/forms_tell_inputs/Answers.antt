use Rattle.nts_model.proofs.Canonical.CanonicalForms.{forms_tell_inputs}
use Rattle.nts_model.proofs.inputs.forms_tell_inputs.Goals as goal

pub returns : goal.returns
returns c = record { equal_where_alike = forms_tell_inputs }
