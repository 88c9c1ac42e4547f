use Rattle.nts_table.specs.TableLaws.{IsTable-extended}
use Rattle.nts_vectors.proofs.inputs.resolved.Goals as goal

pub returns-in_err-eager_resolve_vars : goal.returns-in_err-eager_resolve_vars
returns-in_err-eager_resolve_vars c = IsTable-extended c.in_err-eager_resolve_vars.ensures.grows.extends c.requires

pub returns : goal.returns
returns c = IsTable-extended c.in_ok-eager_resolve_vars.ensures.grows.extends c.requires
