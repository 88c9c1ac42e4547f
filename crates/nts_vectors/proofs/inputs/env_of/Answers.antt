use Rattle.nts_table.specs.TableLaws.{IsTable-extended}
use Rattle.nts_vectors.proofs.inputs.env_of.Goals as goal

pub returns : goal.returns
returns g c = IsTable-extended c.mk_env.ensures.grows.extends c.requires
