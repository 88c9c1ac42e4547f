use Rattle.nts_table.specs.TableLaws.{IsTable-extended}
use Rattle.nts_response_vectors.proofs.tests.region.Goals as goal

pub returns : goal.returns
returns g c = IsTable-extended c.mk_region.ensures.grows.extends c.requires
