use Rattle.nts_table.specs.TableLaws.{IsTable-extended}
use Rattle.nts_response_vectors.proofs.tests.response.Goals as goal

pub returns : goal.returns
returns g c = IsTable-extended c.canonicalize_response.ensures.grows.extends c.requires
