use Rattle.nts_table.specs.TableLaws.{IsTable-extended}
use Rattle.nts_table_vectors.proofs.by_kind.looked_up.Goals as goal

pub returns : goal.returns
returns c = IsTable-extended c.shallow_resolve.ensures.grows.extends c.requires
