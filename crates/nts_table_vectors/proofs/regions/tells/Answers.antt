use Rattle.nts_table.specs.TableLaws.{IsTable-extended}
use Rattle.nts_table_vectors.proofs.regions.tells.Goals as goal

pub returns-in_err-told : goal.returns-in_err-told
returns-in_err-told c = IsTable-extended c.make_deduplicated_region_constraints.ensures.grows.extends c.requires

pub returns : goal.returns
returns c = IsTable-extended c.make_deduplicated_region_constraints.ensures.grows.extends c.requires
