use Rattle.nts_table.specs.TableLaws.{IsTable-extended}
use Rattle.nts_evaluation_vectors.proofs.asking.value_of.Goals as goal

pub returns-clause-table : goal.returns-clause-table
returns-clause-table c = IsTable-extended c.eager_resolve_vars.ensures.grows.extends c.requires
