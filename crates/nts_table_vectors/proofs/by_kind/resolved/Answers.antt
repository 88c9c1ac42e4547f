use Rattle.nts_table.specs.TableLaws.{IsTable-extended}
use Rattle.nts_table_vectors.proofs.by_kind.resolved.Goals as goal

pub returns-in_err-resolve_vars_if_possible : goal.returns-in_err-resolve_vars_if_possible
returns-in_err-resolve_vars_if_possible c = IsTable-extended c.resolve_vars_if_possible.ensures.grows.extends c.requires

pub returns : goal.returns
returns c = IsTable-extended c.resolve_vars_if_possible.ensures.grows.extends c.requires
