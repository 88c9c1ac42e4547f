use Rattle.nts_table.specs.TableLaws.{IsTable-extended}
use Rattle.nts_table_vectors.proofs.by_kind.root_of_type.Goals as goal

pub returns : goal.returns
returns c = IsTable-extended c.opportunistic_resolve_ty_var.ensures.grows.extends c.requires
