use Rattle.nts_table.specs.TableLaws.{IsTable-extended}
use Rattle.nts_alias_uses.proofs.rigid.declared_const.Goals as goal

pub returns-in_err-is_const_type : goal.returns-in_err-is_const_type
returns-in_err-is_const_type c = IsTable-extended c.in_ok-byte.ensures.grows.extends c.requires

pub returns-in_err-id : goal.returns-in_err-id
returns-in_err-id c = rw c.in_err-id.ensures.err (IsTable-extended c.in_ok-byte.ensures.grows.extends c.requires)

pub returns : goal.returns
returns c = rw c.in_ok-id.ensures.declared (IsTable-extended c.in_ok-byte.ensures.grows.extends c.requires)
