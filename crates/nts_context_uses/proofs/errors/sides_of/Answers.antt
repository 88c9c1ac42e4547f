use Rattle.nts_store.proofs.Growing.{Extends-trans}
use Rattle.nts_table.specs.TableLaws.{IsTable-extended}
use Rattle.nts_context_uses.proofs.errors.sides_of.Goals as goal

pub returns-in_err-right : goal.returns-in_err-right
returns-in_err-right c = IsTable-extended (Extends-trans c.mk_ty.ensures.grows.extends c.mk_ty-2.ensures.grows.extends) c.next_ty_infer.ensures.table

pub returns : goal.returns
returns c = IsTable-extended (Extends-trans c.mk_ty.ensures.grows.extends c.mk_ty-2.ensures.grows.extends) c.next_ty_infer.ensures.table
