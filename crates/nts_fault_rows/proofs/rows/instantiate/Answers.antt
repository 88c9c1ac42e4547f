use Rattle.nts_store.proofs.Growing.{Extends-trans}
use Rattle.nts_table.specs.TableLaws.{IsTable-extended}
use Rattle.nts_fault_rows.proofs.rows.instantiate.Goals as goal

pub returns : goal.returns
returns c = IsTable-extended (Extends-trans c.canonicalize_goal.ensures.grows.extends c.filled_query.ensures.extends) c.in_ok-goal.ensures
