use Rattle.nts_store.proofs.Growing.{Extends-trans}
use Rattle.nts_table.specs.TableLaws.{IsTable-extended}
use Rattle.nts_faults.proofs.context.context.Goals as goal

pub try_enter-requires-clause-table : goal.try_enter-requires-clause-table
try_enter-requires-clause-table c = IsTable-extended (Extends-trans c.goal_of.ensures.grows.extends c.rules_of.ensures.grows.extends) c.in_ok-rhs.ensures
