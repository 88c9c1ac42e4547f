use Rattle.nts_store.proofs.Growing.{Extends-trans}
use Rattle.nts_table.specs.TableLaws.{IsTable-extended}
use Rattle.nts_faults.proofs.asking.ask.Goals as goal

pub evaluate-requires-clause-table : goal.evaluate-requires-clause-table
evaluate-requires-clause-table c = IsTable-extended (Extends-trans c.goal_of.ensures.grows.extends c.rules_of.ensures.grows.extends) c.in_ok-traits.ensures
