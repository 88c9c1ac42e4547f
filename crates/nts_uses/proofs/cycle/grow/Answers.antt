use Rattle.nts_store.proofs.Growing.{Extends-trans}
use Rattle.nts_table.specs.TableLaws.{IsTable-extended}
use Rattle.nts_uses.proofs.cycle.grow.Goals as goal

pub ask_in_a_search-requires-clause-table : goal.ask_in_a_search-requires-clause-table
ask_in_a_search-requires-clause-table c = IsTable-extended (Extends-trans c.add_rule_of_vec.ensures.grows.extends (Extends-trans c.trait_predicate.ensures.grows.extends c.mk_env.ensures.grows.extends)) c.next_ty_infer.ensures.table
