use Rattle.nts_store.proofs.Growing.{Extends-trans}
use Rattle.nts_table.specs.TableLaws.{IsTable-extended}
use Rattle.nts_context_uses.proofs.rule.use_rule_of_vec.Goals as goal

pub try_rule-requires-clause-table : goal.try_rule-requires-clause-table
try_rule-requires-clause-table c = IsTable-extended (Extends-trans c.vecs_of.ensures.extends (Extends-trans c.goal_of.ensures.extends (Extends-trans c.mk_ty.ensures.grows.extends c.add_fact.ensures.grows.extends))) c.next_ty_infer.ensures.table
