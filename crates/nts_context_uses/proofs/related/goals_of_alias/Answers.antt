use Rattle.nts_context_uses.proofs.related.goals_of_alias.Goals as goal

pub try_relate-requires-clause-table : goal.try_relate-requires-clause-table
try_relate-requires-clause-table c = c.new-table.ensures.table c.alias_and_word.new.cx.nodes
