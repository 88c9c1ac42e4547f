use Rattle.nts_terms.specs.Handles.{alias_head}
use Rattle.nts_delegate.proofs.AliasTables.{held_added}
use Rattle.nts_delegate.proofs.clauses.Clauses.add_norm_clause.Goals as goal

pub returns-clause-ready : goal.returns-clause-ready
returns-clause-ready c = λ ts r k. record {
  clauses = r.clauses;
  indexed = r.indexed;
  aliases = held_added ts c.args.self.now.aliases c.add.new.self (alias_head c.args.clause.alias) c.args.clause c.add.result c.add.ensures.said c.add.ensures.err c.add.ensures.others r.aliases k;
}
