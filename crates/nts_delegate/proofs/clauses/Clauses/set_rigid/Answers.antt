use Rattle.nts_terms.specs.Handles.{alias_head}
use Rattle.nts_delegate.proofs.AliasTables.{held_rigid}
use Rattle.nts_delegate.proofs.clauses.Clauses.set_rigid.Goals as goal

pub returns-clause-ready : goal.returns-clause-ready
returns-clause-ready c = λ ts r. record {
  clauses = r.clauses;
  indexed = r.indexed;
  aliases = held_rigid ts c.args.self.now.aliases c.set_rigid.new.self (alias_head c.args.alias) c.set_rigid.result c.set_rigid.ensures.said c.set_rigid.ensures.err c.set_rigid.ensures.others r.aliases;
}
