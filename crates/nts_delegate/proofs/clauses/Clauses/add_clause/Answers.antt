use Rattle.std.proofs.Common.{refl}
use Rattle.std.specs.Vec.{with_item}
use Rattle.nts_delegate.specs.declared.clauses.Clauses.{Clauses}
use Rattle.nts_delegate.proofs.Ready.{ready_set, one_more}
use Rattle.nts_delegate.proofs.Traits.{added}
use Rattle.nts_delegate.proofs.clauses.Clauses.add_clause.Goals as goal

pub returns-clause-added : goal.returns-clause-added
returns-clause-added c =
    let now : Clauses = record { alloc = c.entry.new.self.alloc; traits = with_item c.entry.new.self.traits c.in_ok-entry.entry c.add.new.self; aliases = c.entry.new.self.aliases } in
    let e = c.in_ok-add.ensures in
    added c.args.self.now c.entry.new.self now c.args.clause c.in_ok-entry.entry c.index_mut.result.now c.add.new.self c.in_ok-entry.ensures.same refl c.in_ok-entry.ensures.is refl (record {
      within = c.in_ok-entry.ensures.within;
      clauses = rw (← c.index_mut.ensures.value) e.clauses;
      coinductive = rw (← c.index_mut.ensures.value) e.coinductive;
    })

pub returns-clause-ready : goal.returns-clause-ready
returns-clause-ready c = λ r holds.
    (let ts = c.args.cx.now.nodes in
    let now : Clauses = record { alloc = c.entry.new.self.alloc; traits = with_item c.entry.new.self.traits c.in_ok-entry.entry c.add.new.self; aliases = c.entry.new.self.aliases } in
    let head = c.head_of_clause-head.ensures holds.head_holds in
    ready_set ts c.entry.new.self now c.in_ok-entry.entry c.index_mut.result.now c.add.new.self refl refl c.in_ok-entry.ensures.within c.index_mut.ensures.value
    (λ all index. one_more ts c.index_mut.result.now c.add.new.self c.args.clause c.head_of_clause-head.result holds head c.in_ok-add.ensures.clauses c.in_ok-add.ensures.index all index)
    (c.in_ok-entry.ensures.ready ts r))
