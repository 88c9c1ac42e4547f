use Rattle.std.proofs.Common.{refl}
use Rattle.nts_delegate.specs.declared.clauses.Clauses.{Clauses}
use Rattle.nts_delegate.proofs.Ready.{ready_push, ready_same}
use Rattle.nts_delegate.proofs.Traits.{same_refl, same_push}
use Rattle.nts_delegate.proofs.clauses.Clauses.entry.Goals as goal

pub loop-self-init : goal.loop-self-init
loop-self-init c = record { same = same_refl c.args.self.now; ready = λ ts r. r }

pub loop-self-preserved : goal.loop-self-preserved
loop-self-preserved c =
    let i = c.loop-self.invariant in
    let now : Clauses = record { alloc = c.loop-self.self.alloc; traits = c.push.new.self; aliases = c.loop-self.self.aliases } in
    record {
      same = same_push c.args.self.now c.loop-self.self now c.new.result i.same refl c.in_ok-push.ensures.items c.new.ensures.clauses c.new.ensures.coinductive;
      ready = λ ts r. ready_push ts c.loop-self.self now c.new.result refl c.in_ok-push.ensures.items c.new.ensures.clauses c.new.ensures.index (i.ready ts r);
    }

pub returns-in_err-push-clause-ready : goal.returns-in_err-push-clause-ready
returns-in_err-push-clause-ready c = λ ts r.
    (let now : Clauses = record { alloc = c.loop-self.self.alloc; traits = c.push.new.self; aliases = c.loop-self.self.aliases } in
    ready_same ts c.loop-self.self now refl c.in_err-push.ensures.items (c.loop-self.invariant.ready ts r))

pub returns-clause-ready : goal.returns-clause-ready
returns-clause-ready c = λ ts r. c.loop-self.invariant.ready ts r
