use Rattle.nts_store.proofs.Growing.{Extends-refl, Extends-trans}
use Rattle.nts_terms.specs.Signatures.{variances_in}
use Rattle.nts_unify.proofs.Keeping.{KeepsHidden-refl, KeepsHidden-trans}
use Rattle.nts_relating.proofs.PairLemmas.{err_of}
use Rattle.nts_variance.proofs.Onward.{equating_start, equating_run, equating_all, refused_run}
use Rattle.nts_variance.proofs.equating.run_all.Goals as goal

pub loop-error-init : goal.loop-error-init
loop-error-init c =
    let call = c.args.call.now in
    record {
      extends = Extends-refl c.args.nodes.now;
      changes = KeepsHidden-refl _;
      due = λ b h. h;
      going = equating_start (variances_in c.args.declarations.now) c.args.nodes.now c.args.table.now.entries call.pairs.items call.met.keys call.goals.items c.requires.ready c.requires.invariant;
    }

pub loop-error-preserved : goal.loop-error-preserved
loop-error-preserved c =
    let i = c.loop-error.invariant in
    let s = c.in-Ok.ensures in
    record {
      extends = Extends-trans i.extends s.extends;
      changes = KeepsHidden-trans i.changes s.changes;
      due = λ b h. s.due b (i.due b h);
      going = equating_run (variances_in c.args.declarations.now) _ _ _ _ _ _ _ _ _ _ _ _ _ _ _ _ i.going s.run;
    }

pub returns-in-Err-clause-no : goal.returns-in-Err-clause-no
returns-in-Err-clause-no c = λ q. refused_run (variances_in c.args.declarations.now) _ _ _ _ _ _ _ _ _ _ c.loop-error.invariant.going (c.in-Err.ensures.no (err_of _ _ q))

pub returns-then-not-bound-clause-all : goal.returns-then-not-bound-clause-all
returns-then-not-bound-clause-all c = equating_all (variances_in c.args.declarations.now) _ _ _ _ _ _ _ _ _ _ _ _ _ _ _ _ c.loop-error.invariant.going c.in-Ok.ensures.run c.if-not-bound.true

pub returns-then-not-bound-clause-due : goal.returns-then-not-bound-clause-due
returns-then-not-bound-clause-due c = λ b h. (let s = c.in-Ok.ensures in let i = c.loop-error.invariant in s.due b (i.due b h))
