use Rattle.nts_store.proofs.Growing.{Extends-refl, Extends-trans}
use Rattle.nts_unify.specs.Reading.{content_of}
use Rattle.nts_relating.proofs.PairLemmas.{running_start, all_step, all_done, all_bring, all_tie, err_of}
use Rattle.nts_relating.proofs.RefusalLemmas.{Refuses-before}
use Rattle.nts_relating.proofs.relate.run_all.Goals as goal
use Rattle.nts_unify.proofs.Keeping.{KeepsHidden-refl, KeepsHidden-trans, IsLater-trans}

pub loop-error-init : goal.loop-error-init
loop-error-init c =
    record { extends = Extends-refl c.args.nodes.now; changes = KeepsHidden-refl _; valid = c.requires.valid; memo = c.requires.memo; running = running_start (content_of c.args.nodes.now c.args.table.now.entries) _ c.requires.valid.lawful.sound }

pub loop-error-preserved : goal.loop-error-preserved
loop-error-preserved c =
    let i = c.loop-error.invariant in
    record {
      extends = Extends-trans i.extends c.in-Ok.ensures.extends;
      changes = KeepsHidden-trans i.changes c.in-Ok.ensures.changes;
      valid = c.in-Ok.ensures.valid;
      memo = c.in-Ok.ensures.memo;
      running = all_step c.requires.valid.lawful.sound i.valid.lawful.sound i.running c.in-Ok.ensures.run c.if-not-bound.false;
    }

pub returns-then-not-bound-clause-reduces : goal.returns-then-not-bound-clause-reduces
returns-then-not-bound-clause-reduces c =
    all_done c.requires.valid.lawful.sound c.loop-error.invariant.valid.lawful.sound c.loop-error.invariant.running c.in-Ok.ensures.run c.if-not-bound.true

pub returns-then-not-bound-clause-brings : goal.returns-then-not-bound-clause-brings
returns-then-not-bound-clause-brings c = all_bring c.loop-error.invariant.running c.in-Ok.ensures.run c.if-not-bound.true

pub returns-then-not-bound-clause-ties : goal.returns-then-not-bound-clause-ties
returns-then-not-bound-clause-ties c = all_tie c.loop-error.invariant.running c.in-Ok.ensures.run

pub returns-in-Err-clause-no : goal.returns-in-Err-clause-no
returns-in-Err-clause-no c = λ q. Refuses-before c.loop-error.invariant.running.reduces (c.in-Err.ensures.no (err_of _ _ q))

pub returns-then-not-bound-clause-later : goal.returns-then-not-bound-clause-later
returns-then-not-bound-clause-later c = IsLater-trans c.loop-error.invariant.running.later c.in-Ok.ensures.run.later
