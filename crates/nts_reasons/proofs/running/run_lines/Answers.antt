use Rattle.nts_wording.proofs.Growths.{Begins-refl, Begins-trans}
use Rattle.nts_program.proofs.Runs.{refused_by, some_left, none_left}
use Rattle.nts_reasons.proofs.Runs.{run_begins, run_more, run_done, run_refused}
use Rattle.nts_reasons.proofs.running.run_lines.Goals as goal

pub lines-init : goal.lines-init
lines-init g c = record {
  ready = c.new-explainer.ensures.ready;
  heads = c.new-explainer.ensures.heads;
  lined = c.new-explainer.ensures.lines;
  begins = Begins-refl;
  run = run_begins _ _ c.new-explainer.result c.new-explainer.ensures.new;
}

pub returns-then-not-branch-clause-done : goal.returns-then-not-branch-clause-done
returns-then-not-branch-clause-done g c =
    run_done c.lines.invariant.run (none_left _ c.in_ok-next_line.field-0 c.if-not-branch.true c.in_ok-next_line.ensures.found)

pub returns-in_err-handle_line-clause-refused : goal.returns-in_err-handle_line-clause-refused
returns-in_err-handle_line-clause-refused g c =
    let read = c.in_ok-next_line.ensures in
    let e = c.in_err-handle_line.ensures in
    refused_by _ c.in_err-handle_line.field-0.0 c.from_residual-in_err-handle_line.ensures.1
    (run_refused _ c.deref.result.now c.in_err-handle_line.field-0.0 c.lines.invariant.run (some_left _ c.in_ok-next_line.field-0 c.if-not-branch.false read.found)
    (rw c.deref.ensures.value read.line) read.rest e.refused e.told)

pub returns-in_err-handle_line-clause-begins : goal.returns-in_err-handle_line-clause-begins
returns-in_err-handle_line-clause-begins g c = Begins-trans c.lines.invariant.begins c.handle_line.ensures.begins

pub lines-preserved : goal.lines-preserved
lines-preserved g c =
    let read = c.in_ok-next_line.ensures in
    let e = c.in_ok-handle_line.ensures in
    record {
      ready = e.ready;
      heads = e.heads;
      lined = e.lines;
      begins = Begins-trans c.lines.invariant.begins e.begins;
      run = run_more c.deref.result.now c.lines.invariant.run (some_left _ c.in_ok-next_line.field-0 c.if-not-branch.false read.found)
          (rw c.deref.ensures.value read.line) read.rest e.answered;
    }
