use Rattle.std.proofs.Common.{rules, sym, ◌∙◌, refl}
use Rattle.nts_evaluation.specs.nts_meaning.proofs.Evaluating.{Runs-refl}
use Rattle.nts_contexts.proofs.Begun.{root_begun}
use Rattle.nts_nested_goals.proofs.Ended.{answered, ran_out, runs_at, left_at, ended_runs}
use Rattle.nts_contexts.proofs.context.EvalCtxt.enter_root.Goals as goal

pub returns-in_err-snapshot-clause-runs : goal.returns-in_err-snapshot-clause-runs
returns-in_err-snapshot-clause-runs g c = rw c.in_err-snapshot.ensures.err (Runs-refl c.requires.table)

pub returns-clause-runs : goal.returns-clause-runs
returns-clause-runs g c =
    let s = c.in_ok-snapshot.ensures in
    let e = c.commit_if_ok.ensures in
    let k = c.requires.keeps _ _ _ c.f-answer.ensures (root_begun c.requires.table c.requires.ready (record { entries = s.entries; saved = s.saved; mode = s.mode }) refl refl c.new.ensures.items refl refl refl refl refl).is_ready in
    runs_at (search rules) (ended_runs c.commit_if_ok.result c.requires.table (record { entries = s.entries; saved = s.saved; mode = s.mode }) k.runs (search rules) e.ok e.err e.saved e.mode)

pub returns-clause-answers : goal.returns-clause-answers
returns-clause-answers g c n =
    let s = c.in_ok-snapshot.ensures in
    let e = c.commit_if_ok.ensures in
    let a = answered _ c.end-ended.result c.f-answer.result (rw e.same at n) c.end-ended.ensures.sound c.end-ended.ensures.faulted in
    record {
      before = _;
      after = _;
      begun = root_begun c.requires.table c.requires.ready (record { entries = s.entries; saved = s.saved; mode = s.mode }) refl refl c.new.ensures.items refl refl refl refl refl;
      called = rw (sym (e.same ∙ a.1)) at c.f-answer.ensures;
      left = record { cx = search rules; table = left_at _ _ c.f-answer.new.arg2.table.now.entries c.commit_if_ok.result e.ok (search rules); fault = a.0 };
    }

pub returns-clause-full : goal.returns-clause-full
returns-clause-full g c q =
    let s = c.in_ok-snapshot.ensures in
    let e = c.commit_if_ok.ensures in
    record {
      answer = c.f-answer.result;
      run = record {
        before = _;
        after = _;
        begun = root_begun c.requires.table c.requires.ready (record { entries = s.entries; saved = s.saved; mode = s.mode }) refl refl c.new.ensures.items refl refl refl refl refl;
        called = c.f-answer.ensures;
        left = ran_out _ c.end-ended.result c.f-answer.result (rw e.same at q) c.end-ended.ensures.sound c.end-ended.ensures.faulted;
      };
    }
