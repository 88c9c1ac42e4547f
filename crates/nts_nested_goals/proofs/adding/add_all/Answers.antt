use Rattle.std.proofs.Common.{refl}
use Rattle.nts_meaning.proofs.Evaluating.{Runs-refl, IsPosed-opened}
use Rattle.nts_nested_goals.proofs.Ended.{ended_runs}
use Rattle.nts_nested_goals.proofs.Relates.{adds_to, posed_pushed}
use Rattle.nts_nested_goals.proofs.adding.add_all.Goals as goal

pub returns-in_err-snapshot-clause-runs : goal.returns-in_err-snapshot-clause-runs
returns-in_err-snapshot-clause-runs c = rw c.in_err-snapshot.ensures.err (Runs-refl c.requires.table)

pub goals_to_add-added-requires-clause-posed : goal.goals_to_add-added-requires-clause-posed
goals_to_add-added-requires-clause-posed c = λ k d l. IsPosed-opened (c.requires.posed k d l) c.in_ok-snapshot.ensures.entries c.in_ok-snapshot.ensures.saved

pub returns-clause-runs : goal.returns-clause-runs
returns-clause-runs c =
    let s = c.in_ok-snapshot.ensures in
    let e = c.commit_if_ok.ensures in
    ended_runs c.commit_if_ok.result c.requires.table (record { entries = s.entries; saved = s.saved; mode = s.mode }) c.goals_to_add-added.ensures.runs refl e.ok e.err e.saved e.mode

pub returns-clause-adds : goal.returns-clause-adds
returns-clause-adds c =
    let e = c.commit_if_ok.ensures in
    let a = c.goals_to_add-added.ensures in
    let p = c.push_added-pushed.ensures in
    rw e.same (adds_to c.args.cx.now c.goals_to_add-added.new.cx c.args.table.now c.start_snapshot.new.self c.goals_to_add-added.new.table c.commit_if_ok.new.self c.args.source c.args.goals.now _ _ (λ v. v.items) c.goals_to_add-added.result c.push_added-pushed.result c.in_ok-snapshot.ensures.entries (rw e.same at e.ok) a.adds p.ok p.refused)

pub returns-clause-posed : goal.returns-clause-posed
returns-clause-posed c =
    let s = c.in_ok-snapshot.ensures in
    let e = c.commit_if_ok.ensures in
    let a = c.goals_to_add-added.ensures in
    let p = c.push_added-pushed.ensures in
    let runs = ended_runs c.commit_if_ok.result c.requires.table (record { entries = s.entries; saved = s.saved; mode = s.mode }) a.runs refl e.ok e.err e.saved e.mode in
    posed_pushed c.goals_to_add-added.new.table _ _ (λ v. v.items) c.goals_to_add-added.result c.push_added-pushed.result runs.goes (rw e.same at e.ok) c.requires.before a.posed p.ok p.refused p.err
