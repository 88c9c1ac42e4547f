use Rattle.std.proofs.Common.{refl, ◌∙◌, sym}
use Rattle.nts_meaning.proofs.Evaluating.{Runs-refl}
use Rattle.nts_nested_goals.proofs.Ended.{ended_runs}
use Rattle.nts_nested_goals.proofs.Relates.{where_added, adds_related, adds_nothing, posed_pushed}
use Rattle.nts_nested_goals.proofs.relating.relate_and_push.Goals as goal

pub returns-in_err-snapshot-clause-runs : goal.returns-in_err-snapshot-clause-runs
returns-in_err-snapshot-clause-runs g c = rw c.in_err-snapshot.ensures.err (Runs-refl c.requires.table)

pub returns-clause-runs : goal.returns-clause-runs
returns-clause-runs g c =
    let s = c.in_ok-snapshot.ensures in
    let e = c.commit_if_ok.ensures in
    ended_runs c.commit_if_ok.result c.requires.table (record { entries = s.entries; saved = s.saved; mode = s.mode }) c.relate_and_stand-added.ensures.runs refl e.ok e.err e.saved e.mode

pub returns-clause-heads : goal.returns-clause-heads
returns-clause-heads g c = rw c.commit_if_ok.ensures.same (where_added _ c.relate_and_stand-added.result c.push_added-pushed.result c.relate_and_stand-added.ensures.heads c.push_added-pushed.ensures.refused)

pub returns-clause-related : goal.returns-clause-related
returns-clause-related g c =
    let e = c.commit_if_ok.ensures in
    let p = c.push_added-pushed.ensures in
    rw e.same (adds_related c.args.cx.now c.relate_and_stand-added.new.cx c.args.table.now c.start_snapshot.new.self c.relate_and_stand-added.new.table c.commit_if_ok.new.self c.args.state.now c.push_added-pushed.new.state c.args.env c.args.variance _ _ (λ v. v.items) c.relate_and_stand-added.result c.push_added-pushed.result
    c.in_ok-snapshot.ensures.entries (rw e.same at e.ok) c.relate_and_stand-added.ensures.related p.ok p.refused)

pub returns-clause-equal : goal.returns-clause-equal
returns-clause-equal g c = λ q.
    let e = c.commit_if_ok.ensures in
    let s = c.in_ok-snapshot.ensures in
    let p = c.push_added-pushed.ensures in
    rw e.same (adds_nothing c.args.cx.now c.relate_and_stand-added.new.cx c.args.table.now c.start_snapshot.new.self c.relate_and_stand-added.new.table c.commit_if_ok.new.self c.args.state.now c.push_added-pushed.new.state _ _ (λ v. v.items) c.relate_and_stand-added.result c.push_added-pushed.result
    s.entries (rw e.same at e.ok) (c.relate_and_stand-added.ensures.equal (rw s.entries q)) p.ok p.refused)

pub returns-clause-no : goal.returns-clause-no
returns-clause-no g c = λ q h.
    let r = c.push_added-pushed.ensures.no (sym c.commit_if_ok.ensures.same ∙ q) in
    rw c.in_ok-snapshot.ensures.entries at (c.relate_and_stand-added.ensures.no r h)

pub returns-clause-unequal : goal.returns-clause-unequal
returns-clause-unequal g c = λ p q h.
    let r = c.push_added-pushed.ensures.no (sym c.commit_if_ok.ensures.same ∙ q) in
    rw c.in_ok-snapshot.ensures.entries at (c.relate_and_stand-added.ensures.unequal (rw c.in_ok-snapshot.ensures.entries p) r h)

pub returns-clause-full : goal.returns-clause-full
returns-clause-full g c = λ q. c.relate_and_stand-added.ensures.full (c.push_added-pushed.ensures.full (sym c.commit_if_ok.ensures.same ∙ q))

pub returns-clause-posed : goal.returns-clause-posed
returns-clause-posed g c =
    let s = c.in_ok-snapshot.ensures in
    let e = c.commit_if_ok.ensures in
    let a = c.relate_and_stand-added.ensures in
    let p = c.push_added-pushed.ensures in
    let runs = ended_runs c.commit_if_ok.result c.requires.table (record { entries = s.entries; saved = s.saved; mode = s.mode }) a.runs refl e.ok e.err e.saved e.mode in
    posed_pushed c.relate_and_stand-added.new.table _ _ (λ v. v.items) c.relate_and_stand-added.result c.push_added-pushed.result runs.goes (rw e.same at e.ok) c.requires.before a.posed p.ok p.refused p.err
