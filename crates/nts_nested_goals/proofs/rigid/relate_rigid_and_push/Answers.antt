use Rattle.std.proofs.Common.{◌∙◌, sym, refl}
use Rattle.nts_store.specs.Growth.{tree_at}
use Rattle.nts_unify.specs.Reading.{content_of}
use Rattle.nts_adding.specs.Rigid.{IsNewAlias}
use Rattle.nts_meaning.proofs.Evaluating.{Runs-refl}
use Rattle.nts_nested_goals.proofs.Ended.{ended_runs}
use Rattle.nts_nested_goals.proofs.Relates.{where_added, where_ended, adds_rigidly, posed_pushed}
use Rattle.nts_nested_goals.proofs.rigid.relate_rigid_and_push.Goals as goal

pub returns-in_err-snapshot-clause-runs : goal.returns-in_err-snapshot-clause-runs
returns-in_err-snapshot-clause-runs c = rw c.in_err-snapshot.ensures.err (Runs-refl c.requires.table)

pub returns-clause-runs : goal.returns-clause-runs
returns-clause-runs c =
    let s = c.in_ok-snapshot.ensures in
    let e = c.commit_if_ok.ensures in
    ended_runs c.commit_if_ok.result c.requires.table (record { entries = s.entries; saved = s.saved; mode = s.mode }) c.relate_rigid_alias-added.ensures.runs refl e.ok e.err e.saved e.mode

pub returns-clause-declared : goal.returns-clause-declared
returns-clause-declared c = rw c.commit_if_ok.ensures.same (where_added _ c.relate_rigid_alias-added.result c.push_added-pushed.result c.relate_rigid_alias-added.ensures.declared c.push_added-pushed.ensures.refused)

pub returns-clause-was : goal.returns-clause-was
returns-clause-was c =
    let r = rw c.in_ok-snapshot.ensures.entries at c.relate_rigid_alias-added.ensures.was in
    rw c.commit_if_ok.ensures.same (where_added _ c.relate_rigid_alias-added.result c.push_added-pushed.result r c.push_added-pushed.ensures.refused)

pub returns-clause-is : goal.returns-clause-is
returns-clause-is c =
    let e = c.commit_if_ok.ensures in
    let r = c.relate_rigid_alias-added in
    rw e.same (where_ended (λ z. IsNewAlias c.args.cx.now.declarations c.args.alias.def_id c.args.table.now.entries (content_of r.new.cx.nodes z) (tree_at c.args.cx.now.nodes c.args.term.node)) r.new.table.entries c.commit_if_ok.new.self.entries r.result c.push_added-pushed.result
    (rw e.same at e.ok) (rw c.in_ok-snapshot.ensures.entries at r.ensures.is) c.push_added-pushed.ensures.refused)

pub returns-clause-related : goal.returns-clause-related
returns-clause-related c =
    let e = c.commit_if_ok.ensures in
    let p = c.push_added-pushed.ensures in
    let r = c.relate_rigid_alias-added in
    rw e.same (adds_rigidly c.args.cx.now r.new.cx c.args.table.now c.start_snapshot.new.self r.new.table c.commit_if_ok.new.self c.args.state.now c.push_added-pushed.new.state c.args.env c.args.variance c.args.alias c.args.term.node (λ v. v.items) r.result c.push_added-pushed.result
    c.in_ok-snapshot.ensures.entries (rw e.same at e.ok) r.ensures.adds p.ok p.refused)

pub returns-clause-no : goal.returns-clause-no
returns-clause-no c = λ q.
    let r = c.push_added-pushed.ensures.no (sym c.commit_if_ok.ensures.same ∙ q) in
    rw c.in_ok-snapshot.ensures.entries at (c.relate_rigid_alias-added.ensures.no r)

pub returns-clause-full : goal.returns-clause-full
returns-clause-full c = λ q. c.relate_rigid_alias-added.ensures.full (c.push_added-pushed.ensures.full (sym c.commit_if_ok.ensures.same ∙ q))

pub returns-clause-posed : goal.returns-clause-posed
returns-clause-posed c =
    let s = c.in_ok-snapshot.ensures in
    let e = c.commit_if_ok.ensures in
    let a = c.relate_rigid_alias-added.ensures in
    let p = c.push_added-pushed.ensures in
    let runs = ended_runs c.commit_if_ok.result c.requires.table (record { entries = s.entries; saved = s.saved; mode = s.mode }) a.runs refl e.ok e.err e.saved e.mode in
    posed_pushed c.relate_rigid_alias-added.new.table _ _ (λ v. v.items) c.relate_rigid_alias-added.result c.push_added-pushed.result runs.goes (rw e.same at e.ok) c.requires.before a.posed p.ok p.refused p.err
