use Rattle.std.proofs.Common.{sym, ◌++◌, subst, get_or, take}
use Rattle.std.proofs.lemmas.List.{take_more}
use Rattle.nts_terms.specs.declared.handles.Goal.{Goal}
use Rattle.nts_certainty.specs.declared.sources.GoalSource.{GoalSource}
use Rattle.nts_meaning.proofs.Evaluating.{Runs-refl, Runs-trans, IsPosed-later}
use Rattle.nts_posing.specs.Posed.{PosesGoals}
use Rattle.nts_posing.proofs.PosedMore.{none_posed, poses_more}
use Rattle.nts_posing.proofs.posing.pose_goals.Goals as goal

pub loop-given-init : goal.loop-given-init
loop-given-init c =
    let none = c.new-posed.ensures.items in
    record { runs = Runs-refl c.requires.table; poses = rw none (none_posed c.args.kind c.args.cx.now.nodes c.args.table.now) }

pub pose_one-requires : goal.pose_one-requires
pose_one-requires c = record { posed = IsPosed-later c.loop-given.invariant.runs.goes (c.requires.posed c.loop-given.given-index _ c.loop-given-test.true) }

pub loop-given-preserved : goal.loop-given-preserved
loop-given-preserved c =
    let i = c.loop-given.invariant in
    let a = c.in_ok-pose_one.ensures.poses in
    let runs = c.pose_one.ensures.runs in
    let gs = c.args.goals.now in
    let n = c.loop-given.given-index in
    let z : GoalSource × Goal = get_or gs n _ in
    let ts = c.args.cx.now.nodes in
    let more = poses_more c.args.kind ts c.loop-given.cx.nodes c.pose_one.new.cx.nodes c.args.table.now c.loop-given.table c.pose_one.new.table (take n gs) z c.loop-given.posed.items a.more i.poses a.poses i.runs.goes.extends runs.goes (c.requires.posed n _ c.loop-given-test.true) in
    record {
      runs = Runs-trans i.runs runs;
      poses = rw a.behind (subst (λ hs. PosesGoals c.args.kind ts c.pose_one.new.cx.nodes c.args.table.now c.pose_one.new.table hs (c.loop-given.posed.items ++ a.more)) (sym (take_more gs n _ c.loop-given-test.true)) more);
    }

pub returns-in_err-pose_one-clause-runs : goal.returns-in_err-pose_one-clause-runs
returns-in_err-pose_one-clause-runs c = Runs-trans c.loop-given.invariant.runs c.pose_one.ensures.runs
