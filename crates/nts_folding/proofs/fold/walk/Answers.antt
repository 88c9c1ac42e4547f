use Rattle.std.proofs.Common.{◌≡◌, ◌++◌, ◌∷◌, [], ◌-◌, length, take, drop, None, Some, sym, arith, rules}
use Rattle.nts_replacing.specs.declared.replacement.Task.TheVariants as task
use Rattle.nts_terms.specs.nts_store.specs.Growth.{tree_at, IsIn}
use Rattle.nts_folding.specs.Folding.{Starts, anywhere}
use Rattle.nts_replacing.specs.Replacement.{TasksIn}
use Rattle.nts_terms.specs.nts_store.proofs.Growing.{Extends-trans}
use Rattle.nts_terms.proofs.Moved.{KeepsRest-trans}
use Rattle.nts_replacing.proofs.Replacing.{MayBuild, slice_to_end, TasksIn-front, TasksIn-extended}
use Rattle.nts_folding.proofs.Folded.{ends_early, on_err, on_same_err, stops_within, stops_building, IsWalked, may_enter, may_build, ends_answer, ends_down, ends_build, ends_all, less_after, less_down}
use Rattle.nts_folding.proofs.fold.walk.Given.{Over}
use Rattle.nts_folding.proofs.fold.walk.Goals as goal

pub start-requires-clause-within : goal.start-requires-clause-within
start-requires-clause-within g c =
    let f = g.F.TypeFolder in
    may_enter f.answers f.enters f.leaves f.rebuilds f.fails _ _ _ _ _ _ _ _ c.loop-task.invariant.ends (rw c.in-Enter.is at c.in-Some.ensures.items)

pub returns-in_err-push-clause-err : goal.returns-in_err-push-clause-err
returns-in_err-push-clause-err g c =
    on_err _ _ _ c.from_residual.ensures.1 (λ e h. anywhere (λ t. g.met.F.TypeFolder.memory_fails t e h))

pub returns-in_err-answer-in-Enter : goal.returns-in_err-answer-in-Enter
returns-in_err-answer-in-Enter g c =
    let f = g.F.TypeFolder in
    ends_early _ _ _ _ _ _ _ c.from_residual-in_err-answer-in-Enter.result c.from_residual-in_err-answer-in-Enter.ensures.1 (record { extends = Extends-trans c.loop-task.invariant.extends c.start.ensures.grows.extends; rest = KeepsRest-trans c.loop-task.invariant.rest c.start.ensures.grows.rest }) (c.start.ensures.ready) (g.met.F.TypeFolder.keeps_trans _ _ _ c.loop-task.invariant.keeps c.start.ensures.keeps)
    (on_same_err _ _ _ c.from_residual-in_err-answer-in-Enter.ensures.1 (stops_within f.answers f.enters f.leaves f.rebuilds f.fails _ _ _ _ _ (task.Enter c.in-Enter.term) _ _ _ c.loop-task.invariant.ends (rw c.in-Enter.is at c.in-Some.ensures.items) c.in_err-answer-in-Enter.ensures.err))

pub returns-in_err-push-in-Some-2 : goal.returns-in_err-push-in-Some-2
returns-in_err-push-in-Some-2 g c =
    ends_early _ _ _ _ _ _ _ c.from_residual-in_err-push-in-Some-2.result c.from_residual-in_err-push-in-Some-2.ensures.1 (record { extends = Extends-trans c.loop-task.invariant.extends c.start.ensures.grows.extends; rest = KeepsRest-trans c.loop-task.invariant.rest c.start.ensures.grows.rest }) (c.start.ensures.ready) (g.met.F.TypeFolder.keeps_trans _ _ _ c.loop-task.invariant.keeps c.start.ensures.keeps)
    (on_err _ _ _ c.from_residual-in_err-push-in-Some-2.ensures.1 (λ e h. anywhere (λ t. g.met.F.TypeFolder.memory_fails t e h)))

pub returns-in_err-push_node-in-None : goal.returns-in_err-push_node-in-None
returns-in_err-push_node-in-None g c =
    ends_early _ _ _ _ _ _ _ c.from_residual-in_err-push_node-in-None.result c.from_residual-in_err-push_node-in-None.ensures.1 (record { extends = Extends-trans c.loop-task.invariant.extends c.start.ensures.grows.extends; rest = KeepsRest-trans c.loop-task.invariant.rest c.start.ensures.grows.rest }) (c.start.ensures.ready) (g.met.F.TypeFolder.keeps_trans _ _ _ c.loop-task.invariant.keeps c.start.ensures.keeps)
    (on_err _ _ _ c.from_residual-in_err-push_node-in-None.ensures.1 (λ e h. anywhere (λ t. g.met.F.TypeFolder.memory_fails t e h)))

pub returns-in_err-made-in-Build : goal.returns-in_err-made-in-Build
returns-in_err-made-in-Build g c =
    let f = g.F.TypeFolder in
    let first : c.saturating_sub-first.result ≡ length c.loop-task.found.items - c.in-Build.count = omega arith in
    let last = slice_to_end c.deref.result.now c.loop-task.found.items c.saturating_sub-first.result c.deref.ensures.value in
    ends_early _ _ _ _ _ _ _ c.from_residual-in_err-made-in-Build.result c.from_residual-in_err-made-in-Build.ensures.1 (record { extends = Extends-trans c.loop-task.invariant.extends c.finish.ensures.grows.extends; rest = KeepsRest-trans c.loop-task.invariant.rest c.finish.ensures.grows.rest }) (c.finish.ensures.ready) (g.met.F.TypeFolder.keeps_trans _ _ _ c.loop-task.invariant.keeps c.finish.ensures.keeps)
    (on_same_err _ _ _ c.from_residual-in_err-made-in-Build.ensures.1 (stops_building f.answers f.enters f.leaves f.rebuilds f.fails _ _ _ _ _ _ _ _ _ _ _ _ _ c.loop-task.invariant.ends (rw c.in-Build.is at c.in-Some.ensures.items) first last c.in_err-made-in-Build.ensures.err))

pub returns-in_err-push-in-Build : goal.returns-in_err-push-in-Build
returns-in_err-push-in-Build g c =
    ends_early _ _ _ _ _ _ _ c.from_residual-in_err-push-in-Build.result c.from_residual-in_err-push-in-Build.ensures.1 (record { extends = Extends-trans c.loop-task.invariant.extends c.finish.ensures.grows.extends; rest = KeepsRest-trans c.loop-task.invariant.rest c.finish.ensures.grows.rest }) (c.finish.ensures.ready) (g.met.F.TypeFolder.keeps_trans _ _ _ c.loop-task.invariant.keeps c.finish.ensures.keeps)
    (on_err _ _ _ c.from_residual-in_err-push-in-Build.ensures.1 (λ e h. anywhere (λ t. g.met.F.TypeFolder.memory_fails t e h)))

-- a term that is answered

pub loop-task-smaller-in-Continue-branch-4 : goal.loop-task-smaller-in-Continue-branch-4
loop-task-smaller-in-Continue-branch-4 g c =
    let f = g.F.TypeFolder in
    less_after f.answers f.enters f.leaves f.rebuilds f.fails _ _ _ _ _ _ _ _ _ c.loop-task.invariant.ends c.in-Some.ensures.items c.in_ok-answer-in-Enter.ensures.grows.extends

pub loop-task-preserved-in-Continue-branch-4 : goal.loop-task-preserved-in-Continue-branch-4
loop-task-preserved-in-Continue-branch-4 g c =
    let f = g.F.TypeFolder in
    let now = c.in_ok-answer-in-Enter.ensures in
    let within : IsIn c.start.new.cx.nodes c.in-Some-2.answer = rw c.in-Some-2.is at now.within in
    let starts : Starts f.answers f.enters (f.meaning c.loop-task.cx.nodes c.loop-task.folder) (tree_at c.loop-task.cx.nodes c.in-Enter.term) (Some (tree_at c.start.new.cx.nodes c.in-Some-2.answer)) (f.meaning c.start.new.cx.nodes c.start.new.folder) = rw c.in-Some-2.is at now.starts in
    record {
      extends = Extends-trans c.loop-task.invariant.extends now.grows.extends;
      rest = KeepsRest-trans c.loop-task.invariant.rest now.grows.rest;
      ready = now.ready;
      keeps = g.met.F.TypeFolder.keeps_trans _ _ _ c.loop-task.invariant.keeps now.keeps;
      ends = ends_answer f.answers f.enters f.leaves f.rebuilds f.fails _ _ _ _ _ _ _ _ _ _ _ _ c.loop-task.invariant.ends (rw c.in-Enter.is at c.in-Some.ensures.items) now.grows.extends within starts c.in_ok-push-in-Some-2.ensures;
    }

-- a node whose children are to be folded

pub push_node-requires-clause-tasks : goal.push_node-requires-clause-tasks
push_node-requires-clause-tasks g c =
    let all : TasksIn c.loop-task.cx.nodes (c.pop.new.self.items ++ c.in-Some.task ∷ []) = rw c.in-Some.ensures.items at c.loop-task.invariant.ends.tasks_in in
    TasksIn-extended c.in_ok-answer-in-Enter.ensures.grows.extends c.pop.new.self.items (TasksIn-front c.loop-task.cx.nodes c.pop.new.self.items c.in-Some.task all).0

goes_in : (g : Over) (c : goal.In_ok-push_node-in-None g) → Starts g.F.TypeFolder.answers g.F.TypeFolder.enters (g.F.TypeFolder.meaning c.loop-task.cx.nodes c.loop-task.folder) (tree_at c.loop-task.cx.nodes c.in-Enter.term) None (g.F.TypeFolder.meaning c.start.new.cx.nodes c.start.new.folder)
goes_in g c = rw c.in-None.is at c.in_ok-answer-in-Enter.ensures.starts

pub loop-task-smaller-in-Continue-branch-5 : goal.loop-task-smaller-in-Continue-branch-5
loop-task-smaller-in-Continue-branch-5 g c =
    let f = g.F.TypeFolder in
    let pushed = c.in_ok-push_node-in-None.ensures in
    less_down f.answers f.enters f.leaves f.rebuilds f.fails _ _ _ _ _ _ _ _ _ _ _ c.loop-task.invariant.ends (rw c.in-Enter.is at c.in-Some.ensures.items) c.in_ok-answer-in-Enter.ensures.grows.extends (goes_in g c) pushed.formed pushed.jobs

pub loop-task-preserved-in-Continue-branch-5 : goal.loop-task-preserved-in-Continue-branch-5
loop-task-preserved-in-Continue-branch-5 g c =
    let f = g.F.TypeFolder in
    let now = c.in_ok-answer-in-Enter.ensures in
    let pushed = c.in_ok-push_node-in-None.ensures in
    record {
      extends = Extends-trans c.loop-task.invariant.extends now.grows.extends;
      rest = KeepsRest-trans c.loop-task.invariant.rest now.grows.rest;
      ready = now.ready;
      keeps = g.met.F.TypeFolder.keeps_trans _ _ _ c.loop-task.invariant.keeps now.keeps;
      ends = ends_down f.answers f.enters f.leaves f.rebuilds f.fails _ _ _ _ _ _ _ _ _ _ _ c.loop-task.invariant.ends (rw c.in-Enter.is at c.in-Some.ensures.items) now.grows.extends (goes_in g c) pushed.formed pushed.within pushed.jobs;
    }

-- a node that is to be made

building_of : (g : Over) (c : goal.After-finish-arg-in-Build-2-1 g) → MayBuild c.loop-task.cx.nodes c.in-Build.label (take (length c.deref.result.now - c.saturating_sub-first.result) (drop c.saturating_sub-first.result c.deref.result.now))
building_of g c =
    let f = g.F.TypeFolder in
    let first : c.saturating_sub-first.result ≡ length c.loop-task.found.items - c.in-Build.count = omega arith in
    may_build f.answers f.enters f.leaves f.rebuilds f.fails _ _ _ _ _ _ _ _ _ _ _ _ c.loop-task.invariant.ends (rw c.in-Build.is at c.in-Some.ensures.items) first (slice_to_end c.deref.result.now c.loop-task.found.items c.saturating_sub-first.result c.deref.ensures.value)

pub finish-requires-clause-within : goal.finish-requires-clause-within
finish-requires-clause-within g c = (building_of g c).within

pub finish-requires-clause-formed : goal.finish-requires-clause-formed
finish-requires-clause-formed g c = (building_of g c).formed

pub loop-task-smaller : goal.loop-task-smaller
loop-task-smaller g c =
    let f = g.F.TypeFolder in
    less_after f.answers f.enters f.leaves f.rebuilds f.fails _ _ _ _ _ _ _ _ _ c.loop-task.invariant.ends c.in-Some.ensures.items c.in_ok-made-in-Build.ensures.grows.extends

pub loop-task-preserved : goal.loop-task-preserved
loop-task-preserved g c =
    let f = g.F.TypeFolder in
    let made = c.in_ok-made-in-Build.ensures in
    let first : c.saturating_sub-first.result ≡ length c.loop-task.found.items - c.in-Build.count = omega arith in
    let last = slice_to_end c.deref.result.now c.loop-task.found.items c.saturating_sub-first.result c.deref.ensures.value in
    let new : c.push-in-Build.new.list.items ≡ take c.saturating_sub-first.result c.loop-task.found.items ++ c.in_ok-made-in-Build.made ∷ [] = rw (← c.truncate.ensures.items) c.in_ok-push-in-Build.ensures in
    record {
      extends = Extends-trans c.loop-task.invariant.extends made.grows.extends;
      rest = KeepsRest-trans c.loop-task.invariant.rest made.grows.rest;
      ready = made.ready;
      keeps = g.met.F.TypeFolder.keeps_trans _ _ _ c.loop-task.invariant.keeps made.keeps;
      ends = ends_build f.answers f.enters f.leaves f.rebuilds f.fails _ _ _ _ _ _ _ _ _ _ _ _ _ _ _ _ c.loop-task.invariant.ends (rw c.in-Build.is at c.in-Some.ensures.items) made.grows.extends first last made.within made.comes_back new;
    }

walked : (g : Over) (c : goal.In_default g) → IsWalked g.F.TypeFolder.answers g.F.TypeFolder.enters g.F.TypeFolder.leaves g.F.TypeFolder.rebuilds g.F.TypeFolder.fails (g.F.TypeFolder.meaning c.args.cx.now.nodes c.args.folder.now) (tree_at c.args.cx.now.nodes c.args.t) c.loop-task.cx.nodes c.loop-task.found.items (g.F.TypeFolder.meaning c.loop-task.cx.nodes c.loop-task.folder)
walked g c =
    let f = g.F.TypeFolder in
    let none : c.loop-task.tasks.items ≡ [] = search rules in
    ends_all f.answers f.enters f.leaves f.rebuilds f.fails _ _ _ _ _ _ c.loop-task.invariant.ends none

pub index-requires : goal.index-requires
index-requires g c = omega (arith, (walked g c).some)

walked_so : (g : Over) (c : goal.After-result-1 g) → IsWalked g.F.TypeFolder.answers g.F.TypeFolder.enters g.F.TypeFolder.leaves g.F.TypeFolder.rebuilds g.F.TypeFolder.fails (g.F.TypeFolder.meaning c.args.cx.now.nodes c.args.folder.now) (tree_at c.args.cx.now.nodes c.args.t) c.loop-task.cx.nodes c.loop-task.found.items (g.F.TypeFolder.meaning c.loop-task.cx.nodes c.loop-task.folder)
walked_so g c =
    let f = g.F.TypeFolder in
    let none : c.loop-task.tasks.items ≡ [] = search rules in
    ends_all f.answers f.enters f.leaves f.rebuilds f.fails _ _ _ _ _ _ c.loop-task.invariant.ends none

pub returns-clause-within : goal.returns-clause-within
returns-clause-within g c = (walked_so g c).within c.index.result.now (sym c.index.ensures)

pub returns-clause-walk : goal.returns-clause-walk
returns-clause-walk g c = (walked_so g c).walk c.index.result.now (sym c.index.ensures)
