use Rattle.std.specs.HashMap.{get}
use Rattle.std.specs.Result.{IsErrAnd}
use Rattle.std.proofs.Common.{nat_eq, Result, Ok, Err, IfOk, Some, sym, ap, ◌∙◌, ◌≡◌, ◌++◌, ◌∷◌, [], ◌-◌, length, take, drop, arith}
use Rattle.nts_replacing.specs.declared.replacement.Step.TheVariants as step
use Rattle.nts_store.specs.Growth.{tree_at}
use Rattle.nts_replacing.specs.Replacement.{IsStep, TasksIn}
use Rattle.nts_store.proofs.Growing.{Extends-trans}
use Rattle.nts_replacing.proofs.Replacing.{AreLaws, IsKnown, MayEnter, MayBuild, may_enter, may_build, may_keep, known_later, known_more, again, ends_done, ends_down, ends_known, ends_build, less_after, less_down, slice_to_end, TasksIn-front, TasksIn-extended}
use Rattle.nts_replacing.proofs.replacement.walk.Given.{Over}
use Rattle.nts_replacing.proofs.replacement.walk.Goals as goal

laws : (g : Over) (m : g.R.Replacer.Meaning) → AreLaws (g.R.Replacer.covers m) (g.R.Replacer.image m)
laws g m =
    let r = g.met.R.Replacer in
    record {
      of_empty = r.image_empty m;
      of_more = r.image_more m;
      covers = r.covers_more m;
      kind = r.kind_kept m;
    }

-- memory ran out: there is no term, and the store has more at most
ends_early : {T E : Type 0} (G : Type 0) (P Q : T → Type 0) (X : E → Type 0) (r : Result T E) → IsErrAnd r X → G → record { extends : G; within : IfOk r P; tree : IfOk r Q }
ends_early G P Q X (Ok x) h extends = absurd h
ends_early G P Q X (Err e) h extends = record { extends = extends; within = tt; tree = tt }

pub returns-in_err-result-in-Enter : goal.returns-in_err-result-in-Enter
returns-in_err-result-in-Enter g c = ends_early _ _ _ _ c.from_residual-in_err-result-in-Enter.result c.from_residual-in_err-result-in-Enter.ensures.1 (Extends-trans c.loop-task.invariant.extends c.step.ensures.extends)

pub returns-in_err-push-in-Done : goal.returns-in_err-push-in-Done
returns-in_err-push-in-Done g c = ends_early _ _ _ _ c.from_residual-in_err-push-in-Done.result c.from_residual-in_err-push-in-Done.ensures.1 (Extends-trans c.loop-task.invariant.extends c.step.ensures.extends)

pub returns-in_err-push-in-Some-get : goal.returns-in_err-push-in-Some-get
returns-in_err-push-in-Some-get g c = ends_early _ _ _ _ c.from_residual-in_err-push-in-Some-get.result c.from_residual-in_err-push-in-Some-get.ensures.1 (Extends-trans c.loop-task.invariant.extends c.step.ensures.extends)

pub returns-in_err-push_node-in-None : goal.returns-in_err-push_node-in-None
returns-in_err-push_node-in-None g c = ends_early _ _ _ _ c.from_residual-in_err-push_node-in-None.result c.from_residual-in_err-push_node-in-None.ensures.1 (Extends-trans c.loop-task.invariant.extends c.step.ensures.extends)

pub returns-in_err-made-in-Build : goal.returns-in_err-made-in-Build
returns-in_err-made-in-Build g c = ends_early _ _ _ _ c.from_residual-in_err-made-in-Build.result c.from_residual-in_err-made-in-Build.ensures.1 (Extends-trans c.loop-task.invariant.extends c.make.ensures.extends)

pub returns-in_err-remember-in-Build : goal.returns-in_err-remember-in-Build
returns-in_err-remember-in-Build g c = ends_early _ _ _ _ c.from_residual-in_err-remember-in-Build.result c.from_residual-in_err-remember-in-Build.ensures.1 (Extends-trans c.loop-task.invariant.extends c.make.ensures.extends)

pub returns-in_err-push-in-Build : goal.returns-in_err-push-in-Build
returns-in_err-push-in-Build g c = ends_early _ _ _ _ c.from_residual-in_err-push-in-Build.result c.from_residual-in_err-push-in-Build.ensures.1 (Extends-trans c.loop-task.invariant.extends c.make.ensures.extends)

-- a term that is to be entered

entering : (g : Over) (c : goal.After-step-arg-1 g) → MayEnter (g.R.Replacer.covers (g.R.Replacer.meaning c.args.nodes.now c.args.replacer.now)) c.loop-task.nodes c.in-Enter.term
entering g c =
    let m = g.R.Replacer.meaning c.args.nodes.now c.args.replacer.now in
    may_enter (g.R.Replacer.covers m) (g.R.Replacer.image m) _ _ _ _ _ _ c.loop-task.invariant.ends (rw c.in-Enter.is at c.in-Some.ensures.items)

pub step-requires-clause-within : goal.step-requires-clause-within
step-requires-clause-within g c = (entering g c).within

pub step-requires-clause-covers : goal.step-requires-clause-covers
step-requires-clause-covers g c =
    let kept = g.met.R.Replacer.meaning_kept c.args.nodes.now c.loop-task.nodes c.args.replacer.now c.requires.ready c.loop-task.invariant.extends in
    rw kept (entering g c).covers

-- a term that stands for one

pub loop-task-smaller-in-Continue-branch-4 : goal.loop-task-smaller-in-Continue-branch-4
loop-task-smaller-in-Continue-branch-4 g c =
    let m = g.R.Replacer.meaning c.args.nodes.now c.args.replacer.now in
    less_after (g.R.Replacer.covers m) (g.R.Replacer.image m) _ _ _ _ _ _ _ c.loop-task.invariant.ends c.in-Some.ensures.items c.in_ok-result-in-Enter.ensures.extends

pub loop-task-preserved-in-Continue-branch-4 : goal.loop-task-preserved-in-Continue-branch-4
loop-task-preserved-in-Continue-branch-4 g c =
    let r = g.R.Replacer in
    let m = r.meaning c.args.nodes.now c.args.replacer.now in
    let kept = g.met.R.Replacer.meaning_kept c.args.nodes.now c.loop-task.nodes c.args.replacer.now c.requires.ready c.loop-task.invariant.extends in
    let s : IsStep (r.covers m) (r.image m) c.step.new.nodes (tree_at c.loop-task.nodes c.in-Enter.term) (step.Done c.in-Done.result) = rw (kept, c.in-Done.is) at c.in_ok-result-in-Enter.ensures.step in
    let up = c.in_ok-result-in-Enter.ensures.extends in
    record {
      extends = Extends-trans c.loop-task.invariant.extends up;
      ends = ends_done (r.covers m) (r.image m) _ _ _ _ _ _ _ _ _ c.loop-task.invariant.ends (rw c.in-Enter.is at c.in-Some.ensures.items) up s c.in_ok-push-in-Done.ensures.items;
      known = known_later (r.covers m) (r.image m) c.loop-task.nodes c.step.new.nodes (λ k. get nat_eq c.loop-task.known k) up c.loop-task.invariant.known;
    }

-- a node whose children are to be entered

pub push_node-requires-clause-tasks : goal.push_node-requires-clause-tasks
push_node-requires-clause-tasks g c =
    let all : TasksIn c.loop-task.nodes (c.pop.new.self.items ++ c.in-Some.task ∷ []) = rw c.in-Some.ensures.items at c.loop-task.invariant.ends.tasks_in in
    TasksIn-extended c.in_ok-result-in-Enter.ensures.extends c.pop.new.self.items (TasksIn-front c.loop-task.nodes c.pop.new.self.items c.in-Some.task all).0

down : (g : Over) (c : goal.In_ok-push_node-in-None g) → let m = g.R.Replacer.meaning c.args.nodes.now c.args.replacer.now in IsStep (g.R.Replacer.covers m) (g.R.Replacer.image m) c.step.new.nodes (tree_at c.loop-task.nodes c.in-Enter.term) (step.Down c.in-Down.node)
down g c =
    let kept = g.met.R.Replacer.meaning_kept c.args.nodes.now c.loop-task.nodes c.args.replacer.now c.requires.ready c.loop-task.invariant.extends in
    rw (kept, c.in-Down.is) at c.in_ok-result-in-Enter.ensures.step

pub loop-task-smaller-in-Continue-branch-6 : goal.loop-task-smaller-in-Continue-branch-6
loop-task-smaller-in-Continue-branch-6 g c =
    let m = g.R.Replacer.meaning c.args.nodes.now c.args.replacer.now in
    let pushed = c.in_ok-push_node-in-None.ensures in
    less_down (g.R.Replacer.covers m) (g.R.Replacer.image m) (laws g m) _ _ _ _ _ _ _ _ _ c.loop-task.invariant.ends (rw c.in-Enter.is at c.in-Some.ensures.items) c.in_ok-result-in-Enter.ensures.extends (down g c) pushed.formed pushed.jobs

pub loop-task-preserved-in-Continue-branch-6 : goal.loop-task-preserved-in-Continue-branch-6
loop-task-preserved-in-Continue-branch-6 g c =
    let m = g.R.Replacer.meaning c.args.nodes.now c.args.replacer.now in
    let up = c.in_ok-result-in-Enter.ensures.extends in
    let pushed = c.in_ok-push_node-in-None.ensures in
    record {
      extends = Extends-trans c.loop-task.invariant.extends up;
      ends = ends_down (g.R.Replacer.covers m) (g.R.Replacer.image m) (laws g m) _ _ _ _ _ _ _ _ _ c.loop-task.invariant.ends (rw c.in-Enter.is at c.in-Some.ensures.items) up (down g c) pushed.formed pushed.within pushed.jobs;
      known = known_later (g.R.Replacer.covers m) (g.R.Replacer.image m) c.loop-task.nodes c.step.new.nodes (λ k. get nat_eq c.loop-task.known k) up c.loop-task.invariant.known;
    }

-- a node that was made before

pub loop-task-smaller-in-Continue-branch-5 : goal.loop-task-smaller-in-Continue-branch-5
loop-task-smaller-in-Continue-branch-5 g c =
    let m = g.R.Replacer.meaning c.args.nodes.now c.args.replacer.now in
    less_after (g.R.Replacer.covers m) (g.R.Replacer.image m) _ _ _ _ _ _ _ c.loop-task.invariant.ends c.in-Some.ensures.items c.in_ok-result-in-Enter.ensures.extends

pub loop-task-preserved-in-Continue-branch-5 : goal.loop-task-preserved-in-Continue-branch-5
loop-task-preserved-in-Continue-branch-5 g c =
    let r = g.R.Replacer in
    let m = r.meaning c.args.nodes.now c.args.replacer.now in
    let kept = g.met.R.Replacer.meaning_kept c.args.nodes.now c.loop-task.nodes c.args.replacer.now c.requires.ready c.loop-task.invariant.extends in
    let s : IsStep (r.covers m) (r.image m) c.step.new.nodes (tree_at c.loop-task.nodes c.in-Enter.term) (step.Down c.in-Down.node) = rw (kept, c.in-Down.is) at c.in_ok-result-in-Enter.ensures.step in
    let up = c.in_ok-result-in-Enter.ensures.extends in
    let later = known_later (r.covers m) (r.image m) c.loop-task.nodes c.step.new.nodes (λ k. get nat_eq c.loop-task.known k) up c.loop-task.invariant.known in
    let at : get nat_eq c.loop-task.known c.in-Down.node.number ≡ Some c.in-Some-get.result.now = sym (rw c.in-Some-get.is at c.get.ensures.value) in
    record {
      extends = Extends-trans c.loop-task.invariant.extends up;
      ends = ends_known (r.covers m) (r.image m) _ _ _ _ _ _ _ _ _ _ c.loop-task.invariant.ends (rw c.in-Enter.is at c.in-Some.ensures.items) up s (later c.in-Down.node.number c.in-Some-get.result.now at) c.in_ok-push-in-Some-get.ensures.items;
      known = later;
    }

-- a node that is to be made

building_of : (g : Over) (c : goal.After-make-arg-in-Build-1 g) → MayBuild c.loop-task.nodes c.in-Build.label (take (length c.deref.result.now - c.saturating_sub-first.result) (drop c.saturating_sub-first.result c.deref.result.now))
building_of g c =
    let m = g.R.Replacer.meaning c.args.nodes.now c.args.replacer.now in
    let first : c.saturating_sub-first.result ≡ length c.loop-task.found.items - c.in-Build.count = omega arith in
    may_build (g.R.Replacer.covers m) (g.R.Replacer.image m) _ _ _ _ _ _ _ _ _ _ c.loop-task.invariant.ends (rw c.in-Build.is at c.in-Some.ensures.items) first (slice_to_end c.deref.result.now c.loop-task.found.items c.saturating_sub-first.result c.deref.ensures.value)

pub make-requires-clause-within : goal.make-requires-clause-within
make-requires-clause-within g c = (building_of g c).within

pub make-requires-clause-formed : goal.make-requires-clause-formed
make-requires-clause-formed g c = (building_of g c).formed

pub loop-task-smaller : goal.loop-task-smaller
loop-task-smaller g c =
    let m = g.R.Replacer.meaning c.args.nodes.now c.args.replacer.now in
    less_after (g.R.Replacer.covers m) (g.R.Replacer.image m) _ _ _ _ _ _ _ c.loop-task.invariant.ends c.in-Some.ensures.items c.in_ok-made-in-Build.ensures.extends

pub loop-task-preserved : goal.loop-task-preserved
loop-task-preserved g c =
    let m = g.R.Replacer.meaning c.args.nodes.now c.args.replacer.now in
    let made = c.in_ok-made-in-Build.ensures in
    let first : c.saturating_sub-first.result ≡ length c.loop-task.found.items - c.in-Build.count = omega arith in
    let last = slice_to_end c.deref.result.now c.loop-task.found.items c.saturating_sub-first.result c.deref.ensures.value in
    let new : c.push-in-Build.new.self.items ≡ take c.saturating_sub-first.result c.loop-task.found.items ++ c.in_ok-made-in-Build.made ∷ [] = rw (← c.truncate.ensures.items) c.in_ok-push-in-Build.ensures.items in
    let C = g.R.Replacer.covers m in
    let f = g.R.Replacer.image m in
    let later = known_later C f c.loop-task.nodes c.make.new.self (λ k. get nat_eq c.loop-task.known k) made.extends c.loop-task.invariant.known in
    let keep = may_keep C f _ _ _ _ _ _ _ _ _ _ c.loop-task.invariant.ends (rw c.in-Build.is at c.in-Some.ensures.items) first last in
    let still = made.extends.kept c.in-Build.node keep.0 in
    let one : IsKnown C f c.make.new.self c.in-Build.node.number c.in_ok-made-in-Build.made = record {
      node_in = omega (arith, made.extends.longer, keep.0);
      within = made.within;
      tree = made.tree ∙ keep.1 ∙ ap (again C f) (sym still);
    } in
    record {
      extends = Extends-trans c.loop-task.invariant.extends made.extends;
      ends = ends_build (g.R.Replacer.covers m) (g.R.Replacer.image m) _ _ _ _ _ _ _ _ _ _ _ _ _ c.loop-task.invariant.ends (rw c.in-Build.is at c.in-Some.ensures.items) made.extends first last made.within made.tree new;
      known = known_more C f c.make.new.self (λ k. get nat_eq c.loop-task.known k) (λ k. get nat_eq c.remember.new.known k) c.in-Build.node.number c.in_ok-made-in-Build.made later one c.in_ok-remember-in-Build.ensures.held;
    }
