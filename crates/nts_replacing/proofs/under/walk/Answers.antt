use Rattle.std.specs.HashMap.{get}
use Rattle.std.proofs.Common.{Some, sym, ap, ◌∙◌, ◌≡◌, ◌++◌, ◌∷◌, [], ◌-◌, length, take, drop, arith}
use Rattle.nts_store.specs.Growth.{tree_at}
use Rattle.nts_store.proofs.Growing.{Extends-trans}
use Rattle.nts_replacing.proofs.Replacing.{MayBuild, slice_to_end}
use Rattle.nts_replacing.specs.contracts.under.PlacePartialEq.TheImpl as place_eq
use Rattle.nts_replacing.specs.Under.{GoesInside, IsStepUnder}
use Rattle.nts_replacing.proofs.Walking.{AreLaws, IsKnown, MayEnter, may_enter, may_build, may_keep, known_later, known_more, ends_done, ends_down, ends_known, ends_build, less_after, less_known, less_down, AreTasksUnder-extended}
use Rattle.nts_replacing.proofs.under.walk.Given.{Over}
use Rattle.nts_replacing.proofs.under.walk.Goals as goal

laws : (g : Over) (m : g.R.ReplacerUnder.Meaning) → AreLaws (g.R.ReplacerUnder.covers m) (g.R.ReplacerUnder.image m)
laws g m =
    let r = g.met.R.ReplacerUnder in
    record {
      of_empty = r.image_empty m;
      of_more = r.image_more m;
      covers = r.covers_more m;
      kind = r.kind_kept m;
    }

-- a term that was entered before under as many binders

pub loop-task-smaller-in-Continue-branch-2 : goal.loop-task-smaller-in-Continue-branch-2
loop-task-smaller-in-Continue-branch-2 g c =
    let m = g.R.ReplacerUnder.meaning c.args.replacer.now in
    less_known (g.R.ReplacerUnder.covers m) (g.R.ReplacerUnder.image m) _ _ _ _ _ _ c.loop-task.invariant.ends c.in-Some.ensures.items

pub loop-task-preserved-in-Continue-branch-2 : goal.loop-task-preserved-in-Continue-branch-2
loop-task-preserved-in-Continue-branch-2 g c =
    let m = g.R.ReplacerUnder.meaning c.args.replacer.now in
    let at : get place_eq.ghosts.eq c.loop-task.known c.in-Enter.place ≡ Some c.in-Some-get.result.now = sym (rw c.in-Some-get.is at c.get.ensures.value) in
    record {
      extends = c.loop-task.invariant.extends;
      ends = ends_known (g.R.ReplacerUnder.covers m) (g.R.ReplacerUnder.image m) _ _ _ _ _ _ _ _ c.loop-task.invariant.ends (rw c.in-Enter.is at c.in-Some.ensures.items) (c.loop-task.invariant.known c.in-Enter.place c.in-Some-get.result.now at) c.in_ok-push-in-Some-get.ensures.items;
      known = c.loop-task.invariant.known;
    }

-- a term that is to be entered

entering : (g : Over) (c : goal.After-step-arg-1 g) → MayEnter (g.R.ReplacerUnder.covers (g.R.ReplacerUnder.meaning c.args.replacer.now)) c.loop-task.nodes c.pop.new.self.items c.in-Enter.place
entering g c =
    let m = g.R.ReplacerUnder.meaning c.args.replacer.now in
    may_enter (g.R.ReplacerUnder.covers m) (g.R.ReplacerUnder.image m) _ _ _ _ _ _ c.loop-task.invariant.ends (rw c.in-Enter.is at c.in-Some.ensures.items)

pub step-requires-clause-within : goal.step-requires-clause-within
step-requires-clause-within g c = (entering g c).within

pub step-requires-clause-shallow : goal.step-requires-clause-shallow
step-requires-clause-shallow g c = omega (arith, (entering g c).depth, c.pop.new.self.small)

pub step-requires-clause-covers : goal.step-requires-clause-covers
step-requires-clause-covers g c = (entering g c).covers

-- a term that stands for one

pub loop-task-smaller-in-Continue-branch-5 : goal.loop-task-smaller-in-Continue-branch-5
loop-task-smaller-in-Continue-branch-5 g c =
    let m = g.R.ReplacerUnder.meaning c.args.replacer.now in
    less_after (g.R.ReplacerUnder.covers m) (g.R.ReplacerUnder.image m) _ _ _ _ _ _ _ c.loop-task.invariant.ends c.in-Some.ensures.items c.in_ok-result-in-None.ensures.extends

pub loop-task-preserved-in-Continue-branch-5 : goal.loop-task-preserved-in-Continue-branch-5
loop-task-preserved-in-Continue-branch-5 g c =
    let r = g.R.ReplacerUnder in
    let m = r.meaning c.args.replacer.now in
    let s : IsStepUnder (r.covers m) (r.image m) c.in-Enter.place.depth c.step.new.nodes (tree_at c.loop-task.nodes c.in-Enter.place.node) (Some c.in-Some-2.result) = rw c.in-Some-2.is at c.in_ok-result-in-None.ensures.step in
    let up = c.in_ok-result-in-None.ensures.extends in
    record {
      extends = Extends-trans c.loop-task.invariant.extends up;
      ends = ends_done (r.covers m) (r.image m) _ _ _ _ _ _ _ _ _ c.loop-task.invariant.ends (rw c.in-Enter.is at c.in-Some.ensures.items) up s.0 s.1 c.in_ok-push-in-Some-2.ensures.items;
      known = known_later (r.image m) c.loop-task.nodes c.step.new.nodes (λ k. get place_eq.ghosts.eq c.loop-task.known k) up c.loop-task.invariant.known;
    }

-- a node whose children are to be entered

entered_next : (g : Over) (c : goal.After-push_node-arg-1 g) → MayEnter (g.R.ReplacerUnder.covers (g.R.ReplacerUnder.meaning c.args.replacer.now)) c.loop-task.nodes c.pop.new.self.items c.in-Enter.place
entered_next g c =
    let m = g.R.ReplacerUnder.meaning c.args.replacer.now in
    may_enter (g.R.ReplacerUnder.covers m) (g.R.ReplacerUnder.image m) _ _ _ _ _ _ c.loop-task.invariant.ends (rw c.in-Enter.is at c.in-Some.ensures.items)

pub push_node-requires-clause-depth : goal.push_node-requires-clause-depth
push_node-requires-clause-depth g c = (entered_next g c).depth

pub push_node-requires-clause-tasks : goal.push_node-requires-clause-tasks
push_node-requires-clause-tasks g c =
    AreTasksUnder-extended c.in_ok-result-in-None.ensures.extends c.pop.new.self.items (entered_next g c).tasks

inside : (g : Over) (c : goal.In_ok-push_node-in-None-2 g) → let m = g.R.ReplacerUnder.meaning c.args.replacer.now in GoesInside (g.R.ReplacerUnder.covers m) (g.R.ReplacerUnder.image m) c.in-Enter.place.depth (tree_at c.loop-task.nodes c.in-Enter.place.node)
inside g c = rw c.in-None-2.is at c.in_ok-result-in-None.ensures.step

pub loop-task-smaller-in-Continue-branch-6 : goal.loop-task-smaller-in-Continue-branch-6
loop-task-smaller-in-Continue-branch-6 g c =
    let m = g.R.ReplacerUnder.meaning c.args.replacer.now in
    let pushed = c.in_ok-push_node-in-None-2.ensures in
    less_down (g.R.ReplacerUnder.covers m) (g.R.ReplacerUnder.image m) (laws g m) _ _ _ _ _ _ _ _ c.loop-task.invariant.ends (rw c.in-Enter.is at c.in-Some.ensures.items) c.in_ok-result-in-None.ensures.extends (inside g c) pushed.formed pushed.jobs

pub loop-task-preserved-in-Continue-branch-6 : goal.loop-task-preserved-in-Continue-branch-6
loop-task-preserved-in-Continue-branch-6 g c =
    let m = g.R.ReplacerUnder.meaning c.args.replacer.now in
    let up = c.in_ok-result-in-None.ensures.extends in
    let pushed = c.in_ok-push_node-in-None-2.ensures in
    record {
      extends = Extends-trans c.loop-task.invariant.extends up;
      ends = ends_down (g.R.ReplacerUnder.covers m) (g.R.ReplacerUnder.image m) (laws g m) _ _ _ _ _ _ _ _ c.loop-task.invariant.ends (rw c.in-Enter.is at c.in-Some.ensures.items) up (inside g c) pushed.formed pushed.tasks pushed.jobs;
      known = known_later (g.R.ReplacerUnder.image m) c.loop-task.nodes c.step.new.nodes (λ k. get place_eq.ghosts.eq c.loop-task.known k) up c.loop-task.invariant.known;
    }

-- a node that is to be made

building_of : (g : Over) (c : goal.After-make-arg-in-Build-1 g) → MayBuild c.loop-task.nodes c.in-Build.label (take (length c.deref.result.now - c.saturating_sub-first.result) (drop c.saturating_sub-first.result c.deref.result.now))
building_of g c =
    let m = g.R.ReplacerUnder.meaning c.args.replacer.now in
    let first : c.saturating_sub-first.result ≡ length c.loop-task.found.items - c.in-Build.count = omega arith in
    may_build (g.R.ReplacerUnder.covers m) (g.R.ReplacerUnder.image m) _ _ _ _ _ _ _ _ _ _ c.loop-task.invariant.ends (rw c.in-Build.is at c.in-Some.ensures.items) first (slice_to_end c.deref.result.now c.loop-task.found.items c.saturating_sub-first.result c.deref.ensures.value)

pub make-requires-clause-within : goal.make-requires-clause-within
make-requires-clause-within g c = (building_of g c).within

pub make-requires-clause-formed : goal.make-requires-clause-formed
make-requires-clause-formed g c = (building_of g c).formed

pub loop-task-smaller : goal.loop-task-smaller
loop-task-smaller g c =
    let m = g.R.ReplacerUnder.meaning c.args.replacer.now in
    less_after (g.R.ReplacerUnder.covers m) (g.R.ReplacerUnder.image m) _ _ _ _ _ _ _ c.loop-task.invariant.ends c.in-Some.ensures.items c.in_ok-made-in-Build.ensures.extends

pub loop-task-preserved : goal.loop-task-preserved
loop-task-preserved g c =
    let m = g.R.ReplacerUnder.meaning c.args.replacer.now in
    let made = c.in_ok-made-in-Build.ensures in
    let first : c.saturating_sub-first.result ≡ length c.loop-task.found.items - c.in-Build.count = omega arith in
    let last = slice_to_end c.deref.result.now c.loop-task.found.items c.saturating_sub-first.result c.deref.ensures.value in
    let new : c.push-in-Build.new.self.items ≡ take c.saturating_sub-first.result c.loop-task.found.items ++ c.in_ok-made-in-Build.made ∷ [] = rw (← c.truncate.ensures.items) c.in_ok-push-in-Build.ensures.items in
    let C = g.R.ReplacerUnder.covers m in
    let f = g.R.ReplacerUnder.image m in
    let later = known_later f c.loop-task.nodes c.make.new.self (λ k. get place_eq.ghosts.eq c.loop-task.known k) made.extends c.loop-task.invariant.known in
    let keep = may_keep C f _ _ _ _ _ _ _ _ _ _ c.loop-task.invariant.ends (rw c.in-Build.is at c.in-Some.ensures.items) first last in
    let still = made.extends.kept c.in-Build.place.node keep.0 in
    let one : IsKnown f c.make.new.self c.in-Build.place c.in_ok-made-in-Build.made = record {
      node_in = omega (arith, made.extends.longer, keep.0);
      within = made.within;
      tree = made.tree ∙ keep.1 ∙ ap (f c.in-Build.place.depth) (sym still);
    } in
    record {
      extends = Extends-trans c.loop-task.invariant.extends made.extends;
      ends = ends_build C f _ _ _ _ _ _ _ _ _ _ _ _ _ c.loop-task.invariant.ends (rw c.in-Build.is at c.in-Some.ensures.items) made.extends first last made.within made.tree new;
      known = known_more f c.make.new.self (λ k. get place_eq.ghosts.eq c.loop-task.known k) (λ k. get place_eq.ghosts.eq c.insert.new.self k) c.in-Build.place c.in_ok-made-in-Build.made later one (λ k. c.in_ok-insert-in-Build.ensures.updates.0 k);
    }
