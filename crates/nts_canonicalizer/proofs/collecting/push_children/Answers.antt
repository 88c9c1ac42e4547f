use Rattle.std.proofs.Common.{◌≡◌, ◌+◌, ◌-◌, arith}
use Rattle.nts_model.specs.Terms.Trees.{children}
use Rattle.nts_store.specs.Growth.{tree_at}
use Rattle.nts_canonicalizer.specs.declared.collecting.Task.TheVariants.{Enter}
use Rattle.nts_canonicalizer.proofs.Gathering.{TasksIn-push, pushed_none, pushed_one}
use Rattle.nts_canonicalizer.proofs.collecting.push_children.Goals as goal

pub loop-i-init : goal.loop-i-init
loop-i-init c = record {
  fits = omega (arith, c.child_count-i.ensures.count);
  within = c.requires.tasks;
  are = pushed_none c.args.nodes.now c.args.tasks.now.items (children (tree_at c.args.nodes.now c.args.term)) c.child_count-i.result c.child_count-i.ensures.row c.child_count-i.ensures.count;
}

pub loop-i-preserved : goal.loop-i-preserved
loop-i-preserved c =
    let r = children (tree_at c.args.nodes.now c.args.term) in
    let e : c.loop-i.i ≡ c.loop-i.i - 1 + 1 = omega (arith, c.loop-i-test.true) in
    record {
      fits = omega (arith, c.loop-i.invariant.fits);
      within = rw c.in_ok-push.ensures.items (TasksIn-push c.args.nodes.now c.loop-i.tasks.items (Enter c.child.result) c.loop-i.invariant.within c.child.ensures.within);
      are = pushed_one c.args.nodes.now c.args.tasks.now.items c.loop-i.tasks.items c.push.new.self.items r c.loop-i.i (c.loop-i.i - 1) c.child.result c.loop-i.invariant.are e (omega (arith, c.loop-i.invariant.fits, c.loop-i-test.true)) c.child.ensures.tree c.in_ok-push.ensures.items;
    }
