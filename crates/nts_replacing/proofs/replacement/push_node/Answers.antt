use Rattle.std.proofs.Common.{◌≡◌, ◌+◌, ◌-◌, arith}
use Rattle.nts_store.specs.Growth.{tree_at}
use Rattle.nts_replacing.specs.Replacement.{TasksIn}
use Rattle.nts_replacing.proofs.Replacing.{pushed_start, pushed_step, pushed_all, formed_node, TasksIn-push}
use Rattle.nts_replacing.proofs.replacement.push_node.Goals as goal

pub loop-i-init : goal.loop-i-init
loop-i-init c =
    let e = c.in_ok-push.ensures.items in
    let within : TasksIn c.args.nodes.now c.push.new.self.items = rw e (TasksIn-push c.args.nodes.now c.args.tasks.now.items _ c.requires.tasks c.requires.within) in
    pushed_start c.args.nodes.now c.push.new.self.items (tree_at c.args.nodes.now c.args.node) c.child_count-count.result within c.child_count-count.ensures.count c.child_count-count.ensures.row

pub loop-i-preserved : goal.loop-i-preserved
loop-i-preserved c =
    let e : c.loop-i.i - 1 + 1 ≡ c.loop-i.i = omega arith in
    pushed_step c.args.nodes.now _ _ _ _ c.loop-i.i _ c.child.result c.loop-i.invariant e c.child.ensures.within c.child.ensures.tree c.in_ok-push-2.ensures.items

pub child-requires-clause-index : goal.child-requires-clause-index
child-requires-clause-index c = omega (arith, c.loop-i.invariant.fits)

pub returns-clause-within : goal.returns-clause-within
returns-clause-within c = c.loop-i.invariant.within

pub returns-clause-formed : goal.returns-clause-formed
returns-clause-formed c =
    formed_node (tree_at c.args.nodes.now c.args.node) c.label-label.result c.label-label.ensures.is c.label-label.ensures.formed

pub returns-clause-jobs : goal.returns-clause-jobs
returns-clause-jobs c =
    let z : c.loop-i.i ≡ 0 = omega arith in
    pushed_all c.args.nodes.now _ _ _ c.args.node c.label-label.result c.child_count-count.result c.loop-i.i c.loop-i.invariant z c.in_ok-push.ensures.items c.label-label.ensures.is c.child_count-count.ensures.count
