use Rattle.std.proofs.Common.{◌≡◌, ◌≤◌, ◌+◌, ◌-◌, ◌++◌, ◌∷◌, [], length, length-append, ap, arith}
use Rattle.nts_store.specs.nts_model.specs.Terms.Trees.{binders}
use Rattle.nts_store.specs.Growth.{tree_at}
use Rattle.nts_replacing.proofs.Replacing.{formed_node}
use Rattle.nts_replacing.specs.Under.{AreTasksUnder}
use Rattle.nts_replacing.specs.declared.under.Task.TheVariants as task
use Rattle.nts_replacing.proofs.Walking.{binders_small, pushed_start, pushed_step, pushed_all, AreTasksUnder-push}
use Rattle.nts_replacing.proofs.under.push_node.Goals as goal

pub loop-i-preserved : goal.loop-i-preserved
loop-i-preserved c =
    let e : c.loop-i.i - 1 + 1 ≡ c.loop-i.i = omega arith in
    pushed_step c.args.nodes.now _ _ _ _ _ c.loop-i.i _ c.child-node.result c.loop-i.invariant e c.child-node.ensures.within c.child-node.ensures.tree c.in_ok-push-2.ensures.items

pub child-node-requires-clause-index : goal.child-node-requires-clause-index
child-node-requires-clause-index c = omega (arith, c.loop-i.invariant.fits)

pub returns-clause-tasks : goal.returns-clause-tasks
returns-clause-tasks c = c.loop-i.invariant.tasks

pub returns-clause-formed : goal.returns-clause-formed
returns-clause-formed c =
    formed_node (tree_at c.args.nodes.now c.args.place.node) c.label-label.result c.label-label.ensures.is c.label-label.ensures.formed

pub loop-i-init : goal.loop-i-init
loop-i-init c =
    let x = task.Build c.args.place c.label-label.result c.child_count-count.result in
    let e : c.push.new.self.items ≡ c.args.tasks.now.items ++ x ∷ [] = c.in_ok-push.ensures.items in
    let tasks : AreTasksUnder c.args.nodes.now c.push.new.self.items = rw e (AreTasksUnder-push c.args.nodes.now c.args.tasks.now.items x c.requires.tasks (record { within = c.requires.within; depth = c.requires.depth })) in
    let deep : c.args.place.depth + c.binders_of.result ≤ length c.push.new.self.items = omega (arith, c.requires.depth, c.binders_of.ensures, binders_small c.label-label.result, ap length e, length-append c.args.tasks.now.items (x ∷ [])) in
    pushed_start c.args.nodes.now _ c.push.new.self.items (tree_at c.args.nodes.now c.args.place.node) c.child_count-count.result tasks deep c.child_count-count.ensures.count c.child_count-count.ensures.row

pub returns-clause-jobs : goal.returns-clause-jobs
returns-clause-jobs c =
    let z : c.loop-i.i ≡ 0 = omega arith in
    let e : c.args.place.depth + c.binders_of.result ≡ c.args.place.depth + binders c.label-label.result = omega (arith, c.binders_of.ensures) in
    pushed_all c.args.nodes.now _ _ _ c.args.place c.label-label.result c.child_count-count.result c.loop-i.i (c.args.place.depth + c.binders_of.result) c.loop-i.invariant z c.in_ok-push.ensures.items c.label-label.ensures.is c.child_count-count.ensures.count e
