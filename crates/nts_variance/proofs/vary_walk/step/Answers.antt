use Rattle.std.proofs.Common.{◌≡◌, ◌+◌, ◌-◌, ◌∷◌, [], length, arith}
use Rattle.nts_variance.specs.declared.vary_walk.Task.TheVariants as task
use Rattle.nts_terms.specs.Signatures.{variances_in}
use Rattle.nts_variance.proofs.Pushing.{last_of, pair_at-in, pair_within}
use Rattle.nts_variance.proofs.VaryTurns.{task_last, parts_in, made_some, turn_owed}
use Rattle.nts_variance.proofs.vary_walk.step.Goals as goal

pub overflow_sub-last : goal.overflow_sub-last
overflow_sub-last c =
    let some = made_some (variances_in c.args.declarations.now) c.args.target.is_turned c.args.target.universe c.args.target.variable c.args.nodes.now c.args.table.now.entries c.args.walk.now.tasks.items c.in-Owe.spot c.args.walk.now.made.items c.args.walk.now.goals.items (rw c.in-Owe.is at c.requires.walk) in
    omega (arith, some, c.len-last.ensures)

pub index-made-requires : goal.index-made-requires
index-made-requires c =
    let some = made_some (variances_in c.args.declarations.now) c.args.target.is_turned c.args.target.universe c.args.target.variable c.args.nodes.now c.args.table.now.entries c.args.walk.now.tasks.items c.in-Owe.spot c.args.walk.now.made.items c.args.walk.now.goals.items (rw c.in-Owe.is at c.requires.walk) in
    omega (arith, some, c.len-last.ensures)

pub returns-in_ok-push-in-Owe-clause-turn : goal.returns-in_ok-push-in-Owe-clause-turn
returns-in_ok-push-in-Owe-clause-turn c =
    let some = made_some (variances_in c.args.declarations.now) c.args.target.is_turned c.args.target.universe c.args.target.variable c.args.nodes.now c.args.table.now.entries c.args.walk.now.tasks.items c.in-Owe.spot c.args.walk.now.made.items c.args.walk.now.goals.items (rw c.in-Owe.is at c.requires.walk) in
    let count : c.len-last.result - 1 + 1 ≡ length c.args.walk.now.made.items = omega (arith, some, c.len-last.ensures) in
    let last = last_of c.args.walk.now.made.items (c.len-last.result - 1) c.index-made.result.now count c.index-made.ensures in
    let made = parts_in (variances_in c.args.declarations.now) c.args.target.is_turned c.args.target.universe c.args.target.variable c.args.nodes.now c.args.table.now.entries _ c.args.walk.now.made.items last.before (c.index-made.result.now ∷ []) c.args.walk.now.goals.items (rw c.in-Owe.is at c.requires.walk) last.is in
    let own = task_last (variances_in c.args.declarations.now) c.args.target.is_turned c.args.target.universe c.args.target.variable c.args.nodes.now c.args.table.now.entries c.args.walk.now.tasks.items (task.Owe c.in-Owe.spot) c.args.walk.now.made.items c.args.walk.now.goals.items (rw c.in-Owe.is at c.requires.walk) in
    let within = pair_within c.args.nodes.now c.args.target.is_turned c.in-Owe.spot.variance c.index-made.result.now c.in-Owe.spot.term made.0 own.within in
    let pair = c.pair_of.ensures in
    rw c.in-Owe.is (turn_owed (variances_in c.args.declarations.now) c.args.target.is_turned c.args.target.universe c.args.target.variable c.args.nodes.now c.args.table.now.entries c.args.walk.now.tasks.items c.in-Owe.spot c.args.walk.now.made.items last.before c.index-made.result.now _ c.args.walk.now.goals.items c.push.new.self.items (rw c.in-Owe.is at c.requires.walk) last.is c.in_ok-push-in-Owe.ensures.items (rw pair (pair_at-in c.args.nodes.now c.args.target.is_turned c.in-Owe.spot.variance c.index-made.result.now c.in-Owe.spot.term)) (rw pair within.0) (rw pair within.1))
