use Rattle.std.proofs.Common.{arith, refl}
use Rattle.nts_store.proofs.Growing.{IsIn-extended, Extends-trans}
use Rattle.nts_solver_relating.proofs.GoalsLeft.{within_at, goal_at, one_made}
use Rattle.nts_solver_relating.proofs.nodes.goals_of.Goals as goal

pub predicate_of-requires-clause-left : goal.predicate_of-requires-clause-left
predicate_of-requires-clause-left c = IsIn-extended c.loop-pair.invariant.extends _ (within_at c.args.nodes.now c.args.pairs.now c.loop-pair.pair-index _ c.requires.within (omega (arith, c.loop-pair-test.true))).0

pub predicate_of-requires-clause-right : goal.predicate_of-requires-clause-right
predicate_of-requires-clause-right c = IsIn-extended c.loop-pair.invariant.extends _ (within_at c.args.nodes.now c.args.pairs.now c.loop-pair.pair-index _ c.requires.within (omega (arith, c.loop-pair-test.true))).1

pub predicate_of-requires-clause-goal : goal.predicate_of-requires-clause-goal
predicate_of-requires-clause-goal c = goal_at c.args.nodes.now c.loop-pair.nodes c.args.pairs.now c.loop-pair.pair-index _ c.loop-pair.invariant.extends c.requires.within c.requires.goals (omega (arith, c.loop-pair-test.true))

pub loop-pair-preserved : goal.loop-pair-preserved
loop-pair-preserved c =
    let i = c.loop-pair.invariant in
    let s = c.in_ok-node.ensures in
    record {
      extends = Extends-trans i.extends s.extends;
      made = rw c.in_ok-push.ensures.items (one_made c.args.nodes.now c.loop-pair.nodes c.predicate_of.new.nodes c.args.env c.args.pairs.now c.loop-pair.made.items _ c.loop-pair.pair-index _ i.made i.extends s.extends c.requires.within refl s.within s.tree (omega (arith, c.loop-pair-test.true)));
    }
