use Rattle.nts_canonicalizer.specs.Collecting.{stays_where, WalkGoesOn}
use Rattle.std.proofs.Common.{◌∙◌}
use Rattle.nts_canonicalizer.proofs.Gathering.{finish_turn}
use Rattle.nts_canonicalizer.proofs.collecting.walk.Goals as goal

turn : (c : goal.In_ok-insert-in-Finish) → WalkGoesOn (stays_where c.args.staying) c.args.nodes.now c.loop-task.tasks.items c.loop-task.leaves c.loop-task.finished.keys c.pop.new.self.items c.loop-task.leaves c.insert.new.self.keys
turn c =
    finish_turn (stays_where c.args.staying) _ _ _ c.in-Finish.term _ _ _ c.loop-task.invariant.reading (rw c.in-Finish.is at c.in-Some.ensures.items) c.in_ok-insert-in-Finish.ensures.keys

pub loop-task-smaller : goal.loop-task-smaller
loop-task-smaller c = (turn c).less

pub loop-task-preserved : goal.loop-task-preserved
loop-task-preserved c = record { reading = (turn c).reading; same = (turn c).same ∙ c.loop-task.invariant.same }
