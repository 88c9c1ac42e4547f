use Rattle.nts_relating.specs.Parts.{made_at}
use Rattle.nts_relating.proofs.ValueTasks.{more_found}
use Rattle.nts_relating.proofs.ValueTurns.{value_found, turn_passed}
use Rattle.nts_relating.proofs.value_walk.step.Goals as goal

pub enter-requires : goal.enter-requires
enter-requires c = record { walk = rw c.in-Enter.is at c.requires.walk }

pub build-requires : goal.build-requires
build-requires c = record { walk = rw c.in-Build.is at c.requires.walk }

pub made_for-made-requires : goal.made_for-made-requires
made_for-made-requires c =
    let w = rw c.in-Pass.is at c.requires.walk in
    value_found c.args.nodes.now c.args.table.now.entries c.args.target.variable c.args.target.universe c.args.walk.now.root c.in-Pass.part c.args.walk.now.tasks.items (made_at c.args.walk.now.made) c.in-Pass.value w

pub returns-in_ok-insert-in-Pass-clause-turn : goal.returns-in_ok-insert-in-Pass-clause-turn
returns-in_ok-insert-in-Pass-clause-turn c =
    let w = rw c.in-Pass.is at c.requires.walk in
    rw c.in-Pass.is (turn_passed c.args.nodes.now c.args.table.now.entries c.args.target.variable c.args.target.universe c.args.walk.now.root c.in-Pass.part c.args.walk.now.tasks.items (made_at c.args.walk.now.made) (made_at c.insert.new.self) c.in-Pass.value c.made_for-made.result w c.made_for-made.ensures
    (more_found (made_at c.args.walk.now.made) (made_at c.insert.new.self) c.in-Pass.part c.made_for-made.result c.in_ok-insert-in-Pass.ensures.updates.0))
