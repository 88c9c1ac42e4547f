use Rattle.nts_program.proofs.Obeyed.{obeyed, step_kept, heads_kept, never_passed, on_error}
use Rattle.nts_program.proofs.obeying.obey.Goals as goal

pub returns-in-Some-clause-passed : goal.returns-in-Some-clause-passed
returns-in-Some-clause-passed c = never_passed _ _ c.follow.result (λ p. (let e = c.in_ok-command.ensures in let passed = rw c.in-Some.is at e.passed in let different = passed.1 p in cc different))

pub returns-in-Some-clause-refused : goal.returns-in-Some-clause-refused
returns-in-Some-clause-refused c = on_error _ c.follow.result (λ p. (let e = c.in_ok-command.ensures in let passed = rw c.in-Some.is at e.passed in let different = passed.1 p in cc different))

pub returns-in-Some-clause-obeyed : goal.returns-in-Some-clause-obeyed
returns-in-Some-clause-obeyed c =
    let e = c.in_ok-command.ensures in
    obeyed c.args.program.now c.follow.new.program c.read_command.new.names c.read_command.new.scope c.args.line.now c.in-Some.command c.follow.result
    c.follow.ensures.names c.follow.ensures.scope (rw c.in-Some.is at e.said) e.parameters c.follow.ensures.follows

pub returns-in-Some-clause-step : goal.returns-in-Some-clause-step
returns-in-Some-clause-step c = step_kept c.follow.result c.args.line.now c.args.program.now c.follow.new.program (returns-in-Some-clause-obeyed c)

pub returns-in-Some-clause-heads : goal.returns-in-Some-clause-heads
returns-in-Some-clause-heads c = heads_kept c.follow.result c.args.line.now c.args.program.now c.follow.new.program (returns-in-Some-clause-obeyed c)
