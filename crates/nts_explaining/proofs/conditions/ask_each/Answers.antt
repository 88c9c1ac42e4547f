use Rattle.std.proofs.Common.{rules, arith}
use Rattle.nts_evaluation.specs.nts_meaning.proofs.Evaluating.{Runs-trans, Runs-refl}
use Rattle.nts_evaluation.specs.nts_trying.specs.Stepping.{ArePosed}
use Rattle.nts_evaluation.specs.nts_trying.proofs.Stepping.{posed_later}
use Rattle.nts_explaining.proofs.Numbered.{within_more}
use Rattle.nts_explaining.proofs.conditions.ask_each.Goals as goal

pub loop-number-init : goal.loop-number-init
loop-number-init g c = record { runs = Runs-refl c.requires.table; bound = omega arith; within = tt }

pub ask-requires-clause-posed : goal.ask-requires-clause-posed
ask-requires-clause-posed g c = (let later : ArePosed c.loop-number.cx.nodes c.loop-number.table c.args.goals.now = posed_later c.args.goals.now c.loop-number.invariant.runs.goes c.requires.posed in search rules)

pub ask-requires-clause-ready : goal.ask-requires-clause-ready
ask-requires-clause-ready g c = g.met.H.GoalHandler.ready_kept _ _ _ c.requires.ready c.loop-number.invariant.runs.goes.extends

pub returns-in_err-asked-clause-runs : goal.returns-in_err-asked-clause-runs
returns-in_err-asked-clause-runs g c = Runs-trans c.loop-number.invariant.runs c.in_err-asked.ensures.runs

pub returns-then-is_none-clause-runs : goal.returns-then-is_none-clause-runs
returns-then-is_none-clause-runs g c = Runs-trans c.loop-number.invariant.runs c.in_ok-asked.ensures.runs

pub loop-number-preserved : goal.loop-number-preserved
loop-number-preserved g c = record { runs = Runs-trans c.loop-number.invariant.runs c.in_ok-asked.ensures.runs; bound = omega (arith, c.loop-number-test.true); within = c.after-pass.ensures }

pub returns-clause-within : goal.returns-clause-within
returns-clause-within g c = within_more _ _ c.loop-number.pass.outcome c.loop-number.invariant.bound c.loop-number.invariant.within
