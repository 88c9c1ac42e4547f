use Rattle.nts_evaluation.specs.nts_meaning.proofs.Evaluating.{Runs-trans}
use Rattle.nts_evaluation.specs.nts_trying.proofs.Stepping.{posed_later}
use Rattle.nts_explaining.proofs.conditions.ask_conditions.Goals as goal

pub loop-init : goal.loop-init
loop-init g c = record { runs = c.in_ok-pass.ensures.runs; within = c.in_ok-pass.ensures.within }

pub ask_each-requires-in-loop-clause-table : goal.ask_each-requires-in-loop-clause-table
ask_each-requires-in-loop-clause-table g c = (let i = c.loop.invariant.runs in i.goes.table)

pub ask_each-requires-in-loop-clause-posed : goal.ask_each-requires-in-loop-clause-posed
ask_each-requires-in-loop-clause-posed g c = posed_later c.args.goals.now c.loop.invariant.runs.goes c.requires.posed

pub ask_each-requires-in-loop-clause-ready : goal.ask_each-requires-in-loop-clause-ready
ask_each-requires-in-loop-clause-ready g c = g.met.H.GoalHandler.ready_kept _ _ _ c.requires.ready c.loop.invariant.runs.goes.extends

pub returns-in_err-pass-2-clause-runs : goal.returns-in_err-pass-2-clause-runs
returns-in_err-pass-2-clause-runs g c = Runs-trans c.loop.invariant.runs c.in_err-pass-2.ensures.runs

pub loop-preserved : goal.loop-preserved
loop-preserved g c = record { runs = Runs-trans c.loop.invariant.runs c.in_ok-pass-2.ensures.runs; within = c.in_ok-pass-2.ensures.within }
