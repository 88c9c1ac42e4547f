use Rattle.nts_meaning.proofs.Evaluating.{runs-back, gave_fresh}
use Rattle.nts_trying.proofs.Trying.{gave_freshened}
use Rattle.nts_trying.proofs.candidate.fresh_values.Goals as goal
use Rattle.nts_table.proofs.FreshLemmas.{fresh_brings}

pub returns-in-Err-clause-runs : goal.returns-in-Err-clause-runs
returns-in-Err-clause-runs c = runs-back c.requires c.in-Err.ensures.grows.extends c.in-Err.ensures.grows.rest c.in-Err.ensures.err

pub returns-in-Ok-clause-runs : goal.returns-in-Ok-clause-runs
returns-in-Ok-clause-runs c =
    let e = c.in-Ok.ensures in
    record { goes = (gave_fresh c.args.fresh.now c.in-Ok.values.items c.requires e.grows.extends e.table e.entries e.changes.saved e.changes.mode e.within e.trees).goes; rest = e.grows.rest }

pub returns-in-Ok-clause-values : goal.returns-in-Ok-clause-values
returns-in-Ok-clause-values c =
    let e = c.in-Ok.ensures in
    (gave_fresh c.args.fresh.now c.in-Ok.values.items c.requires e.grows.extends e.table e.entries e.changes.saved e.changes.mode e.within e.trees).values

pub returns-in-Ok-clause-fresh : goal.returns-in-Ok-clause-fresh
returns-in-Ok-clause-fresh c =
    let e = c.in-Ok.ensures in
    gave_freshened c.args.fresh.now c.in-Ok.values.items c.requires e.table e.grows.extends e.entries e.trees

pub returns-in-Ok-clause-labels : goal.returns-in-Ok-clause-labels
returns-in-Ok-clause-labels c =
    let e = c.in-Ok.ensures in
    fresh_brings _ _ _ _ c.args.fresh.now c.requires.now e.grows.extends e.entries
