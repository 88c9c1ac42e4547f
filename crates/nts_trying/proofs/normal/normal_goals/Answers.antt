use Rattle.nts_meaning.proofs.Evaluating.{Runs-extends}
use Rattle.nts_trying.proofs.normal.normal_goals.Goals as goal

pub returns-clause-runs : goal.returns-clause-runs
returns-clause-runs c = (let n = c.normalize_one.ensures.grows in Runs-extends c.requires.posed.table n.extends n.rest)
