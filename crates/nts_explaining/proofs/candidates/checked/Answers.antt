use Rattle.nts_evaluation.specs.nts_trying.proofs.Adding.{posed_kept}
use Rattle.nts_explaining.proofs.candidates.checked.Goals as goal

pub condition-requires-in-Doubtful-clause-posed : goal.condition-requires-in-Doubtful-clause-posed
condition-requires-in-Doubtful-clause-posed g c = posed_kept c.args.cx.now.nodes c.leaks.new.cx.nodes c.args.table.now c.args.goals.now c.in_ok-leaks-in-Doubtful.ensures.grows.extends c.requires.posed
