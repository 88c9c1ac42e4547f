use Rattle.nts_meaning.proofs.Evaluating.{Runs-trans}
use Rattle.nts_adding.proofs.Added.{posed_later}
use Rattle.nts_nested_goals.proofs.normalizing.add_equal.Goals as goal

pub returns-in_err-variable-clause-posed : goal.returns-in_err-variable-clause-posed
returns-in_err-variable-clause-posed c = posed_later _ c.equal_to_new.ensures.runs.goes c.requires.before

pub add_all-requires-clause-before : goal.add_all-requires-clause-before
add_all-requires-clause-before c = posed_later _ c.equal_to_new.ensures.runs.goes c.requires.before

pub returns-clause-runs : goal.returns-clause-runs
returns-clause-runs c = Runs-trans c.equal_to_new.ensures.runs c.add_all.ensures.runs

pub returns-in_err-add_all-clause-runs : goal.returns-in_err-add_all-clause-runs
returns-in_err-add_all-clause-runs c = Runs-trans c.equal_to_new.ensures.runs c.add_all.ensures.runs
