use Rattle.nts_text.specs.Binders.{bound_names}
use Rattle.nts_text.proofs.resolver.Reading.type_name.Goals as goal

pub returns-in-None-clause-means : goal.returns-in-None-clause-means
returns-in-None-clause-means c = λ scope. c.named_type.ensures.means scope (bound_names c.args.bounds.now)
