use Rattle.nts_model.specs.Tables.Resolving.{rank_of_kind}
use Rattle.nts_table.proofs.resolver.Resolver.+variable_step.Given as goal

abbrev pub decreases-variable_step : goal.decreases-variable_step
decreases-variable_step l = rank_of_kind l.kind
