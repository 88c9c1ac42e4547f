-- What stands above a step.
use Rattle.nts_model.specs.Derivations.Rules.{GoalKind, coinductive_trait, normalization, other_goal}
use Rattle.nts_search.specs.declared.kinds.CurrentGoalKind.{CurrentGoalKind}
use Rattle.nts_search.specs.declared.kinds.CurrentGoalKind.TheVariants as kind

abbrev pub goal_kind_of : CurrentGoalKind → GoalKind
goal_kind_of kind.Misc = other_goal
goal_kind_of kind.CoinductiveTrait = coinductive_trait
goal_kind_of kind.NormalizesTo = normalization
