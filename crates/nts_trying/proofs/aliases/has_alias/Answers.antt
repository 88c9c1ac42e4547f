use Rattle.std.proofs.Common.{◌∙◌, sym, ap}
use Rattle.std.specs.Prelude.{◌||◌}
use Rattle.nts_trying.proofs.AliasGoals.{alias_there}
use Rattle.nts_trying.proofs.aliases.has_alias.Goals as goal

pub returns-then-env : goal.returns-then-env
returns-then-env c = c.if-env.true ∙ sym (ap (λ z. z || c.flags-says.result.has_alias) c.if-env.true) ∙ (alias_there c.args.cx.now.nodes c.args.goal c.flags-env.result c.flags-says.result c.flags-env.ensures c.flags-says.ensures)

pub returns-else-env : goal.returns-else-env
returns-else-env c = rw c.if-env.false at (alias_there c.args.cx.now.nodes c.args.goal c.flags-env.result c.flags-says.result c.flags-env.ensures c.flags-says.ensures)
