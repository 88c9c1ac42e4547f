use Rattle.std.proofs.Common.{rules, ◌≡◌, true}
use Rattle.nts_model.specs.Terms.Trees.{children, row_length}
use Rattle.nts_store.specs.Growth.{tree_at}
use Rattle.nts_trying.proofs.AliasGoals.{alias_here}
use Rattle.nts_trying.proofs.aliases.is_alias_goal.Goals as goal

pub returns : goal.returns
returns c =
    let ts = c.args.cx.now.nodes in
    let none : row_length (children (tree_at ts c.kind-predicate.result.vars.node)) ≡ 0 = first_of (cc, search rules) in
    let is : c.concerns_alias.result ≡ true = first_of (cc, search rules) in (
      λ yes.
          alias_here ts c.args.goal c.kind-predicate.result c.kind-predicate.ensures.tree c.kind-predicate.ensures.fits c.len.ensures.row none (rw c.has_alias.ensures at (c.concerns_alias.ensures.yes is ts)) (c.has_closed_statement.ensures.0 c.if-not-has_closed_statement.false) (c.is_closed_env.ensures.0 yes),
      λ h. c.is_closed_env.ensures.1 h.environment,
    )
