use Rattle.std.proofs.Common.{sym, ◌∙◌, subst}
use Rattle.nts_model.specs.Terms.Trees.{children, IsClosed}
use Rattle.nts_model.specs.Derivations.Related.{IsAlias}
use Rattle.nts_store.specs.Growth.{tree_at}
use Rattle.nts_adding.proofs.Loose.{alias_tree, not_so}
use Rattle.nts_adding.proofs.putting.is_closed_alias.Goals as goal

pub returns-then-is_alias-clause-yes : goal.returns-then-is_alias-clause-yes
returns-then-is_alias-clause-yes c = λ q.
    let t = tree_at c.args.cx.now.nodes c.args.t.node in
    let l = c.label.result in
    let is = c.label.ensures.is in
    let closed : IsClosed t = c.has_escaping_bound_vars.ensures.no (not_so c.has_escaping_bound_vars.result q) in
    subst IsAlias (sym is) (alias_tree l (children t) c.label.ensures.formed (sym c.is_alias.ensures ∙ c.if-is_alias.true) (subst IsClosed is closed))
