use Rattle.nts_unify.proofs.JoinLemmas.{joins}
use Rattle.nts_unify.proofs.joining.join.Goals as goal

pub returns-clause-joined : goal.returns-clause-joined
returns-clause-joined c = λ ts h.
    joins ts c.args.table.now.entries _ _ _ c.args.x c.args.y c.min-universe.result c.min-low.result c.max-high.result c.variable-root.result c.variable-linked.result c.requires h c.min-low.ensures c.max-high.ensures c.in_ok-join_sub_roots.ensures.joined c.variable-root.ensures c.variable-linked.ensures c.min-universe.ensures c.in_ok-set.ensures.entries c.in_ok-bind.ensures.entries
