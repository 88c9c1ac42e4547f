use Rattle.std.proofs.Common.{sym, ◌∙◌}
use Rattle.nts_store.proofs.Escaping.{closed_by_facts, open_by_facts}
use Rattle.nts_terms.proofs.cx.Cx.is_const_type.Goals as goal

pub returns-then-is_some-clause-is : goal.returns-then-is_some-clause-is
returns-then-is_some-clause-is c =
    ((λ h. cc), λ k. absurd (open_by_facts _ c.flags.result c.flags.ensures (sym c.is_some.ensures ∙ c.if-is_some.true) k.closed))

pub returns-clause-is : goal.returns-clause-is
returns-clause-is c =
    let all = c.in_ok-all_labels.ensures in
    let closed = closed_by_facts _ c.flags.result c.flags.ensures (sym c.is_some.ensures ∙ c.if-is_some.false) in
    ((λ h. record { labels = all.0 h; closed = closed }), λ k. all.1 k.labels)
