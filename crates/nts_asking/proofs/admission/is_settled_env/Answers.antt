use Rattle.nts_store.specs.Growth.{tree_at}
use Rattle.nts_meaning.specs.Evaluation.{is_type_variable}
use Rattle.nts_asking.proofs.Admitting.{no_label}
use Rattle.nts_asking.proofs.admission.is_settled_env.Goals as goal

pub returns-clause-answer : goal.returns-clause-answer
returns-clause-answer c =
    let same = no_label is_type_variable (tree_at c.resolve_term.new.cx.nodes c.in_ok-resolved.resolved) in
    let h = c.in_ok-settled.ensures in
    rw (← c.in_ok-resolved.ensures.tree) ((λ t. same.0 (h.0 t)), λ k. h.1 (same.1 k))
