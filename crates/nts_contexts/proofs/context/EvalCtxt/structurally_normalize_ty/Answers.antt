use Rattle.std.proofs.Common.{◌≡◌, Result, Ok, ap, ◌∙◌}
use Rattle.nts_store.specs.declared.fault.EvalError.{EvalError}
use Rattle.nts_store.specs.declared.nodes.NodeId.{NodeId}
use Rattle.nts_terms.specs.declared.handles.Ty.{Ty}
use Rattle.nts_contexts.proofs.Normalized.{node_of}
use Rattle.nts_contexts.proofs.context.EvalCtxt.structurally_normalize_ty.Goals as goal

pub returns-clause-itself : goal.returns-clause-itself
returns-clause-itself g c = λ is none.
    let asked = c.structurally_normalize_term.ensures.itself (rw c.into.ensures is) none in
    let same : c.in_ok-term.term.node ≡ c.args.ty.node = node_of c.structurally_normalize_term.result c.in_ok-term.term c.into.result c.in_ok-term.was asked ∙ c.into.ensures in
    ap (λ (z : NodeId). (let answer : Result Ty EvalError = Ok (record { node = z }) in answer)) same
