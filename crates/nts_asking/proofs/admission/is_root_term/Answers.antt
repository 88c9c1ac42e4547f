use Rattle.std.proofs.Common.{◌≡◌, ◌↔◌, Bool, true, false, is_some, rules}
use Rattle.std.specs.Prelude.{IsTrue}
use Rattle.nts_model.specs.Tables.Resolving.{Knows}
use Rattle.nts_store.specs.Growth.{tree_at}
use Rattle.nts_unify.specs.Reading.{content_of}
use Rattle.nts_meaning.specs.Evaluation.{IsRootTerm}
use Rattle.nts_asking.proofs.Admitting.{root_term, root_escapes}
use Rattle.nts_candidates.proofs.Results.{if_then}
use Rattle.nts_asking.proofs.admission.is_root_term.Goals as goal

pub returns-then-is_some : goal.returns-then-is_some
returns-then-is_some c =
    let some : is_some c.flags-flags.result.escaping ≡ true = first_of (cc, search rules) in
    ((λ h. cc), λ h. absurd (root_escapes c.args.cx.now.nodes c.args.table.now c.args.t c.flags-flags.result c.flags-flags.ensures some h))

pub returns : goal.returns
returns c =
    let none : is_some c.flags-flags.result.escaping ≡ false = first_of (cc, search rules) in
    let same = root_term c.args.cx.now.nodes c.args.table.now c.args.t c.flags-flags.result c.flags-flags.ensures none in
    let known : Bool → Type 0 = λ b. IsTrue b ↔ Knows (content_of c.args.cx.now.nodes c.args.table.now.entries) (tree_at c.args.cx.now.nodes c.args.t) in
    let wanted : Bool → Type 0 = λ b. IsTrue b ↔ IsRootTerm c.args.cx.now.nodes c.args.table.now c.args.t in
    if_then c.knows_node.result known wanted (λ b h. ((λ t. same.0 (h.0 t)), λ k. h.1 (same.1 k))) c.knows_node.ensures
