use Rattle.std.proofs.Common.{◌≡◌, ◌↔◌, Bool, false}
use Rattle.std.specs.Prelude.{IsTrue}
use Rattle.nts_model.specs.Terms.Trees.{any_label}
use Rattle.nts_store.specs.Growth.{tree_at}
use Rattle.nts_model.specs.Tables.Passing.{AllLabels}
use Rattle.nts_meaning.specs.Evaluation.{is_internal}
use Rattle.nts_asking.proofs.Admitting.{no_label}
use Rattle.nts_candidates.proofs.Results.{if_then}
use Rattle.nts_asking.proofs.admission.has_no_internal.Goals as goal

pub returns : goal.returns
returns c =
    let tree = tree_at c.args.cx.now.nodes c.args.t in
    let same = no_label is_internal tree in
    let all : Bool → Type 0 = λ b. IsTrue b ↔ AllLabels (λ l. is_internal l ≡ false) tree in
    let wanted : Bool → Type 0 = λ b. IsTrue b ↔ (any_label is_internal tree ≡ false) in
    if_then c.all_labels.result all wanted (λ b h. ((λ t. same.0 (h.0 t)), λ k. h.1 (same.1 k))) c.all_labels.ensures
