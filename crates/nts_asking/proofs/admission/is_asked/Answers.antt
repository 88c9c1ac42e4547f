use Rattle.std.proofs.Common.{◌≡◌, ◌↔◌, ◌||◌, Bool, false, sym, ap, ◌∙◌, arith, rules}
use Rattle.std.specs.Prelude.{IsTrue}
use Rattle.nts_model.specs.Terms.Trees.{any_label, children, row_length, row_at}
use Rattle.nts_store.specs.Growth.{tree_at}
use Rattle.nts_meaning.specs.Evaluation.{is_internal}
use Rattle.nts_asking.proofs.TwoChildren.{over_two}
use Rattle.nts_candidates.proofs.Results.{if_then}
use Rattle.nts_asking.proofs.admission.is_asked.Goals as goal

pub returns : goal.returns
returns c =
    let ts = c.args.cx.now.nodes in
    let u = tree_at c.args.cx.now.nodes c.args.t in
    let two : row_length (children (tree_at c.args.cx.now.nodes c.args.t)) ≡ 2 = omega (arith, c.child_count.ensures.count, c.if-child_count-ne2.false) in
    let named : is_internal c.label-label.result ≡ false = sym c.names_internal.ensures ∙ c.if-names_internal.false in
    let both = over_two is_internal u c.label-label.result c.label-label.ensures.is named c.child_count.ensures.row two in
    let yes : IsTrue c.in_ok-has_no_internal.field-0 = search rules in
    let first : any_label is_internal (tree_at c.args.cx.now.nodes c.child.result) ≡ false = c.in_ok-has_no_internal.ensures.0 yes in
    let none : any_label is_internal (row_at (children (tree_at c.args.cx.now.nodes c.args.t)) 0) ≡ false = ap (any_label is_internal) (sym c.child.ensures.tree) ∙ first in
    let below = c.below_only_children-below.ensures.same in
    let last : any_label is_internal (row_at (children (tree_at c.args.cx.now.nodes c.args.t)) 1) ≡ any_label is_internal (tree_at c.args.cx.now.nodes c.below_only_children-below.result) = ap (any_label is_internal) (sym c.child-2.ensures.tree) ∙ below in
    let all : any_label is_internal (tree_at c.args.cx.now.nodes c.args.t) ≡ any_label is_internal (tree_at c.args.cx.now.nodes c.below_only_children-below.result) = both ∙ ap (λ z. z || any_label is_internal (row_at (children u) 1)) none ∙ last in
    let had : Bool → Type 0 = λ b. IsTrue b ↔ (any_label is_internal (tree_at c.args.cx.now.nodes c.below_only_children-below.result) ≡ false) in
    let wanted : Bool → Type 0 = λ b. IsTrue b ↔ (any_label is_internal (tree_at c.args.cx.now.nodes c.args.t) ≡ false) in
    if_then c.has_no_internal-3.result had wanted (λ b h. ((λ t. all ∙ h.0 t), λ k. h.1 (sym all ∙ k))) c.has_no_internal-3.ensures
