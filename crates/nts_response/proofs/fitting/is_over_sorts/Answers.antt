use Rattle.std.proofs.Common.{◌≡◌, ◌↔◌, Bool, true, false, is_some, rules}
use Rattle.std.specs.Prelude.{IsTrue}
use Rattle.nts_store.specs.Growth.{tree_at}
use Rattle.nts_model.specs.Tables.Passing.{AllLabels}
use Rattle.nts_candidates.proofs.Results.{if_then}
use Rattle.nts_response.specs.OverSorts.{MayStay}
use Rattle.nts_response.specs.Applicable.{IsOverSorts}
use Rattle.nts_response.proofs.FitLemmas.{over_sorts, not_over_sorts}
use Rattle.nts_response.proofs.fitting.is_over_sorts.Goals as goal

pub returns-then-is_some : goal.returns-then-is_some
returns-then-is_some c =
    let some : is_some c.flags.result.escaping ≡ true = first_of (cc, search rules) in
    ((λ h. cc), λ h. absurd (not_over_sorts c.args.cx.now.nodes c.args.sorts.now c.args.t c.flags.result c.flags.ensures some h))

pub returns-then-not-is_well_bound : goal.returns-then-not-is_well_bound
returns-then-not-is_well_bound c = ((λ h. cc), λ h. let yes : IsTrue c.is_well_bound.result = c.is_well_bound.ensures.1 h.well_bound in cc)

pub returns : goal.returns
returns c =
    let none : is_some c.flags.result.escaping ≡ false = first_of (cc, search rules) in
    let fits = over_sorts c.args.cx.now.nodes c.args.sorts.now c.args.t c.flags.result c.flags.ensures none (c.is_well_bound.ensures.0 c.if-not-is_well_bound.false) in
    let both : Bool → Type 0 = λ b. IsTrue b ↔ AllLabels (MayStay c.args.sorts.now) (tree_at c.args.cx.now.nodes c.args.t) in
    let wanted : Bool → Type 0 = λ b. IsTrue b ↔ IsOverSorts c.args.cx.now.nodes c.args.sorts.now c.args.t in
    if_then c.all_labels.result both wanted (λ b h. ((λ t. fits.0 (h.0 t)), λ k. h.1 (fits.1 k))) c.all_labels.ensures
