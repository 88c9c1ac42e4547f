use Rattle.std.proofs.Common.{◌≡◌, [], ◌∷◌, length, vec_len, refl, sym, ap, ◌∙◌, arith}
use Rattle.std.proofs.lemmas.Grind.{common_steps}
use Rattle.nts_store.proofs.Growing.{Extends-trans}
use Rattle.nts_text.proofs.SortLemmas.{none_left as none_bound}
use Rattle.nts_wording.proofs.Fitted.{head_fits, head_grown}
use Rattle.nts_wording.proofs.Meant.{one_item}
use Rattle.nts_wording.proofs.Places.{all_placed}
use Rattle.nts_wording.proofs.Rules.{rule_of}
use Rattle.nts_wording.proofs.sentences.stated_rule.Goals as goal

pub returns-clause-rule : goal.returns-clause-rule
returns-clause-rule c = λ us later.
    let own = c.in_ok-see-2.ensures.own (c.in_ok-see.ensures.own c.new-variables.ensures.own) in
    let after = Extends-trans c.in_ok-body.ensures.grows.extends later in
    let placed = rw c.deref.ensures.value at c.in_ok-values.ensures.positions us (Extends-trans c.in_ok-heads.ensures.grows.extends after) in
    let said = rw c.deref-2.ensures.value at c.in_ok-heads.ensures.said in
    let conditions = rw c.deref-2.ensures.value at c.in_ok-body.ensures.conditions in
    let counted : vec_len c.head-item.result.binds ≡ length c.head-item.result.binds.items = grind (arith, common_steps) in
    rule_of c.bound_clauses.new.cx.nodes c.conditions.new.cx.nodes us c.see-2.new.self c.in_ok-values.values.items c.args.head.now c.args.body.now c.in_ok-heads.heads.items c.head-item.result _ _
    own (all_placed _ _ c.args.head.now c.in_ok-see-2.ensures.kept c.in_ok-see.ensures.placed, c.in_ok-see-2.ensures.placed) refl (none_bound c.head-item.result.binds.items (vec_len c.head-item.result.binds) counted (sym c.is_empty.ensures ∙ c.if-not-is_empty.false)) placed said (sym c.as_slice.ensures.value ∙ one_item c.as_slice.result.now _ c.in-len1.len_at_least c.in-len1.len_below ∙ ap (λ b. b ∷ []) (sym c.head-item.is)) after conditions later

-- the head was tested before the conditions were made
pub returns-clause-fits : goal.returns-clause-fits
returns-clause-fits c = λ k is.
    let fits = c.if-not-clause_fits.ensures in
    let now = c.bound_clauses.new.cx in
    head_grown now c.conditions.new.cx _ _ c.in_ok-body.ensures.grows (head_fits now.declarations now.nodes c.head-item.result.clause k is (fits.parts refl) (fits.declared refl))
