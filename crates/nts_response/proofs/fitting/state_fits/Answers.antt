use Rattle.std.proofs.Common.{◌≡◌, ◌≤◌, length, rules, ap, ◌∙◌, subst, arith}
use Rattle.std.specs.Prelude.{All, drop, IsTrue, ◌++◌}
use Rattle.nts_response.specs.Instantiated.{state_sorts}
use Rattle.nts_response.specs.OverSorts.{IsArgIn}
use Rattle.nts_response.proofs.StateFits.{state_fitting}
use Rattle.nts_response.proofs.fitting.state_fits.Goals as goal

pub returns-clause-fits : goal.returns-clause-fits
returns-clause-fits g c =
    let ts = c.args.cx.now.nodes in
    let os = c.args.originals.now in
    let s = c.args.state.now in
    let vs = s.value.var_values.items in
    let same : c.deref-values.result.now ≡ vs = c.deref-values.ensures.value in
    let sorts : c.in_ok-sorts.sorts.items ≡ state_sorts s = rw c.deref.ensures.value at c.in_ok-sorts.ensures in
    let all : c.in_ok-named.named.items ≡ os ++ drop (length os) vs = c.in_ok-named.ensures ∙ ap (λ z. os ++ drop (length os) z) same in
    let short : length os ≤ length c.deref-values.result.now = omega (arith, c.if-originals-values.false) in
    let long : length os ≤ length vs = subst (λ z. length os ≤ length z) same short in
    let fits : IsTrue c.in_ok-all_fit.field-0 = search rules in
    let over : All (IsArgIn ts c.in_ok-sorts.sorts.items) vs = subst (λ z. All (IsArgIn ts c.in_ok-sorts.sorts.items) z) same (rw c.deref-2.ensures.value at (c.in_ok-all_fit.ensures.0 fits)) in
    state_fitting ts os c.in_ok-named.named.items s c.in_ok-sorts.sorts.items c.kinds_fit.result sorts all long over (rw (c.deref-3.ensures.value, c.deref-4.ensures.value) at c.kinds_fit.ensures)
