use Rattle.std.proofs.Common.{refl}
use Rattle.nts_response.proofs.same.same_findings.Goals as goal

pub returns-then-not-all_same : goal.returns-then-not-all_same
returns-then-not-all_same c =
    let one = rw (c.deref.ensures.value, c.deref-2.ensures.value) at c.if-not-all_same.ensures in
    ((λ t. cc), λ f. one.1 f.values)

pub returns-then-not-all_same-2 : goal.returns-then-not-all_same-2
returns-then-not-all_same-2 c =
    let one = rw (c.deref-3.ensures.value, c.deref-4.ensures.value) at c.if-not-all_same-2.ensures in
    ((λ t. cc), λ f. one.1 f.constraints)

pub returns-then-not-all_same-3 : goal.returns-then-not-all_same-3
returns-then-not-all_same-3 c =
    let one = rw (c.deref-5.ensures.value, c.deref-6.ensures.value) at c.if-not-all_same-3.ensures in
    ((λ t. cc), λ f. one.1 f.hidden)

pub returns : goal.returns
returns c =
    let values = rw (c.deref.ensures.value, c.deref-2.ensures.value) at c.if-not-all_same.ensures in
    let constraints = rw (c.deref-3.ensures.value, c.deref-4.ensures.value) at c.if-not-all_same-2.ensures in
    let hidden = rw (c.deref-5.ensures.value, c.deref-6.ensures.value) at c.if-not-all_same-3.ensures in
    let open_goals = rw (c.deref-7.ensures.value, c.deref-8.ensures.value) at c.all_same-4.ensures in
    ((λ t. record { values = values.0 refl; constraints = constraints.0 refl; hidden = hidden.0 refl; open_goals = open_goals.0 t }), λ f. open_goals.1 f.open_goals)
