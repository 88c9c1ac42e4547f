use Rattle.std.proofs.Common.{◌≡◌, ⊎_elim, refl, sym, subst, ◌∙◌, arith, get_or, false, IsTrue}
use Rattle.std.proofs.lemmas.List.{get_or_default}
use Rattle.nts_model.proofs.Tables.Under.{same_or_other}
use Rattle.nts_response.specs.Forms.{HoldsResponse}
use Rattle.nts_search.specs.Merging.{AppliesAlways}
use Rattle.nts_search.proofs.merging.first_that_applies_always.Goals as goal

pub applies_always-requires : goal.applies_always-requires
applies_always-requires c =
    subst (λ z. HoldsResponse c.args.cx.now.nodes z.value) (sym c.index-candidates-i.is) (c.requires c.loop-i.i c.index-candidates-i.result c.loop-i-test.true)

pub returns-then-applies_always : goal.returns-then-applies_always
returns-then-applies_always c =
    record {
      below = c.loop-i-test.true;
      is = λ d. subst (AppliesAlways c.args.cx.now.nodes) (c.index-candidates-i.is ∙ get_or_default c.args.candidates.now c.loop-i.i c.index-candidates-i.result d c.loop-i-test.true) (c.if-applies_always.ensures.0 refl);
      first = c.loop-i.invariant;
    }

pub loop-i-preserved : goal.loop-i-preserved
loop-i-preserved c = λ j d m h.
    (let ts = c.args.cx.now.nodes in
    let xs = c.args.candidates.now in
    ⊎_elim
    (λ (e : j ≡ c.loop-i.i).
    let here = subst (λ n. AppliesAlways ts (get_or xs n d)) e h in
    let no : IsTrue false = c.if-applies_always.ensures.1 (subst (AppliesAlways ts) (sym (c.index-candidates-i.is ∙ get_or_default xs c.loop-i.i c.index-candidates-i.result d c.loop-i-test.true)) here) in
    cc)
    (λ (n : j ≡ c.loop-i.i → ⊥). c.loop-i.invariant j d (omega (arith, m, n)) h)
    (same_or_other j c.loop-i.i))
