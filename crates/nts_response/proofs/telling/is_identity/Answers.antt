use Rattle.std.proofs.Common.{◌≡◌, ⊎_elim, arith, refl, sym, subst}
use Rattle.std.proofs.lemmas.List.{length-map}
use Rattle.nts_model.specs.Terms.Trees.{empty}
use Rattle.nts_model.proofs.Tables.Under.{same_or_other}
use Rattle.nts_store.specs.Growth.{tree_at}
use Rattle.nts_terms.specs.declared.handles.GenericArg.{GenericArg}
use Rattle.nts_canonical.specs.Forms.{trees_of}
use Rattle.nts_response.specs.Applied.{IsPosition}
use Rattle.std.specs.Prelude.{get_or}
use Rattle.nts_response.proofs.EqualLemmas.{tree_in}
use Rattle.nts_response.proofs.telling.is_identity.Goals as goal

-- what stands beyond the end
abbrev beyond : GenericArg
beyond = record { node = record { number = 0 } }

pub returns-then-not-is_position : goal.returns-then-not-is_position
returns-then-not-is_position c =
    let ts = c.args.cx.now.nodes in
    let vs = c.args.values.now in
    let n = length-map vs (λ (x : GenericArg). tree_at ts x.node) in (
      (λ h. cc),
      λ p. c.if-not-is_position.ensures.1 (subst (λ t. IsPosition t c.loop-i.i) (tree_in ts vs c.loop-i.i beyond c.loop-i-test.true) (p c.loop-i.i (omega (arith, n, c.loop-i-test.true)))),
    )

pub loop-i-preserved : goal.loop-i-preserved
loop-i-preserved c = λ j m.
    (let ts = c.args.cx.now.nodes in
    let vs = c.args.values.now in
    ⊎_elim
    (λ (e : j ≡ c.loop-i.i). subst (λ n. IsPosition (get_or (trees_of ts vs) n empty) n) (sym e) (subst (λ t. IsPosition t c.loop-i.i) (sym (tree_in ts vs c.loop-i.i beyond c.loop-i-test.true)) (c.if-not-is_position.ensures.0 refl)))
    (λ (d : j ≡ c.loop-i.i → ⊥). c.loop-i.invariant j (omega (arith, m, d)))
    (same_or_other j c.loop-i.i))
