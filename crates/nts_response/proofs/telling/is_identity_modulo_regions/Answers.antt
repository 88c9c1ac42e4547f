use Rattle.std.proofs.Common.{◌+◌, ◌∷◌, refl, subst, arith}
use Rattle.std.specs.Prelude.{◌↔◌, drop, get_or}
use Rattle.nts_model.specs.Answers.Responses.{IsIdentity, ends}
use Rattle.nts_store.specs.Growth.{tree_at}
use Rattle.nts_terms.specs.declared.handles.GenericArg.{GenericArg}
use Rattle.nts_canonical.specs.Forms.{trees_of}
use Rattle.nts_response.proofs.Identities.{identity_next, identity_passed, identity_none, left_more, left_none}
use Rattle.nts_response.proofs.telling.is_identity_modulo_regions.Goals as goal
use Rattle.nts_response.proofs.telling.is_identity_modulo_regions.Goals.{then-is_position, else-is_position+else-not-is_region}

-- what stands beyond the end
abbrev beyond : GenericArg
beyond = record { node = record { number = 0 } }

both_ways : {A B C : Type 0} → A ↔ B → B ↔ C → A ↔ C
both_ways h k = (λ a. k.0 (h.0 a), λ c. h.1 (k.1 c))

pub returns-then-not-is_region : goal.returns-then-not-is_region
returns-then-not-is_region c =
    let ts = c.args.cx.now.nodes in
    let vs = c.args.values.now in
    let left = left_more ts vs c.loop-i.i beyond c.loop-i-test.true in (
      (λ h. cc),
      λ h. absurd (identity_none c.loop-i.next _ (trees_of ts (drop (c.loop-i.i + 1) vs)) (λ p. (let z = c.is_position.ensures.1 p in cc)) (λ e. (let z = c.is_region.ensures.1 e in cc)) (rw left at (c.loop-i.invariant.same.0 h))),
    )

pub loop-i-preserved : goal.loop-i-preserved
loop-i-preserved c =
    let ts = c.args.cx.now.nodes in
    let vs = c.args.values.now in
    let rest = trees_of ts (drop (c.loop-i.i + 1) vs) in
    let left = left_more ts vs c.loop-i.i beyond c.loop-i-test.true in
    let so_far = rw left at c.loop-i.invariant.same in
    elim c.if-is_position.branch [
      | then-is_position w ↦ record {
        less = omega (arith, w.next-is, c.loop-i.invariant.less);
        same = rw (w.next-is) (both_ways so_far (subst (λ n. IsIdentity c.loop-i.next (tree_at ts (get_or vs c.loop-i.i beyond).node ∷ rest) ↔ IsIdentity n rest) (omega arith) (identity_next c.loop-i.next _ rest (c.is_position.ensures.0 (rw w.if-is_position.true refl)))));
      }
      | else-is_position+else-not-is_region w ↦ record {
        less = omega (arith, w.next-is, c.loop-i.invariant.less);
        same = rw (w.next-is) (both_ways so_far (identity_passed c.loop-i.next _ rest (λ p. (let z = c.is_position.ensures.1 p in let f = w.if-is_position.false in cc)) (w.is_region.ensures.0 (let f = w.if-not-is_region.false in rw f refl))));
      }
    ]

pub returns : goal.returns
returns c =
    let none = left_none c.args.cx.now.nodes c.args.values.now c.loop-i.i c.loop-i-test.false in
    ((λ h. c.loop-i.invariant.same.1 (rw none ends)), λ h. refl)
