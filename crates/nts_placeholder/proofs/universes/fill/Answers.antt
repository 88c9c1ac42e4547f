use Rattle.std.proofs.Common.{ℕ, ◌∙◌, ◌<◌, ◌+◌, Some, None, ap, arith}
use Rattle.std.proofs.lemmas.Option.{slice_get-get_or}
use Rattle.nts_placeholder.proofs.Reaching.{far_open, far_some, far_past, far_full, far_all, none_of}
use Rattle.nts_placeholder.proofs.universes.fill.Goals as goal
use Rattle.nts_placeholder.proofs.universes.fill.Goals.{then-i-end+then-is_none+in-Some+in_ok-push, else-i-end+in_ok-push-2, else-i-end-via-then-i-end+else-is_none, else-i-end-via-else-i-end}

past : (n : ℕ) → (n + 1 < 4294967296 → ⊥) → 4294967295 < n + 1
past n h = omega (arith, h)

pub returns-in-None-clause-full : goal.returns-in-None-clause-full
returns-in-None-clause-full c =
    let at = slice_get-get_or c.args.universes.now c.loop-i.i None c.loop-i-test.true in
    λ e. far_full c.args.universes.now c.args.universe c.args.end c.loop-i.i c.loop-i.list.items c.loop-i.last c.loop-i.invariant _ (at ∙ ap Some (none_of _ c.if-is_none.ensures)) c.if-i-end.true (past c.loop-i.last c.in-None.ensures)

pub loop-i-preserved : goal.loop-i-preserved
loop-i-preserved c =
    let at = slice_get-get_or c.args.universes.now c.loop-i.i None c.loop-i-test.true in
    elim c.if-i-end.branch [
      | then-i-end+then-is_none+in-Some+in_ok-push w ↦
          rw (w.list-is, w.last-is)
          (far_open _ _ _ _ _ _ c.loop-i.invariant _ _ (at ∙ ap Some (none_of _ w.if-is_none.ensures)) w.if-i-end.true (omega (arith, w.in-Some.ensures)) w.in_ok-push.ensures.items)
      | else-i-end+in_ok-push-2 w ↦
          rw (w.list-is, w.last-is)
          (elim w.else-i-end.branch [
            | else-i-end-via-then-i-end+else-is_none w' ↦ far_some _ _ _ _ _ _ c.loop-i.invariant _ _ at w'.if-is_none.ensures w.in_ok-push-2.ensures.items
            | else-i-end-via-else-i-end w' ↦ far_past _ _ _ _ _ _ c.loop-i.invariant _ _ at w'.if-i-end.false w.in_ok-push-2.ensures.items
          ])
    ]

pub overflow_sub-result : goal.overflow_sub-result
overflow_sub-result c =
    omega (arith, (far_all _ _ _ _ _ _ c.loop-i.invariant c.loop-i-test.false).1)

pub returns-clause-list : goal.returns-clause-list
returns-clause-list c = (far_all _ _ _ _ _ _ c.loop-i.invariant c.loop-i-test.false).0

pub returns-clause-count : goal.returns-clause-count
returns-clause-count c =
    omega (arith, (far_all _ _ _ _ _ _ c.loop-i.invariant c.loop-i-test.false).1)
