use Rattle.std.proofs.Common.{◌≡◌, ℕ, Option, ◌<◌, length, slice_get, Some, None, get_or, ap, ◌∙◌, sym, arith}
use Rattle.std.proofs.lemmas.Option.{slice_get-get_or}
use Rattle.nts_model.specs.declared.labels.Sort.TheVariants as sort
use Rattle.nts_placeholder.specs.declared.escaping.Escaping.{Escaping}
use Rattle.nts_placeholder.specs.Opening.{entry_for}
use Rattle.nts_placeholder.proofs.Reaching.{among-at, reach_up, reach_stays, none_of, some_none}
use Rattle.nts_placeholder.proofs.universes.reach_of.Goals as goal
use Rattle.nts_placeholder.proofs.universes.reach_of.Goals.{then-entry-end+then-is_none, else-entry-end, else-entry-end-via-then-entry-end+else-is_none, else-entry-end-via-else-entry-end}

abbrev x_of : (c : goal.In-loop-i) → Escaping
x_of c = get_or c.args.found.now c.loop-i.i (record { sort = sort.Ty; bound = record { level = 0; var = 0 } })

at : (c : goal.In-loop-i) → slice_get c.args.found.now c.loop-i.i ≡ Some (x_of c)
at c = slice_get-get_or c.args.found.now c.loop-i.i (record { sort = sort.Ty; bound = record { level = 0; var = 0 } }) c.loop-i-test.true

low : (c : goal.In-loop-i) → (x_of c).bound.level < length c.args.universes.now
low c = c.requires (x_of c).sort (x_of c).bound (among-at c.args.found.now c.loop-i.i (x_of c) (at c))

pub overflow_sub-entry : goal.overflow_sub-entry
overflow_sub-entry c = omega (arith, low c)

pub overflow_sub-entry-in-loop-i : goal.overflow_sub-entry-in-loop-i
overflow_sub-entry-in-loop-i c = omega (arith, low c)

pub bounds-universes-entry : goal.bounds-universes-entry
bounds-universes-entry c =
    let x = get_or c.args.found.now c.loop-i.i (record { sort = sort.Ty; bound = record { level = 0; var = 0 } }) in
    let here = slice_get-get_or c.args.found.now c.loop-i.i (record { sort = sort.Ty; bound = record { level = 0; var = 0 } }) c.loop-i-test.true in
    omega (arith, c.requires x.sort x.bound (among-at c.args.found.now c.loop-i.i x here))

same : {a b : Option ℕ} → Some a ≡ Some b → a ≡ b
same {a} {b} e = cc

pub loop-i-preserved : goal.loop-i-preserved
loop-i-preserved c =
    let U = c.args.universes.now in
    let xs = c.args.found.now in
    let x = get_or xs c.loop-i.i (record { sort = sort.Ty; bound = record { level = 0; var = 0 } }) in
    let here = slice_get-get_or xs c.loop-i.i (record { sort = sort.Ty; bound = record { level = 0; var = 0 } }) c.loop-i-test.true in
    let inside = c.requires x.sort x.bound (among-at xs c.loop-i.i x here) in
    let entry = slice_get-get_or U (entry_for U x.bound) None (omega (arith, inside)) in
    elim c.if-entry-end.branch [
      | then-entry-end+then-is_none w ↦
          rw w.end-is (reach_up U xs c.loop-i.i c.loop-i.end x here w.if-entry-end.true (entry ∙ ap Some (none_of _ w.if-is_none.ensures)) c.loop-i.invariant)
      | else-entry-end w ↦
          rw w.end-is
          (elim w.else-entry-end.branch [
            | else-entry-end-via-then-entry-end+else-is_none w' ↦ reach_stays U xs c.loop-i.i c.loop-i.end x here (λ l o. some_none _ w'.if-is_none.ensures (same (sym entry ∙ o))) c.loop-i.invariant
            | else-entry-end-via-else-entry-end w' ↦ reach_stays U xs c.loop-i.i c.loop-i.end x here (λ l o. omega (arith, l, w'.if-entry-end.false)) c.loop-i.invariant
          ])
    ]
