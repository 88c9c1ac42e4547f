-- When a goal that stalled is to be asked again: what meets it, and what does not.
use Rattle.std.proofs.Common.{◌≡◌, true, false, ℕ, List, [], ◌∷◌, Some, None, length, arith}
use Rattle.nts_terms.specs.declared.cx.Cx.{Cx}
use Rattle.nts_table.specs.Tables.{Table}
use Rattle.nts_asking.specs.declared.stalled.GoalStalledOn.{GoalStalledOn}
use Rattle.nts_asking.specs.Stalled.{IsNotStalled}

-- of a goal nothing was kept
nothing_was_kept : (cx : Cx) (t : Table) → IsNotStalled cx t None
nothing_was_kept cx t = tt

-- without short cuts each goal is to be asked
without_short_cuts : (cx : Cx) (t : Table) (s : GoalStalledOn) → cx.disable_fast_paths ≡ true → IsNotStalled cx t (Some s)
without_short_cuts cx t s h = λ stalls. (let off = stalls.fast_paths in cc (h, off))

-- a sub root that the table lacks is none
without_the_root : (cx : Cx) (t : Table) (s : GoalStalledOn) (n : ℕ) (ns : List ℕ) → t.entries.variables ≡ [] → s.sub_roots.items ≡ n ∷ ns → IsNotStalled cx t (Some s)
without_the_root cx t s n ns none roots = λ stalls. (let first = rw roots at stalls.roots in rw none at (first 0 n (omega arith)))

-- with short cuts on, what waits for nothing still stalls while as many types are hidden
waits_for_nothing : (cx : Cx) (t : Table) (s : GoalStalledOn) → cx.disable_fast_paths ≡ false → length t.entries.hidden.lookup ≡ s.num_opaques → s.stalled_vars.items ≡ [] → s.sub_roots.items ≡ [] → IsNotStalled cx t (Some s) → ⊥
waits_for_nothing cx t s on hidden vars roots asked =
    asked (record { fast_paths = on; hidden = hidden; unchanged = rw vars (λ i d l. absurd (omega (arith, l))); roots = rw roots (λ i d l. absurd (omega (arith, l))) })
