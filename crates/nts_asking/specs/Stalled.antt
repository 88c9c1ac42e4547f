-- When a goal that stalled would only stall again.
use Rattle.std.specs.Prelude.{◌≡◌, ℕ, false, Option, Some, None, All, length, slice_get}
use Rattle.nts_store.specs.Growth.{tree_at}
use Rattle.nts_terms.specs.declared.cx.Cx.{Cx}
use Rattle.nts_unify.specs.declared.contents.Variable.{Variable}
use Rattle.nts_unify.specs.Entries.{Entries}
use Rattle.nts_unify.specs.Unchanged.{IsUnchanged}
use Rattle.nts_table.specs.Tables.{Table}
use Rattle.nts_asking.specs.declared.stalled.GoalStalledOn.{GoalStalledOn}

-- the same, in lists of its own
pub record IsCopyOf (a b : GoalStalledOn) : Type 0 where
  pub opaques : b.num_opaques ≡ a.num_opaques
  pub vars : b.stalled_vars.items ≡ a.stalled_vars.items
  pub roots : b.sub_roots.items ≡ a.sub_roots.items
  pub certainty : b.stalled_certainty ≡ a.stalled_certainty

-- the variable was joined to no other one
abbrev pub HasNoLink : Option Variable → Type 0
HasNoLink None = ⊥
HasNoLink (Some v) = v.sub_link ≡ None

-- a variable of the table that is the root of its sub-unification class
abbrev pub IsOwnSubRoot : Entries → ℕ → Type 0
IsOwnSubRoot e n = HasNoLink (slice_get e.variables n)

-- nothing changed that a goal stalled on, and short cuts are on
pub record StillStalls (cx : Cx) (t : Table) (s : GoalStalledOn) : Type 0 where
  pub fast_paths : cx.disable_fast_paths ≡ false
  pub hidden : length t.entries.hidden.lookup ≡ s.num_opaques
  pub unchanged : All (λ a. IsUnchanged t.entries (tree_at cx.nodes a.node)) s.stalled_vars.items
  pub roots : All (IsOwnSubRoot t.entries) s.sub_roots.items

-- nothing was kept of a goal, or what was kept may no longer be so: the goal is to be asked
abbrev pub IsNotStalled : Cx → Table → Option GoalStalledOn → Type 0
IsNotStalled cx t None = Unit {0}
IsNotStalled cx t (Some s) = StillStalls cx t s → ⊥
