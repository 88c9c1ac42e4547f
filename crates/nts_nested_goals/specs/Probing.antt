-- What a probe begins with.
use Rattle.std.specs.Prelude.{◌≡◌, [], ◌∷◌, ◌++◌, None}
use Rattle.nts_table.specs.Tables.{Table}
use Rattle.nts_nested_goals.specs.declared.state.EvalState.{EvalState}

-- a state with the same goals, taint and place, without a fault
pub record IsCopy (old new : EvalState) : Type 0 where
  pub goals : new.nested_goals.items ≡ old.nested_goals.items
  pub taint : new.is_tainted ≡ old.is_tainted
  pub fault : new.fault ≡ None
  pub steps : new.last_steps ≡ old.last_steps
  pub depth : new.root_depth ≡ old.root_depth
  pub span : new.span ≡ old.span

-- the table with one more snapshot
pub record IsOpened (t u : Table) : Type 0 where
  pub entries : u.entries ≡ t.entries
  pub saved : u.saved ≡ t.saved ++ t.entries ∷ []
  pub mode : u.mode ≡ t.mode
