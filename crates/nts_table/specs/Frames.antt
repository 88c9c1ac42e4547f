-- What a call leaves of a table.
use Rattle.std.specs.Prelude.{◌≡◌}
use Rattle.nts_table.specs.Tables.{Table}

-- the entries change at most: the open snapshots and the mode stay
pub record ChangesEntries (old new : Table) : Type 0 where
  pub saved : new.saved ≡ old.saved
  pub mode : new.mode ≡ old.mode

-- the variables and the constraints change at most: the current universe and the hidden types stay too
pub record ChangesVariables (old new : Table) : Type 0 where
  pub saved : new.saved ≡ old.saved
  pub mode : new.mode ≡ old.mode
  pub universe : new.entries.universe ≡ old.entries.universe
  pub hidden : new.entries.hidden ≡ old.entries.hidden
