-- What a probe answers.
use Rattle.std.specs.Prelude.{◌≡◌}
use Rattle.nts_unify.specs.Entries.{Entries}
use Rattle.nts_table.specs.Tables.{Table}

-- it was answered at a table of these entries
pub record ProbeAnswers (returns : Table → Table → Type 0) (e : Entries) : Type 0 where
  pub before : Table
  pub after : Table
  pub same : before.entries ≡ e
  pub answers : returns before after
