use Rattle.std.proofs.Common.{refl}
use Rattle.nts_table.specs.TableLaws.{IsTable-extended}
use Rattle.nts_normalize_vectors.proofs.scripts.answer.Goals as goal

pub returns-in_ok-ty-in-Word : goal.returns-in_ok-ty-in-Word
returns-in_ok-ty-in-Word c =
    let grows = c.in_ok-ty-in-Word.ensures.grows in
    record { keeps = record { grows = grows; table = IsTable-extended grows.extends c.requires.table; changes = record { saved = refl; mode = refl }; answer = c.checked.ensures } }

pub returns-in_ok-ty-in-Wrapped : goal.returns-in_ok-ty-in-Wrapped
returns-in_ok-ty-in-Wrapped c =
    let grows = c.in_ok-ty-in-Wrapped.ensures.grows in
    record { keeps = record { grows = grows; table = IsTable-extended grows.extends c.requires.table; changes = record { saved = refl; mode = refl }; answer = c.checked-in-Wrapped.ensures } }
