-- A rollback right after what left the saved entries and the mode.
use Rattle.std.proofs.Common.{◌≡◌, List, [], ◌∷◌, ◌++◌, sym, ◌∙◌}
use Rattle.nts_unify.specs.Entries.{Entries}
use Rattle.nts_table.specs.Tables.{Table}
use Rattle.nts_unify.proofs.SavedLemmas.{push_inj}

pub back_to : (old new : Table) (saved : List Entries) → saved ≡ old.saved ++ old.entries ∷ [] → saved ≡ new.saved ++ new.entries ∷ [] → new.mode ≡ old.mode → new ≡ old
back_to old new saved p q m =
    let i = push_inj new.saved old.saved new.entries old.entries (sym q ∙ p) in λ j. record { entries = i.1 j; saved = i.0 j; mode = m j }
