-- A table whose snapshots are opened and closed goes with its store.
use Rattle.std.specs.Prelude.{Result, Ok, Err, OnOk, OnErr}
use Rattle.std.proofs.Common.{◌≡◌, ℕ, zero, suc, ◌-◌, length, take, List, [], ◌∷◌, ◌++◌}
use Rattle.nts_model.specs.Terms.Trees.{Tree}
use Rattle.nts_unify.specs.Entries.{Entries, Inner, front}
use Rattle.nts_table.specs.Tables.{Table}
use Rattle.nts_unify.specs.Reading.{IsLawful, AllLawful}
use Rattle.nts_table.specs.Tables.{IsTable}
use Rattle.nts_table.specs.TableLaws.{IsTable-opened}
use Rattle.nts_terms.specs.declared.modes.TypingMode.{TypingMode}

AllLawful-take : (ts : List Tree) (n : ℕ) (cs : List Entries) → AllLawful ts cs → AllLawful ts (take n cs)
AllLawful-take ts zero cs h = tt
AllLawful-take ts (suc n) [] h = tt
AllLawful-take ts (suc n) (c ∷ cs) h = (h.0, AllLawful-take ts n cs h.1)

AllLawful-ends : (ts : List Tree) (cs : List Entries) (c : Entries) → AllLawful ts (cs ++ c ∷ []) → AllLawful ts cs × IsLawful ts c
AllLawful-ends ts [] c h = (tt, h.0)
AllLawful-ends ts (d ∷ cs) c h = let k = AllLawful-ends ts cs c h.1 in ((h.0, k.0), k.1)

-- a snapshot was opened
pub IsTable-started : {T E : Type 0} (ts : List Tree) (i j : Inner) (m : TypingMode) (r : Result T E) → j.entries ≡ i.entries → OnOk r (j.saved ≡ i.saved ++ i.entries ∷ []) → OnErr r (j ≡ i) → IsTable ts (record { entries = i.entries; saved = i.saved; mode = m }) → IsTable ts (record { entries = j.entries; saved = j.saved; mode = m })
IsTable-started ts i j m (Ok v) e s k h = IsTable-opened h e s
IsTable-started ts i j m (Err x) e s k h = rw k h

-- the last one was closed
pub IsTable-committed : (ts : List Tree) (t u : Table) (c : Entries) → u.entries ≡ t.entries → t.saved ≡ u.saved ++ c ∷ [] → IsTable ts t → IsTable ts u
IsTable-committed ts t u c same saved h =
    let k = AllLawful-ends ts u.saved c (rw saved at h.saved) in record { now = rw same h.now; saved = k.0 }

-- .. and restored
pub IsTable-rolled_back : (ts : List Tree) (t u : Table) → t.saved ≡ u.saved ++ u.entries ∷ [] → IsTable ts t → IsTable ts u
IsTable-rolled_back ts t u saved h =
    let k = AllLawful-ends ts u.saved u.entries (rw saved at h.saved) in record { now = k.1; saved = k.0 }

-- an attempt has ended
pub IsTable-ended : {T E : Type 0} (ts : List Tree) (t u : Table) (r : Result T E) → OnOk r (u.entries ≡ t.entries) → OnErr r (t.saved ≡ u.saved ++ u.entries ∷ []) → u.saved ≡ front t.saved → IsTable ts t → IsTable ts u
IsTable-ended ts t u (Ok v) same back front_is h =
    record { now = rw same h.now; saved = rw front_is (AllLawful-take ts (length t.saved - 1) t.saved h.saved) }
IsTable-ended ts t u (Err e) same back front_is h = IsTable-rolled_back ts t u back h
