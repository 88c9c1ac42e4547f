-- What the log of changes and the marks in it stand for.
use Rattle.std.specs.Prelude.{ℕ, ◌≤◌, List, [], ◌∷◌, drop}
use Rattle.nts_unify.specs.declared.contents.UndoLog.{UndoLog}
use Rattle.nts_unify.specs.Entries.{Entries, all_undone}

-- the entries at each mark
abbrev pub saved_of : Entries → List UndoLog → List ℕ → List Entries
saved_of c log [] = []
saved_of c log (p ∷ ps) = all_undone (drop p log) c ∷ saved_of c log ps

-- the mark stands before all others
abbrev pub IsFirstMark : ℕ → List ℕ → Type 0
IsFirstMark p [] = Unit {0}
IsFirstMark p (q ∷ qs) = (p ≤ q) × IsFirstMark p qs

-- the marks stand in order, none past the end
abbrev pub AreMarks : ℕ → List ℕ → Type 0
AreMarks n [] = Unit {0}
AreMarks n (p ∷ ps) = IsFirstMark p ps × (p ≤ n) × AreMarks n ps
