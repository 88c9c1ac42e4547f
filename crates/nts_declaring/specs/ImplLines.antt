-- The lines that the impls of a trait stand on.
use Rattle.std.specs.Prelude.{◌≡◌, ℕ, ◌==◌, if◌then◌else◌, List, [], ◌∷◌, ◌++◌, Option, None, Some, slice_get}
use Rattle.std.specs.Global.{Vec}
use Rattle.nts_declaring.specs.declared.impl_lines.ImplLines.{ImplLines}

abbrev pub items_of : Option (Vec ℕ) → List ℕ
items_of None = []
items_of (Some v) = v.items

-- the lines of the impls of a trait, in the order in which they were added
abbrev pub lines_of : ImplLines → ℕ → List ℕ
lines_of l i = items_of (slice_get l.traits.items i)

-- no line is noted or forgotten
abbrev pub KeepsLines : ImplLines → ImplLines → Type 0
KeepsLines old new = (i : ℕ) → lines_of new i ≡ lines_of old i

-- one trait has one line more, as its last
abbrev pub NotesLine : ImplLines → ImplLines → ℕ → ℕ → Type 0
NotesLine old new t line = (i : ℕ) → lines_of new i ≡ (if i == t then lines_of old i ++ line ∷ [] else lines_of old i)
