-- Leaves whose variables a table has.
use Rattle.std.specs.Prelude.{◌<◌, List, [], ◌∷◌, length}
use Rattle.nts_model.specs.declared.labels.Leaf.{Leaf}
use Rattle.nts_model.specs.declared.labels.Leaf.TheVariants as leaf
use Rattle.nts_unify.specs.Entries.{Entries}

-- a variable is one of the table
abbrev pub IsOwned : Entries → Leaf → Type 0
IsOwned e (leaf.Variable k n) = n < length e.variables
IsOwned e l = Unit {0}

abbrev pub AreOwned : Entries → List Leaf → Type 0
AreOwned e [] = Unit {0}
AreOwned e (l ∷ ls) = IsOwned e l × AreOwned e ls
