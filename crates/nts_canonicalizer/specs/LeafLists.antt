-- What a list or a table of leaves shows.
use Rattle.std.specs.Prelude.{List}
use Rattle.nts_model.specs.declared.labels.Leaf.{Leaf}
use Rattle.nts_model.specs.Canonical.Numbered.{AreDistinct}
use Rattle.nts_canonicalizer.specs.declared.leaves.Found.{Found}
use Rattle.nts_canonicalizer.specs.declared.leaves.Found.TheVariants as found

-- the leaves, in order
abbrev pub leaves_found : Found → List Leaf
leaves_found (found.Listed v) = v.items
leaves_found (found.Hashed s) = s.keys

-- no leaf stands twice in a list; in a table none can
abbrev pub AreFoundOnce : Found → Type 0
AreFoundOnce (found.Listed v) = AreDistinct v.items
AreFoundOnce (found.Hashed s) = Unit {0}
