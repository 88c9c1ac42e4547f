-- What is opened or closed stays known.
use Rattle.std.specs.Prelude.{◌≡◌, ℕ, ◌≤◌, List, [], ◌∷◌, Option, Some, None}
use Rattle.nts_model.specs.declared.labels.Sort.{Sort}
use Rattle.nts_model.specs.Terms.Trees.{Tree}
use Rattle.nts_model.specs.Tables.Contents.{Content, kind_at}
use Rattle.nts_model.specs.Tables.Resolving.{Knows}
use Rattle.nts_unify.specs.Reading.{content_of}
use Rattle.nts_table.specs.Tables.{Table}
use Rattle.nts_placeholder.specs.declared.maps.Placeholder.{Placeholder}
use Rattle.nts_placeholder.specs.declared.maps.BoundVar.{BoundVar}
use Rattle.nts_placeholder.specs.Closing.{closed_by}
use Rattle.nts_placeholder.specs.Opening.{opened_by}

-- the universe names what is of a listed one
abbrev pub NamesListed : ℕ → List (Option ℕ) → Type 0
NamesListed u [] = Unit {0}
NamesListed u (None ∷ U) = NamesListed u U
NamesListed u (Some v ∷ U) = (v ≤ u) × NamesListed u U

-- what a table knows is known, once opened, to one with the same variables whose universe names the listed ones too
abbrev pub OpeningKeepsKnown : Type 0
OpeningKeepsKnown = (c d : Content) (U : List (Option ℕ)) (t : Tree) → ((n : ℕ) → kind_at d n ≡ kind_at c n) → c.universe ≤ d.universe → NamesListed d.universe U → Knows c t → Knows d (opened_by U 0 t)

-- .. and once closed
abbrev pub ClosingKeepsKnown : Type 0
ClosingKeepsKnown = (c : Content) (M : Sort → Placeholder → Option BoundVar) (U : List (Option ℕ)) (t : Tree) → Knows c t → Knows c (closed_by M U 0 t)

-- what the first table knew in the one store, the second knows in the other
abbrev pub IsKnownAfter : List Tree → List Tree → Table → Table → Tree → Tree → Type 0
IsKnownAfter a b t u x y = Knows (content_of a t.entries) x → Knows (content_of b u.entries) y
