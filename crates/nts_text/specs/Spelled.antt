-- Names that are used without a declaration.
use Rattle.std.specs.Prelude.{◌≡◌, ℕ, List, ◌++◌, map, Some, slice_get}
use Rattle.nts_text.specs.declared.names.Spellings.{Spellings}
use Rattle.nts_text.specs.declared.names.Scope.{Scope}

-- the names of types, and of regions, in order of first sight
abbrev pub type_names : Spellings → List (List ℕ)
type_names s = map (λ v. v.items) s.types.keys

abbrev pub region_names : Spellings → List (List ℕ)
region_names s = map (λ v. v.items) s.regions.keys

-- the name has this number
abbrev pub IsNumberOf : List (List ℕ) → ℕ → List ℕ → Type 0
IsNumberOf names n name = slice_get names n ≡ Some name

-- the name is none of these
abbrev pub HasNoNumber : List (List ℕ) → List ℕ → Type 0
HasNoNumber names name = (n : ℕ) → IsNumberOf names n name → ⊥

-- names may be added, behind those that are there
abbrev pub Lengthens : List (List ℕ) → List (List ℕ) → Type 0
Lengthens old new = (more : List (List ℕ)) × (new ≡ old ++ more)

-- each name keeps its number
pub record KeepsNumbers (old new : Spellings) : Type 0 where
  pub types : Lengthens (type_names old) (type_names new)
  pub regions : Lengthens (region_names old) (region_names new)

-- each variable and each parameter keeps its number
pub record KeepsNames (old new : Scope) : Type 0 where
  pub variables : KeepsNumbers old.variables new.variables
  pub parameters : KeepsNumbers old.parameters new.parameters
