-- Which names are taken.
use Rattle.std.specs.Prelude.{◌≡◌, ◌≢◌, ℕ, Bool, List, [], ◌∷◌, ◌++◌, map, vec_len, Option, Some, IsSome, nat_eq, ◌⊎◌}
use Rattle.std.specs.Cmp.Lexicographic.{pointwise}
use Rattle.indexmap.specs.IndexMap.{get_by}
use Rattle.nts_model.specs.declared.labels.Sort.{Sort}
use Rattle.nts_text.specs.Names.{IsNameOf}
use Rattle.nts_text.specs.declared.names.Declared.{Declared}
use Rattle.nts_text.specs.declared.names.Declared.TheVariants as declared
use Rattle.nts_text.specs.declared.names.NameTable.{NameTable}
use Rattle.nts_text.specs.declared.names.Signature.{Signature}

-- what a line has declared the name to be
abbrev pub declared_as : NameTable → List ℕ → Option Declared
declared_as names name = get_by (λ key. pointwise nat_eq name key.items) names.numbers

-- the name is that of a known type, or declared
abbrev pub IsNameTaken : NameTable → List ℕ → Type 0
IsNameTaken names name = ((d : Declared) × IsNameOf d name) ⊎ IsSome (declared_as names name)

-- the name is that of this known type, or declared to be this
abbrev pub NameStandsFor : NameTable → List ℕ → Declared → Type 0
NameStandsFor names name d = IsNameOf d name ⊎ (declared_as names name ≡ Some d)

-- each other name means what it meant
abbrev pub KeepsOthers : NameTable → NameTable → List ℕ → Type 0
KeepsOthers old new name = (other : List ℕ) → other ≢ name → declared_as new other ≡ declared_as old other

-- the spellings of types, traits or aliases, and the sorts of their arguments
abbrev pub signatures : List Signature → List (List ℕ × List Sort)
signatures ss = map (λ s. (s.name.items, s.sorts.items)) ss

-- a free name becomes that of a new type: this has the next number and these sorts, and is printed by
-- that name; nothing else changes
pub record AddsType (old new : NameTable) (name : List ℕ) (sorts : List Sort) : Type 0 where
  pub free : IsNameTaken old name → ⊥
  pub named : declared_as new name ≡ Some (declared.Type (vec_len old.types))
  pub others : KeepsOthers old new name
  pub listed : signatures new.types.items ≡ signatures old.types.items ++ (name, sorts) ∷ []
  pub traits : new.traits ≡ old.traits
  pub aliases : new.aliases ≡ old.aliases

-- the same for a trait
pub record AddsTrait (old new : NameTable) (name : List ℕ) (sorts : List Sort) : Type 0 where
  pub free : IsNameTaken old name → ⊥
  pub named : declared_as new name ≡ Some (declared.Trait (vec_len old.traits))
  pub others : KeepsOthers old new name
  pub listed : signatures new.traits.items ≡ signatures old.traits.items ++ (name, sorts) ∷ []
  pub types : new.types ≡ old.types
  pub aliases : new.aliases ≡ old.aliases

-- .. and for an alias, which is rigid or not
pub record AddsAlias (old new : NameTable) (name : List ℕ) (sorts : List Sort) (rigid : Bool) : Type 0 where
  pub free : IsNameTaken old name → ⊥
  pub named : declared_as new name ≡ Some (declared.Alias (vec_len old.aliases) rigid)
  pub others : KeepsOthers old new name
  pub listed : signatures new.aliases.items ≡ signatures old.aliases.items ++ (name, sorts) ∷ []
  pub types : new.types ≡ old.types
  pub traits : new.traits ≡ old.traits
