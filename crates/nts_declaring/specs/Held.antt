-- Text that is held before it goes out.
use Rattle.std.specs.Prelude.{◌≡◌, ℕ, List, [], ◌++◌, Option}
use Rattle.std.specs.Io.KnownBytes.{Appends}

-- what is written, and then what is held, is what was held and then such a text
pub record Says (P : List ℕ → Type 0) (before after : Option (List ℕ)) (old new : List ℕ) : Type 0 where
  pub text : List ℕ
  pub is : P text
  pub out : List ℕ
  pub appends : Appends before after out
  pub all : old ++ text ≡ out ++ new

-- any text
abbrev pub IsAny : List ℕ → Type 0
IsAny text = Unit {0}

-- no text
abbrev pub IsNothing : List ℕ → Type 0
IsNothing text = text ≡ []

-- what is held is still held, and more behind it
pub record Lengthens (old new : List ℕ) : Type 0 where
  pub text : List ℕ
  pub more : new ≡ old ++ text
