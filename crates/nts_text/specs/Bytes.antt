-- The bytes of a line.
use Rattle.std.specs.Prelude.{◌≡◌, ℕ, ◌+◌, ◌*◌, ◌-◌, ◌<◌, ◌≤◌, ◌==◌, Bool, true, false, ◌||◌, List, length, slice_index, fold}
use Rattle.std.specs.Char.{is_ascii_alphanumeric, is_ascii_alphabetic}

-- a letter, a digit or `_`
abbrev pub is_name_byte : ℕ → Bool
is_name_byte b = is_ascii_alphanumeric b || b == 95

-- a space or a tab
abbrev pub is_blank : ℕ → Bool
is_blank b = b == 32 || b == 9

-- each byte from one place up to another passes the test
abbrev pub AllFrom : (ℕ → Bool) → List ℕ → ℕ → ℕ → Type 0
AllFrom test line from to = (k : ℕ) → from ≤ k → k < to → test (slice_index line k) ≡ true

-- the bytes from one place up to another pass the test, and no longer run from there does
pub record IsRun (test : ℕ → Bool) (line : List ℕ) (from to : ℕ) : Type 0 where
  pub ordered : from ≤ to
  pub inside : to ≤ length line
  pub passes : AllFrom test line from to
  pub longest : to < length line → test (slice_index line to) ≡ false

-- a letter, and letters, digits and `_` as far as they go
pub record IsNameAt (line : List ℕ) (from to : ℕ) : Type 0 where
  pub nonempty : from < to
  pub letter : is_ascii_alphabetic (slice_index line from) ≡ true
  pub run : IsRun is_name_byte line from to

-- the value of decimal digits
abbrev pub decimal_value : List ℕ → ℕ
decimal_value digits = fold (λ value digit. value * 10 + (digit - 48)) 0 digits
