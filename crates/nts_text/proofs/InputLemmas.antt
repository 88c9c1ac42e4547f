-- The lines of an input, one after the other.
use Rattle.std.proofs.Common.{◌≡◌, ℕ, ◌<◌, Bool, true, false, List, [], ◌∷◌, length, map, refl, ap, arith}
use Rattle.std.specs.Prelude.{◌==◌}
use Rattle.std.specs.List.{onto_first}
use Rattle.std.specs.Io.BufRead.{take_through, drop_through}
use Rattle.nts_text.specs.Input.{without_ending, first_line, cut_behind_feeds, lines_of}

-- the first piece is cut behind the first line feed
first_cut : (x : ℕ) (xs : List ℕ) (b : Bool) → (x == 10) ≡ b → cut_behind_feeds (x ∷ xs) ≡ take_through 10 (x ∷ xs) ∷ cut_behind_feeds (drop_through 10 (x ∷ xs))
first_cut x xs true h = rw h refl
first_cut x [] false h = rw h refl
first_cut x (y ∷ ys) false h = rw h (ap (onto_first x) (first_cut y ys (y == 10) refl))

-- the first line, and those behind it
pub lines_of-first : (xs : List ℕ) → 0 < length xs → lines_of xs ≡ first_line xs ∷ lines_of (drop_through 10 xs)
lines_of-first [] h = absurd (omega (arith, h))
lines_of-first (x ∷ xs) h = ap (map without_ending) (first_cut x xs (x == 10) refl)
