-- The lines of an input.
use Rattle.std.specs.Prelude.{ℕ, ◌-◌, ◌==◌, ◌&&◌, if◌then◌else◌, nat_lt, List, [], ◌∷◌, length, map, take, slice_index}
use Rattle.std.specs.List.{onto_first}
use Rattle.std.specs.Io.BufRead.{take_through}

-- the bytes without the last one, if that is this one
abbrev pub without_last : ℕ → List ℕ → List ℕ
without_last b xs =
    if nat_lt 0 (length xs) && slice_index xs (length xs - 1) == b then take (length xs - 1) xs else xs

-- a line without its line feed, and without a carriage return before that or before the end of the
-- input
abbrev pub without_ending : List ℕ → List ℕ
without_ending xs = without_last 13 (without_last 10 xs)

-- the bytes up to a line feed or the end, without a carriage return before that
abbrev pub first_line : List ℕ → List ℕ
first_line xs = without_ending (take_through 10 xs)

-- the bytes, cut behind each line feed
abbrev pub cut_behind_feeds : List ℕ → List (List ℕ)
cut_behind_feeds [] = []
cut_behind_feeds (x ∷ xs) = if x == 10 then (x ∷ []) ∷ cut_behind_feeds xs else onto_first x (cut_behind_feeds xs)

-- the lines of an input, in order
abbrev pub lines_of : List ℕ → List (List ℕ)
lines_of xs = map without_ending (cut_behind_feeds xs)
