-- A trait that has arguments is declared.
use Rattle.std.proofs.Common.{ℕ, zero, suc, ◌<◌, List, [], ◌∷◌, length, arith}
use Rattle.std.specs.Prelude.{slice_get}
use Rattle.nts_model.specs.declared.labels.Sort.{Sort}
use Rattle.nts_model.specs.Terms.Trees.{Tree}
use Rattle.nts_terms.specs.Signatures.{AreArgumentsOfSorts}

pub is_below : (xs : List (List Sort)) (n : ℕ) (a : Tree) → AreArgumentsOfSorts (slice_get xs n) a → n < length xs
is_below [] n a h = absurd h
is_below (x ∷ xs) zero a h = omega arith
is_below (x ∷ xs) (suc n) a h = omega (arith, is_below xs n a h)
