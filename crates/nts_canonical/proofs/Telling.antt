-- Two lists that are told apart item by item.
use Rattle.std.proofs.Common.{◌≡◌, ℕ, List, [], ◌∷◌, length, drop, refl, ap, arith}
use Rattle.nts_model.specs.Terms.Trees.{Tree, empty, more, node}
use Rattle.nts_terms.specs.declared.handles.AliasTerm.{AliasTerm}
use Rattle.nts_terms.specs.declared.handles.Ty.{Ty}
use Rattle.nts_canonical.specs.Forms.{hidden_pairs}
use Rattle.nts_canonical.specs.Alike.{AreOnePair}

-- what lists stand for tells their lengths, and whether items are one
pub record Tells {X Y : Type 0} (f : List X → Y) (S : X → X → Type 0) : Type 0 where
  pub together : (x y : X) (xs ys : List X) → S x y → f xs ≡ f ys → f (x ∷ xs) ≡ f (y ∷ ys)
  pub first : (x y : X) (xs ys : List X) → f (x ∷ xs) ≡ f (y ∷ ys) → S x y
  pub others : (x y : X) (xs ys : List X) → f (x ∷ xs) ≡ f (y ∷ ys) → f xs ≡ f ys
  pub lengths : (xs ys : List X) → f xs ≡ f ys → length xs ≡ length ys

-- the lists are one exactly where they are from a place on
pub record Agree {X Y : Type 0} (f : List X → Y) (xs ys : List X) (i : ℕ) : Type 0 where
  pub forth : f xs ≡ f ys → f (drop i xs) ≡ f (drop i ys)
  pub back : f (drop i xs) ≡ f (drop i ys) → f xs ≡ f ys

-- hidden types
abbrev head_of : Tree → Tree
head_of empty = empty
head_of (more a b) = a
head_of (node l c) = empty

abbrev tail_of : Tree → Tree
tail_of empty = empty
tail_of (more a b) = b
tail_of (node l c) = empty

row_lengths : (ts : List Tree) (xs ys : List (AliasTerm × Ty)) → hidden_pairs ts xs ≡ hidden_pairs ts ys → length xs ≡ length ys
row_lengths ts [] [] e = refl
row_lengths ts [] (y ∷ ys) e = cc
row_lengths ts (x ∷ xs) [] e = cc
row_lengths ts (x ∷ xs) (y ∷ ys) e = omega (arith, row_lengths ts xs ys (ap (λ t. tail_of (tail_of t)) e))

pub rows_tell : (ts : List Tree) → Tells (hidden_pairs ts) (AreOnePair ts)
rows_tell ts = record {
  together = λ x y xs ys s e. (λ j. more (s.alias j) (more (s.hidden_type j) (e j)));
  first = λ x y xs ys e. record { alias = ap head_of e; hidden_type = ap (λ t. head_of (tail_of t)) e };
  others = λ x y xs ys e. ap (λ t. tail_of (tail_of t)) e;
  lengths = row_lengths ts;
}
