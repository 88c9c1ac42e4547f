-- A relation that holds at each place of two lists of one length.
use Rattle.std.proofs.Common.{◌≡◌, ℕ, zero, suc, ◌<◌, List, [], ◌∷◌, length, get_or, arith}
use Rattle.std.specs.List.{AllZip}

pub at_each_place : {A B : Type 0} (R : A → B → Type 0) (d : A) (e : B) (xs : List A) (ys : List B) → length xs ≡ length ys
    → ((k : ℕ) → k < length xs → R (get_or xs k d) (get_or ys k e)) → AllZip R xs ys
at_each_place R d e [] [] l h = tt
at_each_place R d e [] (y ∷ ys) l h = absurd (omega arith)
at_each_place R d e (x ∷ xs) [] l h = absurd (omega arith)
at_each_place R d e (x ∷ xs) (y ∷ ys) l h = (h 0 (omega arith), at_each_place R d e xs ys (omega arith) (λ k b. h (suc k) (omega arith)))

pub from_all : {A B : Type 0} (R : A → B → Type 0) (d : A) (e : B) (xs : List A) (ys : List B) → AllZip R xs ys → (k : ℕ) → k < length xs → R (get_or xs k d) (get_or ys k e)
from_all R d e [] ys h k b = absurd (omega arith)
from_all R d e (x ∷ xs) [] h k b = absurd h
from_all R d e (x ∷ xs) (y ∷ ys) h zero b = h.0
from_all R d e (x ∷ xs) (y ∷ ys) h (suc k) b = from_all R d e xs ys h.1 k (omega arith)
