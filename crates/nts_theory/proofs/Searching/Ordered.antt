-- A stack that is kept with its oldest entry first, read with its newest first.
use Rattle.std.proofs.Common.{◌≡◌, ℕ, zero, suc, ◌+◌, ◌-◌, List, [], ◌∷◌, ◌++◌, length, length-append, Some, refl, ap, ◌∙◌, arith}
use Rattle.std.specs.Prelude.{slice_get, reverse}
use Rattle.std.proofs.lemmas.List.{reverse-append}
use Rattle.nts_model.specs.Searching.Stacks.{Entry}

-- .. and the oldest is the last
oldest_last : (x : Entry) (xs : List Entry) → reverse (x ∷ xs) ≡ reverse xs ++ x ∷ []
oldest_last x xs = reverse-append (x ∷ []) xs

pub no_entry : (n : ℕ) (x : Entry) → slice_get [] n ≡ Some x → ⊥
no_entry n x e = cc e

get_left : (xs ys : List Entry) (n : ℕ) (x : Entry) → slice_get xs n ≡ Some x → slice_get (xs ++ ys) n ≡ Some x
get_left [] ys n x e = absurd (no_entry n x e)
get_left (y ∷ xs) ys zero x e = e
get_left (y ∷ xs) ys (suc n) x e = get_left xs ys n x e

get_right : (xs ys : List Entry) (n : ℕ) → slice_get (xs ++ ys) (length xs + n) ≡ slice_get ys n
get_right [] ys n = let z : 0 + n ≡ n = omega arith in ap (slice_get ys) z
get_right (x ∷ xs) ys n = let z : suc (length xs) + n ≡ suc (length xs + n) = omega arith in ap (slice_get (x ∷ (xs ++ ys))) z ∙ get_right xs ys n

length_reversed : (xs : List Entry) → length (reverse xs) ≡ length xs
length_reversed [] = refl
length_reversed (x ∷ xs) = let q = length_reversed xs in let p = length-append (reverse xs) (x ∷ []) in let o = ap length (oldest_last x xs) in omega (arith, p, q, o)

-- the entry with index i stands at this place from the newest
pub get_reversed : (xs : List Entry) (i : ℕ) (x : Entry) → slice_get xs i ≡ Some x → slice_get (reverse xs) (length xs - suc i) ≡ Some x
get_reversed [] i x e = absurd (no_entry i x e)
get_reversed (y ∷ xs) zero x e =
    let q = length_reversed xs in
    let z : length xs ≡ length (reverse xs) + 0 = omega (arith, q) in
    let w : suc (length xs) - 1 ≡ length xs = omega arith in
    ap (slice_get (reverse (y ∷ xs))) w ∙ ap (λ l. slice_get l (length xs)) (oldest_last y xs) ∙ ap (slice_get (reverse xs ++ y ∷ [])) z ∙ get_right (reverse xs) (y ∷ []) 0 ∙ e
get_reversed (y ∷ xs) (suc i) x e =
    let w : suc (length xs) - suc (suc i) ≡ length xs - suc i = omega arith in
    ap (slice_get (reverse (y ∷ xs))) w ∙ ap (λ l. slice_get l (length xs - suc i)) (oldest_last y xs) ∙ get_left (reverse xs) (y ∷ []) (length xs - suc i) x (get_reversed xs i x e)
