-- What holds of each entry of a list, of its parts, and of it reversed.
use Rattle.std.proofs.Common.{zero, suc, List, [], ◌∷◌, ◌++◌, arith, subst, sym}
use Rattle.std.specs.Prelude.{All, reverse}
use Rattle.std.proofs.lemmas.List.{reverse-append}

abbrev pub Each : {X : Type 0} → (X → Type 0) → List X → Type 0
Each P [] = Unit {0}
Each P (x ∷ xs) = P x × Each P xs

module _ {X : Type 0} where
  pub each_of : (P : X → Type 0) (xs : List X) → All P xs → Each P xs
  each_of P [] h = tt
  each_of P (x ∷ xs) h = (h 0 x (omega arith), each_of P xs (λ k d l. h (suc k) d (omega arith)))

  all_at : (P : X → Type 0) (x : X) (xs : List X) → Each P (x ∷ xs) → All P xs → All P (x ∷ xs)
  all_at P x xs h t zero d l = h.0
  all_at P x xs h t (suc k) d l = t k d (omega arith)

  pub all_of : (P : X → Type 0) (xs : List X) → Each P xs → All P xs
  all_of P [] h = λ k d l. absurd (omega arith)
  all_of P (x ∷ xs) h = all_at P x xs h (all_of P xs h.1)

  pub each_joined : (P : X → Type 0) (xs ys : List X) → Each P xs → Each P ys → Each P (xs ++ ys)
  each_joined P [] ys h k = k
  each_joined P (x ∷ xs) ys h k = (h.0, each_joined P xs ys h.1 k)

  pub each_left : (P : X → Type 0) (xs ys : List X) → Each P (xs ++ ys) → Each P xs
  each_left P [] ys h = tt
  each_left P (x ∷ xs) ys h = (h.0, each_left P xs ys h.1)

  pub each_right : (P : X → Type 0) (xs ys : List X) → Each P (xs ++ ys) → Each P ys
  each_right P [] ys h = h
  each_right P (x ∷ xs) ys h = each_right P xs ys h.1

  pub each_reversed : (P : X → Type 0) (xs : List X) → Each P xs → Each P (reverse xs)
  each_reversed P [] h = tt
  each_reversed P (x ∷ xs) h = subst (Each P) (sym (reverse-append (x ∷ []) xs)) (each_joined P (reverse xs) (x ∷ []) (each_reversed P xs h.1) (h.0, tt))

  pub each_by : (P Q : X → Type 0) → ((x : X) → P x → Q x) → (xs : List X) → Each P xs → Each Q xs
  each_by P Q f [] h = tt
  each_by P Q f (x ∷ xs) h = (f x h.0, each_by P Q f xs h.1)
