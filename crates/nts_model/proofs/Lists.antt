-- Elements of lists.
use Rattle.std.proofs.Common.{List, [], arith, inl, inr, suc, zero, ◌∙◌, ◌∷◌, ◌≡◌, ◌⊎◌, ◌++◌}
use Rattle.std.specs.Prelude.{Contains}
use Rattle.nts_model.specs.Lists.{Among}

pub first_or_later : {X : Type 0} (y : X) (xs : List X) (x : X) → Contains (y ∷ xs) x → (y ≡ x) ⊎ Contains xs x
first_or_later y xs x (zero, l, e) = inl e
first_or_later y xs x (suc k, l, e) = inr (k, omega (arith, l), e)

pub contains_none : {X : Type 0} (x : X) → Contains [] x → ⊥
contains_none x (k, l, e) = omega (arith, l)

pub among_left : {X : Type 0} (xs ys : List X) (x : X) → Among xs x → Among (xs ++ ys) x
among_left [] ys x a = absurd a
among_left (y ∷ xs) ys x (inl e) = inl e
among_left (y ∷ xs) ys x (inr a) = inr (among_left xs ys x a)

pub among_right : {X : Type 0} (xs ys : List X) (x : X) → Among ys x → Among (xs ++ ys) x
among_right [] ys x a = a
among_right (y ∷ xs) ys x a = inr (among_right xs ys x a)
