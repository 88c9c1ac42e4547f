-- The values of kinds, and the variables of a table that is made for them, position by position.
use Rattle.std.proofs.Common.{◌≡◌, ℕ, zero, suc, ◌+◌, ◌<◌, ◌≤◌, List, [], ◌∷◌, ◌++◌, length, take, Some, None, refl, sym, ap, ◌∙◌, arith}
use Rattle.std.specs.Prelude.{slice_get}
use Rattle.std.proofs.lemmas.List.{append_assoc}
use Rattle.nts_model.specs.Canonical.Inputs.{PositionKind, type_variable, integer_variable, float_variable, const_variable, region_variable, placeholder}
use Rattle.nts_unify.specs.declared.contents.Variable.{Variable}
use Rattle.nts_canonical.specs.Kinds.{kind_of_position, count_of, variables_before, if_there, link_to, value_leaf, value_leaves, made_variable, made_variables}
use Rattle.nts_model.specs.Answers.Responses.{universe_of_kind}

pub some : {A : Type 0} {x y : A} → Some x ≡ Some y → x ≡ y
some e = cc

pub append-none : {A : Type 0} (xs : List A) → xs ++ [] ≡ xs
append-none [] = refl
append-none (x ∷ xs) = ap (λ r. x ∷ r) (append-none xs)

-- the value of a position
pub value-at : (n : ℕ) (ks : List PositionKind) (i : ℕ) (k : PositionKind) → slice_get ks i ≡ Some k → slice_get (value_leaves n ks) i ≡ Some (value_leaf k (universe_of_kind k) (n + variables_before ks i))
value-at n [] i k e = cc
value-at n (x ∷ ks) zero k e =
    let same : x ≡ k = some e in
    let all : n + 0 ≡ n = omega arith in
    rw (same, all) refl
value-at n (x ∷ ks) (suc i) k e =
    let sum : n + (count_of (kind_of_position x) + variables_before ks i) ≡ (n + count_of (kind_of_position x)) + variables_before ks i = omega arith in
    rw sum (value-at (n + count_of (kind_of_position x)) ks i k e)

pub length-values : (n : ℕ) (ks : List PositionKind) → length (value_leaves n ks) ≡ length ks
length-values n [] = refl
length-values n (k ∷ ks) = omega (arith, length-values (n + count_of (kind_of_position k)) ks)

-- one more value
pub values-push : (n : ℕ) (ks : List PositionKind) (k : PositionKind) → value_leaves n (ks ++ k ∷ []) ≡ value_leaves n ks ++ value_leaf k (universe_of_kind k) (n + variables_before ks (length ks)) ∷ []
values-push n [] k = let all : n + 0 ≡ n = omega arith in rw all refl
values-push n (x ∷ ks) k =
    let sum : n + (count_of (kind_of_position x) + variables_before ks (length ks)) ≡ (n + count_of (kind_of_position x)) + variables_before ks (length ks) = omega arith in
    rw sum (ap (λ r. value_leaf x (universe_of_kind x) n ∷ r) (values-push (n + count_of (kind_of_position x)) ks k))

-- a variable after that of an earlier position
one_more : (vs : List Variable) (v : Variable) (n : ℕ) → slice_get (v ∷ vs) (1 + n) ≡ slice_get vs n
one_more vs v n = let one : 1 + n ≡ suc n = omega arith in rw one refl

after_made : (ps : List PositionKind) (k : PositionKind) (vs : List Variable) (n : ℕ) → slice_get (made_variable ps k ++ vs) (count_of (kind_of_position k) + n) ≡ slice_get vs n
after_made ps (type_variable u r) vs n = one_more vs _ n
after_made ps integer_variable vs n = one_more vs _ n
after_made ps float_variable vs n = one_more vs _ n
after_made ps (const_variable u) vs n = one_more vs _ n
after_made ps (region_variable u) vs n = one_more vs _ n
after_made ps (placeholder s u m) vs n = let none : 0 + n ≡ n = omega arith in rw none refl

-- the variable of a position is the next one of those that its kind makes
pub record MadeAt (ps ks : List PositionKind) (i : ℕ) (k : PositionKind) : Type 0 where
  pub rest : List Variable
  pub at : slice_get (made_variables ps ks) (variables_before ks i) ≡ slice_get (made_variable (ps ++ take i ks) k ++ rest) 0

pub made-at : (ps ks : List PositionKind) (i : ℕ) (k : PositionKind) → slice_get ks i ≡ Some k → MadeAt ps ks i k
made-at ps [] i k e = cc
made-at ps (x ∷ ks) zero k e =
    let same : x ≡ k = some e in
    record { rest = made_variables (ps ++ x ∷ []) ks; at = rw (same, append-none ps) refl }
made-at ps (x ∷ ks) (suc i) k e =
    let h = made-at (ps ++ x ∷ []) ks i k e in
    record {
      rest = h.rest;
      at = after_made ps x (made_variables (ps ++ x ∷ []) ks) (variables_before ks i) ∙ h.at ∙ ap (λ z. slice_get (made_variable z k ++ h.rest) 0) (append_assoc ps (x ∷ []) (take i ks));
    }

-- one more variable
pub made-push : (ps ks : List PositionKind) (k : PositionKind) → made_variables ps (ks ++ k ∷ []) ≡ made_variables ps ks ++ made_variable (ps ++ ks) k
made-push ps [] k = rw (append-none ps, append-none (made_variable ps k)) refl
made-push ps (x ∷ ks) k =
    ap (λ r. made_variable ps x ++ r) (made-push (ps ++ x ∷ []) ks k ∙ ap (λ z. made_variables (ps ++ x ∷ []) ks ++ made_variable z k) (append_assoc ps (x ∷ []) ks))
    ∙ sym (append_assoc (made_variable ps x) (made_variables (ps ++ x ∷ []) ks) (made_variable (ps ++ x ∷ ks) k))

length-after : (ps : List PositionKind) (k : PositionKind) (vs : List Variable) → length (made_variable ps k ++ vs) ≡ count_of (kind_of_position k) + length vs
length-after ps (type_variable u r) vs = omega arith
length-after ps integer_variable vs = omega arith
length-after ps float_variable vs = omega arith
length-after ps (const_variable u) vs = omega arith
length-after ps (region_variable u) vs = omega arith
length-after ps (placeholder s u m) vs = omega arith

pub length-made : (ps ks : List PositionKind) → length (made_variables ps ks) ≡ variables_before ks (length ks)
length-made ps [] = refl
length-made ps (k ∷ ks) =
    length-after ps k (made_variables (ps ++ k ∷ []) ks) ∙ ap (λ n. count_of (kind_of_position k) + n) (length-made (ps ++ k ∷ []) ks)

-- what stands before a position stays where later ones are left out
pub taken-at : (ks : List PositionKind) (i r : ℕ) → r < i → slice_get (take i ks) r ≡ slice_get ks r
taken-at ks zero r l = absurd (omega (arith, l))
taken-at [] (suc i) r l = refl
taken-at (k ∷ ks) (suc i) zero l = refl
taken-at (k ∷ ks) (suc i) (suc r) l = taken-at ks i r (omega (arith, l))

taken-past : (ks : List PositionKind) (i : ℕ) → slice_get (take i ks) i ≡ None
taken-past ks zero = refl
taken-past [] (suc i) = refl
taken-past (k ∷ ks) (suc i) = taken-past ks i

taken-before : (ks : List PositionKind) (i r : ℕ) → r < i → variables_before (take i ks) r ≡ variables_before ks r
taken-before ks zero r l = absurd (omega (arith, l))
taken-before [] (suc i) zero l = refl
taken-before [] (suc i) (suc r) l = refl
taken-before (k ∷ ks) (suc i) zero l = refl
taken-before (k ∷ ks) (suc i) (suc r) l = ap (λ n. count_of (kind_of_position k) + n) (taken-before ks i r (omega (arith, l)))

-- the first position of a sub root leads nowhere, and the others lead to it
pub link-self : (ks : List PositionKind) (i : ℕ) → link_to (take i ks) i ≡ None
link-self ks i = ap (λ o. if_there o (variables_before (take i ks) i)) (taken-past ks i)

pub link-earlier : (ks : List PositionKind) (i r : ℕ) (k : PositionKind) → r < i → slice_get ks r ≡ Some k → link_to (take i ks) r ≡ Some (variables_before ks r)
link-earlier ks i r k l e =
    ap (λ o. if_there o (variables_before (take i ks) r)) (taken-at ks i r l ∙ e) ∙ ap Some (taken-before ks i r l)

-- later variables have higher numbers
pub before-later : (ks : List PositionKind) (i j : ℕ) → i ≤ j → variables_before ks i ≤ variables_before ks j
before-later ks zero j l = omega arith
before-later [] (suc i) j l = omega arith
before-later (k ∷ ks) (suc i) zero l = absurd (omega (arith, l))
before-later (k ∷ ks) (suc i) (suc j) l = let n = before-later ks i j (omega (arith, l)) in omega (arith, n)

pub before-type : (ks : List PositionKind) (i u r : ℕ) → slice_get ks i ≡ Some (type_variable u r) → variables_before ks (suc i) ≡ variables_before ks i + 1
before-type [] i u r e = cc
before-type (k ∷ ks) zero u r e = let same : k ≡ type_variable u r = some e in rw same refl
before-type (k ∷ ks) (suc i) u r e = let n = before-type ks i u r e in omega (arith, n)
