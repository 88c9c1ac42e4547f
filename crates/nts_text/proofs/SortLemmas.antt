-- How sorted nodes grow by one.
use Rattle.std.proofs.Common.{Result, Ok, Err, ◌≡◌, ℕ, ◌==◌, true, length, List, [], ◌∷◌, ◌++◌, Option, None, Some, slice_get, drop, reverse, option_to_list, refl, sym, ap, subst, ◌∙◌, append_assoc}
use Rattle.std.specs.Prelude.{OnOk}
use Rattle.std.proofs.lemmas.Bool.{eqb-true}
use Rattle.std.proofs.lemmas.List.{nil_from_length, reverse-append, reverse-reverse}
use Rattle.nts_model.specs.declared.labels.Sort.{Sort}
use Rattle.nts_text.specs.Resolution.{argument_sorts, sort_of, AreSorted, AreSortedBefore}
use Rattle.nts_text.specs.declared.names.NameTable.{NameTable}
use Rattle.nts_text.specs.declared.resolver.Resolved.{Resolved}

pub sorted_push : (names : NameTable) (done : List Resolved) (wanted : List Sort) (r : Resolved)
    → AreSortedBefore names done wanted → sort_of r ≡ slice_get wanted 0
    → AreSortedBefore names (done ++ r ∷ []) (argument_sorts names r ++ drop 1 wanted)
sorted_push names done wanted r h place = λ rest sorted.
    subst (AreSorted names []) (sym (append_assoc done (r ∷ []) rest)) (h (r ∷ rest) (place, sorted))

-- what is wanted first is the last item of the stack
pub first_wanted : (stack rest : List Sort) (last : Option Sort) → stack ≡ rest ++ option_to_list last → (last ≡ None → rest ≡ [])
    → (slice_get (reverse stack) 0 ≡ last) × (drop 1 (reverse stack) ≡ reverse rest)
first_wanted stack rest (Some s) e none =
    let whole : reverse stack ≡ s ∷ reverse rest = ap reverse e ∙ reverse-append rest (s ∷ []) in
    (ap (λ xs. slice_get xs 0) whole, ap (λ xs. drop 1 xs) whole)
first_wanted stack rest None e none =
    let rest_is : rest ≡ [] = none refl in
    let stack_is : stack ≡ [] = e ∙ ap (λ xs. xs ++ []) rest_is in
    (ap (λ xs. slice_get (reverse xs) 0) stack_is, ap (λ xs. drop 1 (reverse xs)) stack_is ∙ sym (ap reverse rest_is))

-- what is wanted behind a node: its arguments, and then the rest
pub sorts_left : (new rest arguments tail : List Sort) → new ≡ rest ++ reverse arguments → tail ≡ reverse rest → reverse new ≡ arguments ++ tail
sorts_left new rest arguments tail e h =
    ap reverse e ∙ reverse-append rest (reverse arguments) ∙ ap (λ xs. xs ++ reverse rest) (reverse-reverse arguments) ∙ ap (λ xs. arguments ++ xs) (sym h)

-- nothing is wanted where the stack is empty
pub none_left : (xs : List Sort) (n : ℕ) → n ≡ length xs → (n == 0) ≡ true → xs ≡ []
none_left xs n h e = nil_from_length xs (sym h ∙ eqb-true n 0 e)

-- what is wanted behind a node with one argument more than these sorts
pub wanted_with : {T E : Type 0} (r : Result T E) (old between new sorts : List Sort) (s : Sort) → between ≡ old ++ s ∷ [] → OnOk r (new ≡ between ++ reverse sorts)
    → OnOk r (new ≡ old ++ reverse (sorts ++ s ∷ []))
wanted_with (Err x) old between new sorts s e h = tt
wanted_with (Ok x) old between new sorts s e h =
    h ∙ ap (λ xs. xs ++ reverse sorts) e ∙ append_assoc old (s ∷ []) (reverse sorts) ∙ sym (ap (λ xs. old ++ xs) (reverse-append sorts (s ∷ [])))
