-- The kinds of positions, one by one, and the greatest of their universes.
use Rattle.std.proofs.Common.{◌≡◌, ℕ, zero, suc, ◌+◌, ◌<◌, ◌≤◌, max, List, [], ◌∷◌, ◌++◌, map, length, take, drop, get_or, Option, refl, sym, ap, subst, ◌∙◌, arith}
use Rattle.std.specs.List.{position_or_len}
use Rattle.std.proofs.Math.Nat.{le-max_left, le-max_right, max-le}
use Rattle.std.proofs.lemmas.List.{take_all}
use Rattle.nts_model.specs.declared.labels.Leaf.{Leaf}
use Rattle.nts_model.specs.Tables.Contents.{Content}
use Rattle.nts_model.specs.Canonical.Inputs.{sub_root_of, are_one, share, PositionKind}
use Rattle.nts_model.specs.Answers.Responses.{answer_kind, answer_kinds, universe_of_kind, greatest}
use Rattle.nts_response.specs.nts_canonical.specs.declared.types.CanonicalVarKind.{CanonicalVarKind}
use Rattle.nts_response.specs.nts_canonical.specs.Forms.{kind_of_var}
use Rattle.nts_response.specs.nts_canonical.proofs.VarLists.{place-map, map-push, map-take-more}

-- the kind of a leaf among these
abbrev pub kind_among : Content → (ℕ → ℕ) → ℕ → List Leaf → Leaf → PositionKind
kind_among c r m s l = answer_kind c m (position_or_len (share r l) s) l

-- one more kind
pub one_answer : (c : Content) (r : ℕ → ℕ) (m : ℕ) (ls : List Leaf) (roots : List (Option ℕ)) (ks us : List CanonicalVarKind) (k : CanonicalVarKind) (i first : ℕ) (d : Leaf) → i < length ls
    → roots ≡ map (sub_root_of r) ls → map kind_of_var ks ≡ map (kind_among c r m ls) (take i ls) → first ≡ position_or_len (are_one (sub_root_of r (get_or ls i d))) roots
    → kind_of_var k ≡ answer_kind c m first (get_or ls i d) → us ≡ ks ++ k ∷ [] → map kind_of_var us ≡ map (kind_among c r m ls) (take (i + 1) ls)
one_answer c r m ls roots ks us k i first d l q h f is u =
    let x = get_or ls i d in
    let place : first ≡ position_or_len (share r x) ls = f ∙ ap (position_or_len (are_one (sub_root_of r x))) q ∙ place-map (sub_root_of r) (are_one (sub_root_of r x)) ls in
    let at : kind_of_var k ≡ kind_among c r m ls x = is ∙ ap (λ n. answer_kind c m n x) place in
    rw (u, map-push kind_of_var ks k, h, at) (sym (map-take-more (kind_among c r m ls) ls i d l))

-- the greatest of three, and of the rest of a list
least_left_out : (m u g : ℕ) → u ≤ m → max m (max u g) ≡ max m g
least_left_out m u g l =
    let a : max m (max u g) ≤ max m g = max-le (le-max_left m g) (max-le (omega (arith, l, le-max_left m g)) (le-max_right m g)) in
    let b : max m g ≤ max m (max u g) = max-le (le-max_left m (max u g)) (omega (arith, le-max_right u g, le-max_right m (max u g))) in
    omega (arith, a, b)

first_left_out : (m u g : ℕ) → m ≤ u → max m (max u g) ≡ max u g
first_left_out m u g l =
    let a : max m (max u g) ≤ max u g = max-le (omega (arith, l, le-max_left u g)) (omega arith) in
    let b : max u g ≤ max m (max u g) = le-max_right m (max u g) in
    omega (arith, a, b)

abbrev universe_at : List CanonicalVarKind → ℕ → CanonicalVarKind → ℕ
universe_at ks i d = universe_of_kind (kind_of_var (get_or ks i d))

rest_greatest : (ks : List CanonicalVarKind) (i : ℕ) (d : CanonicalVarKind) → i < length ks → greatest (map kind_of_var (drop i ks)) ≡ max (universe_at ks i d) (greatest (map kind_of_var (drop (suc i) ks)))
rest_greatest [] i d l = absurd (omega arith)
rest_greatest (k ∷ ks) zero d l = refl
rest_greatest (k ∷ ks) (suc i) d l = rest_greatest ks i d (omega arith)

-- what is the greatest so far, and that of the rest
abbrev pub GreatestSoFar : List CanonicalVarKind → ℕ → ℕ → Type 0
GreatestSoFar ks i m = max m (greatest (map kind_of_var (drop i ks))) ≡ greatest (map kind_of_var ks)

pub less_passed : (ks : List CanonicalVarKind) (i m u : ℕ) (d : CanonicalVarKind) → i < length ks → u ≡ universe_at ks i d → u ≤ m → GreatestSoFar ks i m → GreatestSoFar ks (i + 1) m
less_passed ks i m u d l e le h =
    let g = greatest (map kind_of_var (drop (suc i) ks)) in
    let step : GreatestSoFar ks (suc i) m = sym (least_left_out m (universe_at ks i d) g (omega (arith, e, le))) ∙ ap (max m) (sym (rest_greatest ks i d l)) ∙ h in
    let next : suc i ≡ i + 1 = omega arith in
    subst (λ j. GreatestSoFar ks j m) next step

pub more_taken : (ks : List CanonicalVarKind) (i m u : ℕ) (d : CanonicalVarKind) → i < length ks → u ≡ universe_at ks i d → m < u → GreatestSoFar ks i m → GreatestSoFar ks (i + 1) u
more_taken ks i m u d l e le h =
    let g = greatest (map kind_of_var (drop (suc i) ks)) in
    let step : GreatestSoFar ks (suc i) u = ap (λ n. max n g) e ∙ sym (first_left_out m (universe_at ks i d) g (omega (arith, e, le))) ∙ ap (max m) (sym (rest_greatest ks i d l)) ∙ h in
    let next : suc i ≡ i + 1 = omega arith in
    subst (λ j. GreatestSoFar ks j u) next step

drop_none : (ks : List CanonicalVarKind) (i : ℕ) → length ks ≤ i → greatest (map kind_of_var (drop i ks)) ≡ 0
drop_none [] zero l = refl
drop_none [] (suc i) l = refl
drop_none (k ∷ ks) zero l = absurd (omega arith)
drop_none (k ∷ ks) (suc i) l = drop_none ks i (omega arith)

pub all_passed : (ks : List CanonicalVarKind) (i m : ℕ) → length ks ≤ i → GreatestSoFar ks i m → m ≡ greatest (map kind_of_var ks)
all_passed ks i m l h =
    let a : m ≤ max m 0 = le-max_left m 0 in
    let b : max m 0 ≤ m = max-le (omega arith) (omega arith) in
    let c : m ≡ max m 0 = omega (arith, a, b) in
    c ∙ ap (max m) (sym (drop_none ks i l)) ∙ h

pub none_passed : (ks : List CanonicalVarKind) → GreatestSoFar ks 0 0
none_passed [] = refl
none_passed (k ∷ ks) =
    let g = greatest (map kind_of_var (k ∷ ks)) in
    let a : g ≤ max 0 g = le-max_right 0 g in
    let b : max 0 g ≤ g = max-le (omega arith) (omega arith) in
    omega (arith, a, b)

pub all_answered : (c : Content) (r : ℕ → ℕ) (m : ℕ) (ls : List Leaf) (ks : List CanonicalVarKind) (i : ℕ) → length ls ≤ i → map kind_of_var ks ≡ map (kind_among c r m ls) (take i ls) → map kind_of_var ks ≡ answer_kinds c r m ls
all_answered c r m ls ks i l h = h ∙ ap (map (kind_among c r m ls)) (take_all i ls l)
