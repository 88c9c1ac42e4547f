-- Which entries of a list need universes, and the list with them.
use Rattle.std.proofs.Common.{◌≡◌, ◌⊎◌, inl, inr, ⊎_elim, ℕ, zero, suc, ◌+◌, ◌-◌, ◌<◌, ◌≤◌, nat_eq, Bool, true, false, ◌||◌, ◌&&◌, cond, List, [], ◌∷◌, ◌++◌, length, take, drop, slice_get, Option, Some, None, is_some, refl, sym, ap, ◌∙◌, eqb-true, append_assoc, arith}
use Rattle.std.proofs.lemmas.Bool.{eq-eqb}
use Rattle.std.proofs.lemmas.List.{append-nil}
use Rattle.nts_model.specs.declared.labels.Sort.{Sort}
use Rattle.nts_model.specs.declared.labels.Sort.TheVariants as sort
use Rattle.nts_placeholder.specs.declared.maps.BoundVar.{BoundVar}
use Rattle.nts_placeholder.specs.declared.escaping.Escaping.{Escaping}
use Rattle.nts_placeholder.specs.Closing.{one_on, is_universe, entry_of}
use Rattle.nts_placeholder.specs.Escaping.{same_sort, is_it, is_among}
use Rattle.nts_placeholder.specs.Opening.{entry_for}
use Rattle.nts_placeholder.specs.Universes.{filled_universes, open_before, IsNeeded, IsReach}
use Rattle.nts_placeholder.proofs.Finding.{among-push}

-- variables by what tells them

pub same_sort-same : (s : Sort) → same_sort s s ≡ true
same_sort-same sort.Ty = refl
same_sort-same sort.Region = refl
same_sort-same sort.Const = refl

pub sort_same : (r s : Sort) → same_sort r s ≡ true → r ≡ s
sort_same sort.Ty sort.Ty h = refl
sort_same sort.Ty sort.Region h = cc
sort_same sort.Ty sort.Const h = cc
sort_same sort.Region sort.Ty h = cc
sort_same sort.Region sort.Region h = refl
sort_same sort.Region sort.Const h = cc
sort_same sort.Const sort.Ty h = cc
sort_same sort.Const sort.Region h = cc
sort_same sort.Const sort.Const h = refl

pub both : (p q : Bool) → (p && q) ≡ true → (p ≡ true) × (q ≡ true)
both true true h = (refl, refl)
both true false h = cc
both false q h = cc

pub either : (p q : Bool) → (p || q) ≡ true → (p ≡ true) ⊎ (q ≡ true)
either true q h = inl refl
either false q h = inr h

pub or_left : (p q : Bool) → p ≡ true → (p || q) ≡ true
or_left p q h = rw h refl

pub or_right : (p q : Bool) → q ≡ true → (p || q) ≡ true
or_right true q h = refl
or_right false q h = h

pub it_is : (x : Escaping) → is_it x x.sort x.bound ≡ true
it_is x =
    rw (same_sort-same x.sort, eq-eqb x.bound.level x.bound.level refl, eq-eqb x.bound.var x.bound.var refl) refl

pub record IsIt (x : Escaping) (s : Sort) (b : BoundVar) : Type 0 where
  pub sort : x.sort ≡ s
  pub bound : x.bound ≡ b

pub is_the : (x : Escaping) (s : Sort) (b : BoundVar) → is_it x s b ≡ true → IsIt x s b
is_the x s b h =
    let w = both (same_sort x.sort s) (nat_eq x.bound.level b.level && nat_eq x.bound.var b.var) h in
    let v = both (nat_eq x.bound.level b.level) (nat_eq x.bound.var b.var) w.1 in
    let p = eqb-true x.bound.level b.level v.0 in
    let q = eqb-true x.bound.var b.var v.1 in
    record { sort = sort_same x.sort s w.0; bound = λ j. record { level = p j; var = q j } }

pub among-at : (xs : List Escaping) (i : ℕ) (x : Escaping) → slice_get xs i ≡ Some x → is_among xs x.sort x.bound ≡ true
among-at [] i x h = cc
among-at (y ∷ xs) zero x h =
    let e : y ≡ x = cc in
    rw e (or_left (is_it x x.sort x.bound) (is_among xs x.sort x.bound) (it_is x))
among-at (y ∷ xs) (suc i) x h = or_right (is_it y x.sort x.bound) (is_among xs x.sort x.bound) (among-at xs i x h)

pub take-at : (xs : List Escaping) (i : ℕ) (x : Escaping) → slice_get xs i ≡ Some x → take (i + 1) xs ≡ take i xs ++ x ∷ []
take-at [] i x h = cc
take-at (y ∷ xs) zero x h = let e : y ≡ x = cc in rw e refl
take-at (y ∷ xs) (suc i) x h =
    let e : suc i + 1 ≡ suc (i + 1) = omega arith in rw e (ap (λ zs. y ∷ zs) (take-at xs i x h))

-- one variable more
pub among-next : (xs : List Escaping) (i : ℕ) (x : Escaping) → slice_get xs i ≡ Some x → (s : Sort) (b : BoundVar) → is_among (take (i + 1) xs) s b ≡ (is_among (take i xs) s b || is_it x s b)
among-next xs i x h s b = ap (λ zs. is_among zs s b) (take-at xs i x h) ∙ among-push s b (take i xs) x

pub take-all : (xs : List Escaping) (i : ℕ) → length xs ≤ i → take i xs ≡ xs
take-all [] zero h = refl
take-all [] (suc i) h = refl
take-all (x ∷ xs) zero h = absurd (omega (arith, h))
take-all (x ∷ xs) (suc i) h = ap (λ zs. x ∷ zs) (take-all xs i (omega (arith, h)))

-- the reach of more and more variables

pub needed_kept : {U : List (Option ℕ)} {E F : Sort → BoundVar → Bool} {e : ℕ} → ((s : Sort) (b : BoundVar) → E s b ≡ true → F s b ≡ true) → IsNeeded U E e → IsNeeded U F e
needed_kept f h = record { sort = h.sort; bound = h.bound; escapes = f h.sort h.bound h.escapes; entry = h.entry; is_open = h.is_open }

pub reach_same : {U : List (Option ℕ)} {E F : Sort → BoundVar → Bool} {n : ℕ} → ((s : Sort) (b : BoundVar) → E s b ≡ F s b) → IsReach U E n → IsReach U F n
reach_same {U} {E} {F} {n} f h =
    record {
      last = ⊎_elim (λ (z : n ≡ 0). inl z) (λ (w : (e : ℕ) × (n ≡ e + 1) × IsNeeded U E e). inr (w.0, w.1, needed_kept (λ s b q. sym (f s b) ∙ q) w.2)) h.last;
      all = λ e w. h.all e (needed_kept (λ s b q. f s b ∙ q) w);
    }

module _ (U : List (Option ℕ)) (xs : List Escaping) (i n : ℕ) (x : Escaping) where
  reach_cases : slice_get xs i ≡ Some x → (e : ℕ) → IsNeeded U (is_among (take (i + 1) xs)) e → IsNeeded U (is_among (take i xs)) e ⊎ (e ≡ entry_for U x.bound)
  reach_cases at e h =
      ⊎_elim (λ (q : is_among (take i xs) h.sort h.bound ≡ true). inl (record { sort = h.sort; bound = h.bound; escapes = q; entry = h.entry; is_open = h.is_open }))
      (λ (q : is_it x h.sort h.bound ≡ true). inr (h.entry ∙ ap (entry_for U) (sym (is_the x h.sort h.bound q).bound)))
      (either (is_among (take i xs) h.sort h.bound) (is_it x h.sort h.bound) (sym (among-next xs i x at h.sort h.bound) ∙ h.escapes))

  pub reach_up : slice_get xs i ≡ Some x → n ≤ entry_for U x.bound → slice_get U (entry_for U x.bound) ≡ Some None → IsReach U (is_among (take i xs)) n → IsReach U (is_among (take (i + 1) xs)) (entry_for U x.bound + 1)
  reach_up at low is_open h =
      let own : is_among (take (i + 1) xs) x.sort x.bound ≡ true = among-next xs i x at x.sort x.bound ∙ or_right (is_among (take i xs) x.sort x.bound) (is_it x x.sort x.bound) (it_is x) in
      record {
        last = inr (entry_for U x.bound, refl, record { sort = x.sort; bound = x.bound; escapes = own; entry = refl; is_open = is_open });
        all = λ e w. ⊎_elim (λ (v : IsNeeded U (is_among (take i xs)) e). omega (arith, h.all e v, low)) (λ (q : e ≡ entry_for U x.bound). omega (arith, q)) (reach_cases at e w);
      }

  pub reach_stays : slice_get xs i ≡ Some x → (n ≤ entry_for U x.bound → slice_get U (entry_for U x.bound) ≡ Some None → ⊥) → IsReach U (is_among (take i xs)) n → IsReach U (is_among (take (i + 1) xs)) n
  reach_stays at not h =
      record {
        last = ⊎_elim (λ (z : n ≡ 0). inl z) (λ (w : (e : ℕ) × (n ≡ e + 1) × IsNeeded U (is_among (take i xs)) e). inr (w.0, w.1, needed_kept (λ s b q. among-next xs i x at s b ∙ or_left (is_among (take i xs) s b) (is_it x s b) q) w.2)) h.last;
        all = λ e w. ⊎_elim (λ (v : IsNeeded U (is_among (take i xs)) e). h.all e v) (λ (q : e ≡ entry_for U x.bound). below e q w.is_open) (reach_cases at e w);
      }
    where
      lower : (e : ℕ) → (n ≤ e → ⊥) → e < n
      lower e k = omega (arith, k)

      below : (e : ℕ) → e ≡ entry_for U x.bound → slice_get U e ≡ Some None → e < n
      below e q o = lower e (λ l. not (rw (sym q) l) (ap (slice_get U) (sym q) ∙ o))

-- the entries one by one

pub drop-at : (i : ℕ) (U : List (Option ℕ)) (x : Option ℕ) → slice_get U i ≡ Some x → drop i U ≡ x ∷ drop (i + 1) U
drop-at i [] x h = cc
drop-at zero (y ∷ U) x h = let e : y ≡ x = cc in rw e refl
drop-at (suc i) (y ∷ U) x h = let e : suc i + 1 ≡ suc (i + 1) = omega arith in rw e (drop-at i U x h)

drop-past : (i : ℕ) (U : List (Option ℕ)) → length U ≤ i → drop i U ≡ []
drop-past zero [] h = refl
drop-past (suc i) [] h = refl
drop-past zero (x ∷ U) h = absurd (omega (arith, h))
drop-past (suc i) (x ∷ U) h = drop-past i U (omega (arith, h))

filled_universes-nil : (u n : ℕ) → filled_universes u n [] ≡ []
filled_universes-nil u zero = refl
filled_universes-nil u (suc n) = refl

open-nil : (n : ℕ) → open_before n [] ≡ 0
open-nil zero = refl
open-nil (suc n) = refl

-- the entries before place i stand in the new list
pub record AreSoFar (U : List (Option ℕ)) (u end i : ℕ) (list : List (Option ℕ)) (last : ℕ) : Type 0 where
  pub all : list ++ filled_universes last (end - i) (drop i U) ≡ filled_universes u end U
  pub count : last + open_before (end - i) (drop i U) ≡ u + open_before end U

module _ (U : List (Option ℕ)) (u end i : ℕ) (list : List (Option ℕ)) (last : ℕ) (h : AreSoFar U u end i list last) where
  pub far_open : (more_list : List (Option ℕ)) (next : ℕ) → slice_get U i ≡ Some None → i < end → next ≡ last + 1 → more_list ≡ list ++ Some next ∷ [] → AreSoFar U u end (i + 1) more_list next
  far_open more_list next at l q is =
      let e : end - i ≡ suc (end - (i + 1)) = omega (arith, l) in
      let R = drop (i + 1) U in
      let all : list ++ filled_universes last (suc (end - (i + 1))) (None ∷ R) ≡ filled_universes u end U = rw (e, drop-at i U None at) at h.all in
      let count : last + open_before (suc (end - (i + 1))) (None ∷ R) ≡ u + open_before end U = rw (e, drop-at i U None at) at h.count in
      rw (is, q) (record {
        all = append_assoc list (Some (last + 1) ∷ []) (filled_universes (last + 1) (end - (i + 1)) R) ∙ all;
        count = omega (arith, count);
      })

  pub far_kept : (more_list : List (Option ℕ)) (v : ℕ) → slice_get U i ≡ Some (Some v) → more_list ≡ list ++ Some v ∷ [] → AreSoFar U u end (i + 1) more_list last
  far_kept more_list v at is = by_case (end - i) refl
    where
      here : (m : ℕ) → end - i ≡ m → list ++ filled_universes last m (Some v ∷ drop (i + 1) U) ≡ filled_universes u end U
      here m e = rw (e, drop-at i U (Some v) at) at h.all

      many : (m : ℕ) → end - i ≡ m → last + open_before m (Some v ∷ drop (i + 1) U) ≡ u + open_before end U
      many m e = rw (e, drop-at i U (Some v) at) at h.count

      by_case : (m : ℕ) → end - i ≡ m → AreSoFar U u end (i + 1) more_list last
      by_case zero e =
          let z : end - (i + 1) ≡ 0 = omega (arith, e) in
          rw is (record { all = rw z (append_assoc list (Some v ∷ []) (drop (i + 1) U) ∙ here zero e); count = rw z (many zero e) })
      by_case (suc m) e =
          let z : end - (i + 1) ≡ m = omega (arith, e) in
          rw is (record { all = rw z (append_assoc list (Some v ∷ []) (filled_universes last m (drop (i + 1) U)) ∙ here (suc m) e); count = rw z (many (suc m) e) })

  pub far_some : (more_list : List (Option ℕ)) (x : Option ℕ) → slice_get U i ≡ Some x → is_some x ≡ true → more_list ≡ list ++ x ∷ [] → AreSoFar U u end (i + 1) more_list last
  far_some more_list None at q is = cc
  far_some more_list (Some v) at q is = far_kept more_list v at is

  pub far_past : (more_list : List (Option ℕ)) (x : Option ℕ) → slice_get U i ≡ Some x → end ≤ i → more_list ≡ list ++ x ∷ [] → AreSoFar U u end (i + 1) more_list last
  far_past more_list x at l is =
      let e : end - i ≡ 0 = omega (arith, l) in
      let z : end - (i + 1) ≡ 0 = omega (arith, l) in
      let R = drop (i + 1) U in
      let all : list ++ (x ∷ R) ≡ filled_universes u end U = rw (e, drop-at i U x at) at h.all in
      let count : last + 0 ≡ u + open_before end U = rw e at h.count in
      rw is (record { all = rw z (append_assoc list (x ∷ []) R ∙ all); count = rw z count })

  pub far_full : (most : ℕ) → slice_get U i ≡ Some None → i < end → most < last + 1 → most < u + open_before end U
  far_full most at l q =
      let e : end - i ≡ suc (end - (i + 1)) = omega (arith, l) in
      let R = drop (i + 1) U in
      let count : last + open_before (suc (end - (i + 1))) (None ∷ R) ≡ u + open_before end U = rw (e, drop-at i U None at) at h.count in
      omega (arith, count, q)

  pub far_all : length U ≤ i → (list ≡ filled_universes u end U) × (last ≡ u + open_before end U)
  far_all l =
      let none = drop-past i U l in
      let all : list ++ filled_universes last (end - i) [] ≡ filled_universes u end U = rw none at h.all in
      let count : last + open_before (end - i) [] ≡ u + open_before end U = rw none at h.count in
      (sym (append-nil list) ∙ ap (λ zs. list ++ zs) (sym (filled_universes-nil last (end - i))) ∙ all, omega (arith, count, open-nil (end - i)))

-- the entry of a universe is looked for from place i on

abbrev pub shift : ℕ → Option ℕ → Option ℕ
shift i None = None
shift i (Some e) = Some (e + i)

pub none_of : (o : Option ℕ) → is_some o ≡ false → o ≡ None
none_of None h = refl
none_of (Some u) h = cc

pub some_none : (o : Option ℕ) → is_some o ≡ true → o ≡ None → ⊥
some_none None h e = cc
some_none (Some u) h e = cc
