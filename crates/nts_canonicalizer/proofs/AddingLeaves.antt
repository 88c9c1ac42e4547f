-- Leaves that are added to a list or a table.
use Rattle.std.proofs.Common.{◌≡◌, ℕ, zero, suc, ◌+◌, ◌<◌, ◌≤◌, Bool, true, false, cond, List, [], ◌∷◌, ◌++◌, length, get_or, take, inl, inr, refl, sym, ap, subst, ◌∙◌, arith}
use Rattle.std.specs.List.{list_any}
use Rattle.std.proofs.lemmas.List.{take_all}
use Rattle.std.proofs.lemmas.List.Sums.{position_or_len_is}
use Rattle.indexmap.specs.IndexSet.{insert_key}
use Rattle.nts_model.specs.declared.labels.Leaf.{Leaf}
use Rattle.nts_model.specs.Lists.{Among}
use Rattle.nts_model.specs.Canonical.Numbered.{same, number, added, AreDistinct}
use Rattle.nts_model.specs.contracts.labels.LeafPartialEq.TheImpl as leaf_eq
use Rattle.nts_model.proofs.Terms.Listed.{either, same-no}

-- a leaf that has no place in a list is added at its end
pub added-end : (s : List Leaf) (l : Leaf) → length s ≤ number s l → added s l ≡ s ++ l ∷ []
added-end [] l h = refl
added-end (x ∷ xs) l h = elim (either (same l x)) [
  | inl e ↦ absurd (let z : number (x ∷ xs) l ≡ 0 = rw e refl in omega (arith, h, z))
  | inr e ↦ let z : number (x ∷ xs) l ≡ 1 + number xs l = rw e refl in rw e (ap (λ r. x ∷ r) (added-end xs l (omega (arith, h, z))))
]

-- and one that has a place is not added
pub added-there : (s : List Leaf) (l : Leaf) → number s l < length s → added s l ≡ s
added-there [] l h = absurd (omega (arith, h))
added-there (x ∷ xs) l h = elim (either (same l x)) [
  | inl e ↦ rw e refl
  | inr e ↦ let z : number (x ∷ xs) l ≡ 1 + number xs l = rw e refl in rw e (ap (λ r. x ∷ r) (added-there xs l (omega (arith, h, z))))
]

among-at : (xs : List Leaf) (i : ℕ) (d : Leaf) → i < length xs → Among xs (get_or xs i d)
among-at [] i d h = absurd (omega (arith, h))
among-at (x ∷ xs) zero d h = inl refl
among-at (x ∷ xs) (suc i) d h = inr (among-at xs i d (omega (arith, h)))

-- one more of distinct leaves
pub take-added : (xs : List Leaf) (i : ℕ) (d : Leaf) → AreDistinct xs → i < length xs → added (take i xs) (get_or xs i d) ≡ take (suc i) xs
take-added [] i d h k = absurd (omega (arith, k))
take-added (x ∷ xs) zero d h k = refl
take-added (x ∷ xs) (suc i) d h k =
    let below : i < length xs = omega (arith, k) in
    let other : same (get_or xs i d) x ≡ false = same-no (get_or xs i d) x (λ e. h.0 (subst (Among xs) e (among-at xs i d below))) in
    rw other (ap (λ r. x ∷ r) (take-added xs i d h.1 below))

-- a set of leaves with one more
pub insert_key-added : (s : List Leaf) (l : Leaf) → insert_key leaf_eq.ghosts.eq s l ≡ added s l
insert_key-added [] l = refl
insert_key-added (x ∷ xs) l =
    elim (either (same l x)) [
      | inl e ↦ rw e refl
      | inr e ↦ rw e (by_rest (list_any (same l) xs) refl (insert_key-added xs l))
    ]
  where
    by_rest : (b : Bool) → list_any (same l) xs ≡ b → insert_key leaf_eq.ghosts.eq xs l ≡ added xs l → cond b (x ∷ xs) (x ∷ xs ++ l ∷ []) ≡ x ∷ added xs l
    by_rest true e h = ap (λ r. x ∷ r) (rw e at h)
    by_rest false e h = ap (λ r. x ∷ r) (rw e at h)

-- .. of those that were taken so far from a list, and of all
pub inserted-next : (xs s u : List Leaf) (i : ℕ) (l d : Leaf) → AreDistinct xs → i < length xs → s ≡ take i xs → l ≡ get_or xs i d → u ≡ insert_key leaf_eq.ghosts.eq s l → u ≡ take (i + 1) xs
inserted-next xs s u i l d h k e f g =
    let more : i + 1 ≡ suc i = omega arith in
    g ∙ insert_key-added s l ∙ ap (λ z. added z l) e ∙ ap (added (take i xs)) f ∙ take-added xs i d h k ∙ sym (ap (λ n. take n xs) more)

pub inserted-last : (xs s u : List Leaf) (i : ℕ) (l : Leaf) → length xs ≤ i → s ≡ take i xs → u ≡ insert_key leaf_eq.ghosts.eq s l → u ≡ added xs l
inserted-last xs s u i l h e g = g ∙ insert_key-added s l ∙ ap (λ z. added z l) (e ∙ take_all i xs h)

-- a leaf that has a place, or none, in a list that is searched
pub add-there : (s ys : List Leaf) (l : Leaf) (p n : ℕ) → ys ≡ s → p ≡ number ys l → n ≡ length s → p < n → s ≡ added s l
add-there s ys l p n e f g h =
    let place : p ≡ number s l = f ∙ ap (λ z. number z l) e in
    sym (added-there s l (omega (arith, place, g, h)))

pub add-pushed : (s ys us : List Leaf) (l : Leaf) (p n : ℕ) → ys ≡ s → p ≡ number ys l → n ≡ length s → n ≤ p → us ≡ s ++ l ∷ [] → us ≡ added s l
add-pushed s ys us l p n e f g h k =
    let place : p ≡ number s l = f ∙ ap (λ z. number z l) e in
    k ∙ sym (added-end s l (omega (arith, place, g, h)))

get_or-any : (xs : List Leaf) (i : ℕ) (d e : Leaf) → i < length xs → get_or xs i d ≡ get_or xs i e
get_or-any [] i d e h = absurd (omega (arith, h))
get_or-any (x ∷ xs) zero d e h = refl
get_or-any (x ∷ xs) (suc i) d e h = get_or-any xs i d e (omega (arith, h))

-- the place that a search finds
pub place_is : (xs : List Leaf) (l d e : Leaf) (i : ℕ) → i < length xs → ((k : ℕ) → k < i → same l (get_or xs k d) ≡ false) → same l (get_or xs i e) ≡ true → i ≡ number xs l
place_is xs l d e i h before here =
    sym (position_or_len_is (same l) xs i d (omega (arith, h)) before (λ k. ap (same l) (get_or-any xs i d e h) ∙ here))

pub no_place : (xs : List Leaf) (l d : Leaf) (i : ℕ) → i ≡ length xs → ((k : ℕ) → k < i → same l (get_or xs k d) ≡ false) → i ≡ number xs l
no_place xs l d i h before =
    sym (position_or_len_is (same l) xs i d (omega (arith, h)) before (λ k. absurd (omega (arith, h, k))))
