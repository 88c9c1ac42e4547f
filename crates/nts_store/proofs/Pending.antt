-- A walk over the labels of a tree: what is left to visit.
use Rattle.std.proofs.Common.{◌≡◌, ◌↔◌, ℕ, zero, suc, ◌+◌, ◌<◌, ◌≤◌, max, List, [], ◌∷◌, ◌++◌, length, get_or, All, refl, arith, rules}
use Rattle.std.specs.Ordering.{nat_cmp, match_ordering}
use Rattle.std.specs.declared.cmp.Ordering.{Ordering}
use Rattle.std.specs.declared.cmp.Ordering.TheVariants.{Less, Equal, Greater}
use Rattle.std.specs.BTreeSet.{insert_key}
use Rattle.std.specs.BTreeMap.Range.{IsLtBy}
use Rattle.nts_model.specs.declared.labels.Label.{Label}
use Rattle.nts_model.specs.Terms.Trees.{Tree, empty, more, node, row_length, row_at, row_take, IsRow}
use Rattle.nts_model.specs.Tables.Passing.{AllLabels}
use Rattle.nts_store.specs.Levels.{above}
use Rattle.nts_store.proofs.Growing.{row_take-all}

-- each term passes
abbrev pub AllPass : (Label → Type 0) → List Tree → List ℕ → Type 0
AllPass P ts [] = Unit {0}
AllPass P ts (k ∷ ks) = AllLabels P (get_or ts k empty) × AllPass P ts ks

pub cmp-less : (a b : ℕ) → nat_cmp a b ≡ Less → a < b
cmp-less a b e = search rules

pub cmp-equal : (a b : ℕ) → nat_cmp a b ≡ Equal → a ≡ b
cmp-equal a b e = search rules

inserted_cases : (P : Label → Type 0) (ts : List Tree) (k x : ℕ) (xs : List ℕ) (rest : List ℕ) → (AllPass P ts rest ↔ (AllLabels P (get_or ts k empty) × AllPass P ts xs)) → (o : Ordering) → nat_cmp k x ≡ o → AllPass P ts (match_ordering o (k ∷ x ∷ xs) (x ∷ xs) (x ∷ rest)) ↔ (AllLabels P (get_or ts k empty) × AllPass P ts (x ∷ xs))
inserted_cases P ts k x xs rest h Less e = ((λ w. (w.0, w.1)), λ w. (w.0, w.1))
inserted_cases P ts k x xs rest h Equal e =
    let same = cmp-equal k x e in
    ((λ w. (rw same w.0, w)), λ w. w.1)
inserted_cases P ts k x xs rest h Greater e =
    ((λ w. let v = h.0 w.1 in (v.0, (w.0, v.1))), λ w. (w.1.0, h.1 (w.0, w.1.1)))

-- one more term
pub AllPass-insert : (P : Label → Type 0) (ts : List Tree) (ks : List ℕ) (k : ℕ) → AllPass P ts (insert_key nat_cmp ks k) ↔ (AllLabels P (get_or ts k empty) × AllPass P ts ks)
AllPass-insert P ts [] k = ((λ w. w), λ w. w)
AllPass-insert P ts (x ∷ xs) k =
    inserted_cases P ts k x xs (insert_key nat_cmp xs k) (AllPass-insert P ts xs k) (nat_cmp k x) refl

above_cases : (k x n : ℕ) (xs rest : List ℕ) → above rest ≤ n → k < n → above (x ∷ xs) ≤ n → (o : Ordering) → above (match_ordering o (k ∷ x ∷ xs) (x ∷ xs) (x ∷ rest)) ≤ n
above_cases k x n xs rest r l h Less = omega arith
above_cases k x n xs rest r l h Equal = h
above_cases k x n xs rest r l h Greater = omega arith

pub above-insert : (ks : List ℕ) (k n : ℕ) → above ks ≤ n → k < n → above (insert_key nat_cmp ks k) ≤ n
above-insert [] k n h l = omega arith
above-insert (x ∷ xs) k n h l =
    above_cases k x n xs (insert_key nat_cmp xs k) (above-insert xs k n (omega arith) l) l h (nat_cmp k x)

-- the last term
pub AllPass-last : (P : Label → Type 0) (ts : List Tree) (ks : List ℕ) (k : ℕ) → AllPass P ts (ks ++ k ∷ []) ↔ (AllLabels P (get_or ts k empty) × AllPass P ts ks)
AllPass-last P ts [] k = ((λ w. w), λ w. w)
AllPass-last P ts (x ∷ xs) k =
    let r = AllPass-last P ts xs k in
    ((λ w. let v = r.0 w.1 in (v.0, (w.0, v.1))), λ w. (w.1.0, r.1 (w.0, w.1.1)))

pub above-last : (ks : List ℕ) (k : ℕ) → above (ks ++ k ∷ []) ≡ max (above ks) (k + 1)
above-last [] k = omega arith
above-last (x ∷ xs) k = omega (arith, above-last xs k)

-- one more child
pub AllLabels-take : (P : Label → Type 0) (i : ℕ) (r : Tree) → i < row_length r → AllLabels P (row_take (i + 1) r) ↔ (AllLabels P (row_take i r) × AllLabels P (row_at r i))
AllLabels-take P i empty h = absurd (omega arith)
AllLabels-take P zero (more a b) h = ((λ w. (tt, w.0)), λ w. (w.1, tt))
AllLabels-take P (suc i) (more a b) h =
    let e : suc i + 1 ≡ suc (i + 1) = omega arith in
    let r = AllLabels-take P i b (omega arith) in
    rw e ((λ w. let v = r.0 w.1 in ((w.0, v.0), v.1)), λ w. (w.0.0, r.1 (w.0.1, w.1)))
AllLabels-take P i (node l c) h = absurd (omega arith)

-- the terms that are left pass exactly if the whole does
pub record IsLeft (P : Label → Type 0) (ts : List Tree) (t : Tree) (ks : List ℕ) : Type 0 where
  pub within : above ks ≤ length ts
  pub pass : AllPass P ts ks ↔ AllLabels P t

-- the terms that were left, and the first children of one
pub record IsAdded (P : Label → Type 0) (ts : List Tree) (rest : List ℕ) (r : Tree) (n i : ℕ) (ks : List ℕ) : Type 0 where
  pub below : above ks ≤ n
  pub pass : AllPass P ts ks ↔ (AllPass P ts rest × AllLabels P (row_take i r))

pub above-all : (ks : List ℕ) (n : ℕ) → All (λ q. IsLtBy nat_cmp q n) ks → above ks ≤ n
above-all [] n h = omega arith
above-all (k ∷ ks) n h =
    let first : k < n = cmp-less k n (h 0 k (omega arith)) in
    omega (arith, above-all ks n (λ j d l. h (suc j) d (omega arith)))

pub added_none : (P : Label → Type 0) (ts : List Tree) (ks : List ℕ) (r : Tree) (n : ℕ) → All (λ q. IsLtBy nat_cmp q n) ks → IsAdded P ts ks r n 0 ks
added_none P ts ks r n h = record { below = above-all ks n h; pass = ((λ w. (w, tt)), λ w. w.0) }

pub added_more : (P : Label → Type 0) (ts : List Tree) (rest : List ℕ) (r : Tree) (n i : ℕ) (ks ls : List ℕ) (k : ℕ) → IsAdded P ts rest r n i ks → k < n → i < row_length r → get_or ts k empty ≡ row_at r i → ls ≡ insert_key nat_cmp ks k → IsAdded P ts rest r n (i + 1) ls
added_more P ts rest r n i ks ls k h l j at e =
    let more = AllPass-insert P ts ks k in
    let child = AllLabels-take P i r j in
    rw e (record {
      below = above-insert ks k n h.below l;
      pass = (
        (λ w. let v = more.0 w in let u = h.pass.0 v.1 in (u.0, child.1 (u.1, rw at at v.0))),
        λ w. let v = child.0 w.1 in more.1 (rw at v.1, h.pass.1 (w.0, v.0)),
      );
    })

-- a term that passes with its children
pub left_after : (P : Label → Type 0) (ts : List Tree) (t : Tree) (l : Label) (c : Tree) (rest ks old : List ℕ) (n i : ℕ) → IsLeft P ts t old → old ≡ rest ++ n ∷ [] → get_or ts n empty ≡ node l c → P l → IsRow c → i ≡ row_length c → IsAdded P ts rest c n i ks → IsLeft P ts t ks
left_after P ts t l c rest ks old n i h e is p r long a =
    let left : IsLeft P ts t (rest ++ n ∷ []) = rw e at h in
    let all : row_take i c ≡ c = rw long (row_take-all c r) in
    let last = AllPass-last P ts rest n in
    record {
      within = omega (arith, a.below, left.within, above-last rest n);
      pass = (
        (λ w. let v = rw all at (a.pass.0 w) in left.pass.0 (last.1 (rw is (p, v.1), v.0))),
        λ w. let v = last.0 (left.pass.1 w) in let u : P l × AllLabels P c = rw is at v.0 in a.pass.1 (v.1, rw all u.1),
      );
    }

-- the whole fails where the label of a term that is left fails
pub left_fails : (P : Label → Type 0) (ts : List Tree) (t : Tree) (l : Label) (c : Tree) (rest old : List ℕ) (n : ℕ) → IsLeft P ts t old → old ≡ rest ++ n ∷ [] → get_or ts n empty ≡ node l c → AllLabels P t → P l
left_fails P ts t l c rest old n h e is w =
    let left : IsLeft P ts t (rest ++ n ∷ []) = rw e at h in
    let v = (AllPass-last P ts rest n).0 (left.pass.1 w) in
    let u : P l × AllLabels P c = rw is at v.0 in
    u.0

pub left_within : (P : Label → Type 0) (ts : List Tree) (t : Tree) (rest old : List ℕ) (n : ℕ) → IsLeft P ts t old → old ≡ rest ++ n ∷ [] → n < length ts
left_within P ts t rest old n h e =
    let left : IsLeft P ts t (rest ++ n ∷ []) = rw e at h in
    omega (arith, left.within, above-last rest n)

pub above-falls : (rest old ks : List ℕ) (n : ℕ) → old ≡ rest ++ n ∷ [] → above ks ≤ n → above ks < above old
above-falls rest old ks n e h = rw e (omega (arith, above-last rest n))
