-- The walk over what a binder binds, level by level.
use Rattle.std.proofs.Common.{◌≡◌, ◌↔◌, ℕ, zero, suc, ◌+◌, ◌-◌, ◌<◌, ◌≤◌, nat_lt, Bool, true, false, List, [], ◌∷◌, ◌++◌, length, get_or, All, refl, arith}
use Rattle.std.proofs.lemmas.Bool.{ltb-false}
use Rattle.std.specs.Ordering.{nat_cmp, match_ordering}
use Rattle.std.specs.declared.cmp.Ordering.{Ordering}
use Rattle.std.specs.declared.cmp.Ordering.TheVariants.{Less, Equal, Greater}
use Rattle.std.specs.BTreeSet.{insert_key}
use Rattle.std.specs.BTreeMap.Range.{IsLtBy}
use Rattle.nts_model.specs.declared.labels.TyHead.TheVariants as ty
use Rattle.nts_model.specs.declared.labels.ListHead.TheVariants as list
use Rattle.nts_model.specs.declared.labels.Label.{Label}
use Rattle.nts_model.specs.declared.labels.Label.TheVariants as label
use Rattle.nts_model.specs.Terms.Trees.{Tree, empty, more, node, binders, row_length, row_at, row_take, IsRow, IsClosedUnder}
use Rattle.nts_model.specs.Terms.Scoping.{IsListed, AllListed}
use Rattle.nts_model.proofs.Terms.Scoping.{closed_listed}
use Rattle.nts_store.specs.Levels.{above, AllListedAt}
use Rattle.nts_store.proofs.Growing.{row_take-all}
use Rattle.nts_store.proofs.Pending.{cmp-equal, above-insert, above-last, above-all}

inserted_cases : (ss : Tree) (d : ℕ) (ts : List Tree) (k x : ℕ) (xs : List ℕ) (rest : List ℕ) → (AllListedAt ss d ts rest ↔ (AllListed ss d (get_or ts k empty) × AllListedAt ss d ts xs)) → (o : Ordering) → nat_cmp k x ≡ o → AllListedAt ss d ts (match_ordering o (k ∷ x ∷ xs) (x ∷ xs) (x ∷ rest)) ↔ (AllListed ss d (get_or ts k empty) × AllListedAt ss d ts (x ∷ xs))
inserted_cases ss d ts k x xs rest h Less e = ((λ w. (w.0, w.1)), λ w. (w.0, w.1))
inserted_cases ss d ts k x xs rest h Equal e =
    let same = cmp-equal k x e in
    ((λ w. (rw same w.0, w)), λ w. w.1)
inserted_cases ss d ts k x xs rest h Greater e =
    ((λ w. let v = h.0 w.1 in (v.0, (w.0, v.1))), λ w. (w.1.0, h.1 (w.0, w.1.1)))

-- one more term
AllListedAt-insert : (ss : Tree) (d : ℕ) (ts : List Tree) (ks : List ℕ) (k : ℕ) → AllListedAt ss d ts (insert_key nat_cmp ks k) ↔ (AllListed ss d (get_or ts k empty) × AllListedAt ss d ts ks)
AllListedAt-insert ss d ts [] k = ((λ w. w), λ w. w)
AllListedAt-insert ss d ts (x ∷ xs) k =
    inserted_cases ss d ts k x xs (insert_key nat_cmp xs k) (AllListedAt-insert ss d ts xs k) (nat_cmp k x) refl

-- the last term
AllListedAt-last : (ss : Tree) (d : ℕ) (ts : List Tree) (ks : List ℕ) (k : ℕ) → AllListedAt ss d ts (ks ++ k ∷ []) ↔ (AllListed ss d (get_or ts k empty) × AllListedAt ss d ts ks)
AllListedAt-last ss d ts [] k = ((λ w. w), λ w. w)
AllListedAt-last ss d ts (x ∷ xs) k =
    let r = AllListedAt-last ss d ts xs k in
    ((λ w. let v = r.0 w.1 in (v.0, (w.0, v.1))), λ w. (w.1.0, r.1 (w.0, w.1.1)))

-- one more child
AllListed-take : (ss : Tree) (d : ℕ) (i : ℕ) (r : Tree) → i < row_length r → AllListed ss d (row_take (i + 1) r) ↔ (AllListed ss d (row_take i r) × AllListed ss d (row_at r i))
AllListed-take ss d i empty h = absurd (omega arith)
AllListed-take ss d zero (more a b) h = ((λ w. (tt, w.0)), λ w. (w.1, tt))
AllListed-take ss d (suc i) (more a b) h =
    let e : suc i + 1 ≡ suc (i + 1) = omega arith in
    let r = AllListed-take ss d i b (omega arith) in
    rw e ((λ w. let v = r.0 w.1 in ((w.0, v.0), v.1)), λ w. (w.0.0, r.1 (w.0.1, w.1)))
AllListed-take ss d i (node l c) h = absurd (omega arith)

-- the terms that are left at this level and at the next are listed exactly if those of the start are
pub record AreLeft (ss : Tree) (d : ℕ) (ts : List Tree) (start here deeper : List ℕ) : Type 0 where
  pub within : above start ≤ length ts
  pub at_level : above here ≤ above start
  pub below : above deeper ≤ above start - 1
  pub listed : (AllListedAt ss d ts here × AllListedAt ss (d + 1) ts deeper) ↔ AllListedAt ss d ts start

pub left_within : (ss : Tree) (d : ℕ) (ts : List Tree) (start rest old deeper : List ℕ) (n : ℕ) → AreLeft ss d ts start old deeper → old ≡ rest ++ n ∷ [] → n < length ts
left_within ss d ts start rest old deeper n h e =
    let left : AreLeft ss d ts start (rest ++ n ∷ []) deeper = rw e at h in
    omega (arith, left.within, left.at_level, above-last rest n)

pub left_below : (ss : Tree) (d : ℕ) (ts : List Tree) (start rest old deeper : List ℕ) (n : ℕ) → AreLeft ss d ts start old deeper → old ≡ rest ++ n ∷ [] → n < above start
left_below ss d ts start rest old deeper n h e =
    let left : AreLeft ss d ts start (rest ++ n ∷ []) deeper = rw e at h in
    omega (arith, left.at_level, above-last rest n)

-- a term from which no such variable escapes
pub left_skipped : (ss : Tree) (d : ℕ) (ts : List Tree) (start rest old deeper : List ℕ) (n : ℕ) → AreLeft ss d ts start old deeper → old ≡ rest ++ n ∷ [] → IsClosedUnder d (get_or ts n empty) → AreLeft ss d ts start rest deeper
left_skipped ss d ts start rest old deeper n h e k =
    let left : AreLeft ss d ts start (rest ++ n ∷ []) deeper = rw e at h in
    let last = AllListedAt-last ss d ts rest n in
    record {
      within = left.within;
      at_level = omega (arith, left.at_level, above-last rest n);
      below = left.below;
      listed = (
        (λ w. left.listed.0 (last.1 (closed_listed ss d (get_or ts n empty) k, w.0), w.1)),
        λ w. let v = left.listed.1 w in ((last.0 v.0).1, v.1),
      );
    }

-- a label that is not listed
pub left_fails : (ss : Tree) (d : ℕ) (ts : List Tree) (l : Label) (c : Tree) (start rest old deeper : List ℕ) (n : ℕ) → AreLeft ss d ts start old deeper → old ≡ rest ++ n ∷ [] → get_or ts n empty ≡ node l c → AllListedAt ss d ts start → IsListed ss d l
left_fails ss d ts l c start rest old deeper n h e is w =
    let left : AreLeft ss d ts start (rest ++ n ∷ []) deeper = rw e at h in
    let v = (AllListedAt-last ss d ts rest n).0 (left.listed.1 w).0 in
    let u : IsListed ss d l × AllListed ss (d + binders l) c = rw is at v.0 in
    u.0

-- how many binders a node is, where it is known whether it binds
abbrev pub binders_of : Bool → ℕ
binders_of true = 1
binders_of false = 0

pub binders_same : (l : Label) → binders_of (nat_lt 0 (binders l)) ≡ binders l
binders_same (label.Ty ty.FnPtr) = refl
binders_same (label.List list.Binder) = refl
binders_same l = refl

pub binders_one : (n : ℕ) → 0 < n → binders_of (nat_lt 0 n) ≡ 1
binders_one n h = by_case (nat_lt 0 n) refl
  where
    by_case : (b : Bool) → nat_lt 0 n ≡ b → binders_of b ≡ 1
    by_case true e = refl
    by_case false e = absurd (omega (arith, h, ltb-false 0 n e))

pub binders_none : (n : ℕ) → n ≤ 0 → binders_of (nat_lt 0 n) ≡ 0
binders_none zero h = refl
binders_none (suc n) h = absurd (omega (arith, h))

-- the terms that were left, and the first children of one, which are k binders deeper
pub record AreAdded (ss : Tree) (d k : ℕ) (ts : List Tree) (start rest old : List ℕ) (r : Tree) (n i : ℕ) (here deeper : List ℕ) : Type 0 where
  pub at_level : above here ≤ n
  pub below : above deeper ≤ above start - 1
  pub listed : (AllListedAt ss d ts here × AllListedAt ss (d + 1) ts deeper) ↔ ((AllListedAt ss d ts rest × AllListedAt ss (d + 1) ts old) × AllListed ss (d + k) (row_take i r))

pub added_none : (ss : Tree) (d k : ℕ) (ts : List Tree) (start here deeper : List ℕ) (r : Tree) (n : ℕ) → All (λ q. IsLtBy nat_cmp q n) here → above deeper ≤ above start - 1 → AreAdded ss d k ts start here deeper r n 0 here deeper
added_none ss d k ts start here deeper r n h b = record { at_level = above-all here n h; below = b; listed = ((λ w. (w, tt)), λ w. w.0) }

-- one child more, at this level or at the next
pub added_here : (ss : Tree) (d k : ℕ) (ts : List Tree) (start rest old : List ℕ) (r : Tree) (n i : ℕ) (here more_here deeper : List ℕ) (x : ℕ) → AreAdded ss d k ts start rest old r n i here deeper
    → k ≡ 0 → x < n → i < row_length r → get_or ts x empty ≡ row_at r i → more_here ≡ insert_key nat_cmp here x → AreAdded ss d k ts start rest old r n (i + 1) more_here deeper
added_here ss d k ts start rest old r n i here more_here deeper x h z l j at e =
    let more = AllListedAt-insert ss d ts here x in
    let child = AllListed-take ss (d + k) i r j in
    let same : d + k ≡ d = omega (arith, z) in
    rw e (record {
      at_level = above-insert here x n h.at_level l;
      below = h.below;
      listed = (
        (λ w. let v = more.0 w.0 in let u = h.listed.0 (v.1, w.1) in (u.0, child.1 (u.1, rw same (rw at at v.0)))),
        λ w. let v = child.0 w.1 in let y : AllListed ss d (row_at r i) = rw same at v.1 in let u = h.listed.1 (w.0, v.0) in (more.1 (rw at y, u.0), u.1),
      );
    })

pub added_deeper : (ss : Tree) (d k : ℕ) (ts : List Tree) (start rest old : List ℕ) (r : Tree) (n i : ℕ) (here deeper more_deeper : List ℕ) (x : ℕ) → AreAdded ss d k ts start rest old r n i here deeper
    → k ≡ 1 → n < above start → x < n → i < row_length r → get_or ts x empty ≡ row_at r i → more_deeper ≡ insert_key nat_cmp deeper x → AreAdded ss d k ts start rest old r n (i + 1) here more_deeper
added_deeper ss d k ts start rest old r n i here deeper more_deeper x h z b l j at e =
    let more = AllListedAt-insert ss (d + 1) ts deeper x in
    let child = AllListed-take ss (d + k) i r j in
    rw e (record {
      at_level = h.at_level;
      below = above-insert deeper x (above start - 1) h.below (omega (arith, b, l));
      listed = (
        (λ w. let v = more.0 w.1 in let u = h.listed.0 (w.0, v.1) in (u.0, child.1 (u.1, rw z (rw at at v.0)))),
        λ w. let v = child.0 w.1 in let y : AllListed ss (d + 1) (row_at r i) = rw z at v.1 in let u = h.listed.1 (w.0, v.0) in (u.0, more.1 (rw at y, u.1)),
      );
    })

-- a term that is listed with its children
pub left_after : (ss : Tree) (d : ℕ) (ts : List Tree) (l : Label) (c : Tree) (start rest old before here deeper : List ℕ) (n i : ℕ) → AreLeft ss d ts start old before → old ≡ rest ++ n ∷ [] → get_or ts n empty ≡ node l c → IsListed ss d l → IsRow c → i ≡ row_length c
    → AreAdded ss d (binders l) ts start rest before c n i here deeper → AreLeft ss d ts start here deeper
left_after ss d ts l c start rest old before here deeper n i h e is p r long a =
    let left : AreLeft ss d ts start (rest ++ n ∷ []) before = rw e at h in
    let all : row_take i c ≡ c = rw long (row_take-all c r) in
    let last = AllListedAt-last ss d ts rest n in
    record {
      within = left.within;
      at_level = omega (arith, a.at_level, left.at_level, above-last rest n);
      below = a.below;
      listed = (
        (λ w. let v = rw all at (a.listed.0 w) in left.listed.0 (last.1 (rw is (p, v.1), v.0.0), v.0.1)),
        λ w. let x = left.listed.1 w in let v = last.0 x.0 in let u : IsListed ss d l × AllListed ss (d + binders l) c = rw is at v.0 in a.listed.1 ((v.1, x.1), rw all u.1),
      );
    }

-- the levels from one on
pub record IsAtLevel (ss t : Tree) (ts : List Tree) (d : ℕ) (here : List ℕ) : Type 0 where
  pub within : d + above here ≤ length ts
  pub listed : AllListedAt ss d ts here ↔ AllListed ss 0 t

pub none_above : (ks : List ℕ) → above ks ≤ 0 → ks ≡ []
none_above [] h = refl
none_above (k ∷ ks) h = absurd (omega arith)

pub level_empty : (ss t : Tree) (ts : List Tree) (d : ℕ) (here : List ℕ) → IsAtLevel ss t ts d here → here ≡ [] → AllListed ss 0 t
level_empty ss t ts d here h e = let a : IsAtLevel ss t ts d [] = rw e at h in a.listed.0 tt

pub levels_end : (ss t : Tree) (ts : List Tree) (d : ℕ) (here : List ℕ) → IsAtLevel ss t ts d here → length ts ≤ d → AllListed ss 0 t
levels_end ss t ts d here h l = level_empty ss t ts d here h (none_above here (omega (arith, h.within, l)))

-- a place past the end of a row
pub row_past : (r : Tree) (n : ℕ) → row_length r ≤ n → row_at r n ≡ empty
row_past empty n h = refl
row_past (more a b) zero h = absurd (omega (arith, h))
row_past (more a b) (suc n) h = row_past b n (omega (arith, h))
row_past (node l c) n h = refl
