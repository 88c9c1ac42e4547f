-- Places of what is built by a head, and of what is not built, as one list.
use Rattle.std.proofs.Common.{◌≡◌, ℕ, zero, suc, ◌≤◌, ◌<◌, ◌||◌, Bool, true, false, cond, List, [], ◌∷◌, ◌++◌, ◌+◌, length, drop, get_or, append_assoc, append-nil, Option, Some, None, refl, ap, sym, ◌∙◌, subst, arith}
use Rattle.nts_model.specs.declared.labels.TyHead.{TyHead}
use Rattle.nts_delegate.specs.Places.{same_head, is_built_by, is_blanket, may_be_built_by, places_from, AreMerged}

-- the first place is no earlier than where the count begins
places_above : (p : Option TyHead → Bool) (n : ℕ) (hs : List (Option TyHead)) (x : ℕ) (xs : List ℕ) → x ∷ xs ≡ places_from p n hs → n ≤ x
places_above p n [] x xs e = cc
places_above p n (h ∷ hs) x xs e = by_case (p h) e (places_above p (suc n) hs x xs)
  where
    by_case : (b : Bool) → x ∷ xs ≡ cond b (n ∷ places_from p (suc n) hs) (places_from p (suc n) hs) → (x ∷ xs ≡ places_from p (suc n) hs → suc n ≤ x) → n ≤ x
    by_case true q above = let same : x ≡ n = cc q in omega (arith, same)
    by_case false q above = let later = above q in omega (arith, later)

record GoesOnBuilt (k : TyHead) (n : ℕ) (hs : List (Option TyHead)) (x : ℕ) (xs : List ℕ) : Type 0 where
  first : ℕ
  heads : List (Option TyHead)
  built : xs ≡ places_from (is_built_by k) first heads
  blanket : places_from is_blanket n hs ≡ places_from is_blanket first heads
  both : places_from (may_be_built_by k) n hs ≡ x ∷ places_from (may_be_built_by k) first heads

record GoesOnBlanket (k : TyHead) (n : ℕ) (hs : List (Option TyHead)) (y : ℕ) (ys : List ℕ) : Type 0 where
  first : ℕ
  heads : List (Option TyHead)
  built : places_from (is_built_by k) n hs ≡ places_from (is_built_by k) first heads
  blanket : ys ≡ places_from is_blanket first heads
  both : places_from (may_be_built_by k) n hs ≡ y ∷ places_from (may_be_built_by k) first heads

built_first : (k : TyHead) (n : ℕ) (hs : List (Option TyHead)) (x : ℕ) (xs : List ℕ) → x ∷ xs ≡ places_from (is_built_by k) n hs
    → ((y : ℕ) (ys : List ℕ) → places_from is_blanket n hs ≡ y ∷ ys → x < y) → GoesOnBuilt k n hs x xs
built_first k n [] x xs e f = cc
built_first k n (None ∷ hs) x xs e f =
    let later = places_above (is_built_by k) (suc n) hs x xs e in
    let before = f n (places_from is_blanket (suc n) hs) refl in
    absurd (omega (arith, later, before))
built_first k n (Some h ∷ hs) x xs e f = by_case (same_head h k) refl e (λ q. built_first k (suc n) hs x xs q f)
  where
    by_case : (b : Bool) → same_head h k ≡ b → x ∷ xs ≡ cond b (n ∷ places_from (is_built_by k) (suc n) hs) (places_from (is_built_by k) (suc n) hs)
        → (x ∷ xs ≡ places_from (is_built_by k) (suc n) hs → GoesOnBuilt k (suc n) hs x xs) → GoesOnBuilt k n (Some h ∷ hs) x xs
    by_case true s q later =
        let here : x ≡ n = cc q in
        let rest : xs ≡ places_from (is_built_by k) (suc n) hs = cc q in
        let both : places_from (may_be_built_by k) n (Some h ∷ hs) ≡ n ∷ places_from (may_be_built_by k) (suc n) hs = ap (λ b. cond (b || false) (n ∷ places_from (may_be_built_by k) (suc n) hs) (places_from (may_be_built_by k) (suc n) hs)) s in
        record { first = suc n; heads = hs; built = rest; blanket = refl; both = both ∙ ap (λ z. z ∷ places_from (may_be_built_by k) (suc n) hs) (sym here) }
    by_case false s q later =
        let r = later q in
        let both : places_from (may_be_built_by k) n (Some h ∷ hs) ≡ places_from (may_be_built_by k) (suc n) hs = ap (λ b. cond (b || false) (n ∷ places_from (may_be_built_by k) (suc n) hs) (places_from (may_be_built_by k) (suc n) hs)) s in
        record { first = r.first; heads = r.heads; built = r.built; blanket = r.blanket; both = both ∙ r.both }

blanket_first : (k : TyHead) (n : ℕ) (hs : List (Option TyHead)) (y : ℕ) (ys : List ℕ) → y ∷ ys ≡ places_from is_blanket n hs
    → ((x : ℕ) (xs : List ℕ) → places_from (is_built_by k) n hs ≡ x ∷ xs → y ≤ x) → GoesOnBlanket k n hs y ys
blanket_first k n [] y ys e f = cc
blanket_first k n (None ∷ hs) y ys e f =
    let here : y ≡ n = cc e in
    let rest : ys ≡ places_from is_blanket (suc n) hs = cc e in
    record { first = suc n; heads = hs; built = refl; blanket = rest; both = ap (λ z. z ∷ places_from (may_be_built_by k) (suc n) hs) (sym here) }
blanket_first k n (Some h ∷ hs) y ys e f = by_case (same_head h k) refl f (λ g. blanket_first k (suc n) hs y ys e g)
  where
    by_case : (b : Bool) → same_head h k ≡ b → ((x : ℕ) (xs : List ℕ) → cond b (n ∷ places_from (is_built_by k) (suc n) hs) (places_from (is_built_by k) (suc n) hs) ≡ x ∷ xs → y ≤ x)
        → (((x : ℕ) (xs : List ℕ) → places_from (is_built_by k) (suc n) hs ≡ x ∷ xs → y ≤ x) → GoesOnBlanket k (suc n) hs y ys) → GoesOnBlanket k n (Some h ∷ hs) y ys
    by_case true s g more =
        let later = places_above is_blanket (suc n) hs y ys e in
        let before = g n (places_from (is_built_by k) (suc n) hs) refl in
        absurd (omega (arith, later, before))
    by_case false s g more =
        let r = more g in
        let one : places_from (is_built_by k) n (Some h ∷ hs) ≡ places_from (is_built_by k) (suc n) hs = ap (λ b. cond b (n ∷ places_from (is_built_by k) (suc n) hs) (places_from (is_built_by k) (suc n) hs)) s in
        let both : places_from (may_be_built_by k) n (Some h ∷ hs) ≡ places_from (may_be_built_by k) (suc n) hs = ap (λ b. cond (b || false) (n ∷ places_from (may_be_built_by k) (suc n) hs) (places_from (may_be_built_by k) (suc n) hs)) s in
        record { first = r.first; heads = r.heads; built = one ∙ r.built; blanket = r.blanket; both = both ∙ r.both }

-- no place is left
none_first : (k : TyHead) (n : ℕ) (hs : List (Option TyHead)) → [] ≡ places_from (is_built_by k) n hs → [] ≡ places_from is_blanket n hs → places_from (may_be_built_by k) n hs ≡ []
none_first k n [] e f = refl
none_first k n (None ∷ hs) e f = cc f
none_first k n (Some h ∷ hs) e f = by_case (same_head h k) refl e (λ q. none_first k (suc n) hs q f)
  where
    by_case : (b : Bool) → same_head h k ≡ b → [] ≡ cond b (n ∷ places_from (is_built_by k) (suc n) hs) (places_from (is_built_by k) (suc n) hs)
        → ([] ≡ places_from (is_built_by k) (suc n) hs → places_from (may_be_built_by k) (suc n) hs ≡ []) → places_from (may_be_built_by k) n (Some h ∷ hs) ≡ []
    by_case true s q more = cc q
    by_case false s q more =
        let both : places_from (may_be_built_by k) n (Some h ∷ hs) ≡ places_from (may_be_built_by k) (suc n) hs = ap (λ b. cond (b || false) (n ∷ places_from (may_be_built_by k) (suc n) hs) (places_from (may_be_built_by k) (suc n) hs)) s in
        both ∙ more q

-- how far two lists were put together: those of the places that were taken, and those that are left
pub record IsMergedTo (xs ys taken zs : List ℕ) : Type 0 where
  pub left : List ℕ
  pub all : zs ≡ taken ++ left
  pub merged : AreMerged xs ys left

merged_built : (x : ℕ) (xs ys zs : List ℕ) → AreMerged (x ∷ xs) ys zs → ((y : ℕ) (us : List ℕ) → ys ≡ y ∷ us → x < y) → (rest : List ℕ) × (zs ≡ x ∷ rest) × AreMerged xs ys rest
merged_built x xs ys zs m f =
    let r = built_first m.head m.first m.heads x xs m.built (λ y us e. f y us (m.blanket ∙ e)) in
    (places_from (may_be_built_by m.head) r.first r.heads, m.both ∙ r.both, record { head = m.head; first = r.first; heads = r.heads; built = r.built; blanket = m.blanket ∙ r.blanket; both = refl })

merged_blanket : (y : ℕ) (xs ys zs : List ℕ) → AreMerged xs (y ∷ ys) zs → ((x : ℕ) (us : List ℕ) → xs ≡ x ∷ us → y ≤ x) → (rest : List ℕ) × (zs ≡ y ∷ rest) × AreMerged xs ys rest
merged_blanket y xs ys zs m f =
    let r = blanket_first m.head m.first m.heads y ys m.blanket (λ x us e. f x us (m.built ∙ e)) in
    (places_from (may_be_built_by m.head) r.first r.heads, m.both ∙ r.both, record { head = m.head; first = r.first; heads = r.heads; built = m.built ∙ r.built; blanket = r.blanket; both = refl })

-- what is left of a list
pub left_at : {A : Type 0} (xs : List A) (i : ℕ) (d : A) → i < length xs → drop i xs ≡ get_or xs i d ∷ drop (suc i) xs
left_at [] i d h = absurd (omega (arith, h))
left_at (x ∷ xs) zero d h = refl
left_at (x ∷ xs) (suc i) d h = left_at xs i d (omega (arith, h))

first_left : {A : Type 0} (xs : List A) (i : ℕ) (d x : A) (us : List A) → drop i xs ≡ x ∷ us → (i < length xs) × (get_or xs i d ≡ x)
first_left [] zero d x us e = cc e
first_left [] (suc i) d x us e = cc e
first_left (y ∷ xs) zero d x us e = let same : y ≡ x = cc e in (omega arith, same)
first_left (y ∷ xs) (suc i) d x us e = let r = first_left xs i d x us e in let l = r.0 in (omega (arith, l), r.1)

pub none_at : {A : Type 0} (xs : List A) (i : ℕ) → length xs ≤ i → drop i xs ≡ []
none_at [] zero h = refl
none_at [] (suc i) h = refl
none_at (x ∷ xs) zero h = absurd (omega (arith, h))
none_at (x ∷ xs) (suc i) h = none_at xs i (omega (arith, h))

-- one place more is taken, of the first list or of the second
pub takes_built : (xs ys taken now zs : List ℕ) (i j d x : ℕ) → IsMergedTo (drop i xs) (drop j ys) taken zs → i < length xs → (j < length ys → get_or xs i d < get_or ys j d) → x ≡ get_or xs i d → now ≡ taken ++ x ∷ []
    → IsMergedTo (drop (i + 1) xs) (drop j ys) now zs
takes_built xs ys taken now zs i j d x m h f is e =
    let here = subst (λ l. AreMerged l (drop j ys) m.left) (left_at xs i d h) m.merged in
    let r = merged_built (get_or xs i d) (drop (suc i) xs) (drop j ys) m.left here (λ y us q. let z = first_left ys j d y us q in subst (λ w. get_or xs i d < w) z.1 (f z.0)) in
    let one : suc i ≡ i + 1 = omega arith in
    record {
      left = r.0;
      all = m.all ∙ ap (λ l. taken ++ l) (r.1 ∙ ap (λ w. w ∷ r.0) (sym is)) ∙ sym (append_assoc taken (x ∷ []) r.0) ∙ ap (λ l. l ++ r.0) (sym e);
      merged = subst (λ n. AreMerged (drop n xs) (drop j ys) r.0) one r.2;
    }

pub takes_blanket : (xs ys taken now zs : List ℕ) (i j d y : ℕ) → IsMergedTo (drop i xs) (drop j ys) taken zs → j < length ys → (i < length xs → get_or ys j d ≤ get_or xs i d) → y ≡ get_or ys j d → now ≡ taken ++ y ∷ []
    → IsMergedTo (drop i xs) (drop (j + 1) ys) now zs
takes_blanket xs ys taken now zs i j d y m h f is e =
    let here = subst (λ l. AreMerged (drop i xs) l m.left) (left_at ys j d h) m.merged in
    let r = merged_blanket (get_or ys j d) (drop i xs) (drop (suc j) ys) m.left here (λ x us q. let z = first_left xs i d x us q in subst (λ w. get_or ys j d ≤ w) z.1 (f z.0)) in
    let one : suc j ≡ j + 1 = omega arith in
    record {
      left = r.0;
      all = m.all ∙ ap (λ l. taken ++ l) (r.1 ∙ ap (λ w. w ∷ r.0) (sym is)) ∙ sym (append_assoc taken (y ∷ []) r.0) ∙ ap (λ l. l ++ r.0) (sym e);
      merged = subst (λ n. AreMerged (drop i xs) (drop n ys) r.0) one r.2;
    }

-- both lists are taken whole
pub all_taken : (xs ys taken zs : List ℕ) (i j : ℕ) → IsMergedTo (drop i xs) (drop j ys) taken zs → length xs ≤ i → length ys ≤ j → taken ≡ zs
all_taken xs ys taken zs i j m h k =
    let here = subst (λ l. AreMerged l (drop j ys) m.left) (none_at xs i h) m.merged in
    let none = subst (λ l. AreMerged [] l m.left) (none_at ys j k) here in
    let end : m.left ≡ [] = none.both ∙ none_first none.head none.first none.heads none.built none.blanket in
    sym (m.all ∙ ap (λ l. taken ++ l) end ∙ append-nil taken)

-- where nothing is not built, or nothing is built by the head, the places of both kinds are those of one
pub no_blanket : (k : TyHead) (n : ℕ) (hs : List (Option TyHead)) → places_from is_blanket n hs ≡ [] → places_from (may_be_built_by k) n hs ≡ places_from (is_built_by k) n hs
no_blanket k n [] e = refl
no_blanket k n (None ∷ hs) e = cc
no_blanket k n (Some h ∷ hs) e = by_case (same_head h k) (no_blanket k (suc n) hs e)
  where
    by_case : (b : Bool) → places_from (may_be_built_by k) (suc n) hs ≡ places_from (is_built_by k) (suc n) hs
        → cond (b || false) (n ∷ places_from (may_be_built_by k) (suc n) hs) (places_from (may_be_built_by k) (suc n) hs) ≡ cond b (n ∷ places_from (is_built_by k) (suc n) hs) (places_from (is_built_by k) (suc n) hs)
    by_case true q = ap (λ z. n ∷ z) q
    by_case false q = q

pub no_built : (k : TyHead) (n : ℕ) (hs : List (Option TyHead)) → places_from (is_built_by k) n hs ≡ [] → places_from (may_be_built_by k) n hs ≡ places_from is_blanket n hs
no_built k n [] e = refl
no_built k n (None ∷ hs) e = ap (λ z. n ∷ z) (no_built k (suc n) hs e)
no_built k n (Some h ∷ hs) e = by_case (same_head h k) e (no_built k (suc n) hs)
  where
    by_case : (b : Bool) → cond b (n ∷ places_from (is_built_by k) (suc n) hs) (places_from (is_built_by k) (suc n) hs) ≡ []
        → (places_from (is_built_by k) (suc n) hs ≡ [] → places_from (may_be_built_by k) (suc n) hs ≡ places_from is_blanket (suc n) hs)
        → cond (b || false) (n ∷ places_from (may_be_built_by k) (suc n) hs) (places_from (may_be_built_by k) (suc n) hs) ≡ places_from is_blanket (suc n) hs
    by_case true q later = cc
    by_case false q later = later q
