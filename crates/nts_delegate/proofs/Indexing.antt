-- An index takes in what stands at the end of its list.
use Rattle.std.proofs.Common.{◌≡◌, ℕ, suc, ◌+◌, Bool, true, false, cond, List, [], ◌∷◌, ◌++◌, length, Option, Some, None, refl, ap, sym, ◌∙◌, arith}
use Rattle.nts_model.specs.declared.labels.TyHead.{TyHead}
use Rattle.nts_delegate.specs.declared.head_index.HeadIndex.{HeadIndex}
use Rattle.nts_delegate.specs.Places.{same_head, is_built_by, is_blanket, places_from, places_at, IsIndexOf}

-- what stands at the end passes the test, or not
places_more : (p : Option TyHead → Bool) (n : ℕ) (hs : List (Option TyHead)) (h : Option TyHead) → places_from p n (hs ++ h ∷ []) ≡ cond (p h) (places_from p n hs ++ (n + length hs) ∷ []) (places_from p n hs)
places_more p n [] h = by_case (p h)
  where
    by_case : (b : Bool) → cond b (n ∷ []) [] ≡ cond b ((n + 0) ∷ []) []
    by_case true = (let e : n ≡ n + 0 = omega arith in ap (λ z. z ∷ []) e)
    by_case false = refl
places_more p n (x ∷ hs) h = ap (λ z. cond (p x) (n ∷ z) z) (places_more p (suc n) hs h ∙ ap (λ z. cond (p h) (places_from p (suc n) hs ++ z ∷ []) (places_from p (suc n) hs)) (omega arith)) ∙ by_case (p x) (p h)
  where
    by_case : (b d : Bool) → cond b (n ∷ cond d (places_from p (suc n) hs ++ (n + suc (length hs)) ∷ []) (places_from p (suc n) hs)) (cond d (places_from p (suc n) hs ++ (n + suc (length hs)) ∷ []) (places_from p (suc n) hs))
        ≡ cond d (cond b (n ∷ places_from p (suc n) hs) (places_from p (suc n) hs) ++ (n + suc (length hs)) ∷ []) (cond b (n ∷ places_from p (suc n) hs) (places_from p (suc n) hs))
    by_case true true = refl
    by_case true false = refl
    by_case false true = refl
    by_case false false = refl

places_end : (p : Option TyHead → Bool) (hs : List (Option TyHead)) (h : Option TyHead) (place : ℕ) → place ≡ length hs → cond (p h) (places_from p 0 hs ++ place ∷ []) (places_from p 0 hs) ≡ places_from p 0 (hs ++ h ∷ [])
places_end p hs h place e =
    let same : place ≡ 0 + length hs = omega (arith, e) in
    ap (λ n. cond (p h) (places_from p 0 hs ++ n ∷ []) (places_from p 0 hs)) same ∙ sym (places_more p 0 hs h)

pub noted_built : (x y : HeadIndex) (hs : List (Option TyHead)) (h : TyHead) (place : ℕ) → IsIndexOf x hs → place ≡ length hs → y.blanket ≡ x.blanket
    → ((k : TyHead) → places_at y.by_head k ≡ cond (same_head h k) (places_at x.by_head k ++ place ∷ []) (places_at x.by_head k)) → IsIndexOf y (hs ++ Some h ∷ [])
noted_built x y hs h place i e o u =
    record {
      built = λ k. u k ∙ ap (λ z. cond (same_head h k) (z ++ place ∷ []) z) (i.built k) ∙ places_end (is_built_by k) hs (Some h) place e;
      blanket = ap (λ v. v.items) o ∙ i.blanket ∙ places_end is_blanket hs (Some h) place e;
    }

pub noted_blanket : (x y : HeadIndex) (hs : List (Option TyHead)) (place : ℕ) → IsIndexOf x hs → place ≡ length hs → y.by_head ≡ x.by_head → y.blanket.items ≡ x.blanket.items ++ place ∷ [] → IsIndexOf y (hs ++ None ∷ [])
noted_blanket x y hs place i e m o =
    record {
      built = λ k. ap (λ z. places_at z k) m ∙ i.built k ∙ places_end (is_built_by k) hs None place e;
      blanket = o ∙ ap (λ z. z ++ place ∷ []) i.blanket ∙ places_end is_blanket hs None place e;
    }
