-- What is opened.
use Rattle.std.proofs.Common.{◌≡◌, ◌⊎◌, inl, inr, ⊎_elim, ℕ, zero, suc, ◌+◌, ◌<◌, ◌≤◌, nat_lt, nat_eq, Bool, true, false, ◌&&◌, List, [], ◌∷◌, length, Option, Some, None, Result, Err, refl, ap, sym, subst, ◌∙◌, eqb-true, arith}
use Rattle.std.proofs.lemmas.Bool.{ltb-false}
use Rattle.nts_model.specs.declared.labels.Sort.{Sort}
use Rattle.nts_model.specs.declared.labels.BoundVarIndexKind.TheVariants as index
use Rattle.nts_model.specs.declared.labels.Label.{Label}
use Rattle.nts_model.specs.declared.labels.Label.TheVariants as label
use Rattle.nts_model.specs.Terms.Trees.{Tree, empty, more, node, binders, IsBoundBelow, IsClosedUnder}
use Rattle.nts_store.specs.declared.fault.Fault.{Fault}
use Rattle.nts_placeholder.specs.declared.maps.BoundVar.{BoundVar}
use Rattle.nts_placeholder.specs.declared.escaping.Escaping.{Escaping}
use Rattle.nts_placeholder.specs.Escaping.{same_sort, is_bound, escapes_under, escapes, is_among}
use Rattle.nts_placeholder.specs.declared.maps.Placeholder.{Placeholder}
use Rattle.nts_placeholder.specs.Opening.{opened_label, opened_by, AreMapsOf}
use Rattle.nts_placeholder.specs.Universes.{filled_universes, open_before, IsNeeded, IsReach}
use Rattle.nts_placeholder.proofs.Reaching.{both, either, reach_same}
use Rattle.nts_placeholder.proofs.Mapping.{maps_same}

pub below_true : (d c : ℕ) → d < c → nat_lt d c ≡ true
below_true d c h = by_case (nat_lt d c) refl
  where
    by_case : (b : Bool) → nat_lt d c ≡ b → b ≡ true
    by_case true e = refl
    by_case false e = absurd (omega (arith, h, ltb-false d c e))

label_closed : (U : List (Option ℕ)) (c : ℕ) (l : Label) → IsBoundBelow c l → opened_label U c l ≡ l
label_closed U c (label.Bound s (index.Bound d) n) h = rw (below_true d c h) refl
label_closed U c (label.Bound s index.Canonical n) h = refl
label_closed U c (label.Leaf x) h = refl
label_closed U c (label.Ty x) h = refl
label_closed U c (label.Const x) h = refl
label_closed U c (label.Clause x) h = refl
label_closed U c (label.Predicate x) h = refl
label_closed U c (label.List x) h = refl

-- a tree from which no such variable escapes stays
pub opened_closed : (U : List (Option ℕ)) (c : ℕ) (t : Tree) → IsClosedUnder c t → opened_by U c t ≡ t
opened_closed U c empty h = refl
opened_closed U c (more a b) h = cc (opened_closed U c a h.0, opened_closed U c b h.1)
opened_closed U c (node l t) h = cc (label_closed U c l h.0, opened_closed U (c + binders l) t h.1)

-- what escapes is of a level below the bound

bound_low : (s : Sort) (b : BoundVar) (n c : ℕ) (l : Label) → is_bound s b c l ≡ true → IsBoundBelow (n + c) l → b.level < n
bound_low s b n c (label.Bound r (index.Bound d) k) e h =
    let w = both (same_sort r s) (nat_eq d (b.level + c) && nat_eq k b.var) e in
    let q : d ≡ b.level + c = eqb-true d (b.level + c) (both (nat_eq d (b.level + c)) (nat_eq k b.var) w.1).0 in
    omega (arith, q, h)
bound_low s b n c (label.Bound r index.Canonical k) e h = cc
bound_low s b n c (label.Leaf x) e h = cc
bound_low s b n c (label.Ty x) e h = cc
bound_low s b n c (label.Const x) e h = cc
bound_low s b n c (label.Clause x) e h = cc
bound_low s b n c (label.Predicate x) e h = cc
bound_low s b n c (label.List x) e h = cc

escaping_low : (s : Sort) (b : BoundVar) (n c : ℕ) (t : Tree) → escapes_under s b c t ≡ true → IsClosedUnder (n + c) t → b.level < n
escaping_low s b n c empty e h = cc
escaping_low s b n c (more x y) e h =
    ⊎_elim (λ (k : escapes_under s b c x ≡ true). escaping_low s b n c x k h.0) (λ (k : escapes_under s b c y ≡ true). escaping_low s b n c y k h.1) (either (escapes_under s b c x) (escapes_under s b c y) e)
escaping_low s b n c (node l x) e h =
    let same : n + c + binders l ≡ n + (c + binders l) = omega arith in
    ⊎_elim (λ (k : is_bound s b c l ≡ true). bound_low s b n c l k h.0) (λ (k : escapes_under s b (c + binders l) x ≡ true). escaping_low s b n (c + binders l) x k (rw same at h.1)) (either (is_bound s b c l) (escapes_under s b (c + binders l) x) e)

pub escapes_low : (s : Sort) (b : BoundVar) (n : ℕ) (t : Tree) → escapes t s b ≡ true → IsClosedUnder n t → b.level < n
escapes_low s b n t e h =
    let same : n ≡ n + 0 = omega arith in
    let k : IsClosedUnder (n + 0) t = rw (← same) h in
    escaping_low s b n 0 t e k

pub length-filled : (u n : ℕ) (U : List (Option ℕ)) → length (filled_universes u n U) ≡ length U
length-filled u zero U = refl
length-filled u (suc n) [] = refl
length-filled u (suc n) (None ∷ U) = ap (λ k. suc k) (length-filled (u + 1) n U)
length-filled u (suc n) (Some v ∷ U) = ap (λ k. suc k) (length-filled u n U)

-- the list of what escapes from a tree

pub found_of : (xs ys : List Escaping) (t u : Tree) → ((s : Sort) (b : BoundVar) → is_among xs s b ≡ escapes u s b) → u ≡ t → ys ≡ xs → (s : Sort) (b : BoundVar) → is_among ys s b ≡ escapes t s b
found_of xs ys t u h e q s b = ap (λ zs. is_among zs s b) q ∙ h s b ∙ ap (λ z. escapes z s b) e

pub low_of : (xs ys : List Escaping) (U V : List (Option ℕ)) (t u : Tree) → ((s : Sort) (b : BoundVar) → is_among xs s b ≡ escapes u s b) → u ≡ t → ys ≡ xs → IsClosedUnder (length U) t → length V ≡ length U
    → (s : Sort) (b : BoundVar) → is_among ys s b ≡ true → b.level < length V
low_of xs ys U V t u h e q k l s b w =
    let low = escapes_low s b (length U) t (sym (found_of xs ys t u h e q s b) ∙ w) k in
    omega (arith, low, l)

pub reach_for : (xs ys : List Escaping) (U V : List (Option ℕ)) (t u : Tree) (n : ℕ) → ((s : Sort) (b : BoundVar) → is_among xs s b ≡ escapes u s b) → u ≡ t → ys ≡ xs → V ≡ U → IsReach V (is_among ys) n → IsReach U (escapes t) n
reach_for xs ys U V t u n h e q r w =
    reach_same (found_of xs ys t u h e q) (subst (λ (W : List (Option ℕ)). IsReach W (is_among ys) n) r w)

below_last : (U : List (Option ℕ)) (f : Sort → BoundVar → Bool) (n m : ℕ) → (n ≡ 0) ⊎ ((e : ℕ) × (n ≡ e + 1) × IsNeeded U f e) → IsReach U f m → n ≤ m
below_last U f n m (inl q) k = omega (arith, q)
below_last U f n m (inr (e, is, needed)) k = let less = k.all e needed in omega (arith, is, less)

-- there is one place after the last open entry that is named
pub reach_once : (U : List (Option ℕ)) (f : Sort → BoundVar → Bool) (n m : ℕ) → IsReach U f n → IsReach U f m → n ≡ m
reach_once U f n m h k = omega (arith, below_last U f n m h.last k, below_last U f m n k.last h)

pub maps_for : (xs ys : List Escaping) (U V : List (Option ℕ)) (t u : Tree) (m : Sort → Placeholder → Option BoundVar) → ((s : Sort) (b : BoundVar) → is_among xs s b ≡ escapes u s b) → u ≡ t → ys ≡ xs → V ≡ U → AreMapsOf V (is_among ys) m → AreMapsOf U (escapes t) m
maps_for xs ys U V t u m h e q r w =
    maps_same (found_of xs ys t u h e q) (subst (λ (W : List (Option ℕ)). AreMapsOf W (is_among ys) m) r w)

pub filled_for : (U V W : List (Option ℕ)) (u v n : ℕ) → W ≡ filled_universes v n V → v ≡ u → V ≡ U → W ≡ filled_universes u n U
filled_for U V W u v n h e q = h ∙ ap (λ k. filled_universes k n V) e ∙ ap (filled_universes u n) q

pub open_for : (U V : List (Option ℕ)) (n k : ℕ) → k ≡ open_before n V → V ≡ U → k ≡ open_before n U
open_for U V n k h q = h ∙ ap (open_before n) q

pub same_fault : {A : Type 0} {x y : Fault} → ◌≡◌ {A = Result A Fault} (Err x) (Err y) → x ≡ y
same_fault e = cc
