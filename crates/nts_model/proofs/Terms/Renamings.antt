-- Two lists of distinct leaves of the same sorts: a renaming maps the one to the other.
use Rattle.std.proofs.Common.{◌≡◌, false, cond, List, [], ◌∷◌, map, ◌⊎◌, inl, inr, refl, sym, ap, subst, ◌∙◌}
use Rattle.nts_model.specs.declared.labels.Leaf.{Leaf}
use Rattle.nts_model.specs.Terms.Substitutions.{leaf_sort, Renaming}
use Rattle.nts_model.specs.Lists.{Among}
use Rattle.nts_model.specs.Canonical.Numbered.{same, AreDistinct}
use Rattle.nts_model.proofs.Terms.Listed.{tell, same-yes, same-no, map-equal, among-map, IsInjective}

-- two leaves change places
abbrev pub swapped : Leaf → Leaf → Leaf → Leaf
swapped x y l = cond (same l x) y (cond (same l y) x l)

pub swapped-left : (x y : Leaf) → swapped x y x ≡ y
swapped-left x y = rw (same-yes x x refl) refl

swapped-right : (x y : Leaf) → swapped x y y ≡ x
swapped-right x y = elim (tell y x) [ inl p ↦ rw (same-yes y x p) p | inr e ↦ rw (e, same-yes y y refl) refl ]

pub swapped-other : (x y l : Leaf) → same l x ≡ false → same l y ≡ false → swapped x y l ≡ l
swapped-other x y l e f = rw (e, f) refl

swapped-swapped : (x y l : Leaf) → swapped x y (swapped x y l) ≡ l
swapped-swapped x y l = go (tell l x) (tell l y)
  where
    go : (l ≡ x) ⊎ (same l x ≡ false) → (l ≡ y) ⊎ (same l y ≡ false) → swapped x y (swapped x y l) ≡ l
    go (inl p) q = ap (λ z. swapped x y (swapped x y z)) p ∙ ap (swapped x y) (swapped-left x y) ∙ swapped-right x y ∙ sym p
    go (inr e) (inl q) = ap (λ z. swapped x y (swapped x y z)) q ∙ ap (swapped x y) (swapped-right x y) ∙ swapped-left x y ∙ sym q
    go (inr e) (inr f) = ap (swapped x y) (swapped-other x y l e f) ∙ swapped-other x y l e f

sorts-swapped : (x y l : Leaf) → leaf_sort x ≡ leaf_sort y → leaf_sort (swapped x y l) ≡ leaf_sort l
sorts-swapped x y l h = go (tell l x) (tell l y)
  where
    go : (l ≡ x) ⊎ (same l x ≡ false) → (l ≡ y) ⊎ (same l y ≡ false) → leaf_sort (swapped x y l) ≡ leaf_sort l
    go (inl p) q = ap (λ z. leaf_sort (swapped x y z)) p ∙ ap leaf_sort (swapped-left x y) ∙ sym h ∙ ap leaf_sort (sym p)
    go (inr e) (inl q) = ap (λ z. leaf_sort (swapped x y z)) q ∙ ap leaf_sort (swapped-right x y) ∙ h ∙ ap leaf_sort (sym q)
    go (inr e) (inr f) = ap leaf_sort (swapped-other x y l e f)

-- swap after swap: each leaf of the one list goes to the leaf at its place in the other
abbrev pub forward : List Leaf → List Leaf → Leaf → Leaf
forward [] ys l = l
forward (x ∷ xs) [] l = l
forward (x ∷ xs) (y ∷ ys) l = swapped (forward xs ys x) y (forward xs ys l)

abbrev pub backward : List Leaf → List Leaf → Leaf → Leaf
backward [] ys l = l
backward (x ∷ xs) [] l = l
backward (x ∷ xs) (y ∷ ys) l = backward xs ys (swapped (forward xs ys x) y l)

pub backward-forward : (xs ys : List Leaf) (l : Leaf) → backward xs ys (forward xs ys l) ≡ l
backward-forward [] ys l = refl
backward-forward (x ∷ xs) [] l = refl
backward-forward (x ∷ xs) (y ∷ ys) l = ap (backward xs ys) (swapped-swapped (forward xs ys x) y (forward xs ys l)) ∙ backward-forward xs ys l

pub forward-backward : (xs ys : List Leaf) (l : Leaf) → forward xs ys (backward xs ys l) ≡ l
forward-backward [] ys l = refl
forward-backward (x ∷ xs) [] l = refl
forward-backward (x ∷ xs) (y ∷ ys) l = ap (swapped (forward xs ys x) y) (forward-backward xs ys (swapped (forward xs ys x) y l)) ∙ swapped-swapped (forward xs ys x) y l

pub sorts-forward : (xs ys : List Leaf) → map leaf_sort xs ≡ map leaf_sort ys → (l : Leaf) → leaf_sort (forward xs ys l) ≡ leaf_sort l
sorts-forward [] ys e l = refl
sorts-forward (x ∷ xs) [] e l = refl
sorts-forward (x ∷ xs) (y ∷ ys) e l =
    let t : map leaf_sort xs ≡ map leaf_sort ys = cc in
    let h : leaf_sort x ≡ leaf_sort y = cc in
    sorts-swapped (forward xs ys x) y (forward xs ys l) (sorts-forward xs ys t x ∙ h) ∙ sorts-forward xs ys t l

abbrev pub extension : (xs ys : List Leaf) → map leaf_sort xs ≡ map leaf_sort ys → Renaming
extension xs ys e = record { to = forward xs ys; from = backward xs ys; back = backward-forward xs ys; forth = forward-backward xs ys; keeps_sorts = sorts-forward xs ys e }

pub renaming-injective : (ρ : Renaming) → IsInjective ρ.to
renaming-injective ρ = record { tells = λ a b e. sym (ρ.back a) ∙ ap ρ.from e ∙ ρ.back b }

pub forward-injective : (xs ys : List Leaf) (a b : Leaf) → forward xs ys a ≡ forward xs ys b → a ≡ b
forward-injective xs ys a b e = sym (backward-forward xs ys a) ∙ ap (backward xs ys) e ∙ backward-forward xs ys b

pub map-forward : (xs ys : List Leaf) → AreDistinct xs → AreDistinct ys → map leaf_sort xs ≡ map leaf_sort ys → map (forward xs ys) xs ≡ ys
map-forward [] [] d c e = refl
map-forward [] (y ∷ ys) d c e = cc
map-forward (x ∷ xs) [] d c e = cc
map-forward (x ∷ xs) (y ∷ ys) d c e =
    let t : map leaf_sort xs ≡ map leaf_sort ys = cc in
    let h = map-forward xs ys d.1 c.1 t in
    let other : (l : Leaf) → Among xs l → swapped (forward xs ys x) y (forward xs ys l) ≡ forward xs ys l =
    λ l i. swapped-other (forward xs ys x) y (forward xs ys l)
    (same-no _ _ (λ p. d.0 (subst (λ z. Among xs z) (forward-injective xs ys l x p) i)))
    (same-no _ _ (λ p. c.0 (subst (λ z. Among ys z) p (subst (λ z. Among z (forward xs ys l)) h (among-map (forward xs ys) xs l i))))) in
    rw (swapped-left (forward xs ys x) y, map-equal _ (forward xs ys) xs other, h) refl
