-- A list of distinct leaves, and the numbers that it gives.
use Rattle.std.proofs.Common.{◌≡◌, ℕ, suc, ◌+◌, Bool, true, false, List, [], ◌∷◌, map, get_or, ◌⊎◌, inl, inr, refl, sym, ap, ◌∙◌, arith, rules, IsTrue}
use Rattle.std.specs.Prelude.{◌↔◌}
use Rattle.std.specs.List.{position_or_len}
use Rattle.nts_model.specs.declared.labels.Leaf.{Leaf}
use Rattle.nts_model.specs.Terms.Trees.{Tree, empty}
use Rattle.nts_model.specs.Terms.Substitutions.{leaf_tree}
use Rattle.nts_model.specs.Lists.{Among}
use Rattle.nts_model.specs.Canonical.Numbered.{same, number, added, AreDistinct}

pub either : (b : Bool) → (b ≡ true) ⊎ (b ≡ false)
either true = inl refl
either false = inr refl

same-iff : (a b : Leaf) → IsTrue (same a b) ↔ (a ≡ b)
same-iff a b = search rules

pub same-true : (a b : Leaf) → same a b ≡ true → a ≡ b
same-true a b = (same-iff a b).0

pub same-yes : (a b : Leaf) → a ≡ b → same a b ≡ true
same-yes a b = (same-iff a b).1

pub same-no : (a b : Leaf) → (a ≡ b → ⊥) → same a b ≡ false
same-no a b n = elim (either (same a b)) [ inl e ↦ absurd (n (same-true a b e)) | inr e ↦ e ]

-- they are one or not
pub tell : (a b : Leaf) → (a ≡ b) ⊎ (same a b ≡ false)
tell a b = elim (either (same a b)) [ inl e ↦ inl (same-true a b e) | inr e ↦ inr e ]

pub differ : (a b : Leaf) → same a b ≡ false → a ≡ b → ⊥
differ a b e p = let t = same-yes a b p in cc

-- what a list has once a leaf is added
pub added-has : (s : List Leaf) (l : Leaf) → Among (added s l) l
added-has [] l = inl refl
added-has (x ∷ xs) l = elim (either (same l x)) [ inl e ↦ rw e (inl (same-true l x e)) | inr e ↦ rw e (inr (added-has xs l)) ]

pub added-keeps : (s : List Leaf) (l m : Leaf) → Among s m → Among (added s l) m
added-keeps [] l m h = elim h [ ]
added-keeps (x ∷ xs) l m h = elim (either (same l x)) [ inl e ↦ rw e h | inr e ↦ rw e (elim h [ inl p ↦ inl p | inr q ↦ inr (added-keeps xs l m q) ]) ]

pub among-added : (s : List Leaf) (l m : Leaf) → Among (added s l) m → (m ≡ l) ⊎ Among s m
among-added [] l m (inl p) = inl p
among-added [] l m (inr q) = elim q [ ]
among-added (x ∷ xs) l m h = elim (either (same l x)) [ inl e ↦ inr (rw e at h) | inr e ↦ go (among-added xs l m) (rw e at h) ]
  where
    go : (Among (added xs l) m → (m ≡ l) ⊎ Among xs m) → (m ≡ x) ⊎ Among (added xs l) m → (m ≡ l) ⊎ ((m ≡ x) ⊎ Among xs m)
    go f (inl p) = inr (inl p)
    go f (inr q) = elim (f q) [ inl p ↦ inl p | inr r ↦ inr (inr r) ]

pub distinct-added : (s : List Leaf) (l : Leaf) → AreDistinct s → AreDistinct (added s l)
distinct-added [] l d = ((λ h. h), tt)
distinct-added (x ∷ xs) l d = elim (either (same l x)) [ inl e ↦ rw e d | inr e ↦ rw e ((λ h. elim (among-added xs l x h) [ inl p ↦ differ l x e (sym p) | inr q ↦ d.0 q ]), distinct-added xs l d.1) ]

-- the number of a leaf stays when others are added
pub number-kept : (s : List Leaf) (l m : Leaf) → Among s m → number (added s l) m ≡ number s m
number-kept [] l m h = elim h [ ]
number-kept (x ∷ xs) l m h = elim (either (same l x)) [ inl e ↦ rw e refl | inr e ↦ rw e (elim (tell m x) [ inl p ↦ rw (same-yes m x p) refl | inr f ↦ rw f (ap (λ n. 1 + n) (number-kept xs l m (elim h [ inl p ↦ absurd (differ m x f p) | inr q ↦ q ]))) ]) ]

pub number-added : (s : List Leaf) (l : Leaf) → number (added s l) l ≡ number s l
number-added [] l = rw (same-yes l l refl) refl
number-added (x ∷ xs) l = elim (either (same l x)) [ inl e ↦ rw e (rw e refl) | inr e ↦ rw e (rw e (ap (λ n. 1 + n) (number-added xs l))) ]

get_or-next : (x : Tree) (xs : List Tree) (n : ℕ) → get_or (x ∷ xs) (1 + n) empty ≡ get_or xs n empty
get_or-next x xs n = let e : 1 + n ≡ suc n = omega arith in rw e refl

-- the leaf of that number
pub original : (s : List Leaf) (l : Leaf) → Among s l → get_or (map leaf_tree s) (number s l) empty ≡ leaf_tree l
original [] l h = elim h [ ]
original (x ∷ xs) l h = elim (tell l x) [ inl p ↦ rw (same-yes l x p) (ap leaf_tree (sym p)) | inr e ↦ rw e (get_or-next (leaf_tree x) (map leaf_tree xs) (number xs l) ∙ original xs l (elim h [ inl p ↦ absurd (differ l x e p) | inr q ↦ q ])) ]

-- maps over lists
pub map-equal : {X : Type 0} (f g : Leaf → X) (s : List Leaf) → ((l : Leaf) → Among s l → f l ≡ g l) → map f s ≡ map g s
map-equal f g [] h = refl
map-equal f g (x ∷ xs) h = rw (h x (inl refl), map-equal f g xs (λ l i. h l (inr i))) refl

pub map-tells : {X : Type 0} (f g : Leaf → X) (s : List Leaf) → map f s ≡ map g s → (l : Leaf) → Among s l → f l ≡ g l
map-tells f g [] e l i = elim i [ ]
map-tells f g (x ∷ xs) e l (inl p) = let h : f x ≡ g x = cc in rw p h
map-tells f g (x ∷ xs) e l (inr i) = map-tells f g xs (cc) l i

pub map-map : {X Y Z : Type 0} (g : Y → Z) (f : X → Y) (s : List X) → map g (map f s) ≡ map (λ x. g (f x)) s
map-map g f [] = refl
map-map g f (x ∷ xs) = ap (λ r. g (f x) ∷ r) (map-map g f xs)

pub among-map : (f : Leaf → Leaf) (s : List Leaf) (l : Leaf) → Among s l → Among (map f s) (f l)
among-map f [] l i = elim i [ ]
among-map f (x ∷ xs) l (inl p) = inl (ap f p)
among-map f (x ∷ xs) l (inr i) = inr (among-map f xs l i)

pub place-map : (f : Leaf → Leaf) (p : Leaf → Bool) (s : List Leaf) → position_or_len p (map f s) ≡ position_or_len (λ x. p (f x)) s
place-map f p [] = refl
place-map f p (x ∷ xs) = elim (either (p (f x))) [ inl e ↦ rw e refl | inr e ↦ rw e (ap (λ n. 1 + n) (place-map f p xs)) ]

pub place-equal : (p q : Leaf → Bool) (s : List Leaf) → ((l : Leaf) → Among s l → p l ≡ q l) → position_or_len p s ≡ position_or_len q s
place-equal p q [] h = refl
place-equal p q (x ∷ xs) h = rw (h x (inl refl)) (elim (either (q x)) [ inl e ↦ rw e refl | inr e ↦ rw e (ap (λ n. 1 + n) (place-equal p q xs (λ l i. h l (inr i)))) ])

-- a map of leaves that keeps their sorts, no two of them to one
pub record IsInjective (f : Leaf → Leaf) : Type 0 where
  pub tells : (a b : Leaf) → f a ≡ f b → a ≡ b

pub same-map : (f : Leaf → Leaf) → IsInjective f → (a b : Leaf) → same (f a) (f b) ≡ same a b
same-map f j a b = elim (tell a b) [ inl p ↦ same-yes (f a) (f b) (ap f p) ∙ sym (same-yes a b p) | inr e ↦ same-no (f a) (f b) (λ q. differ a b e (j.tells a b q)) ∙ sym e ]

pub added-map : (f : Leaf → Leaf) → IsInjective f → (s : List Leaf) (l : Leaf) → added (map f s) (f l) ≡ map f (added s l)
added-map f j [] l = refl
added-map f j (x ∷ xs) l = rw (same-map f j l x) (elim (either (same l x)) [ inl e ↦ rw e refl | inr e ↦ rw e (ap (λ r. f x ∷ r) (added-map f j xs l)) ])

pub number-map : (f : Leaf → Leaf) → IsInjective f → (s : List Leaf) (l : Leaf) → number (map f s) (f l) ≡ number s l
number-map f j s l = place-map f (same (f l)) s ∙ place-equal (λ x. same (f l) (f x)) (same l) s (λ x i. same-map f j l x)
