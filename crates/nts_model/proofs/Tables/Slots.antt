-- The fields of the variables before and after a change.
use Rattle.std.proofs.Common.{◌≡◌, ⊎_elim, ℕ, zero, suc, ◌<◌, ◌≤◌, List, [], ◌∷◌, ◌++◌, length, Option, Some, None, refl, sym, ap, ◌∙◌, arith, rules}
use Rattle.std.specs.Prelude.{slice_get, slice_set, reverse}
use Rattle.std.proofs.lemmas.Grind.{common_steps}
use Rattle.nts_model.specs.declared.labels.VariableKind.{VariableKind}
use Rattle.nts_model.specs.Terms.Trees.{Tree, empty, more, node, variable_of}
use Rattle.nts_model.specs.declared.labels.Label.{Label}
use Rattle.nts_model.specs.Terms.Placeholders.{leaf_level, CanName}
use Rattle.nts_model.specs.Tables.Contents.{Content, Slot, map_slot, kind_at, with_slot, changed}
use Rattle.nts_model.specs.Tables.Resolving.{Knows, KnowsVariable, KnowsLabel}
use Rattle.nts_model.proofs.Tables.Under.{same_or_other}

pub slice_get-slice_set_same : {A : Type 0} (xs : List A) (n : ℕ) (x : A) → n < length xs → slice_get (slice_set xs n x) n ≡ Some x
slice_get-slice_set_same [] n x h = absurd (omega arith)
slice_get-slice_set_same (y ∷ xs) zero x h = refl
slice_get-slice_set_same (y ∷ xs) (suc n) x h = slice_get-slice_set_same xs n x (omega arith)

pub slice_get-slice_set_other : {A : Type 0} (xs : List A) (n m : ℕ) (x : A) → (m ≡ n → ⊥) → slice_get (slice_set xs n x) m ≡ slice_get xs m
slice_get-slice_set_other [] n m x h = refl
slice_get-slice_set_other (y ∷ xs) zero zero x h = absurd (h refl)
slice_get-slice_set_other (y ∷ xs) zero (suc m) x h = refl
slice_get-slice_set_other (y ∷ xs) (suc n) zero x h = refl
slice_get-slice_set_other (y ∷ xs) (suc n) (suc m) x h = slice_get-slice_set_other xs n m x (λ e. h (ap suc e))

pub length-slice_set : {A : Type 0} (xs : List A) (n : ℕ) (x : A) → length (slice_set xs n x) ≡ length xs
length-slice_set [] n x = refl
length-slice_set (y ∷ xs) zero x = refl
length-slice_set (y ∷ xs) (suc n) x = ap suc (length-slice_set xs n x)

pub slice_get_below : {A : Type 0} (xs : List A) (n : ℕ) (x : A) → slice_get xs n ≡ Some x → n < length xs
slice_get_below [] n x h = cc
slice_get_below (y ∷ xs) zero x h = omega arith
slice_get_below (y ∷ xs) (suc n) x h = let k = slice_get_below xs n x h in omega (arith, k)

pub slice_get-push_old : {A : Type 0} (xs : List A) (x : A) (n : ℕ) → (n ≡ length xs → ⊥) → slice_get (xs ++ x ∷ []) n ≡ slice_get xs n
slice_get-push_old [] x zero h = absurd (h refl)
slice_get-push_old [] x (suc n) h = refl
slice_get-push_old (y ∷ xs) x zero h = refl
slice_get-push_old (y ∷ xs) x (suc n) h = slice_get-push_old xs x n (λ e. h (ap suc e))

pub slice_get-push_new : {A : Type 0} (xs : List A) (x : A) → slice_get (xs ++ x ∷ []) (length xs) ≡ Some x
slice_get-push_new [] x = refl
slice_get-push_new (y ∷ xs) x = slice_get-push_new xs x

pub slice_get_length : {A : Type 0} (xs : List A) → slice_get xs (length xs) ≡ None
slice_get_length [] = refl
slice_get_length (x ∷ xs) = slice_get_length xs

pub reverse-push : (xs : List ℕ) (n : ℕ) → reverse (xs ++ n ∷ []) ≡ n ∷ reverse xs
reverse-push xs n = search (rules, common_steps)

-- a variable that the table has, and one that it has not
pub no_slot : {A : Type 0} (f : Slot → A) (c : Content) (n : ℕ) → slice_get c.slots n ≡ None → map_slot f (slice_get c.slots n) ≡ None
no_slot f c n e = rw e refl

pub some_slot : {A : Type 0} (f : Slot → A) (c : Content) (n : ℕ) (v : Slot) → slice_get c.slots n ≡ Some v → map_slot f (slice_get c.slots n) ≡ Some (f v)
some_slot f c n v e = rw e refl

-- a field of a changed variable, and of another one
pub field-changed_same : {A : Type 0} (f : Slot → A) (c : Content) (n : ℕ) (w : Slot) → n < length c.slots → map_slot f (slice_get (changed c n w).slots n) ≡ Some (f w)
field-changed_same f c n w h = ap (map_slot f) (slice_get-slice_set_same c.slots n w h)

pub field-changed_other : {A : Type 0} (f : Slot → A) (c : Content) (n m : ℕ) (w : Slot) → (m ≡ n → ⊥) → map_slot f (slice_get (changed c n w).slots m) ≡ map_slot f (slice_get c.slots m)
field-changed_other f c n m w h = ap (map_slot f) (slice_get-slice_set_other c.slots n m w h)

-- .. a field that the change leaves
pub field-changed_kept : {A : Type 0} (f : Slot → A) (c : Content) (n m : ℕ) (v w : Slot) → slice_get c.slots n ≡ Some v → f w ≡ f v → map_slot f (slice_get (changed c n w).slots m) ≡ map_slot f (slice_get c.slots m)
field-changed_kept f c n m v w h k = ⊎_elim
    (λ (e : m ≡ n). rw e (field-changed_same f c n w (slice_get_below c.slots n v h) ∙ ap Some k ∙ sym (some_slot f c n v h)))
    (λ (d : m ≡ n → ⊥). field-changed_other f c n m w d) (same_or_other m n)

-- .. of a new variable, and of an older one
pub field-with_slot_new : {A : Type 0} (f : Slot → A) (c : Content) (v : Slot) → map_slot f (slice_get (with_slot c v).slots (length c.slots)) ≡ Some (f v)
field-with_slot_new f c v = ap (map_slot f) (slice_get-push_new c.slots v)

pub field-with_slot_old : {A : Type 0} (f : Slot → A) (c : Content) (v : Slot) (m : ℕ) → (m ≡ length c.slots → ⊥) → map_slot f (slice_get (with_slot c v).slots m) ≡ map_slot f (slice_get c.slots m)
field-with_slot_old f c v m h = ap (map_slot f) (slice_get-push_old c.slots v m h)

pub field_below : {A : Type 0} (f : Slot → A) (c : Content) (n : ℕ) (x : A) → map_slot f (slice_get c.slots n) ≡ Some x → n < length c.slots
field_below f c n x h = by_case (slice_get c.slots n) refl
  where
    by_case : (o : Option Slot) → slice_get c.slots n ≡ o → n < length c.slots
    by_case None e = let z : None ≡ Some x = sym (no_slot f c n e) ∙ h in cc
    by_case (Some v) e = slice_get_below c.slots n v e

-- the variables keep their kinds, and the current universe does not fall
pub record KeepsKinds (c d : Content) : Type 0 where
  pub grows : c.universe ≤ d.universe
  pub kinds : (n : ℕ) (k : VariableKind) → kind_at c n ≡ Some k → kind_at d n ≡ Some k

pub KeepsKinds-with_slot : (c : Content) (v : Slot) → KeepsKinds c (with_slot c v)
KeepsKinds-with_slot c v = record { grows = omega arith; kinds = λ n k h. field-with_slot_old (λ x. x.kind) c v n (λ e. (let b = field_below (λ x. x.kind) c n k h in omega (arith, b, e))) ∙ h }

pub KeepsKinds-changed : (c : Content) (n : ℕ) (v w : Slot) → slice_get c.slots n ≡ Some v → w.kind ≡ v.kind → KeepsKinds c (changed c n w)
KeepsKinds-changed c n v w h e = record { grows = omega arith; kinds = λ m k q. field-changed_kept (λ x. x.kind) c n m v w h e ∙ q }

pub KeepsKinds-refl : (c : Content) → KeepsKinds c c
KeepsKinds-refl c = record { grows = omega arith; kinds = λ n k h. h }

pub KeepsKinds-trans : {c d e : Content} → KeepsKinds c d → KeepsKinds d e → KeepsKinds c e
KeepsKinds-trans a b = record { grows = (let p = a.grows in let q = b.grows in omega (arith, p, q)); kinds = λ n k h. b.kinds n k (a.kinds n k h) }

KnowsVariable-kept : (c d : Content) (o : Option (VariableKind × ℕ)) → KeepsKinds c d → KnowsVariable c o → KnowsVariable d o
KnowsVariable-kept c d None e k = tt
KnowsVariable-kept c d (Some v) e k = e.kinds v.1 v.0 k

-- a greater universe names more
pub CanName-more : (u v : ℕ) (o : Option ℕ) → u ≤ v → CanName u o → CanName v o
CanName-more u v None h k = tt
CanName-more u v (Some x) h k = omega (arith, h, k)

KnowsLabel-kept : (c d : Content) (l : Label) → KeepsKinds c d → KnowsLabel c l → KnowsLabel d l
KnowsLabel-kept c d l e k = (KnowsVariable-kept c d (variable_of l) e k.0, CanName-more c.universe d.universe (leaf_level l) e.grows k.1, k.2)

-- what was known is known
pub Knows-kept : (c d : Content) (t : Tree) → KeepsKinds c d → Knows c t → Knows d t
Knows-kept c d empty e h = tt
Knows-kept c d (more a b) e h = (Knows-kept c d a e h.0, Knows-kept c d b e h.1)
Knows-kept c d (node l t) e h = (KnowsLabel-kept c d l e h.0, Knows-kept c d t e h.1, h.2)
