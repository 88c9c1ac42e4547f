-- Joining is the least upper bound, and never turns a rerun into none.
use Rattle.std.proofs.Common.{◌≡◌, ◌⊎◌, inl, inr, ⊎_elim, ℕ, List, [], ◌∷◌, refl, sym, ap, subst, Bool, true, false, IsTrue, rules}
use Rattle.std.specs.Prelude.{◌==◌, ◌||◌, ◌&&◌, ◌++◌, ◌↔◌, if◌then◌else◌}
use Rattle.nts_model.specs.Lists.{Among}
use Rattle.nts_model.specs.Derivations.Rules.{Mode, coherence, post_analysis, erased, analysis, borrowck, post_borrowck}
use Rattle.nts_model.specs.Derivations.Handlers.{Access, never, always, any_infer, in_storage, in_storage_or_infer}
use Rattle.nts_theory.specs.Erased.Accessing.{IsWithin, IsBelow, IsJoin, is_in, united, joined_accesses, Decision, stands, runs_again, is_handed_on, Parents, no_parents, is_stored, again_if, decides, IsFewer, is_stands, stands_for, is_erased, are_numbers, is_mode, suits}
use Rattle.nts_model.proofs.Terms.Listed.{either}

equal-iff : (m n : ℕ) → IsTrue (m == n) ↔ (m ≡ n)
equal-iff m n = search rules

-- membership
or_left : (a b : Bool) → a ≡ true → (a || b) ≡ true
or_left a b e = rw e refl

or_right : (a b : Bool) → b ≡ true → (a || b) ≡ true
or_right true b e = refl
or_right false b e = e

or_split : (a b : Bool) → (a || b) ≡ true → (a ≡ true) ⊎ (b ≡ true)
or_split true b e = inl refl
or_split false b e = inr e

pub in-among : (xs : List ℕ) (n : ℕ) → is_in xs n ≡ true → Among xs n
in-among [] n e = cc e
in-among (x ∷ xs) n e = ⊎_elim (λ q. inl (sym ((equal-iff x n).0 q))) (λ q. inr (in-among xs n q)) (or_split (x == n) (is_in xs n) e)

pub among-in : (xs : List ℕ) (n : ℕ) → Among xs n → is_in xs n ≡ true
among-in [] n h = absurd h
among-in (x ∷ xs) n (inl e) = or_left (x == n) (is_in xs n) ((equal-iff x n).1 (sym e))
among-in (x ∷ xs) n (inr h) = or_right (x == n) (is_in xs n) (among-in xs n h)

among_behind : (xs : List ℕ) (n m : ℕ) → Among xs m → Among (xs ++ n ∷ []) m
among_behind [] n m h = absurd h
among_behind (x ∷ xs) n m (inl e) = inl e
among_behind (x ∷ xs) n m (inr h) = inr (among_behind xs n m h)

among_last : (xs : List ℕ) (n : ℕ) → Among (xs ++ n ∷ []) n
among_last [] n = inl refl
among_last (x ∷ xs) n = inr (among_last xs n)

behind_split : (xs : List ℕ) (n m : ℕ) → Among (xs ++ n ∷ []) m → Among xs m ⊎ (m ≡ n)
behind_split [] n m (inl e) = inr e
behind_split [] n m (inr h) = absurd h
behind_split (x ∷ xs) n m (inl e) = inl (inl e)
behind_split (x ∷ xs) n m (inr h) = ⊎_elim (λ q. inl (inr q)) (λ q. inr q) (behind_split xs n m h)

abbrev with_one : List ℕ → ℕ → List ℕ
with_one a n = if is_in a n then a else a ++ n ∷ []

with_keeps : (a : List ℕ) (n : ℕ) → IsWithin a (with_one a n)
with_keeps a n i h = elim (either (is_in a n)) [ inl e ↦ rw e h | inr e ↦ rw e (among_behind a n i h) ]

with_has : (a : List ℕ) (n : ℕ) → Among (with_one a n) n
with_has a n = elim (either (is_in a n)) [ inl e ↦ rw e (in-among a n e) | inr e ↦ rw e (among_last a n) ]

with_split : (a : List ℕ) (n i : ℕ) → Among (with_one a n) i → Among a i ⊎ (i ≡ n)
with_split a n i h = elim (either (is_in a n)) [ inl e ↦ inl (rw e at h) | inr e ↦ behind_split a n i (rw e at h) ]

pub united_left : (a b : List ℕ) → IsWithin a (united a b)
united_left a [] i h = h
united_left a (n ∷ ns) i h = united_left (with_one a n) ns i (with_keeps a n i h)

pub united_right : (a b : List ℕ) → IsWithin b (united a b)
united_right a [] i h = absurd h
united_right a (n ∷ ns) i (inl e) = united_left (with_one a n) ns i (subst (Among (with_one a n)) (sym e) (with_has a n))
united_right a (n ∷ ns) i (inr h) = united_right (with_one a n) ns i h

pub united_least : (a b c : List ℕ) → IsWithin a c → IsWithin b c → IsWithin (united a b) c
united_least a [] c f g = f
united_least a (n ∷ ns) c f g =
    united_least (with_one a n) ns c (λ i h. ⊎_elim (λ q. f i q) (λ e. g i (inl e)) (with_split a n i h)) (λ i h. g i (inr h))

-- the order
pub below_itself : (a : Access) → IsBelow a a
below_itself never = tt
below_itself always = tt
below_itself any_infer = tt
below_itself (in_storage i) = λ n h. h
below_itself (in_storage_or_infer i) = λ n h. h

pub below_always : (a : Access) → IsBelow a always
below_always never = tt
below_always always = tt
below_always any_infer = tt
below_always (in_storage i) = tt
below_always (in_storage_or_infer i) = tt

pub below_trans : (a b c : Access) → IsBelow a b → IsBelow b c → IsBelow a c
below_trans never b c f g = tt
below_trans always always always f g = tt
below_trans always always never f g = g
below_trans always always any_infer f g = g
below_trans always always (in_storage k) f g = g
below_trans always always (in_storage_or_infer k) f g = g
below_trans always never c f g = absurd f
below_trans always any_infer c f g = absurd f
below_trans always (in_storage j) c f g = absurd f
below_trans always (in_storage_or_infer j) c f g = absurd f
below_trans any_infer never c f g = absurd f
below_trans any_infer always c f g = (always_is c g)
  where
    always_is : (c : Access) → IsBelow always c → IsBelow any_infer c
    always_is always h = tt
    always_is never h = absurd h
    always_is any_infer h = absurd h
    always_is (in_storage k) h = absurd h
    always_is (in_storage_or_infer k) h = absurd h
below_trans any_infer any_infer c f g = g
below_trans any_infer (in_storage j) c f g = absurd f
below_trans any_infer (in_storage_or_infer j) always f g = tt
below_trans any_infer (in_storage_or_infer j) never f g = absurd g
below_trans any_infer (in_storage_or_infer j) any_infer f g = absurd g
below_trans any_infer (in_storage_or_infer j) (in_storage k) f g = absurd g
below_trans any_infer (in_storage_or_infer j) (in_storage_or_infer k) f g = tt
below_trans (in_storage i) never c f g = absurd f
below_trans (in_storage i) any_infer c f g = absurd f
below_trans (in_storage i) always always f g = tt
below_trans (in_storage i) always never f g = absurd g
below_trans (in_storage i) always any_infer f g = absurd g
below_trans (in_storage i) always (in_storage k) f g = absurd g
below_trans (in_storage i) always (in_storage_or_infer k) f g = absurd g
below_trans (in_storage i) (in_storage j) always f g = tt
below_trans (in_storage i) (in_storage j) never f g = absurd g
below_trans (in_storage i) (in_storage j) any_infer f g = absurd g
below_trans (in_storage i) (in_storage j) (in_storage k) f g = λ n h. g n (f n h)
below_trans (in_storage i) (in_storage j) (in_storage_or_infer k) f g = λ n h. g n (f n h)
below_trans (in_storage i) (in_storage_or_infer j) always f g = tt
below_trans (in_storage i) (in_storage_or_infer j) never f g = absurd g
below_trans (in_storage i) (in_storage_or_infer j) any_infer f g = absurd g
below_trans (in_storage i) (in_storage_or_infer j) (in_storage k) f g = absurd g
below_trans (in_storage i) (in_storage_or_infer j) (in_storage_or_infer k) f g = λ n h. g n (f n h)
below_trans (in_storage_or_infer i) never c f g = absurd f
below_trans (in_storage_or_infer i) any_infer c f g = absurd f
below_trans (in_storage_or_infer i) (in_storage j) c f g = absurd f
below_trans (in_storage_or_infer i) always always f g = tt
below_trans (in_storage_or_infer i) always never f g = absurd g
below_trans (in_storage_or_infer i) always any_infer f g = absurd g
below_trans (in_storage_or_infer i) always (in_storage k) f g = absurd g
below_trans (in_storage_or_infer i) always (in_storage_or_infer k) f g = absurd g
below_trans (in_storage_or_infer i) (in_storage_or_infer j) always f g = tt
below_trans (in_storage_or_infer i) (in_storage_or_infer j) never f g = absurd g
below_trans (in_storage_or_infer i) (in_storage_or_infer j) any_infer f g = absurd g
below_trans (in_storage_or_infer i) (in_storage_or_infer j) (in_storage k) f g = absurd g
below_trans (in_storage_or_infer i) (in_storage_or_infer j) (in_storage_or_infer k) f g = λ n h. g n (f n h)

-- joining is the least upper bound
pub is_joined : (a b : Access) → IsJoin a b (joined_accesses a b)
is_joined never b = record { left = tt; right = below_itself b; least = λ d f g. g }
is_joined always b = record { left = tt; right = below_always b; least = λ d f g. f }
is_joined any_infer never = record { left = tt; right = tt; least = λ d f g. f }
is_joined any_infer always = record { left = tt; right = tt; least = λ d f g. g }
is_joined any_infer any_infer = record { left = tt; right = tt; least = λ d f g. f }
is_joined any_infer (in_storage j) = record { left = tt; right = λ n h. h; least = least }
  where
    least : (d : Access) → IsBelow any_infer d → IsBelow (in_storage j) d → IsBelow (in_storage_or_infer j) d
    least never f g = absurd f
    least always f g = tt
    least any_infer f g = absurd g
    least (in_storage k) f g = absurd f
    least (in_storage_or_infer k) f g = g
is_joined any_infer (in_storage_or_infer j) = record { left = tt; right = λ n h. h; least = λ d f g. g }
is_joined (in_storage i) never = record { left = λ n h. h; right = tt; least = λ d f g. f }
is_joined (in_storage i) always = record { left = tt; right = tt; least = λ d f g. g }
is_joined (in_storage i) any_infer = record { left = λ n h. h; right = tt; least = least }
  where
    least : (d : Access) → IsBelow (in_storage i) d → IsBelow any_infer d → IsBelow (in_storage_or_infer i) d
    least never f g = absurd g
    least always f g = tt
    least any_infer f g = absurd f
    least (in_storage k) f g = absurd g
    least (in_storage_or_infer k) f g = f
is_joined (in_storage i) (in_storage j) = record { left = united_left i j; right = united_right i j; least = least }
  where
    least : (d : Access) → IsBelow (in_storage i) d → IsBelow (in_storage j) d → IsBelow (in_storage (united i j)) d
    least never f g = absurd f
    least always f g = tt
    least any_infer f g = absurd f
    least (in_storage k) f g = united_least i j k f g
    least (in_storage_or_infer k) f g = united_least i j k f g
is_joined (in_storage i) (in_storage_or_infer j) = record { left = united_left i j; right = united_right i j; least = least }
  where
    least : (d : Access) → IsBelow (in_storage i) d → IsBelow (in_storage_or_infer j) d → IsBelow (in_storage_or_infer (united i j)) d
    least never f g = absurd f
    least always f g = tt
    least any_infer f g = absurd f
    least (in_storage k) f g = absurd g
    least (in_storage_or_infer k) f g = united_least i j k f g
is_joined (in_storage_or_infer i) never = record { left = λ n h. h; right = tt; least = λ d f g. f }
is_joined (in_storage_or_infer i) always = record { left = tt; right = tt; least = λ d f g. g }
is_joined (in_storage_or_infer i) any_infer = record { left = λ n h. h; right = tt; least = λ d f g. f }
is_joined (in_storage_or_infer i) (in_storage j) = record { left = united_left i j; right = united_right i j; least = least }
  where
    least : (d : Access) → IsBelow (in_storage_or_infer i) d → IsBelow (in_storage j) d → IsBelow (in_storage_or_infer (united i j)) d
    least never f g = absurd f
    least always f g = tt
    least any_infer f g = absurd f
    least (in_storage k) f g = absurd f
    least (in_storage_or_infer k) f g = united_least i j k f g
is_joined (in_storage_or_infer i) (in_storage_or_infer j) = record { left = united_left i j; right = united_right i j; least = least }
  where
    least : (d : Access) → IsBelow (in_storage_or_infer i) d → IsBelow (in_storage_or_infer j) d → IsBelow (in_storage_or_infer (united i j)) d
    least never f g = absurd f
    least always f g = tt
    least any_infer f g = absurd f
    least (in_storage k) f g = absurd f
    least (in_storage_or_infer k) f g = united_least i j k f g

-- what is stored
stored_among : (xs : List ℕ) (p : Parents) (ns : List ℕ) (n : ℕ) → Among ns n → (is_in xs n || is_in p.keys n) ≡ true → is_stored xs p ns ≡ true
stored_among xs p [] n h e = absurd h
stored_among xs p (m ∷ ns) n (inl q) e = or_left (is_in xs m || is_in p.keys m) (is_stored xs p ns) (subst (λ z. (is_in xs z || is_in p.keys z) ≡ true) q e)
stored_among xs p (m ∷ ns) n (inr h) e = or_right (is_in xs m || is_in p.keys m) (is_stored xs p ns) (stored_among xs p ns n h e)

stored_more : (xs : List ℕ) (p q : Parents) (ns ms : List ℕ) → IsFewer p q → IsWithin ns ms → is_stored xs p ns ≡ true → is_stored xs q ms ≡ true
stored_more xs p q [] ms few f e = cc e
stored_more xs p q (n ∷ ns) ms few f e = ⊎_elim
    (λ z. stored_among xs q ms n (f n (inl refl)) (⊎_elim
    (λ y. or_left (is_in xs n) (is_in q.keys n) y)
    (λ y. or_right (is_in xs n) (is_in q.keys n) (among-in q.keys n (few.keys n (in-among p.keys n y))))
    (or_split (is_in xs n) (is_in p.keys n) z)))
    (λ z. stored_more xs p q ns ms few (λ i h. f i (inr h)) z)
    (or_split (is_in xs n || is_in p.keys n) (is_stored xs p ns) e)

again-if : (b : Bool) → again_if b ≡ runs_again → b ≡ true
again-if true e = refl
again-if false e = cc e

if-again : (b : Bool) → b ≡ true → again_if b ≡ runs_again
if-again true e = refl
if-again false e = cc e

not_again : (b : Bool) → again_if b ≡ is_handed_on → ⊥
not_again true e = cc e
not_again false e = cc e

again_more : (a b : Bool) → (a ≡ true → b ≡ true) → again_if a ≡ runs_again → again_if b ≡ runs_again
again_more a b f e = if-again b (f (again-if a e))

or_more : (a b c d : Bool) → (a ≡ true → c ≡ true) → (b ≡ true → d ≡ true) → (a || b) ≡ true → (c || d) ≡ true
or_more a b c d f g e = ⊎_elim (λ z. or_left c d (f z)) (λ z. or_right c d (g z)) (or_split a b e)

-- a condition above one that decides for a rerun decides for it too; so it does where more hidden types are known
pub again_above : (mode : Mode) (p q : Parents) (a b : Access) → IsFewer p q → IsBelow a b → decides mode p a ≡ runs_again → decides mode q b ≡ runs_again
again_above coherence p q a never few f e = absurd (below_never a f e)
  where
    below_never : (a : Access) → IsBelow a never → decides coherence p a ≡ runs_again → ⊥
    below_never never f e = cc e
    below_never always f e = f
    below_never any_infer f e = f
    below_never (in_storage i) f e = f
    below_never (in_storage_or_infer i) f e = f
again_above coherence p q a always few f e = refl
again_above coherence p q a any_infer few f e = refl
again_above coherence p q a (in_storage j) few f e = refl
again_above coherence p q a (in_storage_or_infer j) few f e = refl
again_above erased p q never b few f e = cc e
again_above erased p q always b few f e = cc e
again_above erased p q any_infer b few f e = cc e
again_above erased p q (in_storage i) b few f e = cc e
again_above erased p q (in_storage_or_infer i) b few f e = cc e
again_above post_analysis p q never b few f e = cc e
again_above post_analysis p q any_infer b few f e = cc e
again_above post_analysis p q always always few f e = refl
again_above post_analysis p q always never few f e = absurd f
again_above post_analysis p q always any_infer few f e = absurd f
again_above post_analysis p q always (in_storage j) few f e = absurd f
again_above post_analysis p q always (in_storage_or_infer j) few f e = absurd f
again_above post_analysis p q (in_storage i) always few f e = refl
again_above post_analysis p q (in_storage i) never few f e = absurd f
again_above post_analysis p q (in_storage i) any_infer few f e = absurd f
again_above post_analysis p q (in_storage i) (in_storage j) few f e = refl
again_above post_analysis p q (in_storage i) (in_storage_or_infer j) few f e = refl
again_above post_analysis p q (in_storage_or_infer i) always few f e = refl
again_above post_analysis p q (in_storage_or_infer i) never few f e = absurd f
again_above post_analysis p q (in_storage_or_infer i) any_infer few f e = absurd f
again_above post_analysis p q (in_storage_or_infer i) (in_storage j) few f e = absurd f
again_above post_analysis p q (in_storage_or_infer i) (in_storage_or_infer j) few f e = refl
again_above (analysis xs) p q never b few f e = cc e
again_above (analysis xs) p q always always few f e = refl
again_above (analysis xs) p q always never few f e = absurd f
again_above (analysis xs) p q always any_infer few f e = absurd f
again_above (analysis xs) p q always (in_storage j) few f e = absurd f
again_above (analysis xs) p q always (in_storage_or_infer j) few f e = absurd f
again_above (analysis xs) p q any_infer never few f e = absurd f
again_above (analysis xs) p q any_infer always few f e = refl
again_above (analysis xs) p q any_infer any_infer few f e = again_more p.has_infer q.has_infer few.infer e
again_above (analysis xs) p q any_infer (in_storage j) few f e = absurd f
again_above (analysis xs) p q any_infer (in_storage_or_infer j) few f e = again_more p.has_infer (is_stored xs q j || q.has_infer) (λ z. or_right (is_stored xs q j) q.has_infer (few.infer z)) e
again_above (analysis xs) p q (in_storage i) never few f e = absurd f
again_above (analysis xs) p q (in_storage i) always few f e = refl
again_above (analysis xs) p q (in_storage i) any_infer few f e = absurd f
again_above (analysis xs) p q (in_storage i) (in_storage j) few f e = again_more (is_stored xs p i) (is_stored xs q j) (stored_more xs p q i j few f) e
again_above (analysis xs) p q (in_storage i) (in_storage_or_infer j) few f e = again_more (is_stored xs p i) (is_stored xs q j || q.has_infer) (λ z. or_left (is_stored xs q j) q.has_infer (stored_more xs p q i j few f z)) e
again_above (analysis xs) p q (in_storage_or_infer i) never few f e = absurd f
again_above (analysis xs) p q (in_storage_or_infer i) always few f e = refl
again_above (analysis xs) p q (in_storage_or_infer i) any_infer few f e = absurd f
again_above (analysis xs) p q (in_storage_or_infer i) (in_storage j) few f e = absurd f
again_above (analysis xs) p q (in_storage_or_infer i) (in_storage_or_infer j) few f e = again_more (is_stored xs p i || p.has_infer) (is_stored xs q j || q.has_infer) (or_more (is_stored xs p i) p.has_infer (is_stored xs q j) q.has_infer (stored_more xs p q i j few f) few.infer) e
again_above (borrowck xs) p q never b few f e = cc e
again_above (borrowck xs) p q any_infer b few f e = cc e
again_above (borrowck xs) p q always always few f e = refl
again_above (borrowck xs) p q always never few f e = absurd f
again_above (borrowck xs) p q always any_infer few f e = absurd f
again_above (borrowck xs) p q always (in_storage j) few f e = absurd f
again_above (borrowck xs) p q always (in_storage_or_infer j) few f e = absurd f
again_above (borrowck xs) p q (in_storage i) never few f e = absurd f
again_above (borrowck xs) p q (in_storage i) always few f e = refl
again_above (borrowck xs) p q (in_storage i) any_infer few f e = absurd f
again_above (borrowck xs) p q (in_storage i) (in_storage j) few f e = again_more (is_stored xs p i) (is_stored xs q j) (stored_more xs p q i j few f) e
again_above (borrowck xs) p q (in_storage i) (in_storage_or_infer j) few f e = again_more (is_stored xs p i) (is_stored xs q j) (stored_more xs p q i j few f) e
again_above (borrowck xs) p q (in_storage_or_infer i) never few f e = absurd f
again_above (borrowck xs) p q (in_storage_or_infer i) always few f e = refl
again_above (borrowck xs) p q (in_storage_or_infer i) any_infer few f e = absurd f
again_above (borrowck xs) p q (in_storage_or_infer i) (in_storage j) few f e = absurd f
again_above (borrowck xs) p q (in_storage_or_infer i) (in_storage_or_infer j) few f e = again_more (is_stored xs p i) (is_stored xs q j) (stored_more xs p q i j few f) e
again_above (post_borrowck xs) p q never b few f e = cc e
again_above (post_borrowck xs) p q any_infer b few f e = cc e
again_above (post_borrowck xs) p q always always few f e = refl
again_above (post_borrowck xs) p q always never few f e = absurd f
again_above (post_borrowck xs) p q always any_infer few f e = absurd f
again_above (post_borrowck xs) p q always (in_storage j) few f e = absurd f
again_above (post_borrowck xs) p q always (in_storage_or_infer j) few f e = absurd f
again_above (post_borrowck xs) p q (in_storage i) never few f e = absurd f
again_above (post_borrowck xs) p q (in_storage i) always few f e = refl
again_above (post_borrowck xs) p q (in_storage i) any_infer few f e = absurd f
again_above (post_borrowck xs) p q (in_storage i) (in_storage j) few f e = again_more (is_stored xs p i) (is_stored xs q j) (stored_more xs p q i j few f) e
again_above (post_borrowck xs) p q (in_storage i) (in_storage_or_infer j) few f e = again_more (is_stored xs p i) (is_stored xs q j) (stored_more xs p q i j few f) e
again_above (post_borrowck xs) p q (in_storage_or_infer i) never few f e = absurd f
again_above (post_borrowck xs) p q (in_storage_or_infer i) always few f e = refl
again_above (post_borrowck xs) p q (in_storage_or_infer i) any_infer few f e = absurd f
again_above (post_borrowck xs) p q (in_storage_or_infer i) (in_storage j) few f e = absurd f
again_above (post_borrowck xs) p q (in_storage_or_infer i) (in_storage_or_infer j) few f e = again_more (is_stored xs p i) (is_stored xs q j) (stored_more xs p q i j few f) e

-- only the erased mode hands on, and every condition but the least one
handed_on : (mode : Mode) (p : Parents) (a : Access) → decides mode p a ≡ is_handed_on → is_erased mode ≡ true
handed_on coherence p never e = cc e
handed_on coherence p always e = cc e
handed_on coherence p any_infer e = cc e
handed_on coherence p (in_storage i) e = cc e
handed_on coherence p (in_storage_or_infer i) e = cc e
handed_on erased p a e = refl
handed_on post_analysis p never e = cc e
handed_on post_analysis p always e = cc e
handed_on post_analysis p any_infer e = cc e
handed_on post_analysis p (in_storage i) e = cc e
handed_on post_analysis p (in_storage_or_infer i) e = cc e
handed_on (analysis xs) p never e = cc e
handed_on (analysis xs) p always e = cc e
handed_on (analysis xs) p any_infer e = absurd (not_again p.has_infer e)
handed_on (analysis xs) p (in_storage i) e = absurd (not_again (is_stored xs p i) e)
handed_on (analysis xs) p (in_storage_or_infer i) e = absurd (not_again (is_stored xs p i || p.has_infer) e)
handed_on (borrowck xs) p never e = cc e
handed_on (borrowck xs) p always e = cc e
handed_on (borrowck xs) p any_infer e = cc e
handed_on (borrowck xs) p (in_storage i) e = absurd (not_again (is_stored xs p i) e)
handed_on (borrowck xs) p (in_storage_or_infer i) e = absurd (not_again (is_stored xs p i) e)
handed_on (post_borrowck xs) p never e = cc e
handed_on (post_borrowck xs) p always e = cc e
handed_on (post_borrowck xs) p any_infer e = cc e
handed_on (post_borrowck xs) p (in_storage i) e = absurd (not_again (is_stored xs p i) e)
handed_on (post_borrowck xs) p (in_storage_or_infer i) e = absurd (not_again (is_stored xs p i) e)

stands_never : (mode : Mode) (p : Parents) → decides mode p never ≡ stands
stands_never coherence p = refl
stands_never erased p = refl
stands_never post_analysis p = refl
stands_never (analysis xs) p = refl
stands_never (borrowck xs) p = refl
stands_never (post_borrowck xs) p = refl

erased_stands : (p : Parents) (a : Access) → decides erased p a ≡ stands → a ≡ never
erased_stands p never e = refl
erased_stands p always e = cc e
erased_stands p any_infer e = cc e
erased_stands p (in_storage i) e = cc e
erased_stands p (in_storage_or_infer i) e = cc e

below_never : (a : Access) → IsBelow a never → a ≡ never
below_never never f = refl
below_never always f = absurd f
below_never any_infer f = absurd f
below_never (in_storage i) f = absurd f
below_never (in_storage_or_infer i) f = absurd f

tell : (d : Decision) → (d ≡ stands) ⊎ ((d ≡ runs_again) ⊎ (d ≡ is_handed_on))
tell stands = inl refl
tell runs_again = inr (inl refl)
tell is_handed_on = inr (inr refl)

erased_only : (mode : Mode) → is_erased mode ≡ true → mode ≡ erased
erased_only erased e = refl
erased_only coherence e = cc e
erased_only post_analysis e = cc e
erased_only (analysis xs) e = cc e
erased_only (borrowck xs) e = cc e
erased_only (post_borrowck xs) e = cc e

-- what stands with more hidden types and a greater condition stands
pub stands_below : (mode : Mode) (p q : Parents) (a b : Access) → IsFewer p q → IsBelow a b → decides mode q b ≡ stands → decides mode p a ≡ stands
stands_below mode p q a b few f e = ⊎_elim (λ z. z)
    (λ z. ⊎_elim
    (λ y. absurd (let g = again_above mode p q a b few f y in no_both (decides mode q b) e g))
    (λ y. let is = erased_only mode (handed_on mode p a y) in
    let b_never : b ≡ never = erased_stands q b (subst (λ m. decides m q b ≡ stands) is e) in
    let a_never : a ≡ never = below_never a (subst (IsBelow a) b_never f) in
    subst (λ v. decides mode p v ≡ stands) (sym a_never) (stands_never mode p)) z)
    (tell (decides mode p a))
  where
    no_both : (d : Decision) → d ≡ stands → d ≡ runs_again → ⊥
    no_both stands x y = cc y
    no_both runs_again x y = cc x
    no_both is_handed_on x y = cc x

-- an answer that is taken in a mode stands for it whatever hidden types there are
pub is_stands-from : (d : Decision) → d ≡ stands → is_stands d ≡ true
is_stands-from stands e = refl
is_stands-from runs_again e = cc e
is_stands-from is_handed_on e = cc e

pub stands-from : (d : Decision) → is_stands d ≡ true → d ≡ stands
stands-from stands e = refl
stands-from runs_again e = cc e
stands-from is_handed_on e = cc e

none_fewer : (p : Parents) → IsFewer no_parents p
none_fewer p = record { keys = λ i h. absurd h; infer = λ e. absurd (not_true e) }
  where
    not_true : false ≡ true → ⊥
    not_true e = cc e

fewer_itself : (p : Parents) → IsFewer p p
fewer_itself p = record { keys = λ i h. h; infer = λ e. e }

pub taken_stands : (mode : Mode) (p : Parents) (a : Access) → decides mode p a ≡ stands → IsTrue (stands_for mode a)
taken_stands mode p a e = is_stands-from (decides mode no_parents a) (stands_below mode no_parents p a a (none_fewer p) (below_itself a) e)

pub stands_for_less : (mode : Mode) (a b : Access) → IsBelow a b → IsTrue (stands_for mode b) → IsTrue (stands_for mode a)
stands_for_less mode a b f e =
    is_stands-from (decides mode no_parents a) (stands_below mode no_parents no_parents a b (fewer_itself no_parents) f (stands-from (decides mode no_parents b) e))

-- modes
are_numbers-itself : (ns : List ℕ) → are_numbers ns ns ≡ true
are_numbers-itself [] = refl
are_numbers-itself (n ∷ ns) = let a = (equal-iff n n).1 refl in let b = are_numbers-itself ns in rw (a, b) refl

pub mode_itself : (m : Mode) → IsTrue (is_mode m m)
mode_itself coherence = refl
mode_itself post_analysis = refl
mode_itself erased = refl
mode_itself (analysis ns) = are_numbers-itself ns
mode_itself (borrowck ns) = are_numbers-itself ns
mode_itself (post_borrowck ns) = are_numbers-itself ns

and_split : (a b : Bool) → (a && b) ≡ true → (a ≡ true) × (b ≡ true)
and_split true b e = (refl, e)
and_split false b e = cc e

numbers_same : (ns ms : List ℕ) → are_numbers ns ms ≡ true → ns ≡ ms
numbers_same [] [] e = refl
numbers_same [] (m ∷ ms) e = cc e
numbers_same (n ∷ ns) [] e = cc e
numbers_same (n ∷ ns) (m ∷ ms) e = let (a, b) = and_split (n == m) (are_numbers ns ms) e in let x = (equal-iff n m).0 a in let y = numbers_same ns ms b in cc (x, y)

pub mode_same : (a b : Mode) → IsTrue (is_mode a b) → a ≡ b
mode_same coherence coherence e = refl
mode_same coherence post_analysis e = cc e
mode_same coherence erased e = cc e
mode_same coherence (analysis ns) e = cc e
mode_same coherence (borrowck ns) e = cc e
mode_same coherence (post_borrowck ns) e = cc e
mode_same post_analysis coherence e = cc e
mode_same post_analysis post_analysis e = refl
mode_same post_analysis erased e = cc e
mode_same post_analysis (analysis ns) e = cc e
mode_same post_analysis (borrowck ns) e = cc e
mode_same post_analysis (post_borrowck ns) e = cc e
mode_same erased coherence e = cc e
mode_same erased post_analysis e = cc e
mode_same erased erased e = refl
mode_same erased (analysis ns) e = cc e
mode_same erased (borrowck ns) e = cc e
mode_same erased (post_borrowck ns) e = cc e
mode_same (analysis ns) coherence e = cc e
mode_same (analysis ns) post_analysis e = cc e
mode_same (analysis ns) erased e = cc e
mode_same (analysis ns) (analysis ms) e = ap analysis (numbers_same ns ms e)
mode_same (analysis ns) (borrowck ms) e = cc e
mode_same (analysis ns) (post_borrowck ms) e = cc e
mode_same (borrowck ns) coherence e = cc e
mode_same (borrowck ns) post_analysis e = cc e
mode_same (borrowck ns) erased e = cc e
mode_same (borrowck ns) (analysis ms) e = cc e
mode_same (borrowck ns) (borrowck ms) e = ap borrowck (numbers_same ns ms e)
mode_same (borrowck ns) (post_borrowck ms) e = cc e
mode_same (post_borrowck ns) coherence e = cc e
mode_same (post_borrowck ns) post_analysis e = cc e
mode_same (post_borrowck ns) erased e = cc e
mode_same (post_borrowck ns) (analysis ms) e = cc e
mode_same (post_borrowck ns) (borrowck ms) e = cc e
mode_same (post_borrowck ns) (post_borrowck ms) e = ap post_borrowck (numbers_same ns ms e)

suits_split : (proof mode : Mode) (a : Access) → IsTrue (suits proof mode a) → (proof ≡ mode) ⊎ ((mode ≡ erased) × IsTrue (stands_for proof a))
suits_split proof mode a e = ⊎_elim
    (λ z. inl (mode_same proof mode z))
    (λ z. let (x, y) = and_split (is_erased mode) (stands_for proof a) z in inr (erased_only mode x, y))
    (or_split (is_mode proof mode) (is_erased mode && stands_for proof a) e)

pub suits_itself : (mode : Mode) (a : Access) → IsTrue (suits mode mode a)
suits_itself mode a = or_left (is_mode mode mode) (is_erased mode && stands_for mode a) (mode_itself mode)

pub suits_erased : (proof : Mode) (a : Access) → IsTrue (stands_for proof a) → IsTrue (suits proof erased a)
suits_erased proof a e = or_right (is_mode proof erased) (stands_for proof a) e

-- an answer with fewer accesses suits where one with more does
pub suits_less : (proof mode : Mode) (a b : Access) → IsBelow a b → IsTrue (suits proof mode b) → IsTrue (suits proof mode a)
suits_less proof mode a b f e = ⊎_elim
    (λ z. subst (λ m. IsTrue (suits proof m a)) z (suits_itself proof a))
    (λ z. subst (λ m. IsTrue (suits proof m a)) (sym z.0) (suits_erased proof a (stands_for_less proof a b f z.1)))
    (suits_split proof mode b e)

-- an answer of the erased mode that a context takes is one for each mode for which the context works: where it stands, and
-- where its accesses were joined into the context's
pub suits_taken : (proof mode : Mode) (p : Parents) (a b : Access) → decides mode p b ≡ stands → IsTrue (suits proof mode a) → IsTrue (suits proof erased b)
suits_taken proof mode p a b d e = ⊎_elim
    (λ z. suits_erased proof b (subst (λ m. IsTrue (stands_for m b)) (sym z) (taken_stands mode p b d)))
    (λ z. let least : b ≡ never = erased_stands p b (subst (λ m. decides m p b ≡ stands) z.0 d) in
    subst (λ v. IsTrue (suits proof erased v)) (sym least) (suits_erased proof never (is_stands-from (decides proof no_parents never) (stands_never proof no_parents))))
    (suits_split proof mode a e)

pub suits_handed_on : (proof mode : Mode) (p : Parents) (a b : Access) → decides mode p b ≡ is_handed_on → IsBelow b a → IsTrue (suits proof mode a) → IsTrue (suits proof erased b)
suits_handed_on proof mode p a b d f e =
    let is = erased_only mode (handed_on mode p b d) in
    suits_less proof erased b a f (subst (λ m. IsTrue (suits proof m a)) is e)
