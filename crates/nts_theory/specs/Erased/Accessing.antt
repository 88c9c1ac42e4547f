-- How access conditions are ordered and joined, and when an answer of the erased mode stands for another one.
use Rattle.std.specs.Prelude.{◌≡◌, ◌==◌, ◌||◌, ◌&&◌, ℕ, Bool, true, false, List, [], ◌∷◌, ◌++◌, if◌then◌else◌}
use Rattle.nts_model.specs.Lists.{Among}
use Rattle.nts_model.specs.Derivations.Rules.{Mode, coherence, post_analysis, erased, analysis, borrowck, post_borrowck}
use Rattle.nts_model.specs.Derivations.Handlers.{Access, never, always, any_infer, in_storage, in_storage_or_infer}

-- each number of the one list is of the other
abbrev pub IsWithin : List ℕ → List ℕ → Type 0
IsWithin a b = (i : ℕ) → Among a i → Among b i

-- the order of conditions
abbrev pub IsBelow : Access → Access → Type 0
IsBelow never b = Unit {0}
IsBelow any_infer any_infer = Unit {0}
IsBelow any_infer (in_storage_or_infer j) = Unit {0}
IsBelow any_infer always = Unit {0}
IsBelow (in_storage i) (in_storage j) = IsWithin i j
IsBelow (in_storage i) (in_storage_or_infer j) = IsWithin i j
IsBelow (in_storage i) always = Unit {0}
IsBelow (in_storage_or_infer i) (in_storage_or_infer j) = IsWithin i j
IsBelow (in_storage_or_infer i) always = Unit {0}
IsBelow always always = Unit {0}
IsBelow a b = ⊥

-- the least condition above both
pub record IsJoin (a b c : Access) : Type 0 where
  pub left : IsBelow a c
  pub right : IsBelow b c
  pub least : (d : Access) → IsBelow a d → IsBelow b d → IsBelow c d

abbrev pub is_in : List ℕ → ℕ → Bool
is_in [] n = false
is_in (m ∷ ms) n = (m == n) || is_in ms n

-- the numbers of the second list that the first one lacks come behind it
abbrev pub united : List ℕ → List ℕ → List ℕ
united a [] = a
united a (n ∷ ns) = united (if is_in a n then a else a ++ n ∷ []) ns

abbrev pub joined_accesses : Access → Access → Access
joined_accesses never b = b
joined_accesses always b = always
joined_accesses any_infer never = any_infer
joined_accesses any_infer any_infer = any_infer
joined_accesses any_infer (in_storage j) = in_storage_or_infer j
joined_accesses any_infer (in_storage_or_infer j) = in_storage_or_infer j
joined_accesses any_infer always = always
joined_accesses (in_storage i) never = in_storage i
joined_accesses (in_storage i) any_infer = in_storage_or_infer i
joined_accesses (in_storage i) (in_storage j) = in_storage (united i j)
joined_accesses (in_storage i) (in_storage_or_infer j) = in_storage_or_infer (united i j)
joined_accesses (in_storage i) always = always
joined_accesses (in_storage_or_infer i) never = in_storage_or_infer i
joined_accesses (in_storage_or_infer i) any_infer = in_storage_or_infer i
joined_accesses (in_storage_or_infer i) (in_storage j) = in_storage_or_infer (united i j)
joined_accesses (in_storage_or_infer i) (in_storage_or_infer j) = in_storage_or_infer (united i j)
joined_accesses (in_storage_or_infer i) always = always

-- whether a goal is asked again in the mode of the goal above
pub data Decision : Type 0 where
  stands runs_again is_handed_on : Decision

-- the hidden types of the goal above: the numbers of their aliases, and whether one is a type variable
pub record Parents : Type 0 where
  pub keys : List ℕ
  pub has_infer : Bool

abbrev pub no_parents : Parents
no_parents = record { keys = []; has_infer = false }

-- one of these numbers is listed, or is that of a hidden type
abbrev pub is_stored : List ℕ → Parents → List ℕ → Bool
is_stored xs p [] = false
is_stored xs p (n ∷ ns) = (is_in xs n || is_in p.keys n) || is_stored xs p ns

abbrev pub again_if : Bool → Decision
again_if true = runs_again
again_if false = stands

abbrev pub decides : Mode → Parents → Access → Decision
decides mode p never = stands
decides coherence p a = runs_again
decides erased p a = is_handed_on
decides mode p always = runs_again
decides (analysis xs) p any_infer = again_if p.has_infer
decides (analysis xs) p (in_storage ns) = again_if (is_stored xs p ns)
decides (analysis xs) p (in_storage_or_infer ns) = again_if (is_stored xs p ns || p.has_infer)
decides (borrowck xs) p any_infer = stands
decides (borrowck xs) p (in_storage ns) = again_if (is_stored xs p ns)
decides (borrowck xs) p (in_storage_or_infer ns) = again_if (is_stored xs p ns)
decides (post_borrowck xs) p any_infer = stands
decides (post_borrowck xs) p (in_storage ns) = again_if (is_stored xs p ns)
decides (post_borrowck xs) p (in_storage_or_infer ns) = again_if (is_stored xs p ns)
decides post_analysis p any_infer = stands
decides post_analysis p (in_storage ns) = runs_again
decides post_analysis p (in_storage_or_infer ns) = runs_again

-- fewer hidden types
pub record IsFewer (p q : Parents) : Type 0 where
  pub keys : IsWithin p.keys q.keys
  pub infer : p.has_infer ≡ true → q.has_infer ≡ true

abbrev pub is_stands : Decision → Bool
is_stands stands = true
is_stands runs_again = false
is_stands is_handed_on = false

-- an answer of the erased mode with these accesses stands for the mode, where the goal above knows no hidden types
abbrev pub stands_for : Mode → Access → Bool
stands_for mode a = is_stands (decides mode no_parents a)

abbrev pub is_erased : Mode → Bool
is_erased erased = true
is_erased mode = false

abbrev pub are_numbers : List ℕ → List ℕ → Bool
are_numbers [] [] = true
are_numbers (n ∷ ns) (m ∷ ms) = (n == m) && are_numbers ns ms
are_numbers ns ms = false

abbrev pub is_mode : Mode → Mode → Bool
is_mode coherence coherence = true
is_mode post_analysis post_analysis = true
is_mode erased erased = true
is_mode (analysis ns) (analysis ms) = are_numbers ns ms
is_mode (borrowck ns) (borrowck ms) = are_numbers ns ms
is_mode (post_borrowck ns) (post_borrowck ms) = are_numbers ns ms
is_mode a b = false

-- what is answered in the mode with these accesses is an answer for the mode of a proof: it is that mode, or the erased one, and
-- the accesses let it stand
abbrev pub suits : Mode → Mode → Access → Bool
suits proof mode a = is_mode proof mode || (is_erased mode && stands_for proof a)
