-- Steps that are counted, and examples of it.
use Rattle.std.proofs.Common.{◌≡◌, ◌⊎◌, inl, inr, ℕ, ◌+◌, ◌<◌, Bool, true, false, not, List, [], ◌∷◌, take, get_or, length, Result, Ok, Err, refl, arith}
use Rattle.std.specs.Prelude.{◌↔◌, ◌||◌, is_err}
use Rattle.std.proofs.lemmas.List.{take_more}
use Rattle.nts_store.specs.declared.fault.EvalError.{EvalError}
use Rattle.nts_terms.specs.declared.handles.Goal.{Goal}
use Rattle.nts_certainty.specs.declared.certainty.Certainty.{Certainty}
use Rattle.nts_certainty.specs.declared.sources.GoalSource.{GoalSource}
use Rattle.nts_certainty.specs.declared.sources.HasChanged.{HasChanged}
use Rattle.nts_certainty.specs.declared.sources.HasChanged.TheVariants as changes
use Rattle.nts_meaning.specs.declared.response.Evaluated.{Evaluated}
use Rattle.nts_trying.specs.Stepping.{left_after}
use Rattle.nts_evaluation.specs.Counting.{finds_out, AsksEach, MakesSteps, CountsSteps}
use Rattle.nts_evaluation.specs.Counting.AsksEach.{asks_none, then_asks}
use Rattle.nts_evaluation.specs.Counting.MakesSteps.{no_step, then_steps}

found_more : (x y : Bool) (c : HasChanged) → ((y ≡ false) ↔ ((x ≡ false) × (c ≡ changes.No))) → y ≡ (x || finds_out c)
found_more true true c h = refl
found_more true false c h = absurd (let b = h.0 refl in let e = b.0 in cc e)
found_more false true changes.No h = absurd (let e = h.1 (refl, refl) in cc e)
found_more false true changes.Yes h = refl
found_more false false changes.No h = refl
found_more false false changes.Yes h = absurd (let b = h.0 refl in let e = b.1 in cc e)

-- one goal more was asked
pub asked_more : {X : Type 0} {Asks : X → X → GoalSource × Goal → Evaluated → Type 0} {x y z : X} {left rest : List (GoalSource × Goal)} {found new : Bool} (gs : List (GoalSource × Goal)) (i : ℕ) (d : GoalSource × Goal) (e : Evaluated) → i < length gs
    → AsksEach Asks x (take i gs) y left found → Asks y z (get_or gs i d) e → rest ≡ left_after left (get_or gs i d) e.certainty → ((new ≡ false) ↔ ((found ≡ false) × (e.has_changed ≡ changes.No))) → AsksEach Asks x (take (i + 1) gs) z rest new
asked_more {found} {new} gs i d e at before now left changed =
    rw (take_more gs i d at, left, found_more found new e.has_changed changed) (then_asks (get_or gs i d) e before now)

-- what a goal that is asked once, or not at all, does to its table
pub reached : {A D E F : Type 0} → A ⊎ D × E × F → A ⊎ D × E
reached (inl x) = inl x
reached (inr (skipped, same, unchanged)) = inr (skipped, same)

pub is_on : (b : Bool) → not b ≡ false → b ≡ true
is_on true e = refl
is_on false e = absurd (cc e)

pub is_off : (b : Bool) → not b ≡ true → b ≡ false
is_off false e = refl
is_off true e = absurd (cc e)

-- an error broke the last step off
pub counts_broken : {X A : Type 0} {Asks : X → X → GoalSource × Goal → Evaluated → Type 0} {n k : ℕ} {x z : X} {gs left : List (GoalSource × Goal)} (limit : ℕ) (y : X) (r : Result A EvalError) → is_err r ≡ true → n ≡ k + 1 → MakesSteps Asks x gs k z left true → CountsSteps Asks limit x gs n y left r
counts_broken limit y (Ok c) fails e steps = absurd (cc fails)
counts_broken {k = k} {z = z} limit y (Err f) fails e steps = (k, z, e, steps)

-- asking no goal finds nothing out; nor does asking goals of which none finds anything out
silent : {X : Type 0} {Asks : X → X → GoalSource × Goal → Evaluated → Type 0} {x y : X} {gs left : List (GoalSource × Goal)} {found : Bool} → ((a b : X) (g : GoalSource × Goal) (e : Evaluated) → Asks a b g e → e.has_changed ≡ changes.No) → AsksEach Asks x gs y left found → found ≡ false
silent none asks_none = refl
silent none (then_asks g e before now) = rw (silent none before, none _ _ g e now) refl

-- where no goal finds anything out one step is made, if the limit allows one
pub silent_goals_take_one_step : {X A : Type 0} {Asks : X → X → GoalSource × Goal → Evaluated → Type 0} {limit n : ℕ} {x y : X} {gs left : List (GoalSource × Goal)} (c : A) → ((a b : X) (g : GoalSource × Goal) (e : Evaluated) → Asks a b g e → e.has_changed ≡ changes.No) → 0 < limit
    → CountsSteps Asks limit x gs n y left (let r : Result A EvalError = Ok c in r) → n ≡ 1
silent_goals_take_one_step c none some (found, no_step, last) = absurd (elim last [ inl e ↦ cc e | inr e ↦ omega (arith, e, some) ])
silent_goals_take_one_step c none some (found, then_steps no_step each, last) = refl
silent_goals_take_one_step c none some (found, then_steps (then_steps before each) after, last) = absurd (let e = silent none each in cc e)

-- so two steps of them are too many
pub two_silent_steps_are_miscounted : {X A : Type 0} {Asks : X → X → GoalSource × Goal → Evaluated → Type 0} {limit : ℕ} {x y : X} {gs left : List (GoalSource × Goal)} (c : A) → ((a b : X) (g : GoalSource × Goal) (e : Evaluated) → Asks a b g e → e.has_changed ≡ changes.No) → 0 < limit
    → CountsSteps Asks limit x gs 2 y left (let r : Result A EvalError = Ok c in r) → ⊥
two_silent_steps_are_miscounted c none some h = (let e = silent_goals_take_one_step c none some h in omega (arith, e))

-- a goal that finds something out, is left, and then finds nothing out takes two steps
pub goal_takes_two_steps : {X A : Type 0} {Asks : X → X → GoalSource × Goal → Evaluated → Type 0} {limit : ℕ} {x z : X} (y : X) (g : GoalSource × Goal) (doubt : Certainty) (left_as : left_after [] g doubt ≡ g ∷ []) (c : A) → Asks x y g (record { certainty = doubt; has_changed = changes.Yes }) → Asks y z g (record { certainty = doubt; has_changed = changes.No })
    → CountsSteps Asks limit x (g ∷ []) 2 z (g ∷ []) (let r : Result A EvalError = Ok c in r)
goal_takes_two_steps {X} {A} {Asks} {limit} {x} {z} y g doubt left_as c first second =
    let learns : Evaluated = record { certainty = doubt; has_changed = changes.Yes } in
    let learns_nothing : Evaluated = record { certainty = doubt; has_changed = changes.No } in
    let one : AsksEach Asks x (g ∷ []) y (left_after [] g doubt) true = then_asks g learns asks_none first in
    let two : AsksEach Asks y (g ∷ []) z (left_after [] g doubt) false = then_asks g learns_nothing asks_none second in
    (false, then_steps (then_steps no_step (rw left_as at one)) (rw left_as at two), inl refl)
