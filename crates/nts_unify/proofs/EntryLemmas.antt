-- Each change is undone.
use Rattle.std.proofs.Common.{Some, ◌≡◌, ℕ, zero, suc, List, [], ◌∷◌, ◌++◌, refl, ap, arith}
use Rattle.std.specs.Prelude.{slice_get, slice_set}
use Rattle.std.proofs.lemmas.Grind.{common_steps}
use Rattle.nts_unify.specs.declared.contents.Variable.{Variable}
use Rattle.nts_unify.specs.declared.contents.Constraint.{Constraint}
use Rattle.nts_unify.specs.declared.contents.HiddenType.{HiddenType}
use Rattle.nts_unify.specs.declared.contents.UndoLog.TheVariants.{Added, Changed, Bound, Moved, Constrained, Registered, Replaced, Duplicated}
use Rattle.nts_unify.specs.Entries.{Entries, undone, added, with_variable, bound, moved, constrained, registered, with_hidden, duplicated, front}

pub front-push : {A : Type 0} (xs : List A) (x : A) → front (xs ++ x ∷ []) ≡ xs
front-push xs x = grind (arith, common_steps)

-- what was there put back
pub slice_set-twice : {A : Type 0} (vs : List A) (n : ℕ) (v old : A) → slice_get vs n ≡ Some old → slice_set (slice_set vs n v) n old ≡ vs
slice_set-twice [] n v old h = refl
slice_set-twice (w ∷ vs) zero v old h = let e : w ≡ old = cc in cc
slice_set-twice (w ∷ vs) (suc n) v old h = ap (λ ws. w ∷ ws) (slice_set-twice vs n v old h)

pub undone-added : (c : Entries) (v : Variable) → undone Added (added c v) ≡ c
undone-added c v = rw (front-push c.variables v) refl

pub undone-changed : (c : Entries) (n : ℕ) (v old : Variable) → slice_get c.variables n ≡ Some old → undone (Changed n old) (with_variable c n v) ≡ c
undone-changed c n v old h = rw (slice_set-twice c.variables n v old h) refl

pub undone-bound : (c : Entries) (n : ℕ) (v old : Variable) → slice_get c.variables n ≡ Some old → undone (Bound n old) (bound c n v) ≡ c
undone-bound c n v old h = rw (front-push c.order n, slice_set-twice c.variables n v old h) refl

pub undone-constrained : (c : Entries) (x : Constraint) → undone Constrained (constrained c x) ≡ c
undone-constrained c x = rw (front-push c.constraints x) refl

pub undone-moved : (c : Entries) (u old : ℕ) → old ≡ c.universe → undone (Moved old) (moved c u) ≡ c
undone-moved c u old h = λ i. record c { universe = h i }

pub undone-registered : (c : Entries) (h : HiddenType) → undone Registered (registered c h) ≡ c
undone-registered c h = rw (front-push c.hidden.lookup h) refl

pub undone-replaced : (c : Entries) (n : ℕ) (h old : HiddenType) → slice_get c.hidden.lookup n ≡ Some old → undone (Replaced n old) (with_hidden c n h) ≡ c
undone-replaced c n h old e = rw (slice_set-twice c.hidden.lookup n h old e) refl

pub undone-duplicated : (c : Entries) (h : HiddenType) → undone Duplicated (duplicated c h) ≡ c
undone-duplicated c h = rw (front-push c.hidden.duplicates h) refl
