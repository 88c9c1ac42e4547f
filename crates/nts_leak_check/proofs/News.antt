-- What is told of a table's constraints is among them, and of the store.
use Rattle.std.proofs.Common.{◌⊎◌, ℕ, zero, suc, ◌<◌, List, [], ◌∷◌, ◌++◌, map, length, get_or, inl, inr, refl, arith}
use Rattle.std.specs.Prelude.{All}
use Rattle.nts_model.specs.Terms.Trees.{Tree}
use Rattle.nts_model.specs.Tables.Contents.{Content}
use Rattle.nts_unify.specs.declared.contents.Constraint.{Constraint}
use Rattle.nts_unify.specs.Reading.{recorded_of, AreConstraints}
use Rattle.nts_leak_check.specs.Leaking.{AreSidesIn}
use Rattle.nts_model.specs.Lists.{Among}
use Rattle.nts_model.specs.Tables.Contents.{Recorded}
use Rattle.nts_model.specs.Tables.Recording.{AreNews, none, passed, told}
use Rattle.nts_model.proofs.Lists.{among_left, among_right}
use Rattle.nts_theory.proofs.Refutation.Answered.{among_split}

pub news_among : {xs ys : List Recorded} → AreNews xs ys → (y : Recorded) → Among ys y → Among xs y
news_among none y i = absurd i
news_among (passed {xs = xs} x before nothing) y i = among_left xs (x ∷ []) y (news_among before y i)
news_among (told {xs = xs} {ys = ys} x before new) y i =
    elim (among_split ys (x ∷ []) y i) [
      | inl j ↦ among_left xs (x ∷ []) y (news_among before y j)
      | inr j ↦ among_right xs (x ∷ []) y j
    ]

pub sides_in : (ts : List Tree) (c : Content) (xs : List Constraint) → AreConstraints ts c xs → All (AreSidesIn ts) xs
sides_in ts c [] h k d l = absurd (omega (arith, l))
sides_in ts c (x ∷ xs) h zero d l = (let one = h.0 in (one.left_in, one.right_in))
sides_in ts c (x ∷ xs) h (suc k) d l = sides_in ts c xs h.1 k d (omega (arith, l))

pub recorded_at : (ts : List Tree) (xs : List Constraint) (i : ℕ) (d : Constraint) → i < length xs → Among (map (recorded_of ts) xs) (recorded_of ts (get_or xs i d))
recorded_at ts [] i d l = absurd (omega (arith, l))
recorded_at ts (x ∷ xs) zero d l = inl refl
recorded_at ts (x ∷ xs) (suc i) d l = inr (recorded_at ts xs i d (omega (arith, l)))
