-- The plain part of a candidate: its equations are among the candidate's, and are all of them where none relates aliases.
use Rattle.std.proofs.Common.{◌≡◌, ◌⊎◌, inl, inr, Bool, true, false, List, [], ◌∷◌, refl, ap, ◌∙◌}
use Rattle.nts_model.specs.Tables.Contents.{Content}
use Rattle.nts_model.specs.Lists.{Among}
use Rattle.nts_model.specs.Derivations.Rules.{Equation}
use Rattle.nts_model.specs.Derivations.Handlers.{Candidate}
use Rattle.nts_model.specs.Refutation.Choosing.{IsCandidateMet}
use Rattle.nts_theory.specs.RelatingCandidates.{relates_aliases, aliased_equations, plain_equations, HasPlainEquations, plain_part}

plain_first : (x : Equation) (qs : List Equation) (q : Equation) → (Among (plain_equations qs) q → Among qs q) → Among (plain_equations (x ∷ qs)) q → Among (x ∷ qs) q
plain_first x qs q rest i = by_test (relates_aliases x) refl
  where
    by_test : (z : Bool) → relates_aliases x ≡ z → Among (x ∷ qs) q
    by_test true e = inr (rest (rw e at i))
    by_test false e = elim (rw e at i) [ inl s ↦ inl s | inr j ↦ inr (rest j) ]

pub plain_among : (qs : List Equation) (q : Equation) → Among (plain_equations qs) q → Among qs q
plain_among [] q i = i
plain_among (x ∷ qs) q i = plain_first x qs q (λ j. plain_among qs q j) i

aliased_first : (x : Equation) (qs : List Equation) (q : Equation) → (Among (aliased_equations qs) q → Among qs q × (relates_aliases q ≡ true)) → Among (aliased_equations (x ∷ qs)) q → Among (x ∷ qs) q × (relates_aliases q ≡ true)
aliased_first x qs q rest i = by_test (relates_aliases x) refl
  where
    later : Among (aliased_equations qs) q → Among (x ∷ qs) q × (relates_aliases q ≡ true)
    later j = (let r = rest j in (inr r.0, r.1))

    by_test : (z : Bool) → relates_aliases x ≡ z → Among (x ∷ qs) q × (relates_aliases q ≡ true)
    by_test true e = elim (rw e at i) [ inl s ↦ (inl s, ap relates_aliases s ∙ e) | inr j ↦ later j ]
    by_test false e = later (rw e at i)

pub aliased_among : (qs : List Equation) (q : Equation) → Among (aliased_equations qs) q → Among qs q × (relates_aliases q ≡ true)
aliased_among [] q i = absurd i
aliased_among (x ∷ qs) q i = aliased_first x qs q (λ j. aliased_among qs q j) i

-- an equation is plain, or it relates aliases
one_of_both : (x : Equation) (qs : List Equation) (q : Equation) → (Among qs q → Among (plain_equations qs) q ⊎ Among (aliased_equations qs) q) → Among (x ∷ qs) q → Among (plain_equations (x ∷ qs)) q ⊎ Among (aliased_equations (x ∷ qs)) q
one_of_both x qs q rest i = by_test (relates_aliases x) refl
  where
    by_test : (z : Bool) → relates_aliases x ≡ z → Among (plain_equations (x ∷ qs)) q ⊎ Among (aliased_equations (x ∷ qs)) q
    by_test true e = elim i [ inl s ↦ rw e (inr (inl s)) | inr j ↦ elim (rest j) [ inl k ↦ rw e (inl k) | inr k ↦ rw e (inr (inr k)) ] ]
    by_test false e = elim i [ inl s ↦ rw e (inl (inl s)) | inr j ↦ elim (rest j) [ inl k ↦ rw e (inl (inr k)) | inr k ↦ rw e (inr k) ] ]

pub plain_or_aliased : (qs : List Equation) (q : Equation) → Among qs q → Among (plain_equations qs) q ⊎ Among (aliased_equations qs) q
plain_or_aliased [] q i = absurd i
plain_or_aliased (x ∷ qs) q i = one_of_both x qs q (λ j. plain_or_aliased qs q j) i

-- where no equation relates aliases, all are plain
none_aliased : (x : Equation) (qs : List Equation) → (aliased_equations qs ≡ [] → plain_equations qs ≡ qs) → aliased_equations (x ∷ qs) ≡ [] → plain_equations (x ∷ qs) ≡ x ∷ qs
none_aliased x qs rest h = by_test (relates_aliases x) refl
  where
    by_test : (z : Bool) → relates_aliases x ≡ z → plain_equations (x ∷ qs) ≡ x ∷ qs
    by_test true e = absurd (let none = rw e at h in cc none)
    by_test false e = rw e (ap (λ (z : List Equation). x ∷ z) (rest (rw e at h)))

pub all_plain_equations : (qs : List Equation) → aliased_equations qs ≡ [] → plain_equations qs ≡ qs
all_plain_equations [] h = refl
all_plain_equations (x ∷ qs) h = none_aliased x qs (all_plain_equations qs) h

pub plain_met : (c : Content) (x : Candidate) → IsCandidateMet c x → IsCandidateMet c (plain_part x)
plain_met c x m =
    record { world = m.world; solves = m.solves; values = m.values; fit = m.fit; named = m.named; equal = λ q i. m.equal q (plain_among x.equations q i) }

-- where no equation relates aliases, all is made equal at once
pub plain_is : (x : Candidate) → HasPlainEquations x → plain_part x ≡ x
plain_is x h = (let e = all_plain_equations x.equations h in λ i. record x { equations = e i })
