-- What a candidate that was begun by relating is in a mode.
use Rattle.std.proofs.Common.{◌≡◌, ◌⊎◌, inl, inr, ◌<◌, zero, suc, length, get_or, true, List, [], ◌∷◌, refl, ◌∙◌, arith}
use Rattle.std.specs.Prelude.{Bool, ℕ}
use Rattle.nts_model.specs.Derivations.Rules.{Mode, coherence}
use Rattle.nts_model.specs.Terms.Trees.{Tree}
use Rattle.nts_model.specs.declared.labels.Variance.{Variance}
use Rattle.nts_model.specs.Tables.Contents.{Content}
use Rattle.nts_model.specs.Tables.Holding.{Continues}
use Rattle.nts_model.specs.Derivations.Sequents.{Premise}
use Rattle.nts_model.specs.Derivations.Handlers.{Candidate}
use Rattle.nts_theory.specs.RelatingCandidates.{IsCutIn, goals_with, AreEqualities, IsBegunByRelating, Begins}

-- an element of a list is one, whatever would stand in its place
pub get_or-any : {X : Type 0} (xs : List X) (i : ℕ) (d e : X) → i < length xs → get_or xs i d ≡ get_or xs i e
get_or-any [] i d e h = absurd (omega (arith, h))
get_or-any (x ∷ xs) zero d e h = refl
get_or-any (x ∷ xs) (suc i) d e h = get_or-any xs i d e (omega (arith, h))

-- where the goals that relating left may be asked: the table's mode is as before
pub may_be_asked : {m n : Mode} {equal : Bool} {E : Type 0} → (equal ≡ true → E) → n ≡ m → IsCutIn n ⊎ (equal ≡ true) → IsCutIn m ⊎ E
may_be_asked h same (inl cut) = inl (λ i. cut (same ∙ i))
may_be_asked h same (inr e) = inr (h e)

-- a candidate that was begun by relating is begun in a mode, where the goals that this left are asked
module _ (declared : ℕ → List Variance) (mode : Mode) (c : Content) (e : Tree) (x : Candidate) (met : Content) (ps : List Premise) (begun : IsBegunByRelating declared c e x met ps) (continues : Continues begun.before met) where
  coherence_or : (m : Mode) → (m ≡ coherence) ⊎ (m ≡ coherence → ⊥)
  coherence_or coherence = inl refl
  coherence_or m = inr (λ z. cc z)

  pub begins_in : IsCutIn mode ⊎ AreEqualities met begun.goals → Begins declared mode c e x met ps
  begins_in either = elim (coherence_or mode) [
    | inr cut ↦ inr (inl (cut, begun))
    | inl inside ↦ elim either [
      | inl cut ↦ absurd (cut inside)
      | inr equal ↦ inr (inr (inside, record { all = ps; begun = begun; continues = continues; asked = inl (equal, refl) }))
    ]
  ]

  -- .. or not asked
  pub doubted_in : mode ≡ coherence → Begins declared mode c e x met (goals_with begun.values x.goals)
  doubted_in inside = inr (inr (inside, record { all = ps; begun = begun; continues = continues; asked = inr refl }))
