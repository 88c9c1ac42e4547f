-- Candidates for a goal in a table: which of them a world of the table meets, and what trying one does.
use Rattle.std.specs.Prelude.{◌≡◌, ◌⊎◌, ℕ, ◌≤◌, List, [], ◌∷◌, Option}
use Rattle.nts_model.specs.declared.labels.Sort.{Sort}
use Rattle.nts_model.specs.declared.labels.Label.{Label}
use Rattle.nts_model.specs.Terms.Trees.{Tree}
use Rattle.nts_model.specs.Tables.Contents.{Content}
use Rattle.nts_model.specs.Tables.Levels.{term_level, NamesAll}
use Rattle.nts_model.specs.Tables.Worlds.{World, Solves}
use Rattle.nts_model.specs.Tables.Equations.{AreRelated, AreUnrelated}
use Rattle.nts_model.specs.Derivations.Related.{Constraint}
use Rattle.nts_model.specs.Derivations.Rules.{Equation, related, alike}
use Rattle.nts_model.specs.Lists.{Among}
use Rattle.nts_model.specs.Derivations.Proving.{recorded_as}
use Rattle.nts_model.specs.Terms.Substitutions.{filled}
use Rattle.nts_model.specs.Derivations.Handlers.{Candidate, constraint_by, kind_of_sort, AreValuesOf}
use Rattle.nts_model.specs.Answers.Responses.{read_in}
use Rattle.nts_model.specs.Answers.Applying.{IsNew, IsRecordedIn}

-- the two sides of an equation
abbrev pub left_of : Equation → Tree
left_of (related a b) = a
left_of (alike a b) = a

abbrev pub right_of : Equation → Tree
right_of (related a b) = b
right_of (alike a b) = b

-- values that a universe names, where f gives universes
abbrev pub AreNamedValues : (Label → Option ℕ) → ℕ → List Tree → Type 0
AreNamedValues f u [] = Unit {0}
AreNamedValues f u (v ∷ vs) = NamesAll f u v × AreNamedValues f u vs

-- a world of the table, and values for the fresh variables that the current universe names, make the sides of each equation one
pub record MeetsEquations (c : Content) (fresh : List Sort) (qs : List Equation) : Type 0 where
  pub world : World
  pub solves : Solves c world
  pub values : List Tree
  pub fit : AreValuesOf fresh values
  pub named : AreNamedValues term_level c.universe values
  pub equal : (q : Equation) → Among qs q → read_in world values (left_of q) ≡ read_in world values (right_of q)

-- some world of the table meets the equations of the candidate
abbrev pub IsCandidateMet : Content → Candidate → Type 0
IsCandidateMet c x = MeetsEquations c x.fresh x.equations

-- none of the candidates is met; this one and no other is; two are
abbrev pub NoneIsMet : Content → List Candidate → Type 0
NoneIsMet c [] = Unit {0}
NoneIsMet c (y ∷ ys) = (IsCandidateMet c y → ⊥) × NoneIsMet c ys

abbrev pub OnlyIsMet : Content → Candidate → List Candidate → Type 0
OnlyIsMet c x [] = ⊥
OnlyIsMet c x (y ∷ ys) = (y ≡ x) × IsCandidateMet c y × NoneIsMet c ys ⊎ (IsCandidateMet c y → ⊥) × OnlyIsMet c x ys

abbrev pub SomeIsMet : Content → List Candidate → Type 0
SomeIsMet c [] = ⊥
SomeIsMet c (y ∷ ys) = IsCandidateMet c y ⊎ SomeIsMet c ys

abbrev pub SeveralAreMet : Content → List Candidate → Type 0
SeveralAreMet c [] = ⊥
SeveralAreMet c (y ∷ ys) = IsCandidateMet c y × SomeIsMet c ys ⊎ SeveralAreMet c ys

-- a new variable of the universe for each sort
abbrev pub Freshens : ℕ → List Sort → List Tree → Content → Content → Type 0
Freshens u [] [] c d = d ≡ c
Freshens u (s ∷ ss) (t ∷ ts) c d = (e : Content) × IsNew c e (kind_of_sort s) u t × (c.universe ≤ e.universe) × Freshens u ss ts e d
Freshens u ss ts c d = ⊥

-- equation by equation, the filled sides are related
abbrev pub EquatesAll : List Tree → List Equation → Content → Content → Type 0
EquatesAll xs [] c d = d ≡ c
EquatesAll xs (q ∷ qs) c d =
    (e : Content) × AreRelated c e (filled xs (left_of q)) (filled xs (right_of q)) × EquatesAll xs qs e d

-- .. until two are not
abbrev pub FailsToEquate : List Tree → List Equation → Content → Type 0
FailsToEquate xs [] c = ⊥
FailsToEquate xs (q ∷ qs) c =
    AreUnrelated c (filled xs (left_of q)) (filled xs (right_of q))
    ⊎ ((e : Content) × AreRelated c e (filled xs (left_of q)) (filled xs (right_of q)) × FailsToEquate xs qs e)

-- constraint by constraint, they are recorded
abbrev pub RecordsAll : List Tree → List Constraint → Content → Content → Type 0
RecordsAll xs [] c d = d ≡ c
RecordsAll xs (x ∷ ys) c d = (e : Content) × IsRecordedIn c e (recorded_as (constraint_by (filled xs) x)) × RecordsAll xs ys e d
