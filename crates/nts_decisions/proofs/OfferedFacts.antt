-- A candidate that is another one renamed but for regions: its goals and its equations.
use Rattle.std.proofs.Common.{◌≡◌, List, [], ◌∷◌, map, refl, ap, ◌∙◌}
use Rattle.nts_model.specs.Terms.Substitutions.{Renaming, rename}
use Rattle.nts_model.specs.Derivations.Sequents.{Premise}
use Rattle.nts_model.specs.Derivations.Handlers.{Candidate, equation_by, premise_by, renamed_candidate}
use Rattle.nts_decisions.specs.Deciding.{blurred, blurred_premise, blurred_candidate}

pub none_left : (ps : List Premise) → map blurred_premise ps ≡ [] → ps ≡ []
none_left [] e = refl
none_left (p ∷ ps) e = absurd (cc e)

pub no_goals_there : (ρ : Renaming) (x y : Candidate) → blurred_candidate y ≡ renamed_candidate ρ (blurred_candidate x) → x.goals ≡ [] → y.goals ≡ []
no_goals_there ρ x y e n = none_left y.goals (ap (λ z. z.goals) e ∙ ap (λ z. map (premise_by (rename ρ)) (map blurred_premise z)) n)

pub equations_there : (ρ : Renaming) (x y : Candidate) → blurred_candidate y ≡ renamed_candidate ρ (blurred_candidate x) → map (equation_by blurred) y.equations ≡ map (equation_by (rename ρ)) (map (equation_by blurred) x.equations)
equations_there ρ x y e = ap (λ z. z.equations) e
