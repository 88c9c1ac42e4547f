-- What the candidates that alone are met force: a tree of goals, and the table that it leaves.
use Rattle.std.specs.Prelude.{◌≡◌, ◌⊎◌, true, List, [], ◌∷◌}
use Rattle.nts_model.specs.declared.labels.Relation.{Relation}
use Rattle.nts_model.specs.declared.labels.Relation.TheVariants as relation
use Rattle.nts_model.specs.Terms.Trees.{Tree}
use Rattle.nts_model.specs.Tables.Contents.{Content, Recorded, with_constraint}
use Rattle.nts_model.specs.Tables.Resolving.{deeply_resolved}
use Rattle.nts_model.specs.Tables.Equations.{AreRelated}
use Rattle.nts_model.specs.Derivations.Related.{Constraint}
use Rattle.nts_model.specs.Derivations.Sequents.{Premise}
use Rattle.nts_model.specs.Terms.Substitutions.{filled}
use Rattle.nts_model.specs.Derivations.Handlers.{Candidate, certain, constraint_by}
use Rattle.nts_model.specs.Refutation.Choosing.{Freshens, EquatesAll, OnlyIsMet}

-- a constraint that the leak check sees
abbrev pub seen_as : Constraint → Recorded
seen_as x = record { relation = x.relation; left = x.left; right = x.right; is_visible = true }

-- an equality relates its sides; what outlives what is recorded, unless the sides are one tree
abbrev pub AddsBy : Relation → Constraint → Content → Content → Type 0
AddsBy relation.Equal x c d = AreRelated c d x.left x.right
AddsBy r x c d = (x.left ≡ x.right) × (d ≡ c) ⊎ (d ≡ with_constraint c (seen_as x))

abbrev pub Adds : Constraint → Content → Content → Type 0
Adds x c d = AddsBy x.relation x c d

-- constraint by constraint, with the values in place of the positions
abbrev pub AddsAll : List Tree → List Constraint → Content → Content → Type 0
AddsAll xs [] c d = d ≡ c
AddsAll xs (x ∷ ys) c d = (e : Content) × Adds (constraint_by (filled xs) x) c e × AddsAll xs ys e d

-- what goals leave of tables, and goal by goal, each asked as the table knows it then
abbrev pub GoalsLeave : Type 1
GoalsLeave = Content → Content → Tree → Tree → Type 0

abbrev pub LeavesAll : GoalsLeave → List Tree → List Premise → Content → Content → Type 0
LeavesAll P xs [] c d = d ≡ c
LeavesAll P xs (p ∷ ps) c d = (e : Content) × P c e (deeply_resolved c (filled xs p.environment)) (deeply_resolved c (filled xs p.predicate)) × LeavesAll P xs ps e d

-- one candidate alone is met, and its certainty is sure: its equations, its constraints and what its goals leave, and nothing
-- else, lead from the first table to the second
pub record IsForced (offers : Tree → Tree → List Candidate) (Below : GoalsLeave) (c d : Content) (e g : Tree) : Type 0 where
  pub candidate : Candidate
  pub only : OnlyIsMet c candidate (offers e g)
  pub sure : candidate.certainty ≡ certain
  pub values : List Tree
  pub made : Content
  pub equal : Content
  pub met : Content
  pub freshens : Freshens c.universe candidate.fresh values c made
  pub equates : EquatesAll values candidate.equations made equal
  pub adds : AddsAll values candidate.constraints equal met
  pub goals : LeavesAll Below values candidate.goals met d
