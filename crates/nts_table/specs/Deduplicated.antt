-- How the region constraints of a table are told, each once, by their terms.
use Rattle.std.specs.Prelude.{◌≡◌, ◌⊎◌, List, [], ◌∷◌, ◌++◌, map}
use Rattle.nts_model.specs.Terms.Trees.{Tree}
use Rattle.nts_model.specs.Tables.Recording.{SaysNothingNew}
use Rattle.nts_store.specs.Growth.{IsIn}
use Rattle.nts_unify.specs.declared.contents.Constraint.{Constraint}
use Rattle.nts_table.specs.declared.deduplicated.Said.{Said}
use Rattle.nts_unify.specs.Reading.{recorded_of}

-- what a constraint says, by its terms
abbrev pub said : Constraint → Said
said x = record { relation = x.relation; left = x.left; right = x.right }

pub record SidesIn (ts : List Tree) (x : Constraint) : Type 0 where
  pub left : IsIn ts x.left
  pub right : IsIn ts x.right

abbrev pub AllSidesIn : List Tree → List Constraint → Type 0
AllSidesIn ts [] = Unit {0}
AllSidesIn ts (x ∷ xs) = SidesIn ts x × AllSidesIn ts xs

-- one more constraint is told, if it says something new after those told
abbrev pub TellsConstraint : List Tree → List Constraint → List Constraint → Constraint → Type 0
TellsConstraint ts old new x =
    (SaysNothingNew (map (recorded_of ts) old) (recorded_of ts x) × (new ≡ old)) ⊎ ((SaysNothingNew (map (recorded_of ts) old) (recorded_of ts x) → ⊥) × (new ≡ old ++ x ∷ []))
