-- What holds of a candidate that is run: its parts, with the values in place of its fresh variables.
use Rattle.std.specs.Prelude.{List, [], ◌∷◌, map}
use Rattle.std.specs.Prelude.{false}
use Rattle.nts_model.specs.declared.labels.Relation.{Relation}
use Rattle.nts_model.specs.Terms.Trees.{Tree}
use Rattle.nts_model.specs.Tables.Contents.{Content}
use Rattle.nts_model.specs.Tables.Holding.{HoldsConstraint, Continues}
use Rattle.nts_model.specs.Derivations.Related.{Constraint}
use Rattle.nts_model.specs.Derivations.Sequents.{Premise}
use Rattle.nts_model.specs.Derivations.Rules.{Mode, Equation, Meaning, GoalKind, step_kind}
use Rattle.nts_model.specs.Derivations.Proofs.{Assumed, passed}
use Rattle.nts_model.specs.Searching.Stacks.{IsProvedFrom, IsProvedFromAt}
use Rattle.nts_model.specs.Derivations.Proving.{HoldsEquationAt, IsHeldAt, HasFallingProofUnder, HasRankedProofUnder}
use Rattle.nts_theory.specs.Telling.{IsTermTable}
use Rattle.nts_store.specs.declared.nodes.NodeId.{NodeId}
use Rattle.nts_terms.specs.declared.handles.Goal.{Goal}
use Rattle.nts_store.specs.Growth.{tree_at}
use Rattle.nts_table.specs.Tables.{Table}
use Rattle.nts_unify.specs.Reading.{content_of}
use Rattle.nts_candidates.specs.declared.data.Equation.{Equation as EquationData}
use Rattle.nts_candidates.specs.declared.data.RegionConstraint.{RegionConstraint}
use Rattle.nts_candidates.specs.Offered.{equation_of, constraint_of}

-- under this table, and under each later one
pub record Stays (c : Content) (P : Content → Type 0) : Type 0 where
  pub later : (d : Content) → IsTermTable d → Continues c d → P d

-- with these values, an equation holds, a constraint is held, and a goal is proved
abbrev pub EquationHolds : List Tree → Equation → Content → Type 0
EquationHolds vs q d = HoldsEquationAt d vs q

abbrev pub ConstraintHolds : List Tree → Constraint → Content → Type 0
ConstraintHolds vs x d = IsHeldAt d vs x

-- the constraint between two trees; it is held
abbrev pub constraint_between : Relation → Tree → Tree → Constraint
constraint_between r a b = record { relation = r; left = a; right = b }

abbrev pub HoldsOutlives : Relation → Tree → Tree → Content → Type 0
HoldsOutlives r a b d = HoldsConstraint d (record { relation = r; left = a; right = b; is_visible = false })

abbrev pub PremiseHolds : Meaning → Mode → GoalKind → List Assumed → List Tree → Premise → Content → Type 0
PremiseHolds m mode z A vs p d = IsProvedFromAt m mode (passed (step_kind z p.source) A) d vs p

-- .. each of a list, now and later
abbrev pub EachStays : {A : Type 0} → Content → (A → Content → Type 0) → List A → Type 0
EachStays c P [] = Unit {0}
EachStays c P (x ∷ xs) = Stays c (P x) × EachStays c P xs

-- the equations hold, whose trees stand in the store a, and the values in the store b that has grown
abbrev pub EquatesEach : List Tree → List Tree → Table → List NodeId → List EquationData → Type 0
EquatesEach a b t vs qs = EachStays (content_of b t.entries) (EquationHolds (map (tree_at b) vs)) (map (equation_of a) qs)

abbrev pub Constrains : List Tree → List Tree → Table → List NodeId → List RegionConstraint → Type 0
Constrains a b t vs xs = EachStays (content_of b t.entries) (ConstraintHolds (map (tree_at b) vs)) (map (constraint_of a) xs)

-- a goal is proved from assumptions, now and later
abbrev pub StaysProved : Meaning → Mode → List Assumed → List Tree → Table → Goal → Type 0
StaysProved m mode A ts t g =
    Stays (content_of ts t.entries) (λ d. IsProvedFrom m mode A d (tree_at ts g.param_env.node) (tree_at ts g.predicate.node))

-- a goal has a ranked proof under a table, the hypotheses of which the table holds
abbrev pub HasRankedProofIn : Meaning → Mode → List Tree → Table → Goal → Type 0
HasRankedProofIn m mode ts t g =
    HasRankedProofUnder m mode (content_of ts t.entries) (tree_at ts g.param_env.node) (tree_at ts g.predicate.node)

-- a goal has a ranked proof under a table, the hypotheses of which the table holds, in which each step leads to a lower rank
abbrev pub HasFallingProofIn : Meaning → Mode → List Tree → Table → Goal → Type 0
HasFallingProofIn m mode ts t g =
    HasFallingProofUnder m mode (content_of ts t.entries) (tree_at ts g.param_env.node) (tree_at ts g.predicate.node)
