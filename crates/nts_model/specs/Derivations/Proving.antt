-- What is proved under a table.
use Rattle.std.specs.Prelude.{◌≡◌, ℕ, false, List, [], ◌∷◌, map, Some, Contains}
use Rattle.nts_model.specs.declared.labels.Relation.{Relation}
use Rattle.nts_model.specs.declared.labels.Relation.TheVariants as relation
use Rattle.nts_model.specs.declared.labels.VariableKind.{VariableKind}
use Rattle.nts_model.specs.Terms.Trees.{Tree, kind_of, any_argument, FitsPlace, IsClosed, IsFormed}
use Rattle.nts_model.specs.Tables.Contents.{Content, Recorded, known, state_of, kind_at}
use Rattle.nts_model.specs.Tables.Resolving.{deeply_resolved, Knows}
use Rattle.nts_model.specs.Terms.Fitting.{Fits}
use Rattle.nts_model.specs.Tables.Alike.{AreAlike}
use Rattle.nts_model.specs.Tables.Holding.{HoldsConstraint}
use Rattle.nts_model.specs.Terms.Substitutions.{filled}
use Rattle.nts_model.specs.Derivations.Related.{Constraint}
use Rattle.nts_model.specs.Lists.{Among}
use Rattle.nts_model.specs.Derivations.Sequents.{Premise, Sequent}
use Rattle.nts_model.specs.Derivations.Rules.{Equation, related, alike, Meaning, Mode}
use Rattle.nts_model.specs.Derivations.Proofs.{HasFallingProof, HasProof}
use Rattle.nts_model.specs.Derivations.Handlers.{Candidate, constraint_by, premise_by, AreValuesOf}

-- the values are closed terms that fit their variables, and the constraints are between terms of the table
pub record HoldsTerms (c : Content) : Type 0 where
  pub fitting : (n : ℕ) (t : Tree) (k : VariableKind) → state_of c n ≡ Some (known t) → kind_at c n ≡ Some k → Fits k t
  pub closed : (n : ℕ) (t : Tree) → state_of c n ≡ Some (known t) → IsClosed t
  pub formed : (n : ℕ) (t : Tree) → state_of c n ≡ Some (known t) → IsFormed t

-- terms of the table
pub record IsTermOf (c : Content) (t : Tree) : Type 0 where
  pub knows : Knows c t
  pub formed : IsFormed t

pub record AreConstraintsOf (c : Content) : Type 0 where
  pub left : (x : Recorded) → Contains c.constraints x → IsTermOf c x.left
  pub right : (x : Recorded) → Contains c.constraints x → IsTermOf c x.right

-- a recorded constraint under the table's values and roots; an equality in either order
abbrev pub read_constraint : Content → Recorded → Constraint
read_constraint c x = record { relation = x.relation; left = deeply_resolved c x.left; right = deeply_resolved c x.right }

-- .. as it would be recorded
abbrev pub recorded_as : Constraint → Recorded
recorded_as x = record { relation = x.relation; left = x.left; right = x.right; is_visible = false }

abbrev pub turned : Constraint → Constraint
turned x = record { relation = x.relation; left = x.right; right = x.left }

abbrev pub in_either_order : Relation → Constraint → List Constraint → List Constraint
in_either_order relation.Equal x xs = x ∷ turned x ∷ xs
in_either_order r x xs = x ∷ xs

abbrev pub read_constraints : Content → List Recorded → List Constraint
read_constraints c [] = []
read_constraints c (x ∷ xs) = in_either_order x.relation (read_constraint c x) (read_constraints c xs)

-- a goal under the table's values and roots, from the constraints of the table
abbrev pub sequent_at : Content → Tree → Tree → Sequent
sequent_at c e p =
    record {
      environment = deeply_resolved c e;
      predicate = deeply_resolved c p;
      constraints = read_constraints c c.constraints;
      hidden = [];
      open_goals = [];
    }

-- goals under the table's values and roots
abbrev pub read_goals : Content → List Premise → List Premise
read_goals c gs = map (premise_by (deeply_resolved c)) gs

-- .. and a goal that normalizes an alias, where these goals are left open
abbrev pub sequent_with : Content → Tree → Tree → List Premise → Sequent
sequent_with c e p gs = record (sequent_at c e p) { open_goals = read_goals c gs }

-- the goal under the table has a ranked proof whose hypotheses the table holds, and whose steps all lead to lower ranks
pub record HasFallingProofUnder (m : Meaning) (mode : Mode) (c : Content) (e p : Tree) : Type 0 where
  pub sequent : Sequent
  pub environment : sequent.environment ≡ deeply_resolved c e
  pub predicate : sequent.predicate ≡ deeply_resolved c p
  pub constraints : (x : Constraint) → Among sequent.constraints x → HoldsConstraint c (recorded_as x)
  pub no_hidden : sequent.hidden ≡ []
  pub no_open_goals : sequent.open_goals ≡ []
  pub proof : HasFallingProof m mode sequent

-- an equation between arguments holds under the table, for the values of a candidate's fresh variables
pub record AreEquated (c : Content) (vs : List Tree) (a b : Tree) : Type 0 where
  pub left : IsTermOf c (filled vs a)
  pub right : IsTermOf c (filled vs b)
  pub argument : FitsPlace any_argument (kind_of (filled vs a))
  pub alike : AreAlike c (filled vs a) (filled vs b)

abbrev pub HoldsEquationAt : Content → List Tree → Equation → Type 0
HoldsEquationAt c vs (related a b) = AreEquated c vs a b
HoldsEquationAt c vs (alike a b) = AreEquated c vs a b

-- a constraint is held for these values
pub record IsHeldAt (c : Content) (vs : List Tree) (x : Constraint) : Type 0 where
  pub left : IsTermOf c (filled vs x.left)
  pub right : IsTermOf c (filled vs x.right)
  pub held : HoldsConstraint c (recorded_as (constraint_by (filled vs) x))

-- what a candidate equates and constrains holds under the table, for terms of the table as values of its fresh variables
pub record HoldsButForGoals (c : Content) (d : Candidate) : Type 0 where
  pub chosen : List Tree
  pub values : AreValuesOf d.fresh chosen
  pub known : (v : Tree) → Among chosen v → Knows c v
  pub equations : (q : Equation) → Among d.equations q → HoldsEquationAt c chosen q
  pub constraints : (x : Constraint) → Among d.constraints x → IsHeldAt c chosen x

-- the goal under the table has a ranked proof whose hypotheses the table holds
pub record HasRankedProofUnder (m : Meaning) (mode : Mode) (c : Content) (e p : Tree) : Type 0 where
  pub sequent : Sequent
  pub environment : sequent.environment ≡ deeply_resolved c e
  pub predicate : sequent.predicate ≡ deeply_resolved c p
  pub constraints : (x : Constraint) → Among sequent.constraints x → HoldsConstraint c (recorded_as x)
  pub no_hidden : sequent.hidden ≡ []
  pub no_open_goals : sequent.open_goals ≡ []
  pub proof : HasProof m mode sequent
