-- Candidates whose equations have aliases: such equations are related, which leaves goals, once the others were made equal. In coherence
-- these are asked if each says that an alias is equal to a term without aliases, or to an alias; else the candidate is in doubt.
use Rattle.std.specs.Prelude.{◌≡◌, ◌⊎◌, ◌&&◌, ◌||◌, ℕ, Bool, true, false, if◌then◌else◌, Option, Some, List, [], ◌∷◌, ◌++◌, map}
use Rattle.nts_model.specs.declared.labels.Variance.{Variance}
use Rattle.nts_model.specs.declared.labels.Variance.TheVariants as variance
use Rattle.nts_model.specs.declared.labels.TyHead.{TyHead}
use Rattle.nts_model.specs.declared.labels.Label.TheVariants as label
use Rattle.nts_model.specs.Lists.{Among}
use Rattle.nts_model.specs.Terms.Trees.{Tree, NodeKind, of_sort, kind_of, label_of, any_label, is_alias}
use Rattle.nts_model.specs.Terms.Substitutions.{filled}
use Rattle.nts_model.specs.Tables.Contents.{Content}
use Rattle.nts_model.specs.Tables.Resolving.{Knows, deeply_resolved}
use Rattle.nts_model.specs.Tables.Holding.{Continues}
use Rattle.nts_model.specs.Derivations.Related.{Constraint, alias_goal}
use Rattle.nts_model.specs.Derivations.Sequents.{Premise, inductive}
use Rattle.nts_model.specs.Derivations.Rules.{Meaning, Mode, coherence, Equation, related, alike, relating, GoalKind, goal_kind, step_kind, choice, Replaced, statement_of}
use Rattle.nts_model.specs.Derivations.Proofs.{Assumed, passed}
use Rattle.nts_model.specs.Derivations.Proving.{IsTermOf, AreEquated, IsHeldAt}
use Rattle.nts_model.specs.Derivations.Handlers.{Candidate, premise_by, AreValuesOf}
use Rattle.nts_model.specs.Searching.Stacks.{IsProvedFrom, IsProvedFromAt}
use Rattle.nts_model.specs.Refutation.Choosing.{Freshens, EquatesAll, left_of, right_of}
use Rattle.nts_model.specs.Refutation.Forcing.{AddsAll}
use Rattle.nts_variance_model.specs.Variances.Relations.{Relating}
use Rattle.nts_variance_model.specs.Variances.AnsweredGoals.{RelatedUnder}
use Rattle.nts_variance_model.specs.Variances.Leaving.{Refuses}
use Rattle.nts_variance_model.specs.Variances.RelatingBy.{AreGoalsOf}
use Rattle.nts_theory.specs.Subtyping.{LeavesGoals}
use Rattle.nts_theory.specs.Aliasing.{SaysEqual}
use Rattle.nts_theory.specs.Posing.{TakesValues}

-- in coherence an inductive cycle is in doubt, and elsewhere it has no solution; there alone subtypes are related
abbrev pub IsCutIn : Mode → Type 0
IsCutIn mode = mode ≡ coherence → ⊥

-- what may be an argument: a type, a region or a const
abbrev pub may_be_argument : Option NodeKind → Bool
may_be_argument (Some (of_sort s)) = true
may_be_argument k = false

-- an equation relates two arguments, and an alias stands in one of them
abbrev pub relates_aliases : Equation → Bool
relates_aliases (related a b) = may_be_argument (kind_of b) && (any_label is_alias a || any_label is_alias b)
relates_aliases (alike a b) = false

-- the equations that do, and the others
abbrev pub aliased_equations : List Equation → List Equation
aliased_equations [] = []
aliased_equations (q ∷ qs) = if relates_aliases q then q ∷ aliased_equations qs else aliased_equations qs

abbrev pub plain_equations : List Equation → List Equation
plain_equations [] = []
plain_equations (q ∷ qs) = if relates_aliases q then plain_equations qs else q ∷ plain_equations qs

-- no equation of a candidate relates aliases
abbrev pub HasPlainEquations : Candidate → Type 0
HasPlainEquations x = aliased_equations x.equations ≡ []

-- a candidate with the plain ones of its equations
abbrev pub plain_part : Candidate → Candidate
plain_part x = record x { equations = plain_equations x.equations }

-- a candidate's goals, with the values in place of its positions
abbrev pub goals_with : List Tree → List Premise → List Premise
goals_with vs ps = map (premise_by (filled vs)) ps

-- the two sides of each equation, with the values in place of positions, as pairs that do not vary
abbrev pub pair_with : List Tree → Equation → Relating
pair_with vs q = record { variance = variance.Invariant; left = filled vs (left_of q); right = filled vs (right_of q) }

abbrev pub pairs_with : List Tree → List Equation → List Relating
pairs_with vs qs = map (pair_with vs) qs

-- the values are new variables under which a candidate's equations and constraints hold
pub record IsBegun (c : Content) (x : Candidate) (vs : List Tree) (met : Content) : Type 0 where
  pub made : Content
  pub equal : Content
  pub freshens : Freshens c.universe x.fresh vs c made
  pub equates : EquatesAll vs x.equations made equal
  pub adds : AddsAll vs x.constraints equal met

-- .. so it is for the plain part of a candidate, and then the equations with aliases were related, which left premises in the
-- environment e: these come before the candidate's goals
pub record IsBegunByRelating (declared : ℕ → List Variance) (c : Content) (e : Tree) (x : Candidate) (met : Content) (ps : List Premise) : Type 0 where
  pub some : HasPlainEquations x → ⊥
  pub values : List Tree
  pub before : Content
  pub begun : IsBegun c (plain_part x) values before
  pub pairs : List Relating
  pub related : LeavesGoals declared before met (pairs_with values (aliased_equations x.equations)) pairs
  pub goals : List Tree
  pub of_pairs : AreGoalsOf pairs goals
  pub premises : ps ≡ map (relating e) goals ++ goals_with values x.goals

-- goals of a table that say each that an alias is equal to a term in which no alias stands, or to another alias
pub record AreEqualities (c : Content) (gs : List Tree) : Type 0 where
  pub equal : (g : Tree) → Among gs g → SaysEqual g
  pub knows : (g : Tree) → Among gs g → Knows c g

-- the equations of a candidate with aliases were related, and the goals which that left are asked if they are such equalities
pub record IsBegunByEqualities (declared : ℕ → List Variance) (c : Content) (e : Tree) (x : Candidate) (met : Content) (ps : List Premise) : Type 0 where
  pub all : List Premise
  pub begun : IsBegunByRelating declared c e x met all
  pub continues : Continues begun.before met
  pub asked : AreEqualities met begun.goals × (ps ≡ all) ⊎ (ps ≡ goals_with begun.values x.goals)

-- no settled solution of the table in which the plain part of a candidate holds relates its equations with aliases
pub record IsUnrelated (declared : ℕ → List Variance) (c : Content) (x : Candidate) : Type 0 where
  pub some : HasPlainEquations x → ⊥
  pub values : List Tree
  pub before : Content
  pub begun : IsBegun c (plain_part x) values before
  pub refused : Refuses declared before (pairs_with values (aliased_equations x.equations))

-- two types that are built by different constructors, and neither of which is an alias
pub record AreTypesApart (a b : Tree) : Type 0 where
  pub left : TyHead
  pub right : TyHead
  pub of_left : label_of a ≡ Some (label.Ty left)
  pub of_right : label_of b ≡ Some (label.Ty right)
  pub apart : left ≡ right → ⊥
  pub left_plain : is_alias (label.Ty left) ≡ false
  pub right_plain : is_alias (label.Ty right) ≡ false

-- an equation of the candidate relates two such types
pub record HasTypesApart (x : Candidate) : Type 0 where
  pub left : Tree
  pub right : Tree
  pub equation : Among x.equations (related left right)
  pub apart : AreTypesApart left right

-- a candidate none of whose equations relates aliases is begun: its equations and constraints hold
abbrev pub IsBegunPlainly : Content → Candidate → Content → List Premise → Type 0
IsBegunPlainly c x met ps = (vs : List Tree) × HasPlainEquations x × IsBegun c x vs met × (ps ≡ goals_with vs x.goals)

-- a candidate is begun in an environment, and these premises are left to be asked: plainly; or by relating, in coherence as far as that
-- leaves equalities
abbrev pub Begins : (ℕ → List Variance) → Mode → Content → Tree → Candidate → Content → List Premise → Type 0
Begins declared mode c e x met ps =
    IsBegunPlainly c x met ps ⊎ IsCutIn mode × IsBegunByRelating declared c e x met ps ⊎ (mode ≡ coherence) × IsBegunByEqualities declared c e x met ps

-- two terms were related under a table, and what that left is proved there in the environment e, behind an inductive step
pub record IsRelatedFrom (m : Meaning) (mode : Mode) (A : List Assumed) (c : Content) (e a b : Tree) : Type 0 where
  pub left : IsTermOf c a
  pub right : IsTermOf c b
  pub goals : List Tree
  pub proved : (g : Tree) → Among goals g → IsTermOf c g × IsProvedFrom m mode (passed inductive A) c e g
  pub related : RelatedUnder m.variances c (map (deeply_resolved c) goals) variance.Invariant a b

-- .. an equation holds so for these values, or its sides are one
abbrev pub HoldsEquationFrom : Meaning → Mode → List Assumed → Content → Tree → List Tree → Equation → Type 0
HoldsEquationFrom m mode A c e vs (related a b) = AreEquated c vs a b ⊎ IsRelatedFrom m mode A c e (filled vs a) (filled vs b)
HoldsEquationFrom m mode A c e vs (alike a b) = AreEquated c vs a b

-- what a premise says is proved with terms in the places of its aliases, each of which is proved to be equal to its alias by a step of
-- the premise's kind
pub record IsProvedPut (m : Meaning) (mode : Mode) (A : List Assumed) (c : Content) (k : GoalKind) (p : Premise) : Type 0 where
  pub environment : IsTermOf c p.environment
  pub predicate : IsTermOf c p.predicate
  pub says : TakesValues (statement_of p.predicate)
  pub goal : Tree
  pub replaced : Replaced (λ a v. IsTermOf c v × IsProvedFrom m mode (passed (step_kind k (let q = choice k p a v in q.source)) A) c p.environment (alias_goal variance.Invariant a v)) p.predicate goal
  pub proved : IsProvedFrom m mode (passed (step_kind k p.source) A) c p.environment goal

-- a candidate for the goal g of the environment e holds under the table: its equations do, and each of its goals is proved, as it is or
-- with terms in the places of its aliases
pub record HoldsByRelating (m : Meaning) (mode : Mode) (A : List Assumed) (c : Content) (e g : Tree) (d : Candidate) : Type 0 where
  pub chosen : List Tree
  pub values : AreValuesOf d.fresh chosen
  pub known : (v : Tree) → Among chosen v → Knows c v
  pub equations : (q : Equation) → Among d.equations q → HoldsEquationFrom m mode A c e chosen q
  pub constraints : (x : Constraint) → Among d.constraints x → IsHeldAt c chosen x
  pub goals : (q : Premise) → Among d.goals q → IsProvedFromAt m mode (passed (step_kind (goal_kind m g) q.source) A) c chosen q ⊎ IsProvedPut m mode A c (goal_kind m g) (premise_by (filled chosen) q)
