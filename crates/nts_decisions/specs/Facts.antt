-- Facts: goals with variables for which a candidate without goals is offered whose equations some values meet.
use Rattle.std.specs.Prelude.{◌≡◌, ℕ, false, List, [], ◌∷◌}
use Rattle.nts_model.specs.declared.labels.VariableKind.{VariableKind}
use Rattle.nts_model.specs.declared.labels.Leaf.{Leaf}
use Rattle.nts_model.specs.declared.labels.Leaf.TheVariants as leaf
use Rattle.nts_model.specs.Terms.Trees.{Tree}
use Rattle.nts_model.specs.Terms.Substitutions.{leaf_tree, filled_under}
use Rattle.nts_model.specs.Lists.{Among}
use Rattle.nts_model.specs.Derivations.Related.{pair}
use Rattle.nts_model.specs.Derivations.Rules.{Mode, Equation}
use Rattle.nts_model.specs.Derivations.Handlers.{Handler, Candidate, AreValuesOf, IsAsked}
use Rattle.nts_model.specs.Tables.Contents.{Content}
use Rattle.nts_model.specs.Tables.Levels.{AreCurrent}
use Rattle.nts_model.specs.Tables.Resolving.{Knows, IsSound}
use Rattle.nts_model.specs.Tables.Worlds.{IsValue}
use Rattle.nts_model.specs.Refutation.Choosing.{left_of, right_of, IsCandidateMet}
use Rattle.nts_model.specs.Refutation.Opening.{binds}
use Rattle.nts_model.specs.Canonical.Inputs.{Input}
use Rattle.nts_theory.specs.Telling.{IsInputFor, IsTraitGoal}
use Rattle.nts_decisions.specs.Deciding.{blurred, blurred_environment, IsUniform}

-- a value for each variable
pub record Valuation : Type 0 where
  pub value : VariableKind → ℕ → Tree
  pub fits : (k : VariableKind) (n : ℕ) → IsValue k (value k n)

abbrev pub valued : Valuation → Leaf → Tree
valued v (leaf.Variable k n) = v.value k n
valued v l = leaf_tree l

-- values for the goal's variables and for the candidate's own make the sides of each of its equations one but for regions
pub record CanBeMet (x : Candidate) : Type 0 where
  pub valuation : Valuation
  pub values : List Tree
  pub fit : AreValuesOf x.fresh values
  pub equal : (q : Equation) → Among x.equations q → blurred (filled_under (valued valuation) values (left_of q)) ≡ blurred (filled_under (valued valuation) values (right_of q))

-- no values do, for any candidate of the list
abbrev pub NoneCanBeMet : List Candidate → Type 0
NoneCanBeMet [] = Unit {0}
NoneCanBeMet (x ∷ xs) = (CanBeMet x → ⊥) × NoneCanBeMet xs

-- a trait goal that binds nothing and holds no alias; it may hold variables. The handler answers all goals that are it but for
-- regions with the same candidates but for regions, which are certain
pub record IsOpenGoal (h : Handler) (mode : Mode) (e g : Tree) : Type 0 where
  pub asked : IsAsked e g
  pub trait_goal : IsTraitGoal e g
  pub binds_nothing : binds g ≡ false
  pub candidates : List Candidate
  pub uniform : IsUniform h mode (blurred_environment e) (blurred g) candidates

-- a candidate without goals is offered that a world of the table meets
pub record IsFactIn (h : Handler) (mode : Mode) (c : Content) (e g : Tree) : Type 0 where
  pub goal : IsOpenGoal h mode e g
  pub candidate : Candidate
  pub offered : Among (h.offers mode e g) candidate
  pub no_goals : candidate.goals ≡ []
  pub met : IsCandidateMet c candidate

-- .. and no values meet another one
pub data IsOnlyMet (c : Content) : List Candidate → Type 0 where
  here : {x : Candidate} {xs : List Candidate} → x.goals ≡ [] → IsCandidateMet c x → NoneCanBeMet xs → IsOnlyMet c (x ∷ xs)
  later : {x : Candidate} {xs : List Candidate} → (CanBeMet x → ⊥) → IsOnlyMet c xs → IsOnlyMet c (x ∷ xs)

pub record IsOnlyFactIn (h : Handler) (mode : Mode) (c : Content) (e g : Tree) : Type 0 where
  pub goal : IsOpenGoal h mode e g
  pub only : IsOnlyMet c (h.offers mode e g)

-- a table that knows the goal, which is asked there as this input
pub record IsAskedAs (c : Content) (e g : Tree) (i : Input) : Type 0 where
  pub input : IsInputFor c e g i
  pub knows : Knows c (pair e g)
  pub sound : IsSound c
  pub current : AreCurrent c
