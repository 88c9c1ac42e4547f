-- How the candidates of a decided goal fare in the table of its query: which of them a world meets, and what becomes of the
-- goals of those.
use Rattle.std.specs.Prelude.{ℕ, ◌<◌, Bool, true, false, List, [], ◌∷◌}
use Rattle.nts_model.specs.Terms.Trees.{Tree, IsFormed}
use Rattle.nts_model.specs.Lists.{Among}
use Rattle.nts_model.specs.Terms.Substitutions.{filled}
use Rattle.nts_model.specs.Tables.Contents.{Content}
use Rattle.nts_model.specs.Tables.Resolving.{Knows, IsSound, deeply_resolved}
use Rattle.nts_model.specs.Tables.Solvable.{IsSolvable}
use Rattle.nts_model.specs.Derivations.Sequents.{Premise}
use Rattle.nts_model.specs.Derivations.Rules.{Mode}
use Rattle.nts_model.specs.Derivations.Handlers.{Handler, Candidate}
use Rattle.nts_model.specs.Refutation.Choosing.{IsCandidateMet}
use Rattle.nts_theory.specs.RelatingCandidates.{IsBegun, goals_with}
use Rattle.nts_decisions.specs.Deciding.{IsGoalDecided}
use Rattle.nts_decisions.specs.Queries.{HasNoVariables}

-- goals of a table, each decided lower than n as the table knows it: all yes, or yes up to one that is no
pub data AreDecidedIn (h : Handler) (mode : Mode) (n : ℕ) (d : Content) : List Premise → Bool → Type 0 where
  none_asked : AreDecidedIn h mode n d [] true
  next_yes : {p : Premise} {ps : List Premise} {b : Bool} (m : ℕ) → m < n → IsGoalDecided h mode m (deeply_resolved d p.environment) (deeply_resolved d p.predicate) true → AreDecidedIn h mode n d ps b → AreDecidedIn h mode n d (p ∷ ps) b
  next_no : {p : Premise} {ps : List Premise} (m : ℕ) → m < n → IsGoalDecided h mode m (deeply_resolved d p.environment) (deeply_resolved d p.predicate) false → AreDecidedIn h mode n d (p ∷ ps) false

-- a premise of the table, in an environment without variables
pub record IsOfTable (d : Content) (p : Premise) : Type 0 where
  pub environment : HasNoVariables p.environment
  pub knows : Knows d p.predicate
  pub formed : IsFormed (deeply_resolved d p.predicate)

pub record AreDecidedHere (h : Handler) (mode : Mode) (n : ℕ) (d : Content) (ps : List Premise) (b : Bool) : Type 0 where
  pub decided : AreDecidedIn h mode n d ps b
  pub each : (p : Premise) → Among ps p → IsOfTable d p

-- a candidate that was begun, and the goals that it asks for: the table knows them
pub record IsBegunHere (c : Content) (x : Candidate) (chosen : List Tree) (met : Content) : Type 0 where
  pub begun : IsBegun c x chosen met
  pub sound : IsSound met
  pub solvable : IsSolvable met
  pub knows : (p : Premise) → Among x.goals p → Knows met (filled chosen p.predicate)
  pub formed : (p : Premise) → Among x.goals p → IsFormed (deeply_resolved met (filled chosen p.predicate))

-- no world meets it, and it is decided no; or one does, and its goals are decided lower than n
pub data Fares (h : Handler) (mode : Mode) (n : ℕ) (c : Content) (x : Candidate) : Bool → Type 0 where
  no_world : (IsCandidateMet c x → ⊥) → Fares h mode n c x false
  by_goals : {b : Bool} → IsCandidateMet c x → ((chosen : List Tree) (met : Content) → IsBegunHere c x chosen met → AreDecidedHere h mode n met (goals_with chosen x.goals) b) → Fares h mode n c x b

-- all fail; or all but one, which holds
pub data OneFares (h : Handler) (mode : Mode) (n : ℕ) (c : Content) : List Candidate → Bool → Type 0 where
  no_more : OneFares h mode n c [] false
  next_fails : {x : Candidate} {xs : List Candidate} {b : Bool} → Fares h mode n c x false → OneFares h mode n c xs b → OneFares h mode n c (x ∷ xs) b
  next_holds : {x : Candidate} {xs : List Candidate} → Fares h mode n c x true → OneFares h mode n c xs false → OneFares h mode n c (x ∷ xs) true
