-- What the reasons of a goal say.
use Rattle.std.specs.Prelude.{◌≡◌, ◌⊎◌, ℕ, ◌+◌, ◌<◌, List, [], ◌∷◌, ◌++◌, length, take}
use Rattle.nts_model.specs.declared.labels.Variance.{Variance}
use Rattle.nts_model.specs.Terms.Trees.{Tree}
use Rattle.nts_model.specs.Derivations.Sequents.{Premise}
use Rattle.nts_model.specs.Derivations.Rules.{Mode, coherence, statement_of}
use Rattle.nts_model.specs.Tables.Contents.{Content}
use Rattle.nts_model.specs.Refutation.Choosing.{MeetsEquations, IsCandidateMet}
use Rattle.nts_model.specs.Derivations.Handlers.{Handler, Candidate, certain}
use Rattle.nts_store.specs.Growth.{tree_at}
use Rattle.nts_certainty.specs.Certainties.{ambiguous}
use Rattle.nts_theory.specs.Telling.{IsTraitStatement}
use Rattle.nts_theory.specs.RelatingCandidates.{HasPlainEquations, IsBegunByRelating, IsUnrelated, plain_part}
use Rattle.nts_unify.specs.Reading.{content_of}
use Rattle.nts_table.specs.Tables.{Table}
use Rattle.nts_terms.specs.declared.handles.Goal.{Goal}
use Rattle.nts_terms.specs.declared.modes.TypingMode.{TypingMode}
use Rattle.nts_terms.specs.Modes.{mode_of}
use Rattle.nts_candidates.specs.Offered.{certainty_of}
use Rattle.nts_delegate.specs.Candidates.{IsAskedIn}
use Rattle.nts_evaluation.specs.nts_meaning.specs.Meant.{offers_of}
use Rattle.nts_evaluation.specs.nts_trying.specs.Opening.{IsOpenedTo, CannotOpen}
use Rattle.nts_candidates.specs.declared.reasons.Reason.{Reason}
use Rattle.nts_candidates.specs.declared.reasons.Reason.TheVariants as reason

-- some world of the table meets the first n equations of the candidate
abbrev pub MeetsFirst : ℕ → Content → Candidate → Type 0
MeetsFirst n c x = MeetsEquations c x.fresh (take n x.equations)

-- the equation of the number n can't be met together with those before it, which can be, if there are any
pub record StopsAtEquation (n : ℕ) (c : Content) (x : Candidate) : Type 0 where
  pub within : 0 < length x.equations → n < length x.equations
  pub before : (n ≡ 0) ⊎ MeetsFirst n c x
  pub unmet : MeetsFirst (n + 1) c x → ⊥

-- what a reason says of a candidate that is tried in a table, if none of its equations relates aliases
abbrev pub ExplainsPlainly : Content → Candidate → Reason → Type 0
ExplainsPlainly c x (reason.Equation n) = StopsAtEquation n c x
ExplainsPlainly c x (reason.Condition n g y) = IsCandidateMet c x × (n < length x.goals)
ExplainsPlainly c x reason.Leak = IsCandidateMet c x
ExplainsPlainly c x (reason.Holds y) = IsCandidateMet c x × (certainty_of y ≡ x.certainty)

-- a candidate can't be begun: no world of the table meets its equations without aliases, or no settled solution relates the others
abbrev pub CannotBegin : (ℕ → List Variance) → Content → Candidate → Type 0
CannotBegin declared c x = (IsCandidateMet c (plain_part x) → ⊥) ⊎ IsUnrelated declared c x

-- a candidate with the first n of its equations, which asks for no goals
abbrev pub first_part : ℕ → Candidate → Candidate
first_part n x = record x { equations = take n x.equations; goals = []; certainty = certain }

-- a candidate was begun in the environment e, its equations with aliases by relating them, and these goals are left
pub record WasBegun (declared : ℕ → List Variance) (c : Content) (e : Tree) (x : Candidate) : Type 0 where
  pub met : Content
  pub left : List Premise
  pub begun : IsBegunByRelating declared c e x met left

-- .. or none of its equations relates aliases, and they are met
abbrev pub IsBegunSo : (ℕ → List Variance) → Content → Tree → Candidate → Type 0
IsBegunSo declared c e x = HasPlainEquations x × IsCandidateMet c x ⊎ WasBegun declared c e x

-- with the equation of the number n and those before it the candidate can't be begun, and with those before it, if there are any, it is
pub record StopsAtRelating (declared : ℕ → List Variance) (n : ℕ) (c : Content) (e : Tree) (x : Candidate) : Type 0 where
  pub within : 0 < length x.equations → n < length x.equations
  pub before : (n ≡ 0) ⊎ IsBegunSo declared c e (first_part n x)
  pub unbegun : CannotBegin declared c (first_part (n + 1) x)

-- what a reason says of a candidate of whose equations some relate aliases. A condition is one of the goals that are left; in coherence the
-- candidate may be in doubt
abbrev pub ExplainsRelated : (ℕ → List Variance) → Mode → Content → Tree → Candidate → Reason → Type 0
ExplainsRelated declared mode c e x (reason.Equation n) = StopsAtRelating declared n c e x
ExplainsRelated declared mode c e x (reason.Condition n g y) = (w : WasBegun declared c e x) × (n < length w.left)
ExplainsRelated declared mode c e x reason.Leak = WasBegun declared c e x
ExplainsRelated declared mode c e x (reason.Holds y) = WasBegun declared c e x × (certainty_of y ≡ x.certainty) ⊎ (mode ≡ coherence) × (y ≡ ambiguous)

abbrev pub Explains : (ℕ → List Variance) → Mode → Content → Tree → Candidate → Reason → Type 0
Explains declared mode c e x r = HasPlainEquations x × ExplainsPlainly c x r ⊎ (HasPlainEquations x → ⊥) × ExplainsRelated declared mode c e x r

-- a reason for each of the candidates, in their order
pub data ExplainsEach (declared : ℕ → List Variance) (mode : Mode) (c : Content) (e : Tree) : List Candidate → List Reason → Type 0 where
  none : ExplainsEach declared mode c e [] []
  more : {xs : List Candidate} {rs : List Reason} (x : Candidate) (r : Reason) → ExplainsEach declared mode c e xs rs → Explains declared mode c e x r → ExplainsEach declared mode c e (xs ++ x ∷ []) (rs ++ r ∷ [])

-- a goal of which reasons are told: handlers are asked for it, and it says that a trait holds
pub record IsExplained (ts : List Tree) (g : Goal) : Type 0 where
  pub asked : IsAskedIn ts g
  pub statement : IsTraitStatement (statement_of (tree_at ts g.predicate.node))

-- the goal of the table t and the store a is opened, and there is a reason for each candidate that the handler offers for it then;
-- or there is no reason, since it can't be opened, or since it is no goal of which reasons are told
pub data GivesReasons (h : Handler) (declared : ℕ → List Variance) (mode : TypingMode) (a : List Tree) (t : Table) (g : Goal) : List Reason → Type 0 where
  of_candidates : {rs : List Reason} (b : List Tree) (u : Table) (o : Goal) → IsOpenedTo a b t u g o → IsExplained b o
      → ExplainsEach declared (mode_of mode) (content_of b u.entries) (tree_at b o.param_env.node) (offers_of h (mode_of mode) b o) rs → GivesReasons h declared mode a t g rs
  is_unasked : (b : List Tree) (u : Table) (o : Goal) → IsOpenedTo a b t u g o → (IsExplained b o → ⊥) → GivesReasons h declared mode a t g []
  is_unopened : CannotOpen (tree_at a g.predicate.node) → GivesReasons h declared mode a t g []
