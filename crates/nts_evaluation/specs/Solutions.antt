-- What the answer to a goal at the root says of its solutions, and of an evaluation that was taken back.
use Rattle.std.specs.Prelude.{◌≡◌, ℕ, List}
use Rattle.nts_model.specs.declared.labels.Variance.{Variance}
use Rattle.nts_model.specs.Terms.Trees.{Tree}
use Rattle.nts_model.specs.Derivations.Handlers.{Handler, meaning}
use Rattle.nts_model.specs.Canonical.Inputs.{CanonicalInput as Form}
use Rattle.nts_model.specs.Answers.Responses.{Response}
use Rattle.nts_model.specs.Refutation.Containing.{Truth, AnswerContains, HasNoSolution}
use Rattle.nts_model.specs.Derivations.Rules.{coherence}
use Rattle.nts_theory.specs.Refutation.Refutation.{IsFair, RespectsLeaks, HasMetProof, HasNoSolutionIn, KeepsSolutionsOf}
use Rattle.nts_certainty.specs.declared.certainty.Certainty.{Certainty}
use Rattle.nts_certainty.specs.declared.certainty.Certainty.TheVariants as certainty
use Rattle.nts_certainty.specs.declared.certainty.OpaqueTypesJank.TheVariants as jank
use Rattle.nts_certainty.specs.declared.sources.HasChanged.{HasChanged}
use Rattle.nts_store.specs.Growth.{tree_at}
use Rattle.nts_terms.specs.declared.handles.Goal.{Goal}
use Rattle.nts_terms.specs.declared.modes.TypingMode.{TypingMode}
use Rattle.nts_terms.specs.Modes.{mode_of}
use Rattle.nts_unify.specs.Reading.{content_of}
use Rattle.nts_table.specs.Tables.{Table}
use Rattle.nts_meaning.specs.Telling.{Ruling}
use Rattle.nts_meaning.specs.Meant.{EvaluatesUnder}

-- the mode is coherence
abbrev pub IsCoherence : TypingMode → Type 0
IsCoherence mode = mode_of mode ≡ coherence

-- no solution of the table in which no alias stands for the goal's variables has a plain proof of the goal whose region constraints are
-- true
abbrev pub HasNoSolutionUnder : Handler → List Tree → Table → Goal → Type 0
HasNoSolutionUnder h ts t g = HasNoSolutionIn h (content_of ts t.entries) (tree_at ts g.param_env.node) (tree_at ts g.predicate.node)

-- each solution of the table in which the goal has such a proof is one of the later table, with values for what is new there
abbrev pub KeepsSolutionsUnder : Handler → List Tree → Table → List Tree → Table → Goal → Type 0
KeepsSolutionsUnder h a t b u g = KeepsSolutionsOf h (content_of a t.entries) (content_of b u.entries) (tree_at a g.param_env.node) (tree_at a g.predicate.node)

-- an answer contains each solution of a canonical input: values for its positions, without aliases, with which its goal has a plain
-- proof whose region constraints are true. And the input has none
abbrev pub ContainsEach : Handler → Form → Response → Type 0
ContainsEach h f r = (truth : Truth) → IsFair truth → RespectsLeaks h truth → (v : ℕ → List Variance) → AnswerContains truth (HasMetProof (meaning h v) truth) f r

abbrev pub HasNoInputSolution : Handler → Form → Type 0
HasNoInputSolution h f = (truth : Truth) → IsFair truth → RespectsLeaks h truth → (v : ℕ → List Variance) → HasNoSolution (HasMetProof (meaning h v) truth) f

-- the goal was evaluated with that certainty, and what that left of the table is gone
pub record WasEvaluated (h : Ruling) (mode : TypingMode) (a : List Tree) (t : Table) (g : Goal) (sure : Certainty) : Type 0 where
  pub store : List Tree
  pub after : Table
  pub changed : HasChanged
  pub evaluates : EvaluatesUnder h mode a t store after g sure changed

-- it is a yes, or in doubt for other reasons than that an opaque type may stand for itself
abbrev pub IsAllGood : Certainty → Type 0
IsAllGood certainty.Yes = Unit {0}
IsAllGood (certainty.Maybe i) = i.opaque_types_jank ≡ jank.AllGood
