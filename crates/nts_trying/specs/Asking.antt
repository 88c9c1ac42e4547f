-- The goals of a candidate that are asked, as data.
use Rattle.std.specs.Prelude.{◌≡◌, ◌⊎◌, true, false, if◌then◌else◌, List, [], ◌∷◌}
use Rattle.nts_model.specs.Terms.Trees.{Tree}
use Rattle.nts_model.specs.Tables.Contents.{Content}
use Rattle.nts_model.specs.Derivations.Sequents.{Premise}
use Rattle.nts_model.specs.Derivations.Rules.{Mode, coherence, Meaning, GoalKind, step_kind}
use Rattle.nts_model.specs.Derivations.Proofs.{Assumed, passed}
use Rattle.nts_model.specs.Derivations.Proving.{IsTermOf}
use Rattle.nts_model.specs.Searching.Stacks.{IsProvedFrom}
use Rattle.nts_store.specs.Growth.{tree_at}
use Rattle.nts_terms.specs.declared.handles.Goal.{Goal}
use Rattle.nts_certainty.specs.declared.sources.GoalSource.{GoalSource}
use Rattle.nts_certainty.specs.Certainties.{ambiguous}
use Rattle.nts_certainty.specs.declared.certainty.Certainty.{Certainty}
use Rattle.nts_certainty.specs.declared.certainty.Certainty.TheVariants as certainty
use Rattle.nts_theory.specs.RelatingCandidates.{IsProvedPut}
use Rattle.nts_theory.specs.AskedGoals.{is_asked, all_asked, asked_in}
use Rattle.nts_meaning.specs.Evaluation.{goals_at}

abbrev pub IsAskedIn : List Tree → GoalSource × Goal → Type 0
IsAskedIn ts z = is_asked (tree_at ts z.1.predicate.node) ≡ true

abbrev pub asked_data : List Tree → List (GoalSource × Goal) → List (GoalSource × Goal)
asked_data ts [] = []
asked_data ts (z ∷ zs) = if is_asked (tree_at ts z.1.predicate.node) then z ∷ asked_data ts zs else asked_data ts zs

-- each of these goals is asked in that mode, and all are kept
pub record AreAllKept (ts : List Tree) (mode : Mode) (given kept : List (GoalSource × Goal)) (y : Certainty) : Type 0 where
  pub asked : asked_in mode (goals_at ts given) ≡ goals_at ts given
  pub same : kept ≡ given
  pub sure : y ≡ certainty.Yes

-- in coherence some are not asked as they stand: they are left out, and it is in doubt
pub record AreSomeLeftOut (ts : List Tree) (mode : Mode) (given kept : List (GoalSource × Goal)) (y : Certainty) : Type 0 where
  pub inside : mode ≡ coherence
  pub some : all_asked (goals_at ts given) ≡ false
  pub those : kept ≡ asked_data ts given
  pub doubt : y ≡ ambiguous

abbrev pub KeepsAsked : List Tree → Mode → List (GoalSource × Goal) → List (GoalSource × Goal) → Certainty → Type 0
KeepsAsked ts mode given kept y = AreAllKept ts mode given kept y ⊎ AreSomeLeftOut ts mode given kept y

-- what a goal of a candidate says is proved, as it is or with terms in the places of its aliases, from what is assumed at a goal of that
-- kind after a step
abbrev pub IsProvedAsked : Meaning → Mode → List Assumed → Content → GoalKind → Premise → Type 0
IsProvedAsked m mode A c k p =
    IsTermOf c p.environment × IsTermOf c p.predicate × IsProvedFrom m mode (passed (step_kind k p.source) A) c p.environment p.predicate
    ⊎ IsProvedPut m mode A c k p
