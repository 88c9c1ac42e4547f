-- The goals that stand for a goal that is added.
use Rattle.std.specs.Prelude.{◌≡◌, ◌⊎◌, List, []}
use Rattle.nts_model.specs.Terms.Trees.{Tree}
use Rattle.nts_model.specs.Derivations.Rules.{KeepsAliases, statement_of}
use Rattle.nts_store.specs.Growth.{tree_at}
use Rattle.nts_terms.specs.declared.handles.Goal.{Goal}
use Rattle.nts_unify.specs.Entries.{Entries}
use Rattle.nts_unify.specs.Reading.{content_of}
use Rattle.nts_variance.specs.declared.along.Relating.{Relating}
use Rattle.nts_solver_relating.specs.Sides.{AreGoalsOfPairs}
use Rattle.nts_adding.specs.Putting.{PutsVariables}

-- the aliases of the goal stand as they are
abbrev pub KeepsGoal : List Tree → Goal → Type 0
KeepsGoal ts g = KeepsAliases (statement_of (tree_at ts g.predicate.node))

-- the goal h is the goal g with variables in the places of its aliases, and the goals gs say that each alias is equal to its variable
pub record PutsGoal (ts us : List Tree) (e f : Entries) (g : Goal) (gs : List Goal) (h : Goal) : Type 0 where
  pub pairs : List Relating
  pub puts : PutsVariables ts us e f g.predicate.node h.predicate.node pairs
  pub environment : h.param_env ≡ g.param_env
  pub goals : AreGoalsOfPairs us (content_of us f) g.param_env pairs gs

-- the goals gs and h stand for the goal g: it stands as it is, or with variables in the places of its aliases
abbrev pub StandFor : List Tree → List Tree → Entries → Entries → Goal → List Goal → Goal → Type 0
StandFor ts us e f g gs h =
    KeepsGoal ts g × (gs ≡ []) × (h ≡ g) × (f ≡ e)
    ⊎ (KeepsGoal ts g → ⊥) × PutsGoal ts us e f g gs h
