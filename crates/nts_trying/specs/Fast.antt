-- What is answered at once.
use Rattle.std.specs.Prelude.{◌≡◌, false}
use Rattle.nts_model.specs.Derivations.Handlers.{Handler}
use Rattle.nts_certainty.specs.declared.certainty.Certainty.{Certainty}
use Rattle.nts_store.specs.Growth.{tree_at}
use Rattle.nts_terms.specs.declared.cx.Cx.{Cx}
use Rattle.nts_terms.specs.declared.handles.Goal.{Goal}
use Rattle.nts_candidates.specs.Offered.{certainty_of}
use Rattle.nts_meaning.specs.Evaluation.{IsAskedGoal}

-- a goal of the store, which has fast paths, may be answered so at once: the handler's candidates would answer it, and its fast
-- path says so
pub record IsFastAnswer (h : Handler) (a : Cx) (g : Goal) (c : Certainty) : Type 0 where
  pub on : a.disable_fast_paths ≡ false
  pub asked : IsAskedGoal a.nodes g
  pub answers : h.at_once (tree_at a.nodes g.param_env.node) (tree_at a.nodes g.predicate.node) (certainty_of c)
