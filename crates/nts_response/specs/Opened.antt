-- Open goals of a response, handed to who applies it.
use Rattle.std.specs.Prelude.{List}
use Rattle.nts_model.specs.Terms.Trees.{Tree}
use Rattle.nts_store.specs.Growth.{tree_at}
use Rattle.nts_store.specs.Filled.{HasValues}
use Rattle.nts_terms.specs.declared.handles.Goal.{Goal}
use Rattle.nts_candidates.specs.nts_certainty.specs.declared.sources.GoalSource.{GoalSource}
use Rattle.nts_response.specs.Forms.{HoldsOpen}

-- a goal of the store that holds no position beyond what was chosen
pub record IsOpenable (ts xs : List Tree) (g : GoalSource × Goal) : Type 0 where
  pub holds : HoldsOpen ts g
  pub environment : HasValues xs (tree_at ts g.1.param_env.node)
  pub predicate : HasValues xs (tree_at ts g.1.predicate.node)
