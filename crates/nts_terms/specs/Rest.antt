-- What stays of a context where its nodes grow.
use Rattle.std.specs.Prelude.{◌≡◌}
use Rattle.nts_terms.specs.declared.cx.Cx.{Cx}
use Rattle.nts_store.specs.Growth.{Extends}

-- all but the nodes
pub record KeepsRest (old new : Cx) : Type 0 where
  pub declarations : new.declarations ≡ old.declarations
  pub limit : new.recursion_limit ≡ old.recursion_limit
  pub steps : new.step_limit ≡ old.step_limit
  pub rounds : new.round_limit ≡ old.round_limit
  pub division : new.depth_division ≡ old.depth_division
  pub fast_paths : new.disable_fast_paths ≡ old.disable_fast_paths

-- the store has more terms at most, and what else it keeps is the same
pub record Grows (old new : Cx) : Type 0 where
  pub extends : Extends old.nodes new.nodes
  pub rest : KeepsRest old new
