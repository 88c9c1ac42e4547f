-- When canonical inputs are one.
use Rattle.std.specs.Prelude.{◌≡◌, List}
use Rattle.nts_model.specs.Terms.Trees.{Tree}
use Rattle.nts_terms.specs.declared.handles.AliasTerm.{AliasTerm}
use Rattle.nts_terms.specs.declared.handles.Ty.{Ty}
use Rattle.nts_store.specs.Growth.{tree_at}
use Rattle.nts_terms.specs.Modes.{mode_of}
use Rattle.nts_canonical.specs.declared.types.CanonicalInput.{CanonicalInput}
use Rattle.nts_terms.specs.Kinds.{tree_of_alias}
use Rattle.nts_canonical.specs.Forms.{form_of}

-- they stand for one form, in one universe and one mode
pub record AreOneInput (ts : List Tree) (a b : CanonicalInput) : Type 0 where
  pub form : form_of ts a ≡ form_of ts b
  pub universe : a.canonical.max_universe ≡ b.canonical.max_universe
  pub mode : mode_of a.typing_mode ≡ mode_of b.typing_mode

-- two hidden types are one, of one alias
pub record AreOnePair (ts : List Tree) (a b : AliasTerm × Ty) : Type 0 where
  pub alias : tree_of_alias ts a.0 ≡ tree_of_alias ts b.0
  pub hidden_type : tree_at ts a.1.node ≡ tree_at ts b.1.node

-- the same terms, kinds and mode once more
pub record IsInputCopy (a b : CanonicalInput) : Type 0 where
  pub goal : b.canonical.value.goal ≡ a.canonical.value.goal
  pub hidden : b.canonical.value.predefined_opaques_in_body.items ≡ a.canonical.value.predefined_opaques_in_body.items
  pub kinds : b.canonical.var_kinds.items ≡ a.canonical.var_kinds.items
  pub universe : b.canonical.max_universe ≡ a.canonical.max_universe
  pub mode : mode_of b.typing_mode ≡ mode_of a.typing_mode
