-- What a handler means that answers goals of one trait at once, beside the rules of another one: the trait holds of everything.
use Rattle.std.specs.Prelude.{◌≡◌, ◌⊎◌, ℕ, true}
use Rattle.nts_model.specs.Terms.Trees.{Tree, any_label, is_infer}
use Rattle.nts_model.specs.Derivations.Related.{pair}
use Rattle.nts_model.specs.Derivations.Handlers.{Handler, Certainty, certain}
use Rattle.nts_delegate.specs.Both.{either}
use Rattle.nts_marker.specs.Marking.{marks, marking}

-- a goal of the trait is a yes; or it may be in doubt, where a variable of a type, a number or a const stands in it
pub record IsKnownAtOnce (i : ℕ) (e g : Tree) (c : Certainty) : Type 0 where
  pub marked : marks i g ≡ true
  pub sure : (c ≡ certain) ⊎ (any_label is_infer (pair e g) ≡ true)

abbrev pub answering : ℕ → Handler → Handler
answering i h = record (either (marking i certain) h) { at_once = IsKnownAtOnce i }
