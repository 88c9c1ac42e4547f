-- Handlers that mean the same.
use Rattle.std.specs.Prelude.{◌≡◌, ◌↔◌, ℕ}
use Rattle.nts_model.specs.Terms.Trees.{Tree}
use Rattle.nts_model.specs.Tables.Contents.{Content}
use Rattle.nts_model.specs.Derivations.Rules.{Mode, Application}
use Rattle.nts_model.specs.Derivations.Handlers.{Handler, Certainty}

-- they have the same rules, offers and coinductive traits and judge the same, and the one calls no table leaky but those of the other,
-- and answers nothing at once that the other does not
pub record MeansSame (h k : Handler) : Type 0 where
  pub applies : (mode : Mode) (a : Application) → h.applies mode a ↔ k.applies mode a
  pub offers : (mode : Mode) (e g : Tree) → h.offers mode e g ≡ k.offers mode e g
  pub is_coinductive : (i : ℕ) → h.is_coinductive i ≡ k.is_coinductive i
  pub judges : h.judges ≡ k.judges
  pub leaks : (c : Content) (u : ℕ) → h.leaks c u → k.leaks c u
  pub at_once : (e g : Tree) (c : Certainty) → h.at_once e g c → k.at_once e g c
