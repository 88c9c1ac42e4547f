use Rattle.std.proofs.Common.{◌≡◌, Bool, true, false, List, ap, sym, ◌∙◌}
use Rattle.nts_model.specs.Derivations.Sequents.{Premise}
use Rattle.nts_model.specs.Derivations.Rules.{Mode, coherence}
use Rattle.nts_theory.specs.AskedGoals.{those_asked, asked_in}
use Rattle.nts_terms.specs.Modes.{mode_of}
use Rattle.nts_meaning.proofs.Evaluating.{Runs-refl}
use Rattle.nts_posing.proofs.PosedMore.{posed_as_given, posed_for}
use Rattle.nts_posing.proofs.posing.pose.Goals as goal

not_both : (b : Bool) → b ≡ true → b ≡ false → ⊥
not_both b e n = (let clash : true ≡ false = sym e ∙ n in cc clash)

those_there : (m : Mode) (ps : List Premise) → m ≡ coherence → asked_in m ps ≡ ps → those_asked ps ≡ ps
those_there m ps e h = rw e at h

pub returns-then-asks_all-clause-runs : goal.returns-then-asks_all-clause-runs
returns-then-asks_all-clause-runs c = Runs-refl c.requires.table

pub returns-then-asks_all-clause-poses : goal.returns-then-asks_all-clause-poses
returns-then-asks_all-clause-poses c =
    posed_as_given _ _ _ _ _ c.requires.posed (λ inside handlers. those_there _ _ inside (rw (c.typing_mode.ensures, c.deref.ensures.value) at (c.asks_all.ensures.yes c.if-asks_all.true)))

pub returns-then-not-is_handlers-clause-runs : goal.returns-then-not-is_handlers-clause-runs
returns-then-not-is_handlers-clause-runs c = Runs-refl c.requires.table

pub returns-then-not-is_handlers-clause-poses : goal.returns-then-not-is_handlers-clause-poses
returns-then-not-is_handlers-clause-poses c = posed_as_given _ _ _ _ _ c.requires.posed (λ inside handlers. absurd (not_both _ (c.is_handlers.ensures.1 handlers) c.if-not-is_handlers.true))

pub returns-clause-poses : goal.returns-clause-poses
returns-clause-poses c =
    posed_for _ (ap mode_of (sym c.typing_mode.ensures) ∙ c.asks_all.ensures.inside c.if-asks_all.false) (c.is_handlers.ensures.0 c.if-not-is_handlers.false) (rw c.deref-2.ensures.value at c.in_ok-goals.ensures.poses)
