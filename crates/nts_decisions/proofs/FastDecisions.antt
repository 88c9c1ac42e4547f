-- What is answered at once of a goal that is decided, is as it is decided.
use Rattle.std.proofs.Common.{◌≡◌, ℕ, Bool, true, false, [], refl}
use Rattle.nts_model.specs.Terms.Trees.{Tree, any_label, is_infer, IsFormed}
use Rattle.nts_model.specs.Derivations.Related.{pair}
use Rattle.nts_model.specs.Derivations.Rules.{Mode, coherence}
use Rattle.nts_model.specs.Derivations.Handlers.{Handler, Certainty, certain, perhaps, never_leaks, no_judgements, IsAsked, FastAnswersHold}
use Rattle.nts_decisions.specs.Deciding.{blurred_environment, IsUniform, by_candidates, none_left, IsGoalDecided, IsFairAtOnce}
use Rattle.nts_theory.proofs.Examples.InputExamples.{no_clauses as nowhere}
use Rattle.nts_decisions.proofs.DecidedInfer.{decided_no_infer}
use Rattle.nts_decisions.proofs.DecidingExamples.{list_goal, plain}
use Rattle.nts_decisions.proofs.RootedInputs.{no_infer_environment}

-- no variable but of regions stands in it
pair_without : (e g : Tree) → any_label is_infer e ≡ false → any_label is_infer g ≡ false → any_label is_infer (pair e g) ≡ false
pair_without e g a b = rw (a, b) refl

not_both : (b : Bool) → b ≡ true → b ≡ false → ⊥
not_both b x y = (let clash = rw x at y in cc clash)

-- a yes is of a goal that is decided yes, and no goal is in doubt
pub decided_at_once : (h : Handler) (mode : Mode) (n : ℕ) (e g : Tree) (b : Bool) (c : Certainty) → FastAnswersHold h → IsFairAtOnce h → IsFormed e → IsFormed g → IsAsked e g → IsGoalDecided h mode n e g b → h.at_once e g c → (c ≡ certain) × (b ≡ true)
decided_at_once h mode n e g true certain law fair f k asked d x = (refl, refl)
decided_at_once h mode n e g false certain law fair f k asked d x = absurd (fair mode n e g d x)
decided_at_once h mode n e g b (perhaps why may_be_error) law fair f k asked d x =
    absurd (not_both (any_label is_infer (pair e g)) (law.doubted e g why may_be_error asked x)
    (pair_without e g (no_infer_environment h mode n e g b f d) (decided_no_infer h mode (blurred_environment e) n g b k d)))

-- a handler without rules, that answers everything yes at once, and one that answers nothing so
abbrev pub without_rules : (Tree → Tree → Certainty → Type 0) → Handler
without_rules at_once = record { applies = λ mode a. ⊥; offers = λ mode e g. []; is_coinductive = λ i. false; leaks = never_leaks; judges = no_judgements; at_once = at_once }

pub nothing_is_fair : IsFairAtOnce (without_rules (λ e g c. ⊥))
nothing_is_fair mode n e g d x = x

no_candidates : IsUniform (without_rules (λ e g c. c ≡ certain)) coherence nowhere (list_goal 1) []
no_candidates = record { alike = λ f p a e q. refl; sure = λ x i. absurd i; formed = λ x i. absurd i }

pub decided_no : IsGoalDecided (without_rules (λ e g c. c ≡ certain)) coherence 0 nowhere (list_goal 1) false
unfolding no_candidates
decided_no = by_candidates [] (plain 1) no_candidates none_left

pub hasty_is_not_fair : IsFairAtOnce (without_rules (λ e g c. c ≡ certain)) → ⊥
hasty_is_not_fair fair = fair coherence 0 nowhere (list_goal 1) decided_no refl
