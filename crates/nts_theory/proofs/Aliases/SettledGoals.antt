-- Goals that are asked in steps, where one that normalizes an alias may leave goals open, which join the goals.
use Rattle.std.proofs.Common.{◌≡◌, List, [], ◌∷◌}
use Rattle.nts_model.specs.Tables.Contents.{Content}
use Rattle.nts_model.specs.Lists.{Among}
use Rattle.nts_model.specs.Derivations.Sequents.{coinductive, Premise}
use Rattle.nts_model.specs.Derivations.Rules.{Meaning, Mode, other_goal, step_kind}
use Rattle.nts_model.specs.Derivations.Proofs.{Assumed, passed}
use Rattle.nts_model.specs.Searching.Stacks.{IsProvedWith}
use Rattle.nts_theory.proofs.Aliases.ByRelating.{IsAnsweredGoal, AreAnsweredGoals, is_answered, no_goals, and_goal}

-- P says that a goal is proved with goals that it leaves open. A goal is left, or it is proved and those that it left open are settled likewise
mutual
  pub data IsSettledGoal (P : Premise → List Premise → Type 0) (left : List Premise) : Premise → Type 0 where
    is_left : {p : Premise} → Among left p → IsSettledGoal P left p
    is_proved : {p : Premise} (os : List Premise) → P p os → AreSettledGoals P left os → IsSettledGoal P left p

  pub data AreSettledGoals (P : Premise → List Premise → Type 0) (left : List Premise) : List Premise → Type 0 where
    none_settled : AreSettledGoals P left []
    and_settled : {p : Premise} {ps : List Premise} → IsSettledGoal P left p → AreSettledGoals P left ps → AreSettledGoals P left (p ∷ ps)

module _ (P Q : Premise → List Premise → Type 0) (more : (p : Premise) (os : List Premise) → P p os → Q p os) (left later : List Premise) (next : (p : Premise) → Among left p → IsSettledGoal Q later p) where
  mutual
    -- one step after another: what was proved stays so, and what was left is settled
    pub settled_then : (p : Premise) → IsSettledGoal P left p → IsSettledGoal Q later p
    settled_then p (is_left i) = next p i
    settled_then p (is_proved os h all) = is_proved os (more p os h) (all_settled_then os all)

    pub all_settled_then : (ps : List Premise) → AreSettledGoals P left ps → AreSettledGoals Q later ps
    all_settled_then [] none_settled = none_settled
    all_settled_then (p ∷ ps) (and_settled h hs) = and_settled (settled_then p h) (all_settled_then ps hs)

-- a goal of another kind than a trait's or an alias's: it is proved with goals that are left open, and no step to one of these is coinductive
pub record IsProvedAtGoal (m : Meaning) (mode : Mode) (A : List Assumed) (c : Content) (p : Premise) (os : List Premise) : Type 0 where
  pub falls : step_kind other_goal p.source ≡ coinductive → ⊥
  pub proved : IsProvedWith m mode (passed (step_kind other_goal p.source) A) c p.environment p.predicate os

module _ (m : Meaning) (mode : Mode) (A : List Assumed) (c : Content) where
  -- where no goal is left, all are answered
  mutual
    pub settled_answered : (p : Premise) → IsSettledGoal (IsProvedAtGoal m mode A c) [] p → IsAnsweredGoal m mode A c p
    settled_answered p (is_left i) = absurd i
    settled_answered p (is_proved os h all) = is_answered os h.falls h.proved (all_answered os all)

    pub all_answered : (ps : List Premise) → AreSettledGoals (IsProvedAtGoal m mode A c) [] ps → AreAnsweredGoals m mode A c ps
    all_answered [] none_settled = no_goals
    all_answered (p ∷ ps) (and_settled h hs) = and_goal (settled_answered p h) (all_answered ps hs)
