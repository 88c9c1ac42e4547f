use Rattle.std.proofs.Common.{ℕ, Bool, ◌<◌, ◌≡◌, ◌+◌, ◌*◌, ◌≤◌, take, drop, map, length, [], true}
use Rattle.std.specs.Prelude.{All}
use Rattle.nts_model.specs.Tables.Passing.{BringsOnly}
use Rattle.nts_unify.specs.Reading.{content_of}
use Rattle.nts_terms.specs.Rest.{Grows}
use Rattle.nts_certainty.specs.declared.certainty.Certainty.TheVariants as certainty
use Rattle.nts_meaning.specs.Meant.{AreOffered, IsServedSince, IsNestedSince, HaveOutcomes, ReachesBy}
use Rattle.nts_meaning.specs.Searching.{Searches, IsHeadAnswer, IsAnswerTold, assumed_in}
use Rattle.nts_asking.specs.Rounds.{rounds_before}
use Rattle.nts_search.specs.Searching.{counted_inputs, counted_rounds}
use Rattle.nts_search.specs.Kinds.{goal_kind_of}
use Rattle.nts_canonical.specs.Building.{kinds_of}
use Rattle.nts_canonical.specs.Forms.{form_of, trees_of}
use Rattle.nts_terms.specs.Modes.{mode_of}
use Rattle.nts_trying.specs.Found.{Found}
use Rattle.nts_trying.specs.Stepping.{ArePosed, AreLeft, AreSettled, terms_of, bound_of}
use Rattle.nts_meaning.specs.Evaluation.{Runs}
use Rattle.nts_evaluation.specs.Counting.{AsksOnce, AsksEach, MakesSteps}
use Rattle.nts_evaluation.specs.Promises.{WhereTold}
use Rattle.nts_evaluation.specs.Deciding.{IsQueryDecided, IsBelow, CanDecide, IsAsBefore, AreRootValues, CandidatesSettled, GoalsSettled, IsQueryAtFirst, ArePlainCandidates, IsOverIfSilent, IsFactForm}
use Rattle.nts_evaluation.proofs.DecidedCandidates.{AreSoFar, Anything}
use Rattle.nts_evaluation.proofs.DecidedSteps.{IsStepSoFar}
use Rattle.nts_meaning.specs.Meant.{rules_of, Always}
use Rattle.nts_evaluation.proofs.evaluate.+evaluate.Given as goal
use Rattle.nts_meaning.specs.Answering.{verdict_at}

abbrev pub decreases-queries::evaluate_goal : goal.decreases-queries::evaluate_goal
decreases-queries::evaluate_goal g l = 20 * l.depth + 19

abbrev pub decreases-queries::search : goal.decreases-queries::search
decreases-queries::search g l = 20 * l.depth + 18

abbrev pub decreases-queries::evaluate_rounds : goal.decreases-queries::evaluate_rounds
decreases-queries::evaluate_rounds g l = 20 * l.depth + 17

abbrev pub decreases-queries::evaluate_round : goal.decreases-queries::evaluate_round
decreases-queries::evaluate_round g l = 20 * l.depth + 16

abbrev pub decreases-rows::compute_goal : goal.decreases-rows::compute_goal
decreases-rows::compute_goal g l = 20 * l.depth + 15

abbrev pub decreases-rows::evaluate_own : goal.decreases-rows::evaluate_own
decreases-rows::evaluate_own g l = 20 * l.depth + 13

abbrev pub decreases-rows::evaluate_subtype : goal.decreases-rows::evaluate_subtype
decreases-rows::evaluate_subtype g l = 20 * l.depth + 13

abbrev pub decreases-rows::evaluate_alias : goal.decreases-rows::evaluate_alias
decreases-rows::evaluate_alias g l = 20 * l.depth + 14

abbrev pub decreases-equated::evaluate_equated : goal.decreases-equated::evaluate_equated
decreases-equated::evaluate_equated g l = 20 * l.depth + 14

abbrev pub decreases-equated::evaluate_way : goal.decreases-equated::evaluate_way
decreases-equated::evaluate_way g l = 20 * l.depth + 13

abbrev pub decreases-equated::try_way : goal.decreases-equated::try_way
decreases-equated::try_way g l = 20 * l.depth + 12

abbrev pub decreases-candidates::evaluate_candidates : goal.decreases-candidates::evaluate_candidates
decreases-candidates::evaluate_candidates g l = 20 * l.depth + 13

abbrev pub decreases-candidates::probe_candidate : goal.decreases-candidates::probe_candidate
decreases-candidates::probe_candidate g l = 20 * l.depth + 12

abbrev pub decreases-candidates::run_candidate : goal.decreases-candidates::run_candidate
decreases-candidates::run_candidate g l = 20 * l.depth + 11

abbrev pub decreases-candidates::try_candidate : goal.decreases-candidates::try_candidate
decreases-candidates::try_candidate g l = 20 * l.depth + 10

abbrev pub decreases-candidates::try_relating : goal.decreases-candidates::try_relating
decreases-candidates::try_relating g l = 20 * l.depth + 9

abbrev pub decreases-steps::try_evaluate_goals : goal.decreases-steps::try_evaluate_goals
decreases-steps::try_evaluate_goals g l = 20 * bound_of l.depth + 2

abbrev pub decreases-steps::evaluate_step : goal.decreases-steps::evaluate_step
decreases-steps::evaluate_step g l = 20 * bound_of l.depth + 1

abbrev pub decreases-steps::evaluate_added : goal.decreases-steps::evaluate_added
decreases-steps::evaluate_added g l = 20 * bound_of l.depth

-- the query's input is kept, and its provisional answer can be applied
abbrev pub invariant-queries::evaluate_rounds-loop-round : goal.invariant-queries::evaluate_rounds-loop-round
invariant-queries::evaluate_rounds-loop-round g l = record {
  grows : Grows l.fn.cx l.cx;
  searches : Searches l.fn.cx l.cx l.fn.graph l.graph;
  before : rounds_before l.asked.value ≡ l.round;
  counted : 0 < l.round → (0 < counted_rounds l.graph) × (length l.fn.graph.stack.items < counted_inputs l.graph);
  input : l.asked.value.input ≡ l.fn.input.value;
  fits : IsHeadAnswer l.cx.nodes (kinds_of l.fn.input.value) l.asked.value.provisional;
  told : WhereTold (rules_of g.H.GoalHandler.ready g.H.GoalHandler.handler l.handler) l.fn.cx l.fn.graph (λ m. IsAnswerTold m (mode_of l.fn.input.value.typing_mode) l.cx.nodes (form_of l.fn.cx.nodes l.fn.input.value) l.asked.value.provisional);
  first : l.round ≡ 0 → IsAsBefore l.fn.graph l.graph;
  decided : Always (rules_of g.H.GoalHandler.ready g.H.GoalHandler.handler l.handler) l.fn.cx (λ s. (n : ℕ) (b : Bool) → IsBelow n (λ m. IsQueryDecided (g.H.GoalHandler.handler s.base l.handler) (mode_of l.fn.input.value.typing_mode) m (form_of l.fn.cx.nodes l.fn.input.value) b)
      → CanDecide (g.H.GoalHandler.handler s.base l.handler) l.fn.cx l.fn.graph n (l.fn.depth + 1) → l.round ≡ 0);
  facts : WhereTold (rules_of g.H.GoalHandler.ready g.H.GoalHandler.handler l.handler) l.fn.cx l.fn.graph (λ m. IsFactForm m.handler (mode_of l.fn.input.value.typing_mode) (form_of l.fn.cx.nodes l.fn.input.value) → CanDecide m.handler l.fn.cx l.fn.graph 0 (l.fn.depth + 1) → l.round ≡ 0);
}

-- the first candidates have these responses, and the table is as before
abbrev pub invariant-candidates::evaluate_candidates-loop-candidate : goal.invariant-candidates::evaluate_candidates-loop-candidate
invariant-candidates::evaluate_candidates-loop-candidate g l = record {
  same : l.table ≡ l.fn.table;
  grows : Grows l.fn.cx l.cx;
  searches : Searches l.fn.cx l.cx l.fn.graph l.graph;
  found : All (Found (λ b u. Always (rules_of g.H.GoalHandler.ready g.H.GoalHandler.handler l.handler) l.fn.cx (λ s. AreOffered (g.H.GoalHandler.handler s.base l.handler) l.fn.table.mode l.fn.cx.nodes l.goal l.candidates → IsServedSince (λ ts. g.H.GoalHandler.handler ts l.handler) s l.fn.table.mode (assumed_in l.cx.nodes l.graph) b u l.goal)) l.fn.cx.nodes l.cx.nodes l.fn.table l.goal l.values) l.responses.items;
  told : WhereTold (rules_of g.H.GoalHandler.ready g.H.GoalHandler.handler l.handler) l.fn.cx l.fn.graph (λ m. HaveOutcomes m l.fn.table.mode l.fn.cx.nodes l.fn.table l.goal l.values (take l.candidate-index l.candidates) (map (verdict_at l.cx.nodes) l.responses.items));
  decided : Always (rules_of g.H.GoalHandler.ready g.H.GoalHandler.handler l.handler) l.fn.cx (λ s. (n : ℕ) (b : Bool) → AreRootValues l.fn.cx.nodes l.values × CandidatesSettled (g.H.GoalHandler.handler s.base l.handler) l.fn.table.mode n l.fn.cx.nodes l.fn.table l.candidates b
      → CanDecide (g.H.GoalHandler.handler s.base l.handler) l.fn.cx l.fn.graph n l.depth
      → AreSoFar Anything (g.H.GoalHandler.handler s.base l.handler) l.fn.table.mode n l.fn.cx.nodes l.fn.table (drop l.candidate-index l.candidates) b l.responses.items × IsAsBefore l.fn.graph l.graph);
  facts : WhereTold (rules_of g.H.GoalHandler.ready g.H.GoalHandler.handler l.handler) l.fn.cx l.fn.graph (λ m. IsQueryAtFirst l.fn.cx.nodes l.fn.table l.goal l.values → CandidatesSettled m.handler l.fn.table.mode 0 l.fn.cx.nodes l.fn.table l.candidates true → ArePlainCandidates l.fn.cx.nodes l.fn.table l.goal l.candidates
      → CanDecide m.handler l.fn.cx l.fn.graph 0 l.depth
      → AreSoFar (IsOverIfSilent l.cx.nodes (trees_of l.fn.cx.nodes l.values)) m.handler l.fn.table.mode 0 l.fn.cx.nodes l.fn.table (drop l.candidate-index l.candidates) true l.responses.items × IsAsBefore l.fn.graph l.graph);
}

-- the goals that are left, after the first steps
abbrev pub invariant-steps::try_evaluate_goals-loop-step : goal.invariant-steps::try_evaluate_goals-loop-step
invariant-steps::try_evaluate_goals-loop-step g l = record {
  runs : Runs l.fn.cx l.cx l.fn.table l.table;
  searches : Searches l.fn.cx l.cx l.fn.graph l.graph;
  steps : l.last_steps ≤ l.fn.cx.step_limit;
  counted : l.last_steps ≡ l.step;
  counts : WhereTold (rules_of g.H.GoalHandler.ready g.H.GoalHandler.handler l.handler) l.fn.cx l.fn.graph (λ m. MakesSteps (AsksOnce m l.fn.table.mode l.depth) (l.fn.cx, l.fn.table) l.fn.goals.items l.step (l.cx, l.table) l.goals.items true);
  posed : ArePosed l.cx.nodes l.table l.goals.items;
  left : AreLeft l.fn.goals.items l.goals.items;
  labels : BringsOnly (terms_of l.fn.cx.nodes l.fn.goals.items) (content_of l.fn.cx.nodes l.fn.table.entries) (content_of l.cx.nodes l.table.entries);
  proved : Always (rules_of g.H.GoalHandler.ready g.H.GoalHandler.handler l.handler) l.fn.cx (λ s. AreSettled (IsNestedSince (λ ts. g.H.GoalHandler.handler ts l.handler) s l.fn.table.mode (goal_kind_of l.kind) (assumed_in l.cx.nodes l.graph) l.cx.nodes l.table) l.fn.goals.items l.goals.items);
  told : WhereTold (rules_of g.H.GoalHandler.ready g.H.GoalHandler.handler l.handler) l.fn.cx l.fn.graph (λ m. ReachesBy m l.fn.table.mode l.fn.cx.nodes l.fn.table l.cx.nodes l.table l.fn.goals.items);
  first : l.step ≡ 0 → (l.cx ≡ l.fn.cx) × (l.table ≡ l.fn.table) × (l.graph ≡ l.fn.graph) × (l.goals.items ≡ l.fn.goals.items);
  decided : Always (rules_of g.H.GoalHandler.ready g.H.GoalHandler.handler l.handler) l.fn.cx (λ s. (n : ℕ) (b : Bool) → GoalsSettled (g.H.GoalHandler.handler s.base l.handler) l.fn.table.mode n l.fn.cx.nodes l.fn.table l.fn.goals.items b
      → CanDecide (g.H.GoalHandler.handler s.base l.handler) l.fn.cx l.fn.graph n (bound_of l.depth) → l.step ≡ 0);
}

-- the first goals were asked in this step
abbrev pub invariant-steps::evaluate_step-loop-added : goal.invariant-steps::evaluate_step-loop-added
invariant-steps::evaluate_step-loop-added g l = record {
  runs : Runs l.fn.cx l.cx l.fn.table l.table;
  searches : Searches l.fn.cx l.cx l.fn.graph l.graph;
  left : AreLeft (take l.added-index l.goals) l.step.left.items;
  labels : BringsOnly (terms_of l.fn.cx.nodes l.goals) (content_of l.fn.cx.nodes l.fn.table.entries) (content_of l.cx.nodes l.table.entries);
  proved : Always (rules_of g.H.GoalHandler.ready g.H.GoalHandler.handler l.handler) l.fn.cx (λ s. AreSettled (IsNestedSince (λ ts. g.H.GoalHandler.handler ts l.handler) s l.fn.table.mode (goal_kind_of l.fn.kind) (assumed_in l.cx.nodes l.graph) l.cx.nodes l.table) (take l.added-index l.goals) l.step.left.items);
  sure : l.step.certainty ≡ certainty.Yes → l.step.left.items ≡ [];
  told : WhereTold (rules_of g.H.GoalHandler.ready g.H.GoalHandler.handler l.handler) l.fn.cx l.fn.graph (λ m. ReachesBy m l.fn.table.mode l.fn.cx.nodes l.fn.table l.cx.nodes l.table l.goals);
  asked : WhereTold (rules_of g.H.GoalHandler.ready g.H.GoalHandler.handler l.handler) l.fn.cx l.fn.graph (λ m. AsksEach (AsksOnce m l.fn.table.mode l.depth) (l.fn.cx, l.fn.table) (take l.added-index l.goals) (l.cx, l.table) l.step.left.items l.step.has_changed);
  decided : Always (rules_of g.H.GoalHandler.ready g.H.GoalHandler.handler l.handler) l.fn.cx (λ s. (n : ℕ) (b : Bool) → GoalsSettled (g.H.GoalHandler.handler s.base l.handler) l.fn.table.mode n l.fn.cx.nodes l.fn.table l.goals b
      → CanDecide (g.H.GoalHandler.handler s.base l.handler) l.fn.cx l.fn.graph n (bound_of l.depth)
      → IsStepSoFar (g.H.GoalHandler.handler s.base l.handler) n l.fn.cx.nodes l.fn.table (drop l.added-index l.goals) b l.step l.fn.graph l.graph);
}
