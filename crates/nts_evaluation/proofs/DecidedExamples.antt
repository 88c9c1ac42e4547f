-- Which goals of a table are determinate, and which answers are as decided.
use Rattle.std.proofs.Common.{◌≡◌, ℕ, List, [], ◌∷◌, true, refl, arith}
use Rattle.std.specs.Prelude.{Bool, Ok, Err}
use Rattle.nts_model.specs.Terms.Trees.{Tree}
use Rattle.nts_model.specs.Derivations.Rules.{coherence}
use Rattle.nts_certainty.specs.declared.certainty.Certainty.{Certainty}
use Rattle.nts_certainty.specs.declared.certainty.Certainty.TheVariants as certainty
use Rattle.nts_certainty.specs.declared.certainty.MaybeInfo.{MaybeInfo}
use Rattle.nts_store.specs.declared.fault.EvalError.TheVariants as error
use Rattle.nts_terms.specs.declared.modes.TypingMode.TheVariants as modes
use Rattle.nts_theory.proofs.Examples.InputExamples.{no_clauses as nowhere}
use Rattle.nts_decisions.proofs.Deciding.{one_decision}
use Rattle.nts_decisions.proofs.DecidingExamples.{list_goal, two_rules, one_candidate_holds}
use Rattle.nts_decisions.proofs.UndecidedExamples.{one_circle, circle_undecided}
use Rattle.nts_evaluation.proofs.AnswerExamples.{goal_at, table_with}
use Rattle.nts_evaluation.specs.Deciding.{IsDeterminate, IsAsDecided, IsYes}

abbrev store : List Tree
store = nowhere ∷ list_goal 0 ∷ []

-- a goal with a fact, and a clause whose goal is no, is determinate at a depth of one, and not at none
yes_at_one : IsDeterminate two_rules modes.Coherence store (table_with [] []) (goal_at 1) 1 true
yes_at_one = record { height = 1; low = omega arith; decided = one_candidate_holds }

not_at_none : (b : Bool) → IsDeterminate two_rules modes.Coherence store (table_with [] []) (goal_at 1) 0 b → ⊥
not_at_none b d = (let x = one_decision two_rules coherence nowhere (list_goal 0) (list_goal 0) d.height 1 b true refl d.decided one_candidate_holds in let e : d.height ≡ 1 = x.height in (let l = d.low in omega (arith, e, l)))

-- one whose only clause asks for itself is so at no depth
circle_is_not : (n : ℕ) (b : Bool) → IsDeterminate one_circle modes.Coherence store (table_with [] []) (goal_at 1) n b → ⊥
circle_is_not n b d = circle_undecided d.height b d.decided

-- where a goal is decided yes, a doubt is no answer, nor is a no; want of memory may come
doubt_is_no_answer : (i : MaybeInfo) → IsAsDecided true (Ok (certainty.Maybe i)) IsYes → ⊥
doubt_is_no_answer i (e, y) = cc y

no_is_no_answer : IsAsDecided {A = Certainty} true (Err error.NoSolution) IsYes → ⊥
no_is_no_answer e = cc e

memory_may_lack : IsAsDecided {A = Certainty} true (Err error.Memory) IsYes
memory_may_lack = tt
