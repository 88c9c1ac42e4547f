-- What is promised of the answers to goals of a store and a table: what meets it, and what does not.
use Rattle.std.proofs.Common.{ℕ, List, [], ◌∷◌, None, refl}
use Rattle.nts_model.specs.declared.labels.VariableKind.TheVariants as kind
use Rattle.nts_model.specs.Terms.Trees.{Tree}
use Rattle.nts_model.specs.Derivations.Handlers.{Handler}
use Rattle.nts_certainty.specs.declared.certainty.Certainty.{Certainty}
use Rattle.nts_certainty.specs.declared.certainty.Certainty.TheVariants as certainty
use Rattle.nts_certainty.specs.declared.certainty.MaybeCause.TheVariants as cause
use Rattle.nts_certainty.specs.declared.certainty.OpaqueTypesJank.{OpaqueTypesJank}
use Rattle.nts_certainty.specs.declared.certainty.OpaqueTypesJank.TheVariants as jank
use Rattle.nts_store.specs.declared.nodes.NodeId.{NodeId}
use Rattle.nts_terms.specs.declared.handles.Goal.{Goal}
use Rattle.nts_terms.specs.declared.modes.TypingMode.TheVariants as modes
use Rattle.nts_unify.specs.declared.contents.Variable.{Variable}
use Rattle.nts_unify.specs.declared.contents.State.{State}
use Rattle.nts_unify.specs.declared.contents.State.TheVariants.{Unset, Known}
use Rattle.nts_table.specs.Tables.{Table}
use Rattle.nts_theory.proofs.Refutation.Tight.{tight_respects}
use Rattle.nts_theory.proofs.Examples.InputExamples.{no_clauses as nowhere}
use Rattle.nts_theory.proofs.Examples.ProofExamples.{auto_list}
use Rattle.nts_theory.proofs.Examples.RefutationExamples.{without_rules, list_type, fact_only, all_but_erased, all_but_erased_is_fair, auto_of}
use Rattle.nts_theory.proofs.Examples.SolutionExamples.{other_type, other_is_unsolved, fact_is_solved, same_table_keeps, list_is_lost, variable, question, answer, list_contains_each, other_does_not_contain, question_is_solved, question_without_rules}
use Rattle.nts_evaluation.specs.Solutions.{IsCoherence, HasNoSolutionUnder, KeepsSolutionsUnder, ContainsEach, HasNoInputSolution, IsAllGood}

-- a store with the empty environment, the goals Auto of List, of another type, and of a variable, and that other type
abbrev store : List Tree
store = nowhere ∷ auto_list ∷ auto_of other_type ∷ auto_of variable ∷ other_type ∷ []

abbrev pub node_at : ℕ → NodeId
node_at n = record { number = n }

abbrev pub goal_at : ℕ → Goal
goal_at n = record { param_env = record { node = node_at 0 }; predicate = record { node = node_at n } }

-- a table of coherence with these variables
abbrev pub table_with : List Variable → List ℕ → Table
table_with vs order =
    record { entries = record { variables = vs; order = order; universe = 0; constraints = []; hidden = record { lookup = []; duplicates = [] } }; saved = []; mode = modes.Coherence }

abbrev type_variable : State → Variable
type_variable s = record { kind = kind.Ty; universe = 0; state = s; sub_link = None }

-- coherence, and another mode
coherence_is_one : IsCoherence modes.Coherence
coherence_is_one = refl

another_mode_is_none : IsCoherence modes.PostAnalysis → ⊥
another_mode_is_none h = cc h

-- where the only rule is impl Auto(List), Auto of another type has no solution, and Auto of List is not without one
other_has_none : HasNoSolutionUnder fact_only store (table_with [] []) (goal_at 2)
other_has_none = other_is_unsolved _ _

fact_has_one : HasNoSolutionUnder fact_only store (table_with [] []) (goal_at 1) → ⊥
fact_has_one h = fact_is_solved h

-- a table keeps its own solutions; one in which the variable of the goal is another type loses one
table_keeps_its_own : (h : Handler) → KeepsSolutionsUnder h store (table_with (type_variable Unset ∷ []) []) store (table_with (type_variable Unset ∷ []) []) (goal_at 3)
table_keeps_its_own h = same_table_keeps h _ _ _

other_type_loses_one : KeepsSolutionsUnder fact_only store (table_with (type_variable Unset ∷ []) []) store (table_with (type_variable (Known (node_at 4)) ∷ []) (0 ∷ [])) (goal_at 3) → ⊥
other_type_loses_one h = list_is_lost h

-- the answer List contains each solution of the query for Auto of a type variable, and the answer of another type does not
list_contains : ContainsEach fact_only question (answer list_type)
list_contains truth fair respects v = list_contains_each v truth

other_lacks : ContainsEach fact_only question (answer other_type) → ⊥
other_lacks h = other_does_not_contain (λ i. []) all_but_erased (h all_but_erased all_but_erased_is_fair (tight_respects fact_only (λ c u l. l) all_but_erased) (λ i. []))

-- without rules the query has no solution; with the fact it has one
unruled_has_none : HasNoInputSolution without_rules question
unruled_has_none truth fair respects v = question_without_rules v truth

ruled_has_one : HasNoInputSolution fact_only question → ⊥
ruled_has_one h = question_is_solved (λ i. []) all_but_erased (h all_but_erased all_but_erased_is_fair (tight_respects fact_only (λ c u l. l) all_but_erased) (λ i. []))

-- a yes is all good, and a doubt for an opaque type is not
abbrev doubt : OpaqueTypesJank → Certainty
doubt j = certainty.Maybe (record { cause = cause.Ambiguity; opaque_types_jank = j })

yes_is_all_good : IsAllGood certainty.Yes
yes_is_all_good = tt

plain_doubt_is_all_good : IsAllGood (doubt jank.AllGood)
plain_doubt_is_all_good = refl

jank_is_not : IsAllGood (doubt jank.ErrorIfRigidSelfTy) → ⊥
jank_is_not e = cc e
