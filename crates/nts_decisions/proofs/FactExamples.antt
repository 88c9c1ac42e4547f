-- A goal with a variable that one fact holds, one that two facts hold, and one without a fact.
use Rattle.std.proofs.Common.{◌≡◌, inl, inr, ℕ, zero, suc, [], ◌∷◌, map, true, false, refl, sym, ap, subst, arith}
use Rattle.std.specs.Prelude.{Some}
use Rattle.nts_model.specs.declared.labels.VariableKind.{VariableKind}
use Rattle.nts_model.specs.declared.labels.VariableKind.TheVariants as kind
use Rattle.nts_model.specs.declared.labels.ClauseHead.TheVariants as clause
use Rattle.nts_model.specs.declared.labels.Leaf.TheVariants as leaf
use Rattle.nts_model.specs.declared.labels.Label.TheVariants as label
use Rattle.nts_model.specs.Terms.Trees.{Tree, empty, more, node, IsInRow, IsFormed}
use Rattle.nts_model.specs.Terms.Substitutions.{leaf_tree, filled_under}
use Rattle.nts_model.specs.Lists.{Among}
use Rattle.nts_model.specs.Derivations.Related.{constructor, arguments, unbound}
use Rattle.nts_model.specs.Derivations.Rules.{coherence, Equation, related}
use Rattle.nts_model.specs.Derivations.Handlers.{Handler, never_leaks, never_at_once, no_judgements, Candidate, certain, never, IsAsked}
use Rattle.nts_model.specs.Tables.Worlds.{World, IsValue, SolvesState}
use Rattle.nts_model.specs.Refutation.Choosing.{IsCandidateMet, left_of, right_of}
use Rattle.nts_decisions.specs.Deciding.{HasNoAliases, blurred, blurred_candidate, IsFormedCandidate, IsUniform}
use Rattle.nts_model.specs.Terms.Regions.{of_variable}
use Rattle.nts_decisions.specs.Facts.{Valuation, CanBeMet, IsOpenGoal, IsFactIn, IsOnlyFactIn, here, later, IsOnlyMet, valued}
use Rattle.nts_decisions.proofs.DecidingExamples.{list_goal}
use Rattle.nts_theory.proofs.Examples.InputExamples.{no_clauses as nowhere}
use Rattle.nts_theory.proofs.Examples.ProofExamples.{no_predicates}
use Rattle.nts_theory.proofs.Examples.SolutionExamples.{one_unset}
use Rattle.nts_model.specs.Tables.Levels.{IfNamesAll, term_level}
use Rattle.nts_model.specs.Tables.Contents.{kind_at, Content, state_of, universe_of}
use Rattle.nts_model.specs.Answers.Responses.{read_in}
use Rattle.nts_decisions.proofs.UndecidedExamples.{one_circle}

-- T0 of a type variable
abbrev trait_of_variable : Tree
trait_of_variable = node (label.Clause (clause.Trait 0)) (arguments (more (leaf_tree (leaf.Variable kind.Ty 0)) empty))

abbrev variable_goal : Tree
variable_goal = unbound trait_of_variable

variable_asked : IsAsked nowhere variable_goal
variable_asked =
    record {
      statement = trait_of_variable;
      binds_nothing = refl;
      handlers = tt;
      formed = ((tt, tt), (((refl, (refl, tt)), ((tt, tt), (((refl, tt), (((tt, tt), ((tt, tt), tt)), tt)), tt))), tt));
      closed = ((tt, tt), ((tt, ((tt, ((tt, tt), tt)), tt)), tt));
      no_positions = refl;
      well_bound = ((tt, tt), ((((tt, tt), ((tt, ((tt, ((tt, tt), tt)), tt)), tt)), ((tt, tt), ((tt, ((tt, ((tt, tt), tt)), tt)), tt))), tt));
      statements = λ ps p e i. absurd (subst (IsInRow p) (no_predicates ps e) i);
    }

-- impl T0(List), and impl T0(Other) beside it
abbrev fact_of : ℕ → Tree → Candidate
fact_of i g = record { fresh = []; equations = related g (unbound (node (label.Clause (clause.Trait 0)) (arguments (more (constructor i empty) empty)))) ∷ []; constraints = []; hidden = []; goals = []; certainty = certain; accesses = never }

abbrev pub one_fact : Handler
one_fact = record { applies = λ mode a. ⊥; offers = λ mode e g. fact_of 1 (blurred g) ∷ []; is_coinductive = λ i. false; leaks = never_leaks; judges = no_judgements; at_once = never_at_once }

abbrev pub two_facts : Handler
two_facts = record { applies = λ mode a. ⊥; offers = λ mode e g. fact_of 1 (blurred g) ∷ fact_of 2 (blurred g) ∷ []; is_coinductive = λ i. false; leaks = never_leaks; judges = no_judgements; at_once = never_at_once }

fact_formed : (i : ℕ) → IsFormedCandidate (fact_of i variable_goal)
fact_formed i = record { equations = λ q a. equation_formed q a; no_aliases = λ q a. no_alias_there q a; goals = λ p a. absurd a }
  where
    equation_formed : (q : Equation) → Among (let x = fact_of i variable_goal in x.equations) q → IsFormed (left_of q) × IsFormed (right_of q)
    equation_formed q (inl e) = subst (λ z. IsFormed (left_of z) × IsFormed (right_of z)) (sym e) ((let a = variable_asked in let f = a.formed in f.1.0), ((refl, (refl, tt)), ((tt, tt), (((refl, tt), (((tt, tt), (((refl, tt), ((tt, tt), tt)), tt)), tt)), tt))))
    equation_formed q (inr a) = absurd a

    no_alias_there : (q : Equation) → Among (let x = fact_of i variable_goal in x.equations) q → HasNoAliases q
    no_alias_there q (inl e) = subst HasNoAliases (sym e) (refl, refl)
    no_alias_there q (inr a) = absurd a

one_uniform : IsUniform one_fact coherence nowhere variable_goal (fact_of 1 variable_goal ∷ [])
one_uniform =
    record {
      alike = λ f p a e q. ap (λ z. map blurred_candidate (fact_of 1 z ∷ [])) q;
      sure = λ x i. elim i [ inl e ↦ ap (λ z. z.certainty) e | inr k ↦ absurd k ];
      formed = λ x i. elim i [ inl e ↦ subst IsFormedCandidate (sym e) (fact_formed 1) | inr k ↦ absurd k ];
    }

one_goal : IsOpenGoal one_fact coherence nowhere variable_goal
one_goal = record { asked = variable_asked; trait_goal = record { statement = tt; no_alias = refl }; binds_nothing = refl; candidates = fact_of 1 variable_goal ∷ []; uniform = one_uniform }

-- a world in which each variable is the type
abbrev type_world : Tree → World
type_world t = record { tree = λ n. t; region = λ r. r; outlives = λ a b. true }

abbrev list_type : Tree
list_type = constructor 1 empty

list_value : IsValue kind.Ty list_type
list_value = record { fits = refl; closed = (tt, ((tt, tt), tt)); formed = ((refl, tt), ((tt, tt), tt)) }

unset_state : (n : ℕ) → SolvesState (type_world list_type) n (state_of one_unset n)
unset_state zero = tt
unset_state (suc n) = tt

unset_named : (n : ℕ) → IfNamesAll term_level (universe_of one_unset n) list_type
unset_named zero = (tt, ((tt, tt), tt))
unset_named (suc n) = tt

unset_kind : (n : ℕ) (k : VariableKind) → kind_at one_unset n ≡ Some k → IsValue k list_type
unset_kind zero k e = subst (λ z. IsValue z list_type) (let same : kind.Ty ≡ k = cc e in same) list_value
unset_kind (suc n) k e = absurd (cc e)

-- the fact is met there
pub one_met : IsCandidateMet one_unset (fact_of 1 variable_goal)
one_met =
    record {
      world = type_world list_type;
      solves = record { values = unset_state; constraints = tt; nameable = record { each = unset_named }; fitting = record { each = unset_kind } };
      values = [];
      fit = tt;
      named = tt;
      equal = λ q i. elim i [ inl e ↦ subst (λ z. read_in (type_world list_type) [] (left_of z) ≡ read_in (type_world list_type) [] (right_of z)) (sym e) refl | inr k ↦ absurd k ];
    }

-- T0 of a variable has a fact, and no other candidate
pub variable_has_a_fact : IsFactIn one_fact coherence one_unset nowhere variable_goal
unfolding one_met
variable_has_a_fact = record { goal = one_goal; candidate = fact_of 1 variable_goal; offered = inl refl; no_goals = refl; met = one_met }

pub variable_has_one_fact : IsOnlyFactIn one_fact coherence one_unset nowhere variable_goal
variable_has_one_fact = record { goal = one_goal; only = here refl one_met tt }

-- a goal for which each candidate asks for another goal has no fact
pub circle_has_no_fact : (c : Content) (e g : Tree) → IsFactIn one_circle coherence c e g → ⊥
circle_has_no_fact c e g f = elim f.offered [ inl q ↦ (let none : (let x = f.candidate in x.goals) ≡ [] = f.no_goals in let goals = ap (λ x. x.goals) q in cc (none, goals)) | inr k ↦ k ]

-- where another candidate can be met, a fact is not the only one
type_or_itself : Tree → VariableKind → ℕ → Tree
type_or_itself t kind.Ty n = t
type_or_itself t k n = leaf_tree (leaf.Variable k n)

value_or_itself : (t : Tree) → IsValue kind.Ty t → (k : VariableKind) (n : ℕ) → IsValue k (type_or_itself t k n)
unfolding type_or_itself
value_or_itself t v kind.Ty n = v
value_or_itself t v kind.Int n = record { fits = refl; closed = (tt, tt); formed = (tt, tt) }
value_or_itself t v kind.Float n = record { fits = refl; closed = (tt, tt); formed = (tt, tt) }
value_or_itself t v kind.Const n = record { fits = refl; closed = (tt, tt); formed = (tt, tt) }
value_or_itself t v kind.Region n = record { fits = (of_variable n, refl); closed = (tt, tt); formed = (tt, tt) }

abbrev type_for_each : (t : Tree) → IsValue kind.Ty t → Valuation
type_for_each t v = record { value = type_or_itself t; fits = value_or_itself t v }

constructor_value : (i : ℕ) → IsValue kind.Ty (constructor i empty)
constructor_value i = record { fits = refl; closed = (tt, ((tt, tt), tt)); formed = ((refl, tt), ((tt, tt), tt)) }

pub fact_can_be_met : (i : ℕ) → CanBeMet (fact_of i variable_goal)
unfolding type_or_itself
fact_can_be_met i =
    let v = type_for_each (constructor i empty) (constructor_value i) in
    record {
      valuation = v;
      values = [];
      fit = tt;
      equal = λ q k. elim k [ inl e ↦ subst (λ z. blurred (filled_under (valued v) [] (left_of z)) ≡ blurred (filled_under (valued v) [] (right_of z))) (sym e) refl | inr n ↦ absurd n ];
    }

-- .. but a candidate whose trait is another one can't
abbrev other_trait : Candidate
other_trait = record (fact_of 1 variable_goal) { equations = related (list_goal 0) (list_goal 1) ∷ [] }

traits_differ : list_goal 0 ≡ list_goal 1 → ⊥
traits_differ e = (let n : zero ≡ suc zero = cc e in omega (arith, n))

pub other_trait_cannot_be_met : CanBeMet other_trait → ⊥
other_trait_cannot_be_met m = traits_differ (m.equal (related (list_goal 0) (list_goal 1)) (inl refl))

both_met : (c : Content) → IsOnlyMet c (fact_of 1 variable_goal ∷ fact_of 2 variable_goal ∷ []) → ⊥
both_met c (here g m n) = n.0 (fact_can_be_met 2)
both_met c (later n m) = n (fact_can_be_met 1)

pub two_facts_are_no_only_one : (c : Content) → IsOnlyFactIn two_facts coherence c nowhere variable_goal → ⊥
two_facts_are_no_only_one c f = both_met c f.only
