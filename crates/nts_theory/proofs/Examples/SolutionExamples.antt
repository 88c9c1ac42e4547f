-- Goals with solutions in a table and without, later tables that lose some, and answers that contain each solution and that do not.
use Rattle.std.proofs.Common.{◌≡◌, inl, inr, ℕ, zero, suc, true, false, List, [], ◌∷◌, length, Option, Some, None, refl, sym, ap, subst, ◌∙◌, arith}
use Rattle.nts_model.specs.declared.labels.Variance.{Variance}
use Rattle.nts_model.specs.declared.labels.VariableKind.{VariableKind}
use Rattle.nts_model.specs.declared.labels.VariableKind.TheVariants as kind
use Rattle.nts_model.specs.declared.labels.ClauseHead.TheVariants as clause
use Rattle.nts_model.specs.declared.labels.Relation.TheVariants as relation
use Rattle.nts_model.specs.declared.labels.FreeRegion.TheVariants as region
use Rattle.nts_model.specs.declared.labels.Leaf.TheVariants as leaf
use Rattle.nts_model.specs.declared.labels.Leaf.{Leaf}
use Rattle.nts_model.specs.Terms.Substitutions.{leaf_tree}
use Rattle.nts_model.specs.declared.labels.Label.{Label}
use Rattle.nts_model.specs.declared.labels.Label.TheVariants as label
use Rattle.nts_model.specs.Terms.Trees.{Tree, empty, more, node, variable_tree}
use Rattle.nts_model.specs.Tables.Contents.{Content, Slot, SlotState, unset, known, state_of, universe_of, kind_at}
use Rattle.nts_model.specs.Tables.Levels.{NamesAll, IfNamesAll, term_level}
use Rattle.nts_model.specs.Tables.Worlds.{World, inst, SolvesState, IsValue}
use Rattle.nts_model.specs.Terms.Placeholders.{leaf_level}
use Rattle.nts_model.specs.Derivations.Related.{constructor, arguments}
use Rattle.nts_model.specs.Derivations.Rules.{IsHandlers, bound}
use Rattle.nts_model.specs.Derivations.Handlers.{Handler, meaning}
use Rattle.nts_model.specs.Canonical.Inputs.{CanonicalInput, canonical_of}
use Rattle.nts_model.specs.Answers.Responses.{Response}
use Rattle.nts_model.specs.Searching.Driving.{unconstrained}
use Rattle.nts_model.specs.Refutation.Containing.{IsAliasFree, Truth, IsSolution, IsSolutionOf, ContainsSolution, AnswerContains, HasNoSolution}
use Rattle.nts_theory.specs.Refutation.Refutation.{RespectsLeaks, HasMetProof, HasNoSolutionIn, KeepsSolutionsOf}
use Rattle.nts_theory.proofs.Refutation.Tight.{tight_respects}
use Rattle.nts_theory.proofs.Refutation.OfferMeeting.{handlers_inst}
use Rattle.nts_theory.proofs.Examples.InputExamples.{no_clauses as nowhere}
use Rattle.nts_theory.proofs.Examples.ProofExamples.{auto_list}
use Rattle.nts_theory.proofs.Examples.RefutationExamples.{without_rules, list_type, fact_only, all_but_erased, all_but_erased_is_fair, none_true, auto_of, fact_used, fact_has_proof, without_rules_no_proof}
use Rattle.nts_model.proofs.Tables.Instances.{Agrees-refl}

-- by a handler without rules no goal that a handler is asked has a solution in any table
pub nothing_is_solved : (c : Content) (e x s : Tree) → IsHandlers s → HasNoSolutionIn without_rules c e (bound x s)
nothing_is_solved c e x s h = record { none = λ truth fair respects v w solution plain. without_rules_no_proof v truth (inst w e) (inst w x) (inst w s) (handlers_inst w s h) }

-- another type than List
abbrev pub other_type : Tree
other_type = constructor 2 empty

-- where the only rule is impl Auto(List), Auto of another type has no solution in any table
pub other_is_unsolved : (c : Content) (e : Tree) → HasNoSolutionIn fact_only c e (auto_of other_type)
other_is_unsolved c e = record { none = λ truth fair respects v w solution plain p. (let used = fact_used [] v truth (inst w e) other_type (tt, ((tt, tt), tt)) p in let z : other_type ≡ list_type = used.0 in cc z) }

-- a table without variables, one with a type variable of which nothing is known, and one in which it has a value
abbrev pub table_of : List Slot → List ℕ → Content
table_of slots order = record { slots = slots; order = order; universe = 0; constraints = [] }

abbrev pub type_slot : SlotState → Slot
type_slot s = record { kind = kind.Ty; universe = 0; state = s; sub_link = None }

abbrev pub no_variables : Content
no_variables = table_of [] []

abbrev pub one_unset : Content
one_unset = table_of (type_slot unset ∷ []) []

abbrev pub one_known : Tree → Content
one_known t = table_of (type_slot (known t) ∷ []) (0 ∷ [])

abbrev pub variable : Tree
variable = variable_tree kind.Ty 0

-- the world in which each variable is List, and everything outlives everything
abbrev all_lists : World
all_lists = record { tree = λ n. list_type; region = λ r. r; outlives = all_but_erased }

-- no alias stands for a variable there
lists_plain : (l : Leaf) → IsAliasFree (inst all_lists (leaf_tree l))
lists_plain (leaf.Variable k n) = (refl, ((refl, tt), tt))
lists_plain (leaf.Region r) = (refl, tt)
lists_plain (leaf.TyConstant a) = (refl, tt)
lists_plain (leaf.ConstConstant a) = (refl, tt)

-- it is a solution of a table of type variables that it solves
lists_solve : (slots : List Slot) (order : List ℕ) → ((n : ℕ) → SolvesState all_lists n (state_of (table_of slots order) n)) → ((n : ℕ) (k : VariableKind) → kind_at (table_of slots order) n ≡ Some k → k ≡ kind.Ty)
    → IsSolution all_but_erased 0 (table_of slots order) all_lists
lists_solve slots order values kinds =
    record {
      solves = record {
        values = values;
        constraints = tt;
        nameable = record { each = λ n. named term_level (λ u. (tt, ((tt, tt), tt))) (universe_of (table_of slots order) n) };
        fitting = record { each = λ n k e. rw (kinds n k e) (record { fits = refl; closed = (tt, ((tt, tt), tt)); formed = ((refl, tt), ((tt, tt), tt)) }) };
      };
      named = record { each = λ n. named leaf_level (λ u. (tt, ((tt, tt), tt))) (universe_of (table_of slots order) n) };
      fixed = record { static = refl; erased = refl; error = refl };
      above = omega arith;
      new = λ u n l. refl;
      low = λ r l. l;
      outlives = λ a b. refl;
    }
  where
    named : (f : Label → Option ℕ) → ((u : ℕ) → NamesAll f u list_type) → (o : Option ℕ) → IfNamesAll f o list_type
    named f h None = tt
    named f h (Some u) = h u

-- it is a solution of the table without variables
solves_none : IsSolution all_but_erased 0 no_variables all_lists
solves_none = lists_solve [] [] (λ n. tt) (λ n k e. cc e)

-- it is a solution of the table with a variable of which nothing is known
solves_unset : IsSolution all_but_erased 0 one_unset all_lists
solves_unset = lists_solve (type_slot unset ∷ []) [] values kinds
  where
    values : (n : ℕ) → SolvesState all_lists n (state_of one_unset n)
    values zero = tt
    values (suc n) = tt

    kinds : (n : ℕ) (k : VariableKind) → kind_at one_unset n ≡ Some k → k ≡ kind.Ty
    kinds zero k e = cc e
    kinds (suc n) k e = cc e

-- it is no solution of a table in which the variable is another type
lists_solve_no_other : IsSolution all_but_erased 0 (one_known other_type) all_lists → ⊥
lists_solve_no_other s = (let z : list_type ≡ other_type = s.solves.values 0 in cc z)

-- it is no solution where nothing outlives anything
truth_is_the_worlds : IsSolution none_true 0 no_variables all_lists → ⊥
truth_is_the_worlds s = (let z : true ≡ false = s.outlives list_type list_type in cc z)

-- a handler that calls each table leaky is wrong about one that has a solution; one that reports leaks only where nothing can be
-- solved is right
abbrev leaky : (Content → ℕ → Type 0) → Handler
leaky f = record without_rules { leaks = f }

each_leaks_is_wrong : RespectsLeaks (leaky (λ c u. Unit {0})) all_but_erased → ⊥
each_leaks_is_wrong r = r.none no_variables 0 all_lists tt solves_none

unsolvable_leaks_is_right : (truth : Truth) → RespectsLeaks (leaky (λ c u. (w : World) → IsSolution truth u c w → ⊥)) truth
unsolvable_leaks_is_right truth = record { none = λ c u w leaks s. leaks w s }

-- it is not said of a fact that it has no solution
pub fact_is_solved : HasNoSolutionIn fact_only no_variables nowhere auto_list → ⊥
fact_is_solved h = h.none all_but_erased all_but_erased_is_fair (tight_respects fact_only (λ c u l. l) all_but_erased) (λ i. []) all_lists solves_none (λ l i. lists_plain l) (fact_has_proof (λ i. []) all_but_erased)

-- nor is it said of the fact's trait of a type variable
pub variable_is_solved : HasNoSolutionIn fact_only one_unset nowhere (auto_of variable) → ⊥
variable_is_solved h = h.none all_but_erased all_but_erased_is_fair (tight_respects fact_only (λ c u l. l) all_but_erased) (λ i. []) all_lists solves_unset (λ l i. lists_plain l) (fact_has_proof (λ i. []) all_but_erased)

-- a table keeps its own solutions, of each goal
pub same_table_keeps : (h : Handler) (c : Content) (e g : Tree) → KeepsSolutionsOf h c c e g
same_table_keeps h c e g = record { each = λ truth fair respects v w s plain p. (w, Agrees-refl (length c.slots) w, s) }

-- where the only rule is impl Auto(List), a table in which the variable is List keeps the solutions of Auto of the variable
list_is_kept : KeepsSolutionsOf fact_only one_unset (one_known list_type) nowhere (auto_of variable)
list_is_kept = record {
  each = λ truth fair respects v w s plain p. (let first = s.solves.fitting.each 0 kind.Ty refl in
      let used = fact_used [] v truth nowhere (w.tree 0) first.closed p in
      (w, Agrees-refl 1 w, is_known truth w s used.0));
}
  where
    is_known : (truth : Truth) (w : World) → IsSolution truth 0 one_unset w → w.tree 0 ≡ list_type → IsSolution truth 0 (one_known list_type) w
    is_known truth w s e =
        record {
          solves = record { values = values; constraints = tt; nameable = record { each = nameable }; fitting = record { each = fitting } };
          named = record { each = named };
          fixed = s.fixed;
          above = s.above;
          new = s.new;
          low = s.low;
          outlives = s.outlives;
        }
      where
        values : (n : ℕ) → SolvesState w n (state_of (one_known list_type) n)
        values zero = e
        values (suc n) = tt

        nameable : (n : ℕ) → IfNamesAll term_level (universe_of (one_known list_type) n) (w.tree n)
        nameable zero = s.solves.nameable.each 0
        nameable (suc n) = tt

        fitting : (n : ℕ) (k : VariableKind) → kind_at (one_known list_type) n ≡ Some k → IsValue k (w.tree n)
        fitting zero k i = s.solves.fitting.each 0 k i
        fitting (suc n) k i = cc i

        named : (n : ℕ) → IfNamesAll leaf_level (universe_of (one_known list_type) n) (w.tree n)
        named zero = s.named.each 0
        named (suc n) = tt

-- a table in which the variable is another type has lost the solution in which it is List
pub list_is_lost : KeepsSolutionsOf fact_only one_unset (one_known other_type) nowhere (auto_of variable) → ⊥
list_is_lost h =
    let (later, agrees, s) = h.each all_but_erased all_but_erased_is_fair (tight_respects fact_only (λ c u l. l) all_but_erased) (λ i. []) all_lists solves_unset (λ l i. lists_plain l) (fact_has_proof (λ i. []) all_but_erased) in
    let here : later.tree 0 ≡ other_type = s.solves.values 0 in
    let there : later.tree 0 ≡ list_type = agrees.trees 0 (omega arith) in
    let z : other_type ≡ list_type = sym here ∙ there in
    cc z

-- the query for Auto of a type variable, and the answer that the variable is this type
abbrev pub question : CanonicalInput
question = canonical_of (record { environment = nowhere; predicate = auto_of variable; hidden = empty; sub_root = λ n. n })

abbrev pub answer : Tree → Response
answer t = record { findings = record { values = t ∷ []; constraints = []; hidden = []; open_goals = [] }; kinds = []; max_universe = 0 }

module _ (v : ℕ → List Variance) (truth : Truth) where
  abbrev pub Proves : Tree → Tree → Type 0
  Proves = HasMetProof (meaning fact_only v) truth

  -- List solves the query
  list_solves : IsSolutionOf Proves question (list_type ∷ [])
  list_solves = record { values = (record { value = record { fits = refl; closed = (tt, ((tt, tt), tt)); formed = ((refl, tt), ((tt, tt), tt)) }; named = (tt, ((tt, tt), tt)) }, tt); plain = λ t i. elim i [ inl e ↦ subst IsAliasFree (sym e) (refl, ((refl, tt), tt)) | inr j ↦ absurd j ]; proved = fact_has_proof v truth }

  -- the answer List contains each solution of it
  pub list_contains_each : AnswerContains truth Proves question (answer list_type)
  list_contains_each [] s = absurd s.values
  list_contains_each (t ∷ []) s =
      let used = fact_used [] v truth nowhere t (let x = s.values.0 in x.value.closed) s.proved in
      record { own = []; values = tt; plain = λ x i. absurd i; equal = ap (λ x. x ∷ []) (sym used.0); met = tt }
  list_contains_each (t ∷ u ∷ us) s = absurd s.values.1

  -- the answer that says nothing contains each solution of it
  nothing_said_contains_each : AnswerContains truth Proves question (unconstrained question.kinds)
  nothing_said_contains_each [] s = absurd s.values
  nothing_said_contains_each (t ∷ []) s = (let x = s.values.0 in record { own = t ∷ []; values = (record { value = x.value; named = x.named }, tt); plain = s.plain; equal = refl; met = tt })
  nothing_said_contains_each (t ∷ u ∷ us) s = absurd s.values.1

  -- the answer that it is another type lacks a solution
  pub other_does_not_contain : AnswerContains truth Proves question (answer other_type) → ⊥
  other_does_not_contain h = (let c = h (list_type ∷ []) list_solves in let e = c.equal in cc e)

  -- the query is not one without solutions
  pub question_is_solved : HasNoSolution Proves question → ⊥
  question_is_solved h = h (list_type ∷ []) list_solves

-- the answer List under a region constraint
abbrev under_static : Response
under_static =
    record {
      findings = record {
        values = list_type ∷ [];
        constraints = record { relation = relation.RegionOutlives; left = leaf_tree (leaf.Region region.Static); right = leaf_tree (leaf.Region (region.EarlyParam 0)); is_visible = true } ∷ [];
        hidden = [];
        open_goals = [];
      };
      kinds = [];
      max_universe = 0;
    }

-- it contains the solution List where the constraint is true
constraint_is_met : ContainsSolution all_but_erased under_static (list_type ∷ [])
constraint_is_met = record { own = []; values = tt; plain = λ x i. absurd i; equal = refl; met = (inr refl, tt) }

-- it lacks the solution List where the constraint is not true
constraint_is_not_met : (v : ℕ → List Variance) → AnswerContains none_true (HasMetProof (meaning fact_only v) none_true) question under_static → ⊥
constraint_is_not_met v h = (let c = h (list_type ∷ []) (list_solves v none_true) in elim c.met.0 [ inl e ↦ cc e | inr e ↦ cc e ])

-- by a handler without rules the query has no solution
pub question_without_rules : (v : ℕ → List Variance) (truth : Truth) → HasNoSolution (HasMetProof (meaning without_rules v) truth) question
question_without_rules v truth [] s = s.values
question_without_rules v truth (t ∷ ts) s = without_rules_no_proof v truth nowhere empty (node (label.Clause (clause.Trait 0)) (arguments (more t empty))) tt s.proved
