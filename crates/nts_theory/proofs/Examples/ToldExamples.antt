-- What is told binds: responses that say nothing, verdicts that stand for others, and goals that are refuted, with what is none.
use Rattle.std.proofs.Common.{subst, zero, suc, ◌≡◌, inl, inr, ℕ, zero, true, false, List, [], ◌∷◌, ◌++◌, length, Some, refl, sym, ap, arith, ◌∙◌}
use Rattle.std.specs.Prelude.{◌⊎◌}
use Rattle.nts_model.specs.declared.labels.Sort.{Sort}
use Rattle.nts_model.specs.declared.labels.Sort.TheVariants as sort
use Rattle.nts_model.specs.declared.labels.VariableKind.TheVariants as variable
use Rattle.nts_model.specs.declared.labels.Leaf.{Leaf}
use Rattle.nts_model.specs.declared.labels.Leaf.TheVariants as leaf
use Rattle.nts_model.specs.declared.labels.Label.{Label}
use Rattle.nts_model.specs.declared.labels.Label.TheVariants as label
use Rattle.nts_model.specs.Terms.Trees.{Tree}
use Rattle.nts_model.specs.Tables.Contents.{Content}
use Rattle.nts_model.specs.Lists.{Among}
use Rattle.nts_model.specs.Derivations.Rules.{Mode, GoalKind, statement_of, IsHandlers}
use Rattle.nts_model.specs.Derivations.Handlers.{Handler, Candidate, HasNoLeaks}
use Rattle.nts_model.specs.Derivations.Sequents.{Premise}
use Rattle.nts_model.specs.Refutation.Choosing.{IsCandidateMet}
use Rattle.nts_model.specs.Refutation.Opening.{entered_table, opened_in}
use Rattle.nts_model.specs.Searching.Driving.{unconstrained}
use Rattle.nts_model.specs.Canonical.Numbered.{position}
use Rattle.nts_model.specs.Canonical.Inputs.{PositionKind, type_variable, integer_variable}
use Rattle.nts_model.specs.Answers.Responses.{Response}
use Rattle.nts_model.specs.Terms.Substitutions.{leaf_tree}
use Rattle.nts_theory.proofs.Refutation.Agreeing.{nothing_is_identity}
use Rattle.nts_theory.proofs.Refutation.Affirming.{denied_no_handlers, way_no_handlers}
use Rattle.nts_theory.proofs.Refutation.Subtyping.{subtyping_no_handlers}
use Rattle.nts_theory.proofs.Refutation.Aliasing.{sides_no_handlers}
use Rattle.nts_theory.proofs.Refutation.PosedGoals.{no_goals_posed}
use Rattle.nts_theory.specs.Telling.{Verdict, Queries, IsReady, SaysNothing, ChangesNothing, StandsForAll, Refutes, all_fail, is_denied, own_fails, is_no_subtype, subtype_refused, aliases_fail, normal_refused, kind_for, Outcomes, no_outcome, then_fails, then_replies, Fails, is_unmet, has_types_apart, is_unrelated, is_refused, is_leaky, RefusesOne, refuses_one, cuts_one}
use Rattle.nts_theory.specs.AskedGoals.{asked_in}
use Rattle.nts_theory.proofs.Refutation.AskedGoals.{asks_none}
use Rattle.nts_theory.specs.RelatingCandidates.{goals_with, HasPlainEquations}
use Rattle.nts_theory.proofs.Refutation.Apart.{apart_unmet}
use Rattle.nts_theory.proofs.Refutation.PlainParts.{plain_met}

-- the answer without constraints says nothing, in each universe
unconstrained_says_nothing : (ks : List PositionKind) → SaysNothing ks (unconstrained ks)
unconstrained_says_nothing ks = refl

-- one without values says something where there is a position: it is none of this input's
abbrev without_values : Response
without_values = record { findings = record { values = []; constraints = []; hidden = []; open_goals = [] }; kinds = []; max_universe = 0 }

no_values_say_something : (k : PositionKind) (ks : List PositionKind) → SaysNothing (k ∷ ks) without_values → ⊥
no_values_say_something k ks e = (let many : 0 ≡ length (k ∷ ks) = ap (λ (r : Response). length r.kinds) e in omega (arith, many))

-- .. and so does one that makes two variables one, or a type variable a placeholder
abbrev two_variables : List PositionKind
two_variables = type_variable 0 0 ∷ type_variable 0 1 ∷ []

abbrev both_one : Response
both_one = record { findings = record { values = position sort.Ty 0 ∷ position sort.Ty 0 ∷ []; constraints = []; hidden = []; open_goals = [] }; kinds = type_variable 0 0 ∷ []; max_universe = 0 }

two_made_one_say_something : SaysNothing two_variables both_one → ⊥
two_made_one_say_something e = (let many : 1 ≡ 2 = ap (λ (r : Response). length r.kinds) e in omega (arith, many))

-- a candidate without constraints, goals and aliases that is met does not fail, where the handler reports no leak
nothing_refused : (Q : Queries) (h : Handler) (mode : Mode) (k : GoalKind) (c : Content) → RefusesOne Q h mode k [] c → ⊥
nothing_refused Q h mode k c (refuses_one d p r i n q) = i
nothing_refused Q h mode k c (cuts_one d p r i s n) = i

pub no_refusal : (Q : Queries) (h : Handler) (mode : Mode) (c : Content) (k : GoalKind) (gs : List Premise) → gs ≡ [] → RefusesOne Q h mode k (asked_in mode gs) c → ⊥
no_refusal Q h mode c k [] e r = nothing_refused Q h mode k c (subst (λ z. RefusesOne Q h mode k z c) (asks_none mode) r)
no_refusal Q h mode c k (g ∷ gs) e r = cc e

pub none_with : (vs : List Tree) (gs : List Premise) → gs ≡ [] → goals_with vs gs ≡ []
none_with vs [] e = refl
none_with vs (g ∷ gs) e = cc e

pub fact_never_fails : (Q : Queries) (h : Handler) (mode : Mode) (c : Content) (e : Tree) (x : Candidate) → HasNoLeaks h → IsCandidateMet c x → x.constraints ≡ [] → x.goals ≡ [] → HasPlainEquations x → (k : GoalKind) → Fails Q h mode k c e x → ⊥
fact_never_fails Q h mode c e x tight met constraints goals plain k (is_unmet n) = n (plain_met c x met)
fact_never_fails Q h mode c e x tight met constraints goals plain k (has_types_apart y) = apart_unmet c x y met
fact_never_fails Q h mode c e x tight met constraints goals plain k (is_unrelated n) = n.some plain
fact_never_fails Q h mode c e x tight met constraints goals plain k (is_refused ps gs there posed (inl (vs, in_one, begun, same)) poses refused) = no_refusal Q h mode posed k gs (no_goals_posed mode k there posed ps gs poses (same ∙ none_with vs x.goals goals)) refused
fact_never_fails Q h mode c e x tight met constraints goals plain k (is_refused ps gs there posed (inr (inl (outside, begun))) poses refused) = begun.some plain
fact_never_fails Q h mode c e x tight met constraints goals plain k (is_refused ps gs there posed (inr (inr (inside, begun))) poses refused) = (let b = begun.begun in b.some plain)
fact_never_fails Q h mode c e x tight met constraints goals plain k (is_leaky ps gs there posed found begun poses reach leaks) = tight found 0 leaks

-- where no verdict is left, each candidate failed
among_ends : {A : Type 0} (xs : List A) (x y : A) → Among (xs ++ x ∷ []) y → Among xs y ⊎ (y ≡ x)
among_ends [] x y (inl e) = inr e
among_ends [] x y (inr i) = absurd i
among_ends (z ∷ xs) x y (inl e) = inl (inl e)
among_ends (z ∷ xs) x y (inr i) = elim (among_ends xs x y i) [ inl j ↦ inl (inr j) | inr e ↦ inr e ]

not_empty : {A : Type 0} (xs : List A) (x : A) → xs ++ x ∷ [] ≡ [] → ⊥
not_empty [] x e = cc e
not_empty (y ∷ xs) x e = cc e

all_failed : {Q : Queries} {h : Handler} {mode : Mode} {c : Content} {e g : Tree} {qs : List Tree} {xs : List Candidate} {vs : List Verdict} → Outcomes Q h mode c e g qs xs vs → vs ≡ [] → (x : Candidate) → Among xs x → Fails Q h mode (kind_for h g) c e x
all_failed no_outcome none x i = absurd i
all_failed {Q} {h} {mode} {c} {e} {g} (then_fails {xs = xs} {x = y} before fails) none x i = elim (among_ends xs y x i) [ inl j ↦ all_failed before none x j | inr q ↦ subst (Fails Q h mode (kind_for h g) c e) (sym q) fails ]
all_failed (then_replies {vs = vs} {v = v} before reply) none x i = absurd (not_empty vs v none)

-- so a query does not refute a goal for which a candidate without constraints, goals and aliases is met: a handler that offers a fact
pub fact_is_not_refuted : (Q : Queries) (h : Handler) (mode : Mode) (c : Content) (e g : Tree) (qs : List Tree) (x : Candidate) → HasNoLeaks h → Among (h.offers mode e (opened_in c g)) x → IsCandidateMet (entered_table c g) x → x.constraints ≡ [] → x.goals ≡ [] → HasPlainEquations x
    → IsHandlers (statement_of (opened_in c g)) → Refutes Q h mode c e g qs → ⊥
fact_is_not_refuted Q h mode c e g qs x tight offered met constraints goals plain is (is_denied d) = denied_no_handlers h.judges (statement_of (opened_in c g)) d is
fact_is_not_refuted Q h mode c e g qs x tight offered met constraints goals plain is (own_fails y own one fails) = (let z = own.way in way_no_handlers h.judges e z.statement y z.way (subst (λ v. IsHandlers (statement_of v)) z.binds_nothing is))
fact_is_not_refuted Q h mode c e g qs x tight offered met constraints goals plain is (is_no_subtype outside n) = subtyping_no_handlers (opened_in c g) n.left n.right n.is is
fact_is_not_refuted Q h mode c e g qs x tight offered met constraints goals plain is (subtype_refused ps there outside l refused) = subtyping_no_handlers (opened_in c g) l.left l.right l.is is
fact_is_not_refuted Q h mode c e g qs x tight offered met constraints goals plain is (all_fail ready all) = fact_never_fails Q h mode (entered_table c g) e x tight met constraints goals plain (kind_for h (opened_in c g)) (all_failed all refl x offered)
fact_is_not_refuted Q h mode c e g qs x tight offered met constraints goals plain is (aliases_fail ready all) = fact_never_fails Q h mode (entered_table c g) e x tight met constraints goals plain (kind_for h (opened_in c g)) (all_failed all refl x offered)
fact_is_not_refuted Q h mode c e g qs x tight offered met constraints goals plain is (normal_refused ps there outside left refused other) = sides_no_handlers (entered_table c g) there e (opened_in c g) ps left is

-- and it refutes one for which nothing is offered
pub no_candidate_is_refuted : (Q : Queries) (h : Handler) (mode : Mode) (c : Content) (e g : Tree) (qs : List Tree) → IsReady c e g → h.offers mode e (opened_in c g) ≡ [] → Refutes Q h mode c e g qs
no_candidate_is_refuted Q h mode c e g qs ready none = all_fail ready (rw none no_outcome)

-- a yes over one type variable changes nothing, if its position is a type variable's; not if it is an integer variable's, which would
-- say that the type is an integer type
abbrev one_type_variable : List Tree
one_type_variable = leaf_tree (leaf.Variable variable.Ty 0) ∷ []

abbrev yes_over : PositionKind → Verdict
yes_over k = record { response = unconstrained (k ∷ []); is_yes = true }

type_position_changes_nothing : ChangesNothing one_type_variable (yes_over (type_variable 0 0))
type_position_changes_nothing =
    record { certain = refl; same = nothing_is_identity (type_variable 0 0 ∷ []) (unconstrained (type_variable 0 0 ∷ [])) refl; kinds = ((label.Leaf (leaf.Variable variable.Ty 0), refl, (leaf.Variable variable.Ty 0, refl, (0, refl))), tt) }

integer_position_says_something : ChangesNothing one_type_variable (yes_over integer_variable) → ⊥
integer_position_says_something h =
    let k = h.kinds in
    let t = k.0 in
    no_integer t.0 t.2.0 t.2.2.0 t.1 t.2.1 t.2.2.1
  where
    no_integer : (l : Label) (x : Leaf) (n : ℕ) → Some (label.Leaf (leaf.Variable variable.Ty 0)) ≡ Some l → l ≡ label.Leaf x → x ≡ leaf.Variable variable.Int n → ⊥
    no_integer l x n e f g = cc (e, f, g)

-- a yes stands for a doubt beside it only if it changes nothing
abbrev certain_one : Verdict
certain_one = record { response = both_one; is_yes = true }

abbrev doubtful_one : Verdict
doubtful_one = record { response = without_values; is_yes = false }

doubt_stands_for_no_yes : (qs : List Tree) → StandsForAll qs (certain_one ∷ doubtful_one ∷ []) doubtful_one → ⊥
doubt_stands_for_no_yes qs (i, inl same) = (let e : false ≡ true = same.certain in cc e)
doubt_stands_for_no_yes qs (i, inr same) = (let e : true ≡ false = ap (λ (v : Verdict). v.is_yes) (same certain_one (inl refl)) in cc e)

equality_stands_for_no_doubt : (qs : List Tree) → StandsForAll qs (certain_one ∷ doubtful_one ∷ []) certain_one → ⊥
equality_stands_for_no_doubt qs (i, inl same) =
    let identity = same.same in
    let p = identity.values 1 (omega arith) in
    let e : zero ≡ suc zero = number_of p.0 (p.1) in
    omega (arith, e)
  where
    number_of : (s : Sort) → position sort.Ty 0 ≡ position s 1 → zero ≡ suc zero
    number_of s q = cc q
equality_stands_for_no_doubt qs (i, inr same) = (let e : false ≡ true = ap (λ (v : Verdict). v.is_yes) (same doubtful_one (inr (inl refl))) in cc e)
