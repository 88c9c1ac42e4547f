-- A goal without candidates is no, one with a fact is yes, and one with a fact and a clause whose goal is no is yes, at height one;
-- and a goal that says something of a region is yes.
use Rattle.std.proofs.Common.{◌≡◌, inl, inr, ℕ, zero, List, [], ◌∷◌, map, true, false, refl, sym, ap, subst}
use Rattle.std.specs.Prelude.{Option, Some}
use Rattle.nts_model.specs.declared.labels.ClauseHead.TheVariants as clause
use Rattle.nts_model.specs.declared.labels.FreeRegion.TheVariants as region
use Rattle.nts_model.specs.declared.labels.Leaf.TheVariants as leaf
use Rattle.nts_model.specs.declared.labels.Label.{Label}
use Rattle.nts_model.specs.declared.labels.Label.TheVariants as label
use Rattle.nts_model.specs.Terms.Trees.{Tree, empty, more, node, label_of, IsInRow, IsFormed}
use Rattle.nts_model.specs.Derivations.Related.{constructor, arguments, pair, unbound}
use Rattle.nts_model.specs.Lists.{Among}
use Rattle.nts_model.specs.Derivations.Sequents.{impl_where_bound, Premise}
use Rattle.nts_model.specs.Derivations.Rules.{coherence, Equation, related, statement_of}
use Rattle.nts_model.specs.Terms.Substitutions.{leaf_tree, filled}
use Rattle.nts_model.specs.Derivations.Handlers.{Handler, never_leaks, never_at_once, no_judgements, Candidate, certain, never, IsAsked}
use Rattle.nts_model.specs.Refutation.Choosing.{left_of, right_of}
use Rattle.nts_decisions.specs.Deciding.{HasNoAliases, blurred, blurred_candidate, MeetsBlurred, IsPlainGoal, IsRegionGoal, IsFormedCandidate, IsUniform, IsDecided, by_candidates, by_region, none_left, then_fails, then_holds, is_met, all_yes, one_no}
use Rattle.nts_theory.proofs.Examples.InputExamples.{no_clauses as nowhere}
use Rattle.nts_theory.proofs.Examples.ProofExamples.{no_predicates}

-- a trait of the type List
abbrev trait_of_list : ℕ → Tree
trait_of_list i = node (label.Clause (clause.Trait i)) (arguments (more (constructor 1 empty) empty))

abbrev pub list_goal : ℕ → Tree
list_goal i = unbound (trait_of_list i)

asked : (i : ℕ) → IsAsked nowhere (list_goal i)
asked i =
    record {
      statement = trait_of_list i;
      binds_nothing = refl;
      handlers = tt;
      formed = ((tt, tt), (((refl, (refl, tt)), ((tt, tt), (((refl, tt), (((tt, tt), (((refl, tt), ((tt, tt), tt)), tt)), tt)), tt))), tt));
      closed = ((tt, tt), ((tt, ((tt, ((tt, ((tt, tt), tt)), tt)), tt)), tt));
      no_positions = refl;
      well_bound = ((tt, tt), ((((tt, tt), ((tt, ((tt, ((tt, ((tt, tt), tt)), tt)), tt)), tt)), ((tt, tt), ((tt, ((tt, ((tt, ((tt, tt), tt)), tt)), tt)), tt))), tt));
      statements = λ ps p e i. absurd (subst (IsInRow p) (no_predicates ps e) i);
    }

pub plain : (i : ℕ) → IsPlainGoal nowhere (list_goal i)
unfolding asked
plain i = record { asked = asked i; kind = tt; no_alias = refl; no_infer = refl; blurred_environment = refl; blurred = refl }

list_formed : (i : ℕ) → IsFormed (list_goal i)
list_formed i = ((refl, (refl, tt)), ((tt, tt), (((refl, tt), (((tt, tt), (((refl, tt), ((tt, tt), tt)), tt)), tt)), tt)))

-- impl T0(?X) <- T1(?X), tried for List; and impl T0(List)
abbrev by_goal : Candidate
by_goal = record { fresh = []; equations = []; constraints = []; hidden = []; goals = record { source = impl_where_bound; environment = nowhere; predicate = list_goal 1 } ∷ []; certainty = certain; accesses = never }

abbrev fact : Tree → Candidate
fact g = record { fresh = []; equations = related g (list_goal 0) ∷ []; constraints = []; hidden = []; goals = []; certainty = certain; accesses = never }

abbrev offered_by : Option Label → Tree → List Candidate
offered_by (Some (label.Clause (clause.Trait zero))) g = by_goal ∷ fact g ∷ []
offered_by l g = []

abbrev pub two_rules : Handler
two_rules = record { applies = λ mode a. ⊥; offers = λ mode e g. offered_by (label_of (statement_of (blurred g))) (blurred g); is_coinductive = λ i. false; leaks = never_leaks; judges = no_judgements; at_once = never_at_once }

uniform_one : IsUniform two_rules coherence nowhere (list_goal 1) []
uniform_one =
    record {
      alike = λ f p a e q. (let c : (t : Tree) → blurred p ≡ t → offered_by (label_of (statement_of (blurred p))) (blurred p) ≡ offered_by (label_of (statement_of t)) t = λ t k. ap (λ z. offered_by (label_of (statement_of z)) z) k in rw (c (list_goal 1) q) refl);
      sure = λ x i. absurd i;
      formed = λ x i. absurd i;
    }

-- the second trait's goal of the list has no candidate
pub no_candidate : IsDecided two_rules coherence nowhere 0 (list_goal 1) false
unfolding plain uniform_one
no_candidate = by_candidates [] (plain 1) uniform_one none_left

formed_both : (x : Candidate) → Among (by_goal ∷ fact (list_goal 0) ∷ []) x → IsFormedCandidate x
formed_both x (inl e) = subst IsFormedCandidate (sym e) (record { equations = λ q i. absurd i; no_aliases = λ q i. absurd i; goals = λ p i. goal_formed p i })
  where
    goal_formed : (p : Premise) → Among (let g = by_goal in g.goals) p → IsFormed p.predicate
    goal_formed p (inl e) = subst (λ z. IsFormed z.predicate) (sym e) (list_formed 1)
    goal_formed p (inr i) = absurd i
formed_both x (inr (inl e)) = subst IsFormedCandidate (sym e) (record { equations = λ q i. equation_formed q i; no_aliases = λ q i. no_alias_there q i; goals = λ p i. absurd i })
  where
    equation_formed : (q : Equation) → Among (related (list_goal 0) (list_goal 0) ∷ []) q → IsFormed (left_of q) × IsFormed (right_of q)
    equation_formed q (inl e) = subst (λ z. IsFormed (left_of z) × IsFormed (right_of z)) (sym e) (list_formed 0, list_formed 0)
    equation_formed q (inr i) = absurd i

    no_alias_there : (q : Equation) → Among (related (list_goal 0) (list_goal 0) ∷ []) q → HasNoAliases q
    no_alias_there q (inl e) = subst HasNoAliases (sym e) (refl, refl)
    no_alias_there q (inr i) = absurd i
formed_both x (inr (inr i)) = absurd i

sure_both : (x : Candidate) → Among (by_goal ∷ fact (list_goal 0) ∷ []) x → x.certainty ≡ certain
sure_both x (inl e) = ap (λ z. z.certainty) e
sure_both x (inr (inl e)) = ap (λ z. z.certainty) e
sure_both x (inr (inr i)) = absurd i

uniform_both : IsUniform two_rules coherence nowhere (list_goal 0) (by_goal ∷ fact (list_goal 0) ∷ [])
uniform_both =
    record {
      alike = λ f p a e q. ap (λ z. map blurred_candidate (offered_by (label_of (statement_of z)) z)) q;
      sure = sure_both;
      formed = formed_both;
    }

meets_nothing : MeetsBlurred by_goal []
meets_nothing = record { values = tt; equal = λ q i. absurd i }

meets_fact : MeetsBlurred (fact (list_goal 0)) []
meets_fact = record { values = tt; equal = λ q i. both q i }
  where
    both : (q : Equation) → Among (related (list_goal 0) (list_goal 0) ∷ []) q → blurred (filled [] (left_of q)) ≡ blurred (filled [] (right_of q))
    both q (inl e) = subst (λ z. blurred (filled [] (left_of z)) ≡ blurred (filled [] (right_of z))) (sym e) refl
    both q (inr i) = absurd i

-- the first candidate of T0(List) fails by its goal, which is no; the fact holds
pub one_candidate_holds : IsDecided two_rules coherence nowhere 1 (list_goal 0) true
one_candidate_holds =
    by_candidates (by_goal ∷ fact (list_goal 0) ∷ []) (plain 0) uniform_both
    (then_fails (is_met [] meets_nothing (λ vs us p m n i. alone vs us p m n i) (one_no no_candidate refl))
    (then_holds (is_met [] meets_fact (λ vs us p m n i. absurd i) all_yes) none_left refl) refl)
  where
    alone : (vs us : List Tree) (p : Premise) → MeetsBlurred by_goal vs → MeetsBlurred by_goal us → Among (let g = by_goal in g.goals) p → blurred (filled vs p.predicate) ≡ blurred (filled us p.predicate)
    alone vs us p m n (inl e) = subst (λ z. blurred (filled vs z.predicate) ≡ blurred (filled us z.predicate)) (sym e) refl
    alone vs us p m n (inr i) = absurd i

-- that one region outlives another is yes, whatever they are
abbrev pub outlives_goal : Tree
outlives_goal = unbound (node (label.Clause clause.RegionOutlives) (pair (leaf_tree (leaf.Region region.Erased)) (leaf_tree (leaf.Region region.Erased))))

outlives_says : IsRegionGoal nowhere outlives_goal
outlives_says =
    record {
      statement = node (label.Clause clause.RegionOutlives) (pair (leaf_tree (leaf.Region region.Erased)) (leaf_tree (leaf.Region region.Erased)));
      binds_nothing = refl;
      says = tt;
      formed = ((tt, tt), (((refl, (refl, tt)), ((tt, tt), (((refl, (refl, tt)), ((tt, tt), ((tt, tt), tt))), tt))), tt));
      closed = ((tt, tt), ((tt, ((tt, tt), ((tt, tt), tt))), tt));
      statements = λ ps p e i. absurd (subst (IsInRow p) (no_predicates ps e) i);
      no_alias = refl;
      no_infer = refl;
      blurred_environment = refl;
      blurred = refl;
    }

pub outlives_is_yes : IsDecided two_rules coherence nowhere 0 outlives_goal true
unfolding outlives_says
outlives_is_yes = by_region outlives_says
