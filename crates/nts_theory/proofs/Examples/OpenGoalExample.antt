-- An alias stands for a type where a goal that was left open is proved by who uses it: Item normalizes to List from Auto(List), which is a fact.
use Rattle.std.proofs.Common.{◌≡◌, ◌⊎◌, inl, inr, ⊎_elim, List, [], ◌∷◌, false, refl, sym, ap, ◌∙◌, subst}
use Rattle.nts_model.specs.declared.labels.AliasHead.TheVariants as alias_of
use Rattle.nts_model.specs.declared.labels.AliasRelationDirection.TheVariants as direction
use Rattle.nts_model.specs.declared.labels.PredicateHead.TheVariants as predicate
use Rattle.nts_model.specs.declared.labels.ListHead.TheVariants as list
use Rattle.nts_model.specs.declared.labels.Label.TheVariants as label
use Rattle.nts_model.specs.Terms.Trees.{Tree, empty, node, IsInRow}
use Rattle.nts_model.specs.Terms.Substitutions.{instance_of}
use Rattle.nts_model.specs.Derivations.Related.{constructor, alias, pair, unbound, IsAlias, one_tree}
use Rattle.nts_model.specs.Lists.{Among}
use Rattle.nts_model.specs.Derivations.Sequents.{Premise, Sequent, IsOfTerms}
use Rattle.nts_model.specs.Derivations.Rules.{coherence, Application, Meaning, meaning_of, relating, normalization_goal, aliases_relate, normalization, Stands, IsTerm}
use Rattle.nts_model.specs.Derivations.Proofs.{IsNormalization, Serves, HasProof, Derives, by_rule, all_derived, by_derivation}
use Rattle.nts_model.proofs.Terms.Composing.{itself, instance_of-itself}
use Rattle.nts_theory.proofs.Derivations.ClosedStatements.{closed_unbound}
use Rattle.nts_model.proofs.Terms.Identified.{one_itself}
use Rattle.nts_theory.proofs.Derivations.Flattening.{derivation_proof}
use Rattle.nts_theory.proofs.Examples.ProofExamples.{replaced_plain, auto_list, auto_sequent, auto_terms, auto_goal as open_goal, fact_clause, no_predicates}
use Rattle.nts_theory.proofs.Examples.InputExamples.{no_clauses as nowhere}

abbrev item : Tree
item = alias (alias_of.Ty 0) empty

abbrev list_type : Tree
list_type = constructor 1 empty

abbrev norm_goal : Tree
norm_goal = normalization_goal (alias_of.Ty 0) empty list_type

abbrev norm_clause : Application
norm_clause = record { environment = nowhere; conclusion = norm_goal; values = []; equations = []; goals = open_goal ∷ []; constraints = []; hidden = [] }

abbrev rules : Meaning
rules = meaning_of (λ mode x. (x ≡ norm_clause) ⊎ (x ≡ fact_clause)) (λ i. false) (λ i. [])

abbrev norm_sequent : Sequent
norm_sequent = record { environment = nowhere; predicate = norm_goal; constraints = []; hidden = []; open_goals = open_goal ∷ [] }

abbrev relate_goal : Tree
relate_goal = unbound (node (label.Predicate (predicate.AliasRelate direction.Equate)) (pair item list_type))

abbrev relate_sequent : Sequent
relate_sequent = record { environment = nowhere; predicate = relate_goal; constraints = []; hidden = []; open_goals = [] }

norm_terms : IsOfTerms norm_sequent
norm_terms =
    record {
      formed = ((tt, tt), (((refl, (refl, tt)), ((tt, tt), (((refl, (refl, tt)), ((tt, tt), (((refl, tt), ((tt, tt), tt)), tt))), tt))), tt));
      closed = ((tt, tt), ((tt, ((tt, tt), ((tt, ((tt, tt), ((tt, ((tt, tt), tt)), tt))), tt))), tt));
      no_positions = refl;
      well_bound = ((tt, tt), ((((tt, tt), ((tt, ((tt, tt), ((tt, ((tt, tt), tt)), tt))), tt)), ((tt, tt), ((tt, ((tt, tt), ((tt, ((tt, tt), tt)), tt))), tt))), tt));
      statement = closed_unbound (node (label.Predicate (predicate.NormalizesTo (alias_of.Ty 0))) (pair (node (label.List list.Args) empty) list_type)) (tt, ((tt, tt), ((tt, ((tt, tt), tt)), tt)));
      statements = λ ps p e i. absurd (subst (IsInRow p) (no_predicates ps e) i);
    }

relate_terms : IsOfTerms relate_sequent
relate_terms =
    record {
      formed = ((tt, tt), (((refl, (refl, tt)), ((tt, tt), ((((λ x. cc x), ((λ x. cc x), tt)), (((refl, tt), ((tt, tt), tt)), (((refl, tt), ((tt, tt), tt)), tt))), tt))), tt));
      closed = ((tt, tt), ((tt, ((tt, tt), ((tt, ((tt, ((tt, tt), tt)), ((tt, ((tt, tt), tt)), tt))), tt))), tt));
      no_positions = refl;
      well_bound = ((tt, tt), ((((tt, tt), ((tt, ((tt, ((tt, tt), tt)), ((tt, ((tt, tt), tt)), tt))), tt)), ((tt, tt), ((tt, ((tt, ((tt, tt), tt)), ((tt, ((tt, tt), tt)), tt))), tt))), tt));
      statement = closed_unbound (node (label.Predicate (predicate.AliasRelate direction.Equate)) (pair item list_type)) (tt, ((tt, ((tt, tt), tt)), ((tt, ((tt, tt), tt)), tt)));
      statements = λ ps p e i. absurd (subst (IsInRow p) (no_predicates ps e) i);
    }

-- the normalization rests on its open goal
abbrev NormRests : Premise → Type 0
NormRests q = Among [] q ⊎ (IsNormalization rules norm_goal × Among (open_goal ∷ []) q)

stands_open : Stands (λ y. Unit {0}) NormRests normalization open_goal
stands_open = inr ((λ x. x), (auto_list, replaced_plain _ auto_list refl, inr (refl, inl refl)))

norm_derived : Derives rules coherence [] norm_sequent
norm_derived =
    by_rule [] norm_terms
    (inl (
      _,
      refl,
      inl (
        tt,
        record {
          use_of = norm_clause;
          applies = inl refl;
          environment = refl;
          conclusion = refl;
          values = λ v i. absurd i;
          equations = λ q i. absurd i;
          goals = λ g i. ⊎_elim (λ e. subst (Stands (λ y. Unit {0}) NormRests normalization) (sym e) stands_open) (λ j. absurd j) i;
          constraints = λ x i. absurd i;
          hidden = λ o i. absurd i;
          item_bounds = λ o g i j. absurd i;
        },
      ),
    ))
    all_derived

fact_derived : Derives rules coherence [] auto_sequent
fact_derived =
    by_rule [] auto_terms
    (inl (
      _,
      refl,
      inl (
        tt,
        record {
          use_of = fact_clause;
          applies = inr refl;
          environment = refl;
          conclusion = refl;
          values = λ v i. absurd i;
          equations = λ q i. absurd i;
          goals = λ g i. absurd i;
          constraints = λ x i. absurd i;
          hidden = λ o i. absurd i;
          item_bounds = λ o g i j. absurd i;
        },
      ),
    ))
    all_derived

-- .. which is a premise of the goal that uses it
abbrev premises : List Premise
premises = relating nowhere norm_goal ∷ relating nowhere auto_list ∷ []

env_same : instance_of itself nowhere ≡ nowhere
env_same = instance_of-itself nowhere (tt, tt)

auto_same : instance_of itself auto_list ≡ auto_list
auto_same = (let f = auto_terms.formed in instance_of-itself auto_list f.1.0)

serves_norm : Serves relate_sequent (Among premises) itself norm_sequent (relating nowhere norm_goal)
serves_norm =
    record {
      environment = one_itself [] _ _ env_same;
      predicate = (let f = norm_terms.formed in one_itself [] _ _ (instance_of-itself norm_goal f.1.0));
      constraints = λ x i. absurd i;
      hidden = λ o i. absurd i;
      open_goals = λ g i. ⊎_elim (λ e. inr (inl (ap (λ (z : Premise). relating (instance_of itself z.environment) (instance_of itself z.predicate)) e ∙ (λ j. relating (env_same j) (auto_same j))))) (λ j. absurd j) i;
    }

serves_fact : Serves relate_sequent (Among premises) itself auto_sequent (relating nowhere auto_list)
serves_fact = record { environment = one_itself [] _ _ env_same; predicate = one_itself [] _ _ auto_same; constraints = λ x i. absurd i; hidden = λ o i. absurd i; open_goals = λ g i. absurd i }

abbrev item_is : IsAlias item
item_is = record { head = alias_of.Ty 0; parts = empty; is = refl; closed = (tt, ((tt, tt), tt)) }

list_term : IsTerm list_type
list_term = record { formed = ((refl, tt), ((tt, tt), tt)); closed = (tt, ((tt, tt), tt)); no_positions = refl; well_bound = (tt, ((tt, tt), tt)) }

relate_derived : Derives rules coherence [] relate_sequent
relate_derived =
    by_rule premises relate_terms
    (inl (
      _,
      refl,
      inr (aliases_relate list_type list_type (inr (item_is, list_term, tt, inl (tt, inl (inl refl)), refl)) (inl (refl, λ x. tt)) (inl (one_tree tt))),
    ))
    (by_derivation itself norm_derived serves_norm (by_derivation itself fact_derived serves_fact all_derived))

pub open_goal_proof : HasProof rules coherence relate_sequent
open_goal_proof =
    derivation_proof rules coherence relate_sequent relate_sequent itself relate_derived
    (record {
      environment = one_itself [] _ _ env_same;
      predicate = (let f = relate_terms.formed in one_itself [] _ _ (instance_of-itself relate_goal f.1.0));
      constraints = λ x i. absurd i;
      hidden = λ o i. absurd i;
      open_goals = λ g i. absurd i;
    })
