-- The rules that clauses are, and the handler that they make, over trees.
use Rattle.std.specs.Prelude.{◌≡◌, ℕ, ◌==◌, ◌++◌, ◌⊎◌, Bool, List, [], ◌∷◌, Option, Some, None, map, true, false, if◌then◌else◌}
use Rattle.std.specs.List.{filter}
use Rattle.nts_model.specs.declared.labels.Sort.{Sort}
use Rattle.nts_model.specs.declared.labels.Variance.TheVariants as variance
use Rattle.nts_model.specs.declared.labels.AliasHead.{AliasHead}
use Rattle.nts_model.specs.declared.labels.ClauseHead.TheVariants as clause
use Rattle.nts_model.specs.declared.labels.PredicateHead.TheVariants as predicate
use Rattle.nts_model.specs.declared.labels.ListHead.TheVariants as list
use Rattle.nts_model.specs.declared.labels.Label.TheVariants as label
use Rattle.nts_model.specs.Terms.Trees.{Tree, more, node, children, row_length, row_push, IsRow}
use Rattle.nts_model.specs.Derivations.Related.{arguments, unbound, pair, alias, alias_goal}
use Rattle.nts_model.specs.Lists.{Among}
use Rattle.nts_model.specs.Derivations.Sequents.{impl_where_bound, misc, Premise}
use Rattle.nts_model.specs.Derivations.Rules.{Equation, related, alike, Application, statement_of, normalization_goal}
use Rattle.nts_model.specs.Terms.Substitutions.{filled}
use Rattle.nts_model.specs.Derivations.Handlers.{Candidate, certain, never, AreValuesOf, Handler, no_judgements, never_leaks, never_at_once}
use Rattle.nts_delegate.specs.Both.{either}
use Rattle.nts_delegate.specs.Judging.{objects_alone}
use Rattle.nts_store.specs.Growth.{tree_at}
use Rattle.nts_terms.specs.declared.handles.AliasTerm.{AliasTerm}
use Rattle.nts_terms.specs.declared.handles.Term.{Term}
use Rattle.nts_terms.specs.Handles.{alias_head}
use Rattle.nts_delegate.specs.Clauses.{clauses_of, coinductive_of, said_of}
use Rattle.nts_delegate.specs.Offers.{trait_of}
use Rattle.nts_delegate.specs.declared.clauses.Clause.{Clause}
use Rattle.nts_delegate.specs.declared.alias_table.NormClause.{NormClause}
use Rattle.nts_delegate.specs.declared.clauses.Clauses.{Clauses}

-- a clause as trees: the sorts of its variables, the arguments of its head, and its body
pub record ClauseTree : Type 0 where
  pub fresh : List Sort
  pub head : Tree
  pub body : List Tree

-- the clauses of each trait
abbrev pub ClausesOfTraits : Type 0
ClausesOfTraits = ℕ → List ClauseTree

-- an argument is to be the one of the head, one by one
abbrev pub equations_of : Tree → Tree → List Equation
equations_of (more a us) (more b vs) = related a b ∷ equations_of us vs
equations_of us vs = []

-- a goal of a body, in an environment
abbrev pub asked_in : Tree → Tree → Premise
asked_in e p = record { source = impl_where_bound; environment = e; predicate = p }

-- a trait with these arguments, under a binder that binds nothing
abbrev pub trait_goal : ℕ → Tree → Tree
trait_goal i us = unbound (node (label.Clause (clause.Trait i)) (arguments us))

-- an instance of a clause: with values for its variables, a trait with as many arguments as the head follows from
-- these being those of the head, and from the body
pub record IsInstanceOfClause (clauses : ClausesOfTraits) (a : Application) : Type 0 where
  pub of_trait : ℕ
  pub of_clause : ClauseTree
  pub among : Among (clauses of_trait) of_clause
  pub values : AreValuesOf of_clause.fresh a.values
  pub with_arguments : Tree
  pub row : IsRow with_arguments
  pub as_many : row_length with_arguments ≡ row_length of_clause.head
  pub conclusion : a.conclusion ≡ trait_goal of_trait with_arguments
  pub equations : a.equations ≡ equations_of with_arguments (filled a.values of_clause.head)
  pub goals : a.goals ≡ map (asked_in a.environment) (map (filled a.values) of_clause.body)
  pub no_constraints : a.constraints ≡ []
  pub no_hidden : a.hidden ≡ []

-- what a clause offers for a goal with these arguments
abbrev pub offer_by : Tree → Tree → ClauseTree → Candidate
offer_by e us c =
    record {
      fresh = c.fresh;
      equations = equations_of us c.head;
      constraints = [];
      hidden = [];
      goals = map (asked_in e) c.body;
      certainty = certain;
      accesses = never;
    }

-- it takes as many arguments
abbrev pub takes_all : Tree → ClauseTree → Bool
takes_all us c = row_length us == row_length c.head

-- one offer of each clause that takes as many arguments, in order
abbrev pub offers_of_clauses : Tree → Tree → List ClauseTree → List Candidate
offers_of_clauses e us cs = map (offer_by e us) (filter (takes_all us) cs)

-- .. of the clauses of the goal's trait; other goals have none
abbrev pub offers_by : ClausesOfTraits → Tree → Option (ℕ × Tree) → List Candidate
offers_by clauses e None = []
offers_by clauses e (Some r) = offers_of_clauses e (children r.1) (clauses r.0)

-- a handler made of clauses: the same in every mode
abbrev pub handler_by : ClausesOfTraits → (ℕ → Bool) → Handler
handler_by clauses is_coinductive =
    record {
      applies = λ mode a. IsInstanceOfClause clauses a;
      offers = λ mode e g. offers_by clauses e (trait_of g);
      is_coinductive = is_coinductive;
      leaks = never_leaks;
      judges = objects_alone (λ i. true);
      at_once = never_at_once;
    }

-- what a goal says of an alias with arguments: what it normalizes to, or what its projection is
pub record AliasAsked : Type 0 where
  pub head : AliasHead
  pub parts : Tree
  pub term : Tree

abbrev pub normalization_read : Tree → Option AliasAsked
normalization_read (node (label.Predicate (predicate.NormalizesTo h)) (more a (more v e))) =
    Some (record { head = h; parts = children a; term = v })
normalization_read t = None

abbrev pub projection_read : Tree → Option AliasAsked
projection_read (node (label.Clause (clause.Projection h)) (more a (more v e))) =
    Some (record { head = h; parts = children a; term = v })
projection_read t = None

-- what a goal says that an alias normalizes to, if it says so
abbrev pub normalization_of : Tree → Option AliasAsked
normalization_of g = normalization_read (statement_of g)

-- what a goal says that a projection is, if it says so
abbrev pub projection_of : Tree → Option AliasAsked
projection_of g = projection_read (statement_of g)

abbrev pub projection_goal : AliasHead → Tree → Tree → Tree
projection_goal h us v = unbound (node (label.Clause (clause.Projection h)) (pair (node (label.List list.Args) us) v))

-- the clauses of each alias: their heads are the arguments, and the result as the last
abbrev pub ClausesOfAliases : Type 0
ClausesOfAliases = AliasHead → List ClauseTree

-- the arguments that a goal gives an alias, and the term that it is to be, as the last
abbrev pub asked_row : AliasAsked → Tree
asked_row w = row_push w.parts w.term

-- the offer for an alias that stands for itself: the term is to be the alias as it stands
abbrev pub as_it_stands : AliasAsked → Candidate
as_it_stands w =
    record {
      fresh = [];
      equations = alike w.term (alias w.head w.parts) ∷ [];
      constraints = [];
      hidden = [];
      goals = [];
      certainty = certain;
      accesses = never;
    }

-- the one offer of a rigid alias, or one of each clause of the alias that takes as many arguments, in order; other goals have none
abbrev pub normal_offers : ClausesOfAliases → (AliasHead → Bool) → Tree → Option AliasAsked → List Candidate
normal_offers clauses is_rigid e None = []
normal_offers clauses is_rigid e (Some w) =
    if is_rigid w.head then as_it_stands w ∷ [] else offers_of_clauses e (asked_row w) (clauses w.head)

-- an instance of a clause of an alias that is not rigid: with values for its variables, the alias with as many arguments
-- as the head normalizes to a term where these are those of the head and its result, and the body holds
pub record NormalizesByClause (clauses : ClausesOfAliases) (is_rigid : AliasHead → Bool) (a : Application) : Type 0 where
  pub asked : AliasAsked
  pub loose : is_rigid asked.head ≡ false
  pub of_clause : ClauseTree
  pub among : Among (clauses asked.head) of_clause
  pub values : AreValuesOf of_clause.fresh a.values
  pub row : IsRow asked.parts
  pub as_many : row_length (asked_row asked) ≡ row_length of_clause.head
  pub conclusion : a.conclusion ≡ normalization_goal asked.head asked.parts asked.term
  pub equations : a.equations ≡ equations_of (asked_row asked) (filled a.values of_clause.head)
  pub goals : a.goals ≡ map (asked_in a.environment) (map (filled a.values) of_clause.body)
  pub no_constraints : a.constraints ≡ []
  pub no_hidden : a.hidden ≡ []

-- a rigid alias normalizes to itself
pub record StandsRigid (is_rigid : AliasHead → Bool) (a : Application) : Type 0 where
  pub asked : AliasAsked
  pub stands : is_rigid asked.head ≡ true
  pub row : IsRow asked.parts
  pub conclusion : a.conclusion ≡ normalization_goal asked.head asked.parts asked.term
  pub no_values : a.values ≡ []
  pub equations : a.equations ≡ alike asked.term (alias asked.head asked.parts) ∷ []
  pub no_goals : a.goals ≡ []
  pub no_constraints : a.constraints ≡ []
  pub no_hidden : a.hidden ≡ []

-- what normalizes aliases: the same in every mode
abbrev pub normalizing : ClausesOfAliases → (AliasHead → Bool) → Handler
normalizing clauses is_rigid =
    record {
      applies = λ mode a. NormalizesByClause clauses is_rigid a ⊎ StandsRigid is_rigid a;
      offers = λ mode e g. normal_offers clauses is_rigid e (normalization_of g);
      is_coinductive = λ i. false;
      leaks = never_leaks;
      judges = no_judgements;
      at_once = never_at_once;
    }

-- the goal that relates an alias with the term that its projection is to be
abbrev pub alias_is : Tree → AliasAsked → Premise
alias_is e w =
    record { source = misc; environment = e; predicate = alias_goal variance.Invariant (alias w.head w.parts) w.term }

abbrev pub projected : Tree → AliasAsked → Candidate
projected e w =
    record {
      fresh = [];
      equations = [];
      constraints = [];
      hidden = [];
      goals = alias_is e w ∷ [];
      certainty = certain;
      accesses = never;
    }

-- one offer for the goal of a projection; other goals have none
abbrev pub projected_offers : Tree → Option AliasAsked → List Candidate
projected_offers e None = []
projected_offers e (Some w) = projected e w ∷ []

-- a projection is what its alias is related with
pub record IsProjected (a : Application) : Type 0 where
  pub asked : AliasAsked
  pub row : IsRow asked.parts
  pub conclusion : a.conclusion ≡ projection_goal asked.head asked.parts asked.term
  pub no_values : a.values ≡ []
  pub no_equations : a.equations ≡ []
  pub goals : a.goals ≡ alias_is a.environment asked ∷ []
  pub no_constraints : a.constraints ≡ []
  pub no_hidden : a.hidden ≡ []

-- what answers for projections: the same in every mode
abbrev pub projecting : Handler
projecting =
    record {
      applies = λ mode a. IsProjected a;
      offers = λ mode e g. projected_offers e (projection_of g);
      is_coinductive = λ i. false;
      leaks = never_leaks;
      judges = no_judgements;
      at_once = never_at_once;
    }

-- what is offered for a goal about an alias; other goals have nothing
abbrev pub alias_offers : ClausesOfAliases → (AliasHead → Bool) → Tree → Tree → List Candidate
alias_offers clauses is_rigid e g = normal_offers clauses is_rigid e (normalization_of g) ++ projected_offers e (projection_of g)

-- the rules of aliases and those of traits, which say of no table that it leaks
abbrev pub handler_with : ClausesOfAliases → (AliasHead → Bool) → ClausesOfTraits → (ℕ → Bool) → Handler
handler_with aliases is_rigid traits is_coinductive =
    record (either (either (normalizing aliases is_rigid) projecting) (handler_by traits is_coinductive)) { leaks = never_leaks }

-- the clauses of a store as trees
abbrev pub clause_tree : List Tree → Clause → ClauseTree
clause_tree ts c =
    record { fresh = c.fresh.items; head = children (tree_at ts c.head.node); body = map (λ p. tree_at ts p.node) c.body.items }

abbrev pub clauses_in_store : List Tree → Clauses → ClausesOfTraits
clauses_in_store ts h i = map (clause_tree ts) (clauses_of h i)

-- what a goal says of an alias, as it is read off its parts
abbrev pub alias_asked : List Tree → AliasTerm → Term → AliasAsked
alias_asked ts a t = record { head = alias_head a.def_id; parts = children (tree_at ts a.args.node); term = tree_at ts t.node }

-- a clause of an alias, whose result stands behind the arguments of its head
abbrev pub alias_clause_tree : List Tree → NormClause → ClauseTree
alias_clause_tree ts c =
    record {
      fresh = c.fresh.items;
      head = row_push (children (tree_at ts c.head.node)) (tree_at ts c.result.node);
      body = map (λ p. tree_at ts p.node) c.body.items;
    }

abbrev pub alias_clauses_in_store : List Tree → Clauses → ClausesOfAliases
alias_clauses_in_store ts h a = map (alias_clause_tree ts) (said_of h a).clauses

abbrev pub rigid_in : Clauses → AliasHead → Bool
rigid_in h a = (said_of h a).is_rigid

abbrev pub handler_of : List Tree → Clauses → Handler
handler_of ts h = handler_with (alias_clauses_in_store ts h) (rigid_in h) (clauses_in_store ts h) (coinductive_of h)
