-- The rules that the trait clauses of an environment are.
use Rattle.std.specs.Prelude.{◌≡◌, ℕ, ◌+◌, ◌==◌, if◌then◌else◌, Bool, true, false, List, [], ◌∷◌, ◌++◌, Option, Some, None, get_or}
use Rattle.nts_model.specs.declared.labels.Sort.{Sort}
use Rattle.nts_model.specs.declared.labels.Sort.TheVariants as sort
use Rattle.nts_model.specs.declared.labels.BoundVarIndexKind.TheVariants as index
use Rattle.nts_model.specs.declared.labels.ListHead.TheVariants as list
use Rattle.nts_model.specs.declared.labels.Label.{Label}
use Rattle.nts_model.specs.declared.labels.Label.TheVariants as label
use Rattle.nts_model.specs.declared.labels.ClauseHead.TheVariants as clause
use Rattle.nts_model.specs.Terms.Trees.{Tree, empty, more, node, binders, children, label_of, row_length, IsRow, IsInRow, AllFit, is, one_sort}
use Rattle.nts_model.specs.Derivations.Related.{pair, arguments}
use Rattle.nts_model.specs.Terms.Scoping.{sorts_of}
use Rattle.nts_model.specs.Derivations.Rules.{Application}
use Rattle.nts_model.specs.Derivations.Handlers.{Candidate, certain, never, AreValuesOf, Handler, never_leaks, never_at_once, no_judgements}
use Rattle.nts_delegate.specs.Offers.{trait_of}
use Rattle.nts_delegate.specs.ClauseHandlers.{equations_of, trait_goal}

-- the predicates of an environment
abbrev pub rows_in : Label → Tree → Tree
rows_in (label.List list.Env) ps = ps
rows_in l ps = empty

abbrev pub rows_of : Tree → Tree
rows_of (node l ps) = rows_in l ps
rows_of t = empty

-- the sorts that a binder lists
abbrev pub sort_read : Option Label → Sort
sort_read (Some (label.List (list.Sort s))) = s
sort_read o = sort.Ty

abbrev pub sorts_in : Tree → List Sort
sorts_in (more a b) = sort_read (label_of a) ∷ sorts_in b
sorts_in t = []

abbrev pub sorts_of_predicate : Tree → List Sort
sorts_of_predicate p = sorts_in (sorts_of (children p))

-- positions in place of what the binder binds that is c binders out
abbrev pub positioned_at : ℕ → Label → Tree → Tree
positioned_at c (label.Bound s (index.Bound d) n) t = if d == c then node (label.Bound s index.Canonical n) t else node (label.Bound s (index.Bound d) n) t
positioned_at c l t = node l t

abbrev pub positioned : ℕ → Tree → Tree
positioned c empty = empty
positioned c (more a b) = more (positioned c a) (positioned c b)
positioned c (node l t) = positioned_at c l (positioned (c + binders l) t)

-- .. and values in place of it
abbrev pub valued_at : List Tree → ℕ → Label → Tree → Tree
valued_at vs c (label.Bound s (index.Bound d) n) t = if d == c then get_or vs n empty else node (label.Bound s (index.Bound d) n) t
valued_at vs c l t = node l t

abbrev pub valued : List Tree → ℕ → Tree → Tree
valued vs c empty = empty
valued vs c (more a b) = more (valued vs c a) (valued vs c b)
valued vs c (node l t) = valued_at vs c l (valued vs (c + binders l) t)

-- what a trait clause offers for a goal of its trait with these arguments
abbrev pub assumed_offer : Tree → List Sort → Tree → Candidate
assumed_offer us ss hs =
    record {
      fresh = ss;
      equations = equations_of us (positioned 0 hs);
      constraints = [];
      hidden = [];
      goals = [];
      certainty = certain;
      accesses = never;
    }

abbrev pub offer_where : Bool → Candidate → List Candidate
offer_where true c = c ∷ []
offer_where false c = []

abbrev pub fits_trait : ℕ → Tree → ℕ × Tree → Bool
fits_trait i us r = if r.0 == i then row_length us == row_length (children r.1) else false

abbrev pub offer_if : ℕ → Tree → Tree → Option (ℕ × Tree) → List Candidate
offer_if i us p None = []
offer_if i us p (Some r) = offer_where (fits_trait i us r) (assumed_offer us (sorts_of_predicate p) (children r.1))

abbrev pub offers_over : ℕ → Tree → Tree → List Candidate
offers_over i us empty = []
offers_over i us (more p ps) = offer_if i us p (trait_of p) ++ offers_over i us ps
offers_over i us (node l c) = []

abbrev pub assumed_offers : Tree → Option (ℕ × Tree) → List Candidate
assumed_offers e None = []
assumed_offers e (Some r) = offers_over r.0 (children r.1) (rows_of e)

-- a trait's clause of an environment: the sorts that it binds, the trait and its arguments
abbrev pub assumed_clause : Tree → ℕ → Tree → Tree
assumed_clause ss i us =
    node (label.List list.Binder) (pair (node (label.List list.Sorts) ss) (node (label.Clause (clause.Trait i)) (arguments us)))

-- an instance of a trait's clause of the environment: a rule without premises beyond its equations'
pub record IsAssumed (a : Application) : Type 0 where
  pub of_trait : ℕ
  pub rows : Tree
  pub environment : a.environment ≡ node (label.List list.Env) rows
  pub sorts : Tree
  pub listed : AllFit (is one_sort) sorts
  pub head : Tree
  pub head_row : IsRow head
  pub among : IsInRow (assumed_clause sorts of_trait head) rows
  pub values : AreValuesOf (sorts_in sorts) a.values
  pub with_arguments : Tree
  pub row : IsRow with_arguments
  pub as_many : row_length with_arguments ≡ row_length head
  pub conclusion : a.conclusion ≡ trait_goal of_trait with_arguments
  pub equations : a.equations ≡ equations_of with_arguments (valued a.values 0 head)
  pub no_goals : a.goals ≡ []
  pub no_constraints : a.constraints ≡ []
  pub no_hidden : a.hidden ≡ []

-- the clauses of the environment as a handler: the same in every mode
abbrev pub assuming : Handler
assuming =
    record {
      applies = λ mode a. IsAssumed a;
      offers = λ mode e g. assumed_offers e (trait_of g);
      is_coinductive = λ i. false;
      leaks = never_leaks;
      judges = no_judgements;
      at_once = never_at_once;
    }
