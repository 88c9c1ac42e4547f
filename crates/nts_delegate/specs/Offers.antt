-- What a handler made of clauses offers for a goal.
use Rattle.std.specs.Prelude.{◌≡◌, ℕ, ◌==◌, Bool, List, [], ◌∷◌, Option, Some, None, IsSome, map}
use Rattle.std.specs.List.{filter}
use Rattle.nts_model.specs.declared.labels.ClauseHead.TheVariants as clause
use Rattle.nts_model.specs.declared.labels.Label.TheVariants as label
use Rattle.nts_model.specs.Terms.Trees.{Tree, empty, more, node, children, row_length, kind_of, any_argument, FitsPlace}
use Rattle.nts_candidates.specs.nts_certainty.specs.declared.certainty.Certainty.TheVariants as certainty
use Rattle.nts_candidates.specs.nts_certainty.specs.declared.sources.GoalSource.TheVariants as source
use Rattle.nts_candidates.specs.nts_certainty.specs.declared.reruns.RerunCondition.TheVariants as rerun
use Rattle.nts_terms.specs.declared.handles.Goal.{Goal}
use Rattle.nts_terms.specs.declared.handles.Predicate.{Predicate}
use Rattle.nts_terms.specs.declared.handles.TraitRef.{TraitRef}
use Rattle.nts_store.specs.Growth.{tree_at, IsIn}
use Rattle.nts_terms.specs.Handles.{HoldsArgs}
use Rattle.nts_candidates.specs.declared.data.Equation.{Equation}
use Rattle.nts_candidates.specs.declared.data.EquationKind.TheVariants as equation
use Rattle.nts_candidates.specs.declared.data.CandidateGoal.{CandidateGoal}
use Rattle.nts_candidates.specs.declared.data.CandidateData.{CandidateData}
use Rattle.nts_delegate.specs.declared.clauses.Clause.{Clause}
use Rattle.nts_delegate.specs.declared.clauses.Clauses.{Clauses}
use Rattle.nts_delegate.specs.Clauses.{clauses_of}

-- the trait and the arguments of a trait's goal
abbrev pub trait_read : Tree → Option (ℕ × Tree)
trait_read (node (label.Clause (clause.Trait i)) (more a b)) = Some (i, a)
trait_read t = None

abbrev pub trait_of_body : Tree → Option (ℕ × Tree)
trait_of_body (more v (more s e)) = trait_read s
trait_of_body t = None

-- what a goal's trait and its arguments are
abbrev pub trait_of : Tree → Option (ℕ × Tree)
trait_of t = trait_of_body (children t)

-- .. as they are read off a node
abbrev pub read_trait : List Tree → Option TraitRef → Option (ℕ × Tree)
read_trait ts None = None
read_trait ts (Some r) = Some (r.def_id.number, tree_at ts r.args.node)

abbrev pub HoldsTrait : List Tree → Option TraitRef → Type 0
HoldsTrait ts None = Unit {0}
HoldsTrait ts (Some r) = HoldsArgs ts r.args

-- the goal is of a trait
abbrev pub IsTraits : List Tree → Goal → Type 0
IsTraits ts g = IsSome (trait_of (tree_at ts g.predicate.node))

-- an argument of the goal is to be the clause's
pub record IsArgumentPair (ts : List Tree) (a b : Tree) (q : Equation) : Type 0 where
  pub kind : q.kind ≡ equation.Related
  pub left_in : IsIn ts q.lhs.node
  pub right_in : IsIn ts q.rhs.node
  pub left : tree_at ts q.lhs.node ≡ a
  pub right : tree_at ts q.rhs.node ≡ b
  pub argument : FitsPlace any_argument (kind_of a)

-- .. each of them, one by one
abbrev pub AreArgumentPairs : List Tree → Tree → Tree → List Equation → Type 0
AreArgumentPairs ts empty empty [] = Unit {0}
AreArgumentPairs ts (more a us) (more b vs) (q ∷ qs) = IsArgumentPair ts a b q × AreArgumentPairs ts us vs qs
AreArgumentPairs ts a b qs = ⊥

abbrev pub asked_by : Goal → Predicate → CandidateGoal
asked_by g p =
    record { source = source.ImplWhereBound; goal = record { param_env = g.param_env; predicate = p } }

-- the arguments are those of the clause's head, and its body is to be proved
pub record IsOffer (ts : List Tree) (g : Goal) (args : Tree) (c : Clause) (d : CandidateData) : Type 0 where
  pub fresh : d.fresh.items ≡ c.fresh.items
  pub equations : AreArgumentPairs ts (children args) (children (tree_at ts c.head.node)) d.equations.items
  pub constraints : d.region_constraints.items ≡ []
  pub hidden : d.hidden_types.items ≡ []
  pub goals : d.goals.items ≡ map (asked_by g) c.body.items
  pub certainty : d.certainty ≡ certainty.Yes
  pub accesses : d.accesses ≡ rerun.Never

-- a clause takes as many arguments
abbrev pub takes : List Tree → Tree → Clause → Bool
takes ts args c = row_length (children args) == row_length (children (tree_at ts c.head.node))

-- one offer of each clause
abbrev pub AreEach : List Tree → Goal → Tree → List Clause → List CandidateData → Type 0
AreEach ts g args [] [] = Unit {0}
AreEach ts g args (c ∷ cs) (d ∷ ds) = IsOffer ts g args c d × AreEach ts g args cs ds
AreEach ts g args cs ds = ⊥

-- of each clause of the goal's trait that takes as many arguments; other goals have none
abbrev pub AreOffersOf : List Tree → Goal → Option (ℕ × Tree) → Clauses → List CandidateData → Type 0
AreOffersOf ts g None h ds = ds ≡ []
AreOffersOf ts g (Some r) h ds = AreEach ts g r.1 (filter (takes ts r.1) (clauses_of h r.0)) ds

abbrev pub AreOffers : List Tree → Goal → Clauses → List CandidateData → Type 0
AreOffers ts g h ds = AreOffersOf ts g (trait_of (tree_at ts g.predicate.node)) h ds
