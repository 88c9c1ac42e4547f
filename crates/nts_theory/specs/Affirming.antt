-- Goals of the engine's own kinds that are decided at once, by what a handler judges.
use Rattle.std.specs.Prelude.{◌≡◌, ℕ, false, IsTrue, Some, List, [], ◌∷◌, map}
use Rattle.nts_model.specs.declared.labels.Constant.{Constant}
use Rattle.nts_model.specs.declared.labels.Leaf.TheVariants as leaf
use Rattle.nts_model.specs.declared.labels.Relation.TheVariants as relation
use Rattle.nts_model.specs.declared.labels.ClauseHead.TheVariants as clause
use Rattle.nts_model.specs.declared.labels.PredicateHead.TheVariants as predicate
use Rattle.nts_model.specs.declared.labels.AliasHead.TheVariants as alias_of
use Rattle.nts_model.specs.declared.labels.Label.TheVariants as label
use Rattle.nts_model.specs.Terms.Trees.{Tree, empty, more, node, IsClosed, IsFormed}
use Rattle.nts_model.specs.Terms.Substitutions.{leaf_tree}
use Rattle.nts_model.specs.Derivations.Related.{Constraint, pair, unbound, value, alias}
use Rattle.nts_model.specs.Derivations.Sequents.{Premise, misc}
use Rattle.nts_model.specs.Derivations.Rules.{Equation, related, const_error}
use Rattle.nts_model.specs.Derivations.Handlers.{Candidate, certain, never, Judgements}
use Rattle.nts_theory.specs.Outliving.{SaysOutlives}

-- that a const can be evaluated, that it has a type, and that a term is well formed
abbrev pub evaluatable : Tree → Tree
evaluatable c = node (label.Clause clause.ConstEvaluatable) (more c empty)

abbrev pub has_type : Tree → Tree → Tree
has_type c t = node (label.Clause clause.ConstArgHasType) (pair c t)

abbrev pub is_well_formed : Tree → Tree
is_well_formed t = node (label.Clause clause.WellFormed) (more t empty)

-- what a statement says is so, as the handler judges: the feature is allowed, objects of the trait can be made, the const is
-- evaluated, or needs not to be, or it is an error, which has each type
pub data IsAffirmed (j : Judgements) (e : Tree) : Tree → Type 0 where
  feature_allowed : {f : ℕ} → IsTrue (j.allows e f) → IsAffirmed j e (node (label.Clause (clause.UnstableFeature f)) empty)
  has_objects : {i : ℕ} → IsTrue (j.is_dyn_compatible i) → IsAffirmed j e (node (label.Predicate (predicate.DynCompatible i)) empty)
  named_const : {c : Constant} → IsAffirmed j e (evaluatable (leaf_tree (leaf.ConstConstant c)))
  value_const : {b : ℕ} {t : Tree} → IsAffirmed j e (evaluatable (value b t))
  error_const : IsAffirmed j e (evaluatable const_error)
  error_type : {t : Tree} → IsAffirmed j e (has_type const_error t)
  evaluated_const : {i : ℕ} {ts v : Tree} → j.evaluates e (alias (alias_of.Const i) ts) ≡ Some v → IsAffirmed j e (evaluatable (alias (alias_of.Const i) ts))

-- .. it is not so: no objects of the trait can be made
pub record IsDenied (j : Judgements) (s : Tree) : Type 0 where
  pub of_trait : ℕ
  pub is : s ≡ node (label.Predicate (predicate.DynCompatible of_trait)) empty
  pub has_none : j.is_dyn_compatible of_trait ≡ false

-- a goal whose statement is affirmed, and that binds nothing
pub record SaysAffirmed (j : Judgements) (e g : Tree) : Type 0 where
  pub statement : Tree
  pub binds_nothing : g ≡ unbound statement
  pub affirmed : IsAffirmed j e statement
  pub formed : IsFormed statement
  pub closed : IsClosed statement

-- what a statement says of two terms: that the one outlives the other, or that they are one: the type of a value, and the type that
-- it is to have
pub data SaysOfTwo : Constraint → Tree → Type 0 where
  outlives_it : {x : Constraint} {s : Tree} → SaysOutlives x s → SaysOfTwo x s
  is_its_type : {b : ℕ} {u t : Tree} → SaysOfTwo (record { relation = relation.Equal; left = u; right = t }) (has_type (value b u) t)

-- a candidate that has no variables and is certain: by these equations and goals
abbrev pub plain_way : List Equation → List Premise → Candidate
plain_way qs ps = record { fresh = []; equations = qs; constraints = []; hidden = []; goals = ps; certainty = certain; accesses = never }

-- predicates that are to hold in an environment, as goals
abbrev pub goals_there : Tree → List Tree → List Premise
goals_there e ps = map (λ p. record { source = misc; environment = e; predicate = p }) ps

-- the one way in which a statement may hold by the engine: a value has the type that its own type can be equated with; and a term is
-- well formed where what the handler names holds
pub data IsOwnWay (j : Judgements) (e : Tree) : Tree → Candidate → Type 0 where
  by_type : {b : ℕ} {u t : Tree} → IsOwnWay j e (has_type (value b u) t) (plain_way (related u t ∷ []) [])
  by_goals : {t : Tree} {ps : List Tree} → j.well_formed e t ≡ Some ps → IsOwnWay j e (is_well_formed t) (plain_way [] (goals_there e ps))

-- .. of a goal that binds nothing
pub record HasOwnWay (j : Judgements) (e g : Tree) (x : Candidate) : Type 0 where
  pub statement : Tree
  pub binds_nothing : g ≡ unbound statement
  pub way : IsOwnWay j e statement x
  pub formed : IsFormed statement
  pub closed : IsClosed statement
