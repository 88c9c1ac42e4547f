-- What a proof is about: a goal in an environment, and the hypotheses that it may rest on.
use Rattle.std.specs.Prelude.{◌≡◌, ◌⊎◌, false, List, Option, Some, None}
use Rattle.nts_model.specs.declared.labels.Relation.{Relation}
use Rattle.nts_model.specs.declared.labels.Relation.TheVariants as relation
use Rattle.nts_model.specs.declared.labels.ListHead.TheVariants as list
use Rattle.nts_model.specs.declared.labels.Label.TheVariants as label
use Rattle.nts_model.specs.Terms.Trees.{Tree, node, IsInRow, any_label, is_canonical, IsFormed, IsClosed}
use Rattle.nts_model.specs.Terms.Scoping.{IsWellBound}
use Rattle.nts_model.specs.declared.labels.Leaf.{Leaf}
use Rattle.nts_model.specs.Terms.Regions.{RegionName, region_tree, name_of_leaf}
use Rattle.nts_model.specs.Tables.RegionClasses.{equated}
use Rattle.nts_model.specs.Terms.Substitutions.{leaf_tree, replace, Instance, instance_of}
use Rattle.nts_model.specs.Derivations.Related.{Constraint, pair, unbound}
use Rattle.nts_model.specs.Lists.{Among}

-- how a cycle through a step counts
pub data PathKind : Type 0 where
  coinductive unknown inductive forced_ambiguity : PathKind

-- why a goal is asked below another one
pub data Source : Type 0 where
  misc type_relating impl_where_bound alias_bound_const alias_well_formed : Source
  normalize_goal : PathKind → Source

-- a goal that is asked below another one, in an environment, and why
pub record Premise : Type 0 where
  pub source : Source
  pub environment : Tree
  pub predicate : Tree

-- an alias, and the type that it hides
pub record Hidden : Type 0 where
  pub key : Tree
  pub hidden_type : Tree

-- a goal in an environment, from hypotheses: region constraints, hidden types and, for a goal that
-- normalizes an alias alone, open goals
pub record Sequent : Type 0 where
  pub environment : Tree
  pub predicate : Tree
  pub constraints : List Constraint
  pub hidden : List Hidden
  pub open_goals : List Premise

-- where the binder of a predicate binds nothing, no bound variable of the statement names it
abbrev pub HasClosedStatement : Tree → Type 0
HasClosedStatement p = (s : Tree) → p ≡ unbound s → IsClosed s

-- of each predicate of an environment: where its binder binds nothing, no bound variable of the statement names it
abbrev pub HasClosedStatements : Tree → Type 0
HasClosedStatements e = (ps p : Tree) → e ≡ node (label.List list.Env) ps → IsInRow p ps → HasClosedStatement p

-- its goal and its environment are closed terms: no bound variable is without its binder, not even one that names a binder
-- that binds nothing, each is of the list of its binder, and there are no positions of canonical values
pub record IsOfTerms (s : Sequent) : Type 0 where
  pub formed : IsFormed (pair s.environment s.predicate)
  pub closed : IsClosed (pair s.environment s.predicate)
  pub no_positions : any_label is_canonical (pair s.environment s.predicate) ≡ false
  pub well_bound : IsWellBound (pair s.environment s.predicate)
  pub statement : HasClosedStatement s.predicate
  pub statements : HasClosedStatements s.environment

abbrev pub constraint_under : Instance → Constraint → Constraint
constraint_under ι x = record { relation = x.relation; left = instance_of ι x.left; right = instance_of ι x.right }

abbrev pub hidden_under : Instance → Hidden → Hidden
hidden_under ι h = record { key = instance_of ι h.key; hidden_type = instance_of ι h.hidden_type }

abbrev pub premise_under : Instance → Premise → Premise
premise_under ι g = record { source = g.source; environment = instance_of ι g.environment; predicate = instance_of ι g.predicate }

-- both sides are one
abbrev pub HasOneSide : Relation → Constraint → Type 0
HasOneSide relation.TypeOutlives x = ⊥
HasOneSide r x = x.left ≡ x.right

-- a constraint whose two sides are one
abbrev pub IsTrivial : Constraint → Type 0
IsTrivial x = HasOneSide x.relation x

-- a constraint is trivial or among the hypotheses
abbrev pub Grants : Sequent → Constraint → Type 0
Grants s x = IsTrivial x ⊎ Among s.constraints x

-- each region of a tree gives place to another region
abbrev pub region_or_leaf : (RegionName → RegionName) → Option RegionName → Leaf → Tree
region_or_leaf f None l = leaf_tree l
region_or_leaf f (Some x) l = region_tree (f x)

abbrev pub region_by : (RegionName → RegionName) → Leaf → Tree
region_by f l = region_or_leaf f (name_of_leaf l) l

-- the map makes one what the equalities among the constraints say is one
abbrev pub MakesOne : (RegionName → RegionName) → List Constraint → Type 0
MakesOne f xs = (x : Constraint) (a b : RegionName) → Among xs x → equated x.relation x.left x.right ≡ Some (a, b) → f a ≡ f b

-- two trees are one up to regions that the constraints say are one: each such map makes them one
abbrev pub AreOneBy : List Constraint → Tree → Tree → Type 0
AreOneBy xs s t = (f : RegionName → RegionName) → MakesOne f xs → replace (region_by f) s ≡ replace (region_by f) t

-- two hidden types are one by constraints
pub record AreOneHidden (xs : List Constraint) (h k : Hidden) : Type 0 where
  pub key : AreOneBy xs h.key k.key
  pub hidden_type : AreOneBy xs h.hidden_type k.hidden_type

-- a hidden type is trivial or among the hypotheses. Regions whose equality is a hypothesis are one
abbrev pub Hides : Sequent → Hidden → Type 0
Hides s h = AreOneBy s.constraints h.key h.hidden_type ⊎ ((k : Hidden) × Among s.hidden k × AreOneHidden s.constraints h k)

-- a sequent is an instance of another, whose hypotheses are at hand here. Regions whose equality is a hypothesis are one
pub record IsInstance (ι : Instance) (s t : Sequent) : Type 0 where
  pub environment : AreOneBy t.constraints (instance_of ι s.environment) t.environment
  pub predicate : AreOneBy t.constraints (instance_of ι s.predicate) t.predicate
  pub constraints : (x : Constraint) → Among s.constraints x → Grants t (constraint_under ι x)
  pub hidden : (h : Hidden) → Among s.hidden h → Hides t (hidden_under ι h)
  pub open_goals : (g : Premise) → Among s.open_goals g → Among t.open_goals (premise_under ι g)
