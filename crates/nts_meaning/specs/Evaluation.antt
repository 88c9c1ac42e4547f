-- What the steps of an evaluation keep.
use Rattle.std.specs.Prelude.{◌≡◌, ◌⊎◌, Bool, true, false, List, [], ◌∷◌, map, Some}
use Rattle.nts_model.specs.declared.labels.VariableKind.{VariableKind}
use Rattle.nts_model.specs.declared.labels.VariableKind.TheVariants as variable
use Rattle.nts_model.specs.declared.labels.Leaf.TheVariants as leaf
use Rattle.nts_model.specs.declared.labels.ClauseHead.TheVariants as clause
use Rattle.nts_model.specs.declared.labels.PredicateHead.{PredicateHead}
use Rattle.nts_model.specs.declared.labels.PredicateHead.TheVariants as predicate
use Rattle.nts_model.specs.declared.labels.Label.{Label}
use Rattle.nts_model.specs.declared.labels.Label.TheVariants as label
use Rattle.nts_model.specs.declared.labels.Sort.{Sort}
use Rattle.nts_model.specs.Terms.Trees.{Tree, empty, more, node, kind_of, of_sort, IsClosed, any_label}
use Rattle.nts_model.specs.Tables.Contents.{Content}
use Rattle.nts_model.specs.Tables.Resolving.{Knows, deeply_resolved, IsSound}
use Rattle.nts_model.specs.Tables.Holding.{Continues}
use Rattle.nts_model.specs.Derivations.Handlers.{AreValuesOf}
use Rattle.nts_model.specs.Lists.{Among}
use Rattle.nts_theory.specs.Telling.{IsTraitGoal}
use Rattle.nts_model.specs.Tables.Passing.{TreePasses, PassesQueries}
use Rattle.nts_store.specs.declared.nodes.NodeId.{NodeId}
use Rattle.nts_terms.specs.declared.handles.Goal.{Goal}
use Rattle.nts_terms.specs.declared.handles.TraitRef.{TraitRef}
use Rattle.nts_terms.specs.declared.cx.Cx.{Cx}
use Rattle.nts_store.specs.Growth.{tree_at, AllIn, Extends}
use Rattle.nts_terms.specs.Rest.{KeepsRest}
use Rattle.nts_table.specs.Tables.{Table}
use Rattle.nts_unify.specs.Reading.{content_of}
use Rattle.nts_unify.specs.Changing.{HasClosedSides}
use Rattle.nts_table.specs.Tables.{IsTable}
use Rattle.nts_delegate.specs.Candidates.{IsAskedIn, KnowsGoal}
use Rattle.nts_terms.specs.Handles.{HoldsGoal}
use Rattle.nts_model.specs.Derivations.Sequents.{Premise}
use Rattle.nts_response.specs.Forms.{premise_at}
use Rattle.nts_certainty.specs.declared.sources.GoalSource.{GoalSource}

-- the store and the table later on: terms keep their trees, the table is a later one and has all that it had, the snapshots
-- that were open are open, the mode and the hidden types are the same, and constraints between closed terms stay so
pub record Goes (ts us : List Tree) (t u : Table) : Type 0 where
  pub sound : IsSound (content_of ts t.entries)
  pub extends : Extends ts us
  pub table : IsTable us u
  pub continues : Continues (content_of ts t.entries) (content_of us u.entries)
  pub saved : u.saved ≡ t.saved
  pub mode : u.mode ≡ t.mode
  pub hidden : u.entries.hidden ≡ t.entries.hidden
  pub sides : HasClosedSides (content_of ts t.entries) → HasClosedSides (content_of us u.entries)

-- store and table went on: what was known and held is so still, and what else the store keeps is the same
pub record Runs (a b : Cx) (t u : Table) : Type 0 where
  pub goes : Goes a.nodes b.nodes t u
  pub rest : KeepsRest a b

-- a goal of the store and the table
pub record IsPosed (ts : List Tree) (t : Table) (g : Goal) : Type 0 where
  pub table : IsTable ts t
  pub holds : HoldsGoal ts g
  pub knows : KnowsGoal ts (content_of ts t.entries) g

abbrev pub AllKnown : Content → List Tree → Type 0
AllKnown c [] = Unit {0}
AllKnown c (t ∷ ts) = Knows c t × AllKnown c ts

abbrev pub AreOfSorts : List Sort → List Tree → Type 0
AreOfSorts [] [] = Unit {0}
AreOfSorts (s ∷ ss) (t ∷ ts) = (kind_of t ≡ Some (of_sort s)) × AreOfSorts ss ts
AreOfSorts ss ts = ⊥

-- terms of the store and the table that stand for variables of these sorts, with labels that any query's table may have
pub record AreValues (ts : List Tree) (t : Table) (fresh : List Sort) (vs : List NodeId) : Type 0 where
  pub within : AllIn ts vs
  pub sorts : AreOfSorts fresh (map (tree_at ts) vs)
  pub values : AreValuesOf fresh (map (tree_at ts) vs)
  pub known : AllKnown (content_of ts t.entries) (map (tree_at ts) vs)
  pub labels : (P : Label → Bool) → PassesQueries P → (v : Tree) → Among (map (tree_at ts) vs) v → TreePasses P v

-- the terms of a goal
abbrev pub asked_terms : List Tree → Goal → List Tree
asked_terms ts g = tree_at ts g.param_env.node ∷ tree_at ts g.predicate.node ∷ []

-- the goal h of the store b has no labels but those of the goal g of the store a, and what any query's table may hold
pub record AsksOnly (a b : List Tree) (g h : Goal) : Type 0 where
  pub labels : (P : Label → Bool) → PassesQueries P → ((t : Tree) → Among (asked_terms a g) t → TreePasses P t) → (t : Tree) → Among (asked_terms b h) t → TreePasses P t

-- a statement says of a trait and its arguments that the trait holds, or that it holds as an effect of the host
abbrev pub SaysOfTrait : List Tree → TraitRef → Tree → Type 0
SaysOfTrait ts r s =
    (s ≡ node (label.Clause (clause.Trait r.def_id.number)) (more (tree_at ts r.args.node) empty))
    ⊎ (s ≡ node (label.Clause (clause.HostEffect r.def_id.number)) (more (tree_at ts r.args.node) empty))

-- a goal that is asked of a handler: a trait goal without aliases
pub record IsAskedGoal (ts : List Tree) (g : Goal) : Type 0 where
  pub asked : IsAskedIn ts g
  pub trait_goal : IsTraitGoal (tree_at ts g.param_env.node) (tree_at ts g.predicate.node)

-- a type variable
abbrev pub is_type_variable_kind : VariableKind → Bool
is_type_variable_kind variable.Ty = true
is_type_variable_kind k = false

abbrev pub is_type_variable : Label → Bool
is_type_variable (label.Leaf (leaf.Variable k n)) = is_type_variable_kind k
is_type_variable l = false

-- goals that are never asked at the root
abbrev pub is_internal_head : PredicateHead → Bool
is_internal_head predicate.ConstEquate = true
is_internal_head (predicate.NormalizesTo i) = true
is_internal_head h = false

abbrev pub is_internal : Label → Bool
is_internal (label.Predicate h) = is_internal_head h
is_internal l = false

-- a term that may stand in a goal at the root
pub record IsRootTerm (ts : List Tree) (t : Table) (x : NodeId) : Type 0 where
  pub closed : IsClosed (tree_at ts x)
  pub knows : Knows (content_of ts t.entries) (tree_at ts x)

-- a goal that may be asked at the root
pub record IsAdmitted (ts : List Tree) (t : Table) (g : Goal) : Type 0 where
  pub holds : HoldsGoal ts g
  pub env : IsRootTerm ts t g.param_env.node
  pub predicate : IsRootTerm ts t g.predicate.node
  pub env_types : any_label is_type_variable (deeply_resolved (content_of ts t.entries) (tree_at ts g.param_env.node)) ≡ false
  pub asked : any_label is_internal (tree_at ts g.predicate.node) ≡ false

-- the goal h in the store b is the goal g of the store a, with what the table knows in place of its variables
pub record IsGoalUnder (a b : List Tree) (t : Table) (g h : Goal) : Type 0 where
  pub env : tree_at b h.param_env.node ≡ deeply_resolved (content_of a t.entries) (tree_at a g.param_env.node)
  pub predicate : tree_at b h.predicate.node ≡ deeply_resolved (content_of a t.entries) (tree_at a g.predicate.node)

-- goals of a store, with their sources, as premises over its trees
abbrev pub goals_at : List Tree → List (GoalSource × Goal) → List Premise
goals_at ts gs = map (premise_at ts) gs
