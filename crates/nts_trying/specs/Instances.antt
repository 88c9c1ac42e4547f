-- Terms of a candidate with values in place of its fresh variables.
use Rattle.std.specs.Prelude.{◌≡◌, List, map}
use Rattle.nts_model.specs.declared.labels.Sort.{Sort}
use Rattle.nts_model.specs.Terms.Trees.{Tree, kind_of, IsFormed}
use Rattle.nts_model.specs.Terms.Substitutions.{filled}
use Rattle.nts_store.specs.declared.nodes.NodeId.{NodeId}
use Rattle.nts_terms.specs.declared.handles.Goal.{Goal}
use Rattle.nts_store.specs.Formed.{AreFormed}
use Rattle.nts_store.specs.Growth.{tree_at, IsIn, AllIn}
use Rattle.nts_meaning.specs.Evaluation.{AreOfSorts}

-- terms of the store, of the sorts of the fresh variables
pub record HoldsValues (ts : List Tree) (fresh : List Sort) (vs : List NodeId) : Type 0 where
  pub within : AllIn ts vs
  pub sorts : AreOfSorts fresh (map (tree_at ts) vs)

-- in the store b, which has grown from the store a, the term y is the term x with the values in place of its positions
pub record IsTermInstance (a b : List Tree) (vs : List NodeId) (x y : NodeId) : Type 0 where
  pub formed : AreFormed b
  pub within : IsIn b y
  pub kind : kind_of (tree_at b y) ≡ kind_of (tree_at a x)
  pub tree : tree_at b y ≡ filled (map (tree_at a) vs) (tree_at a x)

-- the tree of a term with the values in place of its positions
abbrev pub instance_at : List Tree → List NodeId → NodeId → Tree
instance_at ts vs x = filled (map (tree_at ts) vs) (tree_at ts x)

-- the goal g is the candidate's goal h with the values in place of its positions
pub record IsGoalInstance (a b : List Tree) (vs : List NodeId) (h g : Goal) : Type 0 where
  pub env : tree_at b g.param_env.node ≡ instance_at a vs h.param_env.node
  pub predicate : tree_at b g.predicate.node ≡ instance_at a vs h.predicate.node
  pub formed_env : IsFormed (instance_at a vs h.param_env.node)
  pub formed_predicate : IsFormed (instance_at a vs h.predicate.node)
