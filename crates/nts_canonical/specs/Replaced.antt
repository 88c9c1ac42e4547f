-- Hidden types and arguments that are made for others.
use Rattle.std.specs.Prelude.{◌≡◌, List, [], ◌∷◌}
use Rattle.nts_model.specs.declared.labels.Leaf.{Leaf}
use Rattle.nts_model.specs.Terms.Trees.{Tree}
use Rattle.nts_model.specs.Terms.Substitutions.{leaf_tree}
use Rattle.nts_terms.specs.declared.handles.AliasTerm.{AliasTerm}
use Rattle.nts_terms.specs.declared.handles.Ty.{Ty}
use Rattle.nts_terms.specs.declared.handles.GenericArg.{GenericArg}
use Rattle.nts_store.specs.Growth.{tree_at, IsIn}
use Rattle.nts_terms.specs.Kinds.{tree_of_alias}
use Rattle.nts_canonical.specs.Forms.{IsHidden}

-- in a store b an alias and its type are the images of those in a store a
pub record IsImage (f : Tree → Tree) (a b : List Tree) (h r : AliasTerm × Ty) : Type 0 where
  pub alias : tree_of_alias b r.0 ≡ f (tree_of_alias a h.0)
  pub hidden_type : tree_at b r.1.node ≡ f (tree_at a h.1.node)
  pub held : IsHidden b r

abbrev pub AreImages : (Tree → Tree) → List Tree → List Tree → List (AliasTerm × Ty) → List (AliasTerm × Ty) → Type 0
AreImages f a b [] [] = Unit {0}
AreImages f a b [] (r ∷ rs) = ⊥
AreImages f a b (h ∷ hs) [] = ⊥
AreImages f a b (h ∷ hs) (r ∷ rs) = IsImage f a b h r × AreImages f a b hs rs

-- the arguments are these leaves
pub record IsLeafArg (ts : List Tree) (x : GenericArg) (l : Leaf) : Type 0 where
  pub within : IsIn ts x.node
  pub tree : tree_at ts x.node ≡ leaf_tree l

abbrev pub AreLeafArgs : List Tree → List GenericArg → List Leaf → Type 0
AreLeafArgs ts [] [] = Unit {0}
AreLeafArgs ts [] (l ∷ ls) = ⊥
AreLeafArgs ts (x ∷ xs) [] = ⊥
AreLeafArgs ts (x ∷ xs) (l ∷ ls) = IsLeafArg ts x l × AreLeafArgs ts xs ls
