-- What a replacer says of a tree, and what a walk still has to do.
use Rattle.std.specs.Prelude.{◌≡◌, ◌⊎◌, ℕ, List, [], ◌∷◌, ◌++◌, Option, Some, cond, nat_eq}
use Rattle.nts_store.specs.nts_model.specs.declared.labels.Label.{Label}
use Rattle.nts_store.specs.nts_model.specs.Terms.Trees.{Tree, empty, more, node, row_length, shape, Meets}
use Rattle.nts_store.specs.declared.nodes.NodeId.{NodeId}
use Rattle.nts_replacing.specs.declared.replacement.Step.{Step}
use Rattle.nts_replacing.specs.declared.replacement.Step.TheVariants as step
use Rattle.nts_replacing.specs.declared.replacement.Task.{Task}
use Rattle.nts_replacing.specs.declared.replacement.Task.TheVariants as task
use Rattle.nts_store.specs.Growth.{tree_at, IsIn}

-- the image of the first tree is the second with the images of its children
abbrev pub GoesDown : (Tree → Type 0) → (Tree → Tree) → Tree → Tree → Type 0
GoesDown covers image t empty = ⊥
GoesDown covers image t (more a b) = ⊥
GoesDown covers image t (node l c) = (image t ≡ node l (image c)) × covers c

-- the term stands for the image of the tree
abbrev pub IsImage : (Tree → Tree) → Tree → List Tree → NodeId → Type 0
IsImage image t ts r = IsIn ts r × (tree_at ts r ≡ image t)

-- what the step says of a tree, by the store after it
abbrev pub IsStep : (Tree → Type 0) → (Tree → Tree) → List Tree → Tree → Step → Type 0
IsStep covers image ts t (step.Done r) = IsIn ts r × (tree_at ts r ≡ image t)
IsStep covers image ts t (step.Down n) = IsIn ts n × GoesDown covers image t (tree_at ts n)

-- a task by the trees of its terms
pub data Job : Type 0 where
  enter : Tree → Job
  build : Tree → Label → ℕ → Job

abbrev pub job : List Tree → Task → Job
job ts (task.Enter t) = enter (tree_at ts t)
job ts (task.Build t l n) = build (tree_at ts t) l n

-- the last is to be done first
abbrev pub jobs : List Tree → List Task → List Job
jobs ts [] = []
jobs ts (x ∷ xs) = job ts x ∷ jobs ts xs

abbrev pub TaskIn : List Tree → Task → Type 0
TaskIn ts (task.Enter t) = IsIn ts t
TaskIn ts (task.Build t l n) = IsIn ts t

abbrev pub TasksIn : List Tree → List Task → Type 0
TasksIn ts [] = Unit {0}
TasksIn ts (x ∷ xs) = TaskIn ts x × TasksIn ts xs

-- the trees of a row, of which the first is to be done first
abbrev pub entered : Tree → List Job
entered empty = []
entered (more a b) = entered b ++ enter a ∷ []
entered (node l c) = []

-- what is to be done for a node
abbrev pub building : Tree → List Job
building empty = []
building (more a b) = []
building (node l c) = build (node l c) l (row_length c) ∷ entered c

-- the children of a node fit its label
abbrev pub IsFormedNode : Tree → Type 0
IsFormedNode empty = Unit {0}
IsFormedNode (more a b) = Unit {0}
IsFormedNode (node l c) = Meets (shape l) c

-- a memory is as it was, or holds this term for this number too
abbrev pub MayHold : (ℕ → Option NodeId) → (ℕ → Option NodeId) → ℕ → NodeId → Type 0
MayHold old new n r = (k : ℕ) → (new k ≡ old k) ⊎ (new k ≡ cond (nat_eq n k) (Some r) (old k))
