-- What a replacer says of a tree under some binders, and what a walk under binders still has to do.
use Rattle.std.specs.Prelude.{◌≡◌, ℕ, ◌+◌, ◌≤◌, List, [], ◌∷◌, ◌++◌, Option, Some, None}
use Rattle.nts_store.specs.nts_model.specs.declared.labels.Label.{Label}
use Rattle.nts_store.specs.nts_model.specs.Terms.Trees.{Tree, empty, more, node, row_length, binders}
use Rattle.nts_store.specs.declared.nodes.NodeId.{NodeId}
use Rattle.nts_store.specs.Growth.{tree_at, IsIn}
use Rattle.nts_replacing.specs.declared.under.Place.{Place}
use Rattle.nts_replacing.specs.declared.under.Task.{Task}
use Rattle.nts_replacing.specs.declared.under.Task.TheVariants as task

-- the image of a node under d binders is the node with the images of its children, under its own binders too
abbrev pub GoesInside : (ℕ → Tree → Type 0) → (ℕ → Tree → Tree) → ℕ → Tree → Type 0
GoesInside covers image d empty = ⊥
GoesInside covers image d (more a b) = ⊥
GoesInside covers image d (node l c) = (image d (node l c) ≡ node l (image (d + binders l) c)) × covers (d + binders l) c

-- what the step says of a tree under d binders, by the store after it
abbrev pub IsStepUnder : (ℕ → Tree → Type 0) → (ℕ → Tree → Tree) → ℕ → List Tree → Tree → Option NodeId → Type 0
IsStepUnder covers image d ts t (Some r) = IsIn ts r × (tree_at ts r ≡ image d t)
IsStepUnder covers image d ts t None = GoesInside covers image d t

-- a task by the trees of its terms
pub data Job : Type 0 where
  enter : ℕ → Tree → Job
  build : ℕ → Tree → Label → ℕ → Job

abbrev pub job : List Tree → Task → Job
job ts (task.Enter p) = enter p.depth (tree_at ts p.node)
job ts (task.Build p l n) = build p.depth (tree_at ts p.node) l n

-- the last is to be done first
abbrev pub jobs : List Tree → List Task → List Job
jobs ts [] = []
jobs ts (x ∷ xs) = job ts x ∷ jobs ts xs

abbrev pub place_of : Task → Place
place_of (task.Enter p) = p
place_of (task.Build p l n) = p

-- the task at place i is under at most i binders
pub record IsTaskAt (ts : List Tree) (i : ℕ) (x : Task) : Type 0 where
  pub within : IsIn ts (place_of x).node
  pub depth : (place_of x).depth ≤ i

abbrev pub AreTasksFrom : List Tree → ℕ → List Task → Type 0
AreTasksFrom ts i [] = Unit {0}
AreTasksFrom ts i (x ∷ xs) = IsTaskAt ts i x × AreTasksFrom ts (i + 1) xs

abbrev pub AreTasksUnder : List Tree → List Task → Type 0
AreTasksUnder ts xs = AreTasksFrom ts 0 xs

-- the trees of a row under d binders, of which the first is to be done first
abbrev pub entered : ℕ → Tree → List Job
entered d empty = []
entered d (more a b) = entered d b ++ enter d a ∷ []
entered d (node l c) = []

-- what is to be done for a node
abbrev pub building : ℕ → Tree → List Job
building d empty = []
building d (more a b) = []
building d (node l c) = build d (node l c) l (row_length c) ∷ entered (d + binders l) c
