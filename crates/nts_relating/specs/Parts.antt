-- The walk that makes the value of a variable: what is left to do, and what stands for the parts so far.
use Rattle.std.specs.Prelude.{◌≡◌, ◌≢◌, ◌⊎◌, ℕ, ◌+◌, ◌*◌, ◌^◌, ◌<◌, ◌≤◌, length, List, [], ◌∷◌, ◌++◌, Option, Some, None, Bool, false}
use Rattle.std.specs.HashMap.{HashMap, get}
use Rattle.nts_model.specs.declared.labels.VariableKind.TheVariants as kind
use Rattle.nts_model.specs.declared.labels.Label.{Label}
use Rattle.nts_model.specs.Terms.Trees.{Tree, empty, more, node, NodeKind, kind_of, children, size, row_length, row_at, binders, IsBoundBelow, IsClosedUnder, IsClosed, variable_of}
use Rattle.nts_model.specs.Tables.Contents.{Content, universe_of, kind_at}
use Rattle.nts_model.specs.Tables.Resolving.{Knows, IsInfer, resolved, variable_flag, variable_rank, left_to_resolve}
use Rattle.nts_model.specs.Terms.Placeholders.{CanName}
use Rattle.nts_model.specs.Tables.Passing.{PassesVariables, TreePasses, TablePasses}
use Rattle.nts_model.specs.Tables.Levels.{NamesAll, term_level}
use Rattle.nts_model.specs.Tables.Worlds.{World, inst, Solves}
use Rattle.nts_model.specs.Tables.Holding.{Continues}
use Rattle.nts_model.specs.Tables.Equations.{ExtensionIf}
use Rattle.nts_store.specs.declared.nodes.NodeId.{NodeId}
use Rattle.nts_store.specs.Growth.{tree_at, IsIn}
use Rattle.nts_relating.specs.declared.value_walk.Part.{Part}
use Rattle.nts_relating.specs.declared.value_walk.Task.{Task}
use Rattle.nts_relating.specs.declared.value_walk.Task.TheVariants as task
use Rattle.nts_relating.specs.declared.value_walk.Look.{Look}
use Rattle.nts_relating.specs.declared.value_walk.Look.TheVariants as look
use Rattle.nts_relating.specs.contracts.value_walk.PartPartialEq.TheImpl as part_eq
use Rattle.nts_unify.specs.Entries.{Entries}
use Rattle.nts_unify.specs.Reading.{content_of, IsLawful}
use Rattle.nts_unify.specs.Changing.{KeepsKnowing, is_free_region}
use Rattle.nts_unify.specs.Knowing.{row_from}
use Rattle.nts_relating.specs.Relating.{Generalized}

-- a variable's value
pub record IsVariableValue (c : Content) (t v : Tree) : Type 0 where
  pub infer : IsInfer t
  pub sort : NodeKind
  pub own_sort : kind_of t ≡ Some sort
  pub value_sort : kind_of v ≡ Some sort
  pub knows : Knows c v
  pub same : resolved c t ≡ resolved c v
  pub lower : variable_rank v < variable_rank t
  pub closed : IsClosed v
  pub labels : (P : Label → Bool) → TablePasses P c → TreePasses P v
  pub worlds : (w : World) → Solves c w → inst w t ≡ inst w v

-- a node that may stand in the value, over other children
pub record IsGeneralizedNode (u b : ℕ) (t : Tree) : Type 0 where
  pub label : Label
  pub is : t ≡ node label (children t)
  pub alone : variable_of label ≡ None
  pub not_free : is_free_region label ≡ false
  pub named : CanName u (term_level label)
  pub below : IsBoundBelow b label

-- what a look at a term finds
abbrev pub IsGeneralizingLook : List Tree → List Tree → Entries → Entries → ℕ → ℕ → ℕ → NodeId → Look → Type 0
IsGeneralizingLook ts us e f x u b t (look.Made r) = IsIn us r × Generalized (content_of ts e) (content_of us f) x u b (tree_at ts t) (tree_at us r)
IsGeneralizingLook ts us e f x u b t (look.Value v) = (us ≡ ts) × (f ≡ e) × IsIn ts v × IsVariableValue (content_of ts e) (tree_at ts t) (tree_at ts v)
IsGeneralizingLook ts us e f x u b t look.Node = (us ≡ ts) × (f ≡ e) × IsGeneralizedNode u b (tree_at ts t)

-- the table has grown by what the value of the variable x for the tree t needs
pub record WalkGrows (c d : Content) (x u : ℕ) (t : Tree) : Type 0 where
  pub keeps : KeepsKnowing c d
  pub continues : Continues c d
  pub own : universe_of d x ≡ universe_of c x
  pub labels : (P : Label → Bool) → PassesVariables P → TablePasses P c → TreePasses P t → TablePasses P d
  pub labels_before : (P : Label → Bool) → TablePasses P d → TablePasses P c
  pub sound : (w : World) → Solves d w → Solves c w
  pub complete : (w : World) → Solves c w → NamesAll term_level u (inst w t) → ExtensionIf c d w (λ f. NamesAll f u (inst w t))

-- t, under b binders, is a part of the whole, which stands under n, or of what the whole is under the table's values
pub record IsPartOf (c : Content) (u n : ℕ) (whole : Tree) (b : ℕ) (t : Tree) : Type 0 where
  pub knows : Knows c t
  pub labels : (P : Label → Bool) → TablePasses P c → TreePasses P whole → TreePasses P t
  pub names : (f : Label → Option ℕ) (w : World) → Solves c w → NamesAll f u (inst w whole) → NamesAll f u (inst w t)
  pub closed : (w : World) → Solves c w → IsClosedUnder n (inst w whole) → IsClosedUnder b (inst w t)
  pub smaller : (w : World) → Solves c w → size (inst w t) + variable_flag t ≤ size (inst w whole) + variable_flag whole

-- .. by their terms
pub record IsGeneralizingPart (ts : List Tree) (c : Content) (u : ℕ) (root p : Part) : Type 0 where
  pub within : IsIn ts p.term
  pub room : p.binders + p.term.number < 2 ^ 64
  pub part : IsPartOf c u root.binders (tree_at ts root.term) p.binders (tree_at ts p.term)

abbrev pub part_of : Task → Part
part_of (task.Enter p) = p
part_of (task.Build p) = p
part_of (task.Pass p v) = p

-- what a task is for
abbrev pub IsGeneralizingTask : List Tree → Content → ℕ → Part → Task → Type 0
IsGeneralizingTask ts c u root (task.Enter p) = IsGeneralizingPart ts c u root p
IsGeneralizingTask ts c u root (task.Build p) = IsGeneralizingPart ts c u root p × IsGeneralizedNode u p.binders (tree_at ts p.term)
IsGeneralizingTask ts c u root (task.Pass p v) = IsGeneralizingPart ts c u root p × IsIn ts v × IsVariableValue c (tree_at ts p.term) (tree_at ts v)

abbrev pub AreGeneralizingTasks : List Tree → Content → ℕ → Part → List Task → Type 0
AreGeneralizingTasks ts c u root [] = Unit {0}
AreGeneralizingTasks ts c u root (x ∷ xs) = IsGeneralizingTask ts c u root x × AreGeneralizingTasks ts c u root xs

-- one of the tasks is for the part
abbrev pub IsPending : List Task → Part → Type 0
IsPending [] p = ⊥
IsPending (x ∷ xs) p = (part_of x ≡ p) ⊎ IsPending xs p

-- what was made for the parts so far
abbrev pub made_at : {S : Type 0} → HashMap Part NodeId S → Part → Option NodeId
made_at m p = get part_eq.ghosts.eq m p

abbrev pub Has : (Part → Option NodeId) → Part → Type 0
Has m p = (r : NodeId) × (m p ≡ Some r)

abbrev pub IsCovered : (Part → Option NodeId) → List Task → Part → Type 0
IsCovered m xs p = Has m p ⊎ IsPending xs p

-- the child of a node, found or to be found
pub record IsChildCovered (ts : List Tree) (m : Part → Option NodeId) (xs : List Task) (row : Tree) (b i : ℕ) : Type 0 where
  pub child : NodeId
  pub within : IsIn ts child
  pub tree : tree_at ts child ≡ row_at row i
  pub covered : IsCovered m xs (record { term = child; binders = b })

-- the binders round the children of a node
abbrev pub inner : ℕ → Tree → ℕ
inner b empty = b
inner b (more s t) = b
inner b (node l c) = b + binders l

-- what a task stands on is found, or is to be found first
abbrev pub IsTaskReady : List Tree → (Part → Option NodeId) → List Task → Task → Type 0
IsTaskReady ts m xs (task.Enter p) = Unit {0}
IsTaskReady ts m xs (task.Build p) = (i : ℕ) → i < row_length (children (tree_at ts p.term)) → IsChildCovered ts m xs (children (tree_at ts p.term)) (inner p.binders (tree_at ts p.term)) i
IsTaskReady ts m xs (task.Pass p v) = IsCovered m xs (record { term = v; binders = 0 })

-- the last is to be done first
abbrev pub AreTasksReady : List Tree → (Part → Option NodeId) → List Task → Type 0
AreTasksReady ts m [] = Unit {0}
AreTasksReady ts m (x ∷ xs) = IsTaskReady ts m xs x × AreTasksReady ts m xs

-- a term stands for a part
pub record IsGeneralizedFor (ts : List Tree) (c : Content) (x u : ℕ) (p : Part) (r : NodeId) : Type 0 where
  pub within : IsIn ts p.term
  pub made_in : IsIn ts r
  pub knows : Knows c (tree_at ts p.term)
  pub stands : Generalized c c x u p.binders (tree_at ts p.term) (tree_at ts r)

-- a walk under way: each task fits, what each stands on comes before it, and what was made stands for its part
pub record IsGeneralizingWalk (ts : List Tree) (e : Entries) (x u : ℕ) (root : Part) (xs : List Task) (m : Part → Option NodeId) : Type 0 where
  pub lawful : IsLawful ts e
  pub known : x < length e.variables
  pub named : u ≤ e.universe
  pub no_region : kind_at (content_of ts e) x ≢ Some kind.Region
  pub root_in : IsIn ts root.term
  pub root_known : Knows (content_of ts e) (tree_at ts root.term)
  pub tasks : AreGeneralizingTasks ts (content_of ts e) u root xs
  pub ready : AreTasksReady ts m xs
  pub made : (p : Part) (r : NodeId) → m p ≡ Some r → IsGeneralizedFor ts (content_of ts e) x u p r
  pub whole : IsCovered m xs root

-- for the measure
abbrev pub task_weight : List Tree → Content → Task → ℕ
task_weight ts c (task.Enter p) = 2 * left_to_resolve c (tree_at ts p.term) + 1
task_weight ts c (task.Build p) = 1
task_weight ts c (task.Pass p v) = 1

abbrev pub task_weights : List Tree → Content → List Task → ℕ
task_weights ts c [] = 0
task_weights ts c (x ∷ xs) = task_weight ts c x + task_weights ts c xs

-- a task was done, or what it stands on is left in its place
pub record IsGeneralizingTurn (ts us : List Tree) (e f : Entries) (x u : ℕ) (root : Part) (xs ys : List Task) (m : Part → Option NodeId) : Type 0 where
  pub walk : IsGeneralizingWalk us f x u root ys m
  pub grows : WalkGrows (content_of ts e) (content_of us f) x u (tree_at ts root.term)
  pub less : task_weights us (content_of us f) ys < task_weights ts (content_of ts e) xs

-- a part that is to be entered is a child of a node
pub record IsChild (ts : List Tree) (row : Tree) (b n : ℕ) (p : Part) : Type 0 where
  pub within : IsIn ts p.term
  pub before : p.term.number < n
  pub inside : p.binders ≡ b
  pub place : ℕ
  pub less : place < row_length row
  pub tree : tree_at ts p.term ≡ row_at row place

abbrev pub AreChildren : List Tree → Tree → ℕ → ℕ → List Task → Type 0
AreChildren ts row b n [] = Unit {0}
AreChildren ts row b n (task.Enter p ∷ xs) = IsChild ts row b n p × AreChildren ts row b n xs
AreChildren ts row b n (task.Build p ∷ xs) = ⊥
AreChildren ts row b n (task.Pass p v ∷ xs) = ⊥

-- the children of a node are to be entered from the i-th on, the first one first
pub record IsEntered (ts : List Tree) (row : Tree) (b n i : ℕ) (xs ys : List Task) : Type 0 where
  pub added : List Task
  pub are : ys ≡ xs ++ added
  pub children : AreChildren ts row b n added
  pub each : (j : ℕ) → i ≤ j → j < row_length row → (c : NodeId) × IsIn ts c × (tree_at ts c ≡ row_at row j) × IsPending added (record { term = c; binders = b })
  pub weight : (c : Content) → task_weights ts c added ≤ 6 * size (resolved c (row_from i row))
