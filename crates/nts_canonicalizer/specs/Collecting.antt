-- What a walk that collects leaves has read, and what it still has to do.
use Rattle.std.specs.Prelude.{◌≡◌, ℕ, ◌+◌, ◌*◌, ◌<◌, Bool, false, cond, List, [], ◌∷◌, ◌++◌, get_or}
use Rattle.nts_model.specs.declared.labels.Leaf.{Leaf}
use Rattle.nts_model.specs.declared.labels.Label.{Label}
use Rattle.nts_model.specs.declared.labels.Label.TheVariants as label
use Rattle.nts_model.specs.Terms.Trees.{Tree, empty, more, node, size}
use Rattle.nts_model.specs.Lists.{Among}
use Rattle.nts_model.specs.Canonical.Numbered.{added, seen, no_leaf}
use Rattle.nts_model.specs.Canonical.Inputs.{is_static}
use Rattle.nts_model.specs.Answers.Responses.{is_fixed}
use Rattle.nts_store.specs.Growth.{tree_at, IsIn}
use Rattle.nts_canonicalizer.specs.declared.collecting.Staying.{Staying}
use Rattle.nts_canonicalizer.specs.declared.collecting.Staying.TheVariants as staying
use Rattle.nts_canonicalizer.specs.declared.collecting.Task.{Task}
use Rattle.nts_canonicalizer.specs.declared.collecting.Task.TheVariants as task

-- the leaves that stay as they are
abbrev pub stays_where : Staying → Leaf → Bool
stays_where staying.Nothing = no_leaf
stays_where staying.Static = is_static
stays_where staying.FixedRegions = is_fixed

-- the leaves that were seen once a leaf is read
abbrev pub after_leaf : (Leaf → Bool) → List Leaf → Leaf → List Leaf
after_leaf stays s l = cond (stays l) s (added s l)

-- a task by the tree of its term
pub data Job : Type 0 where
  read finish : Tree → Job

abbrev pub job : List Tree → Task → Job
job ts (task.Enter t) = read (tree_at ts t)
job ts (task.Finish t) = finish (tree_at ts t)

-- the last is to be done first
abbrev pub jobs : List Tree → List Task → List Job
jobs ts [] = []
jobs ts (x ∷ xs) = job ts x ∷ jobs ts xs

abbrev pub TaskIn : List Tree → Task → Type 0
TaskIn ts (task.Enter t) = IsIn ts t
TaskIn ts (task.Finish t) = IsIn ts t

abbrev pub TasksIn : List Tree → List Task → Type 0
TasksIn ts [] = Unit {0}
TasksIn ts (x ∷ xs) = TaskIn ts x × TasksIn ts xs

-- the trees of a row, of which the first is to be read first
abbrev pub entered : Tree → List Job
entered empty = []
entered (more a b) = entered b ++ read a ∷ []
entered (node l c) = []

-- the leaves that are seen once all is done
abbrev pub seen_after : (Leaf → Bool) → List Job → List Leaf → List Leaf
seen_after stays [] s = s
seen_after stays (read t ∷ js) s = seen stays (seen_after stays js s) t
seen_after stays (finish t ∷ js) s = seen_after stays js s

-- each leaf of the tree that doesn't stay is among those seen
abbrev pub IsLabelRead : (Leaf → Bool) → List Leaf → Label → Type 0 → Type 0
IsLabelRead stays s (label.Leaf x) inside = stays x ≡ false → Among s x
IsLabelRead stays s l inside = inside

abbrev pub IsRead : (Leaf → Bool) → List Leaf → Tree → Type 0
IsRead stays s empty = Unit {0}
IsRead stays s (more a b) = IsRead stays s a × IsRead stays s b
IsRead stays s (node l c) = IsLabelRead stays s l (IsRead stays s c)

-- .. of each of these terms
abbrev pub AreRead : (Leaf → Bool) → List Tree → List Leaf → List ℕ → Type 0
AreRead stays ts s [] = Unit {0}
AreRead stays ts s (n ∷ ns) = IsRead stays s (get_or ts n empty) × AreRead stays ts s ns

-- a tree that is to be finished is read once all that is to be done before is done
abbrev pub AreDue : (Leaf → Bool) → List Job → List Leaf → Type 0
AreDue stays [] s = Unit {0}
AreDue stays (read t ∷ js) s = AreDue stays js s
AreDue stays (finish t ∷ js) s = IsRead stays (seen_after stays js s) t × AreDue stays js s

-- how much there is to do
abbrev pub job_weight : Job → ℕ
job_weight (read t) = 2 * size t
job_weight (finish t) = 1

abbrev pub job_weights : List Job → ℕ
job_weights [] = 0
job_weights (j ∷ js) = job_weight j + job_weights js

-- a walk that has seen these leaves, and has finished these terms
pub record IsReading (stays : Leaf → Bool) (ts : List Tree) (tasks : List Task) (s : List Leaf) (finished : List ℕ) : Type 0 where
  pub within : TasksIn ts tasks
  pub due : AreDue stays (jobs ts tasks) s
  pub are_read : AreRead stays ts s finished

-- a walk that goes on: it will have seen the same, and has less to do
pub record WalkGoesOn (stays : Leaf → Bool) (ts : List Tree) (xs : List Task) (s : List Leaf) (ns : List ℕ) (ys : List Task) (u : List Leaf) (ms : List ℕ) : Type 0 where
  pub reading : IsReading stays ts ys u ms
  pub same : seen_after stays (jobs ts ys) u ≡ seen_after stays (jobs ts xs) s
  pub less : job_weights (jobs ts ys) < job_weights (jobs ts xs)
