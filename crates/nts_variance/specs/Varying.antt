-- The walk that makes a term that stands for another, by terms of a store.
use Rattle.std.specs.Prelude.{◌≡◌, ◌≢◌, ◌⊎◌, ℕ, ◌+◌, ◌≤◌, ◌<◌, Bool, true, false, List, [], ◌∷◌, ◌++◌, map, length, cond, Option, Some}
use Rattle.nts_model.specs.declared.labels.Sort.TheVariants as sort
use Rattle.nts_model.specs.declared.labels.Variance.{Variance}
use Rattle.nts_model.specs.declared.labels.Variance.TheVariants as variance
use Rattle.nts_model.specs.declared.labels.Relation.{Relation}
use Rattle.nts_model.specs.declared.labels.Relation.TheVariants as relation
use Rattle.nts_model.specs.declared.labels.VariableKind.{VariableKind}
use Rattle.nts_model.specs.declared.labels.VariableKind.TheVariants as kind
use Rattle.nts_model.specs.declared.labels.Leaf.TheVariants as leaf
use Rattle.nts_model.specs.declared.labels.Label.TheVariants as label
use Rattle.nts_model.specs.Terms.Trees.{Tree, empty, kind_of, of_sort, label_of, row_length, any_label, is_alias, IsClosed, IsFormed}
use Rattle.nts_model.specs.Tables.Contents.{Content, state_of, universe_of, kind_at}
use Rattle.nts_model.specs.Tables.Resolving.{IsInfer, Knows, resolved}
use Rattle.nts_model.specs.Tables.Levels.{NamesAll, term_level, region_level}
use Rattle.nts_model.specs.Tables.Worlds.{World, inst, Solves}
use Rattle.nts_variance_model.specs.Variances.Forms.{FitsForm, over, variances_over}
use Rattle.nts_variance_model.specs.Variances.Relations.{AllSettleIn, IsSettledWorld}
use Rattle.nts_variance_model.specs.Variances.Relations.{Relating as Pair}
use Rattle.nts_variance_model.specs.Variances.Judging.{opposite}
use Rattle.nts_variance_model.specs.Variances.Leaving.{Judge, judging_of, Judges}
use Rattle.nts_model.specs.Tables.Measuring.{closed_aliases}
use Rattle.nts_store.specs.declared.nodes.NodeId.{NodeId}
use Rattle.nts_store.specs.Growth.{tree_at, IsIn}
use Rattle.nts_unify.specs.declared.contents.Constraint.{Constraint}
use Rattle.nts_unify.specs.declared.contents.Variable.{Variable}
use Rattle.nts_unify.specs.declared.contents.State.TheVariants as State
use Rattle.nts_unify.specs.Entries.{Entries, constrained}
use Rattle.nts_unify.specs.Reading.{content_of, IsLawful}
use Rattle.nts_unify.specs.Changing.{unset_count}
use Rattle.nts_relating.specs.Parts.{IsVariableValue}
use Rattle.nts_relating.specs.Relating.{Blocks}
use Rattle.nts_variance.specs.declared.along.Relating.{Relating}
use Rattle.nts_variance.specs.declared.vary_walk.Task.{Task}
use Rattle.nts_variance.specs.declared.vary_walk.Spot.{Spot}
use Rattle.nts_variance.specs.declared.vary_walk.Look.{Look}
use Rattle.nts_variance.specs.declared.vary_walk.Look.TheVariants as look
use Rattle.nts_variance.specs.Steps.{WalkStep, enter, build, owe, steps_of, stacked, popped, unpopped, entering, EndsAlone, builds, StepsLead}
use Rattle.nts_variance.specs.Walking.{IsTableGrown, IsMadeFor, IsChoice, SettlesOwed, Walks, IsMade, step_weights}
use Rattle.nts_variance.specs.Counting.{IsCounted, IsCountedFor}
use Rattle.nts_variance.specs.Parts.{form_of_tree, parts_of, IsNodeWithParts, StandsAlone}
use Rattle.nts_variance.specs.Debts.{IsClosedLike, OweGoals, AreUnvaluedSteps}
use Rattle.nts_variance.specs.Due.{IsTypeVariable, ShareSubRoots, IsUnvalued, AreGoalsDue}
use Rattle.nts_variance.specs.Terms.{pairs_at, AreGoals, ArePairs, step_at, AreTasks, AreMade}

-- a variable that is to be entered stands inside of a node that is to be built
abbrev pub AreInside : List WalkStep → Type 0
AreInside [] = Unit {0}
AreInside (enter v q t ∷ xs) = ((IsInfer t → ⊥) ⊎ (1 ≤ builds xs)) × AreInside xs
AreInside (build F n ∷ xs) = AreInside xs
AreInside (owe v t ∷ xs) = AreInside xs

-- whatever is made for the parts that are to be entered, each node that is to be built is of the table
abbrev pub BuildsKnown : Content → List WalkStep → List Tree → Type 0
BuildsKnown f [] ss = Unit {0}
BuildsKnown f (enter v q t ∷ xs) ss = (s : Tree) → IsMadeFor f t s → BuildsKnown f xs (s ∷ ss)
BuildsKnown f (build F n ∷ xs) ss = Knows f (over F (popped n ss empty)) × BuildsKnown f xs (over F (popped n ss empty) ∷ unpopped n ss)
BuildsKnown f (owe v t ∷ xs) ss = BuildsKnown f xs ss

-- a walk under way: u bounds what is fresh, and x is the variable for which the whole is made
pub record IsWalk (ts : List Tree) (e : Entries) (u x : ℕ) (xs : List Task) (ms : List NodeId) (gs : List Relating) : Type 0 where
  pub lawful : IsLawful ts e
  pub tasks : AreTasks ts (content_of ts e) xs
  pub made : AreMade ts (content_of ts e) u ms
  pub goals : ArePairs ts (content_of ts e) gs
  pub ends : EndsAlone (stacked (step_at ts) xs) (stacked (λ t. kind_of (tree_at ts t)) ms)
  pub inside : AreInside (stacked (step_at ts) xs)
  pub builds : (f : Content) → IsTableGrown (content_of ts e) f → BuildsKnown f (stacked (step_at ts) xs) (stacked (tree_at ts) ms)
  pub named : u ≤ e.universe
  pub known : x < length e.variables
  pub no_region : kind_at (content_of ts e) x ≢ Some kind.Region

-- the variable x is as it was
pub record IsKept (c d : Content) (x : ℕ) : Type 0 where
  pub state : state_of d x ≡ state_of c x
  pub universe : universe_of d x ≡ universe_of c x

-- a task was done, or what it stands on is left in its place: trees are what they were, and no more variables without value are to come
pub record IsTurn (declared : ℕ → List Variance) (z : Bool) (u x : ℕ) (ts us : List Tree) (e f : Entries) (xs ys : List Task) (ms ns : List NodeId) (gs hs : List Relating) : Type 0 where
  pub walk : IsWalk us f u x ys ns hs
  pub walks : Walks declared z u (content_of ts e) (content_of us f) (stacked (step_at ts) xs) (stacked (step_at us) ys) (stacked (tree_at ts) ms) (stacked (tree_at us) ns) (pairs_at ts gs) (pairs_at us hs)
  pub less : step_weights (content_of us f) (stacked (step_at us) ys) < step_weights (content_of ts e) (stacked (step_at ts) xs)
  pub kept : IsKept (content_of ts e) (content_of us f) x
  pub trees : (a : Tree) → Knows (content_of ts e) a → resolved (content_of us f) a ≡ resolved (content_of ts e) a
  pub owes : (n : ℕ) → n ≤ length (content_of ts e).slots → OweGoals n (stacked (step_at ts) xs) (stacked (tree_at ts) ms) → AreGoals (pairs_at ts gs) → OweGoals n (stacked (step_at us) ys) (stacked (tree_at us) ns) × AreGoals (pairs_at us hs)
  pub counted : (n : ℕ) → IsCounted (content_of ts e) n (stacked (step_at ts) xs) (stacked (tree_at ts) ms) → IsCounted (content_of us f) n (stacked (step_at us) ys) (stacked (tree_at us) ns)
  pub due : (b : Content) → length b.slots ≤ length (content_of ts e).slots → OweGoals (length b.slots) (stacked (step_at ts) xs) (stacked (tree_at ts) ms) → AreUnvaluedSteps b (content_of ts e) (stacked (step_at ts) xs) → AreGoalsDue b (content_of ts e) (pairs_at ts gs) → AreUnvaluedSteps b (content_of us f) (stacked (step_at us) ys) × AreGoalsDue b (content_of us f) (pairs_at us hs)

-- the pair of what was made and a part, in their order, and what it owes
abbrev pub pair_in : Bool → Variance → NodeId → NodeId → Relating
pair_in false v r t = record { variance = v; left = r; right = t }
pair_in true v r t = record { variance = opposite v; left = t; right = r }

abbrev pub owed_pairs : Bool → Spot → NodeId → List Relating
owed_pairs z s r = cond s.is_quiet [] (pair_in z s.variance r s.term ∷ [])

-- the constraint of a pair of regions
abbrev pub constraint_of_pair : Relating → Constraint
constraint_of_pair p = record { relation = relation_by p.variance; left = left_by p.variance p.left p.right; right = left_by p.variance p.right p.left; is_visible = true }
  where
    relation_by : Variance → Relation
    relation_by variance.Invariant = relation.Equal
    relation_by v = relation.RegionOutlives

    left_by : Variance → NodeId → NodeId → NodeId
    left_by variance.Contravariant a b = b
    left_by v a b = a

abbrev pub with_owed : Bool → Spot → NodeId → Entries → Entries
with_owed z s r e = cond s.is_quiet e (constrained e (constraint_of_pair (pair_in z s.variance r s.term)))

abbrev pub fresh : VariableKind → ℕ → Option ℕ → Variable
fresh k u o = record { kind = k; universe = u; state = State.Unset; sub_link = o }

-- a term made at once for a part, where the whole is made for the variable x. A type variable that is made for another one, which
-- varies, shares its sub root
pub record IsMadeAt (declared : ℕ → List Variance) (z : Bool) (u x : ℕ) (ts us : List Tree) (e f : Entries) (s : Spot) (r : NodeId) (gs hs : List Relating) : Type 0 where
  pub within : IsIn us r
  pub lawful : IsLawful us f
  pub new : List Relating
  pub goals : hs ≡ gs ++ new
  pub known : ArePairs us (content_of us f) new
  pub made : IsMade declared z u (content_of ts e) (content_of us f) s.variance s.is_quiet (tree_at ts s.term) (tree_at us r) (pairs_at us new)
  pub kept : IsKept (content_of ts e) (content_of us f) x
  pub like : (n : ℕ) → n ≤ length (content_of ts e).slots → IsClosedLike n s.variance (tree_at ts s.term) (tree_at us r)
  pub are_goals : AreGoals (pairs_at us new)
  pub counted : IsCountedFor (content_of ts e) (content_of us f) s.variance s.is_quiet (tree_at ts s.term) (tree_at us r)
  pub joins : (n m : ℕ) → s.variance ≢ variance.Invariant → IsTypeVariable (tree_at ts s.term) n → IsTypeVariable (tree_at us r) m → ShareSubRoots (content_of us f) n m
  pub due : (b : Content) → length b.slots ≤ length (content_of ts e).slots → (s.is_quiet ≡ true) ⊎ IsUnvalued b s.variance (tree_at ts s.term) → AreGoalsDue b (content_of us f) (pairs_at us new)

-- a type variable's value
pub record IsTypeValue (c : Content) (t v : Tree) : Type 0 where
  pub value : IsVariableValue c t v
  pub number : ℕ
  pub is : label_of t ≡ Some (label.Leaf (leaf.Variable kind.Ty number))
  pub closed : IsClosed t

-- a node that is made again over other parts
pub record IsMadeAgain (t : Tree) : Type 0 where
  pub formed : IsFormed t
  pub with_parts : IsNodeWithParts t
  pub fits : FitsForm (form_of_tree t) (parts_of t)

-- what a look at a part finds: a value is copied where it may vary
abbrev pub IsLook : (ℕ → List Variance) → Bool → ℕ → ℕ → List Tree → List Tree → Entries → Entries → Spot → List Relating → List Relating → Look → Type 0
IsLook declared z u x ts us e f s gs hs (look.Made r) = IsMadeAt declared z u x ts us e f s r gs hs
IsLook declared z u x ts us e f s gs hs (look.Value v) = (us ≡ ts) × (f ≡ e) × (hs ≡ gs) × IsIn ts v × IsTypeValue (content_of ts e) (tree_at ts s.term) (tree_at ts v) × (s.variance ≢ variance.Invariant)
IsLook declared z u x ts us e f s gs hs (look.Through v) = (us ≡ ts) × (f ≡ e) × (hs ≡ gs) × IsIn ts v × IsVariableValue (content_of ts e) (tree_at ts s.term) (tree_at ts v) × ((s.variance ≡ variance.Invariant) ⊎ (kind_of (tree_at ts s.term) ≡ Some (of_sort sort.Const)))
IsLook declared z u x ts us e f s gs hs look.Node = (us ≡ ts) × (f ≡ e) × (hs ≡ gs) × IsMadeAgain (tree_at ts s.term)

-- the parts of a node are to be entered in order, and then the node is to be built
pub record ArePartsPushed (declared : ℕ → List Variance) (ts : List Tree) (s : Spot) (xs ys : List Task) : Type 0 where
  pub steps : stacked (step_at ts) ys ≡ entering s.variance (variances_over declared (form_of_tree (tree_at ts s.term)) (parts_of (tree_at ts s.term))) s.is_quiet (parts_of (tree_at ts s.term)) (build (form_of_tree (tree_at ts s.term)) (row_length (parts_of (tree_at ts s.term))) ∷ stacked (step_at ts) xs)
  pub tasks : (c : Content) → Knows c (tree_at ts s.term) → AreTasks ts c xs → AreTasks ts c ys

-- the part is the variable for which the whole is made
pub record IsOwn (c : Content) (x : ℕ) (t : Tree) : Type 0 where
  pub infer : IsInfer t
  pub own : (w : World) → Solves c w → inst w t ≡ w.tree x

-- a look refuses: at the variable itself, and at a part without aliases that stands as it is, of which no instance is in the
-- variable's own tree
abbrev pub LookRefuses : Content → ℕ → ℕ → Spot → Tree → Type 0
LookRefuses c x u s t = IsOwn c x t ⊎ (StandsAlone s.variance t × (any_label is_alias t ≡ false) × Blocks c x u s.binders t)

-- no choice of the variable's own tree goes on by these steps
pub record WalkRefuses (declared : ℕ → List Variance) (u x : ℕ) (c : Content) (xs : List WalkStep) (ss : List Tree) (gs : List Pair) : Type 0 where
  pub none : (j : Judge declared) (w : World) → Solves c w → Judges declared j w → IsSettledWorld (judging_of declared j) c w → AllSettleIn (judging_of declared j) w gs
      → NamesAll term_level u (w.tree x) → StepsLead (IsChoice (judging_of declared j) u (w.tree x)) (SettlesOwed (judging_of declared j)) (steps_of (inst w) xs) (map (inst w) ss) (w.tree x) → ⊥

-- a term was made for the whole, and the goals that this owes; the variable x, for which it was made, is as it was. Invariantly the
-- term has no closed alias, and the table has at most as many more variables without value as the whole has of them
pub record IsVaried (declared : ℕ → List Variance) (z : Bool) (u x : ℕ) (ts us : List Tree) (e f : Entries) (v : Variance) (t r : NodeId) (gs : List Relating) : Type 0 where
  pub within : IsIn us r
  pub lawful : IsLawful us f
  pub known : ArePairs us (content_of us f) gs
  pub clean : NamesAll region_level u (resolved (content_of us f) (tree_at us r))
  pub walks : Walks declared z u (content_of ts e) (content_of us f) (enter v false (tree_at ts t) ∷ []) [] [] (tree_at us r ∷ []) [] (pairs_at us gs)
  pub kept : IsKept (content_of ts e) (content_of us f) x
  pub trees : (a : Tree) → Knows (content_of ts e) a → resolved (content_of us f) a ≡ resolved (content_of ts e) a
  pub are_goals : AreGoals (pairs_at us gs)
  pub none : v ≡ variance.Invariant → closed_aliases (resolved (content_of us f) (tree_at us r)) ≡ 0
  pub few : v ≡ variance.Invariant → unset_count (content_of us f).slots ≤ unset_count (content_of ts e).slots + closed_aliases (resolved (content_of ts e) (tree_at ts t))
  pub due : (b : Content) → length b.slots ≤ length (content_of ts e).slots → IsUnvalued b v (tree_at ts t) → AreGoalsDue b (content_of us f) (pairs_at us gs)
