-- What a folder that normalizes makes of a tree: children come first, and then an alias gives place to what a closure answers of it.
use Rattle.std.specs.Prelude.{◌≡◌, ◌⊎◌, ◌+◌, ◌-◌, ◌≤◌, ℕ, Bool, true, false, List, [], ◌∷◌, ◌++◌, length, take, Option, Some, None, IsSome, IfSome}
use Rattle.nts_model.specs.declared.labels.Sort.{Sort}
use Rattle.nts_model.specs.declared.labels.VariableKind.{VariableKind}
use Rattle.nts_model.specs.Terms.Trees.{Tree, empty, more, node, any_label, is_alias, IsClosed, IsClosedUnder, variable_of}
use Rattle.nts_model.specs.Tables.Contents.{Content, universe_of, in_universe}
use Rattle.nts_model.specs.Tables.Passing.{AllLabels}
use Rattle.nts_model.specs.Tables.Resolving.{deeply_resolved}
use Rattle.nts_folding.specs.Folding.{Walk, Stops}
use Rattle.nts_placeholder.specs.declared.maps.Placeholder.{Placeholder}
use Rattle.nts_placeholder.specs.declared.maps.BoundVar.{BoundVar}
use Rattle.nts_placeholder.specs.Closing.{closed_by}
use Rattle.nts_placeholder.specs.Escaping.{escapes}
use Rattle.nts_placeholder.specs.Opening.{opened_by, AreMapsOf}
use Rattle.nts_placeholder.specs.Universes.{filled_universes, open_before, IsReach, RunsOut}
use Rattle.nts_store.specs.declared.fault.EvalError.{EvalError}
use Rattle.nts_store.specs.declared.fault.EvalError.TheVariants.{Memory, Full}
use Rattle.nts_normalize.specs.Calling.{ClosureNormalizes, ClosureAnswers, ClosureRefuses}

-- where a walk stands: what the table holds, the universes of the binders around, the innermost last, the goals that were
-- collected, and the closure
pub record Standing (F : Type 0) : Type 0 where
  pub content : Content
  pub universes : List (Option ℕ)
  pub goals : List Tree
  pub normalize : F

-- the tree is an alias
abbrev pub is_alias_tree : Tree → Bool
is_alias_tree empty = false
is_alias_tree (more a b) = false
is_alias_tree (node l c) = is_alias l

-- no universe comes after this one
abbrev pub last_universe : ℕ
last_universe = 4294967295

-- a goal that was left is collected
abbrev pub collected : {A : Type 0} → Option A → List A
collected None = []
collected (Some g) = g ∷ []

-- the universe names the variable of that number, if the table has it
abbrev pub NamesVariable : ℕ → Content → Option (VariableKind × ℕ) → Type 0
NamesVariable u c None = Unit {0}
NamesVariable u c (Some v) = IfSome (universe_of c v.1) (λ w. w ≤ u)

-- .. each variable of the tree, under the values of the table
abbrev pub NamesVariables : ℕ → Content → Tree → Type 0
NamesVariables u c t = AllLabels (λ l. NamesVariable u c (variable_of l)) (deeply_resolved c t)

-- the answer to an alias under binders is left out: a goal is ambiguous, and the term has a variable that was made for it
pub record IsLeftOut (u : ℕ) (c : Content) (t : Tree) (o : Option Tree) : Type 0 where
  pub ambiguous : IsSome o
  pub new : NamesVariables u c t → ⊥

module _ {F : Type 0} (g : ClosureNormalizes F) where
  -- in one more universe the closure answers of the alias x the term y and the goal o
  pub record Asks (s : Standing F) (x y : Tree) (o : Option Tree) (t : Standing F) : Type 0 where
    pub answers : ClosureAnswers g s.normalize (in_universe s.content (s.content.universe + 1)) x y o t.normalize t.content
    pub universes : t.universes ≡ s.universes
    pub goals : t.goals ≡ s.goals

  -- the goal, if any, is collected
  pub record Collects (o : Option Tree) (s t : Standing F) : Type 0 where
    pub content : t.content ≡ s.content
    pub universes : t.universes ≡ s.universes
    pub goals : t.goals ≡ s.goals ++ collected o
    pub normalize : t.normalize ≡ s.normalize

  -- universes are made for the open entries that the bound variables that escape from x name, outer ones first
  pub record Fills (s : Standing F) (x : Tree) (t : Standing F) : Type 0 where
    pub reach : ℕ
    pub is_reach : IsReach s.universes (escapes x) reach
    pub universes : t.universes ≡ filled_universes s.content.universe reach s.universes
    pub content : t.content ≡ in_universe s.content (s.content.universe + open_before reach s.universes)
    pub goals : t.goals ≡ s.goals
    pub normalize : t.normalize ≡ s.normalize

  -- the alias x is opened with placeholders of the universes around: this is y, and the maps tell what stands for what
  pub record OpensAlias (s : Standing F) (x y : Tree) (maps : Sort → Placeholder → Option BoundVar) (t : Standing F) : Type 0 where
    pub fills : Fills s x t
    pub are_maps : AreMapsOf t.universes (escapes x) maps
    pub tree : y ≡ opened_by t.universes 0 x

  -- an alias from which no bound variable escapes gives place to the answer
  pub record IsReplaced (s : Standing F) (x y : Tree) (t : Standing F) : Type 0 where
    pub closed : IsClosed x
    pub goal : Option Tree
    pub asked : Standing F
    pub asks : Asks s x y goal asked
    pub collects : Collects goal asked t

  -- an opened alias is asked about, and the answer is closed again; what was opened stays where the answer is left out
  pub record IsAnsweredUnder (s : Standing F) (x alias : Tree) (maps : Sort → Placeholder → Option BoundVar) (y : Tree) (t : Standing F) : Type 0 where
    pub term : Tree
    pub goal : Option Tree
    pub asked : Standing F
    pub asks : Asks s alias term goal asked
    pub ends :
        IsLeftOut s.content.universe asked.content term goal × (y ≡ x) × (t ≡ asked)
        ⊎ ((IsLeftOut s.content.universe asked.content term goal → ⊥)
        × (y ≡ closed_by maps asked.universes 0 (deeply_resolved asked.content term)) × Collects goal asked t)

  -- one from which some escape is opened with placeholders, and answered
  pub record IsReplacedUnder (s : Standing F) (x y : Tree) (t : Standing F) : Type 0 where
    pub escaping : IsClosed x → ⊥
    pub listed : IsClosedUnder (length s.universes) x
    pub between : Standing F
    pub alias : Tree
    pub maps : Sort → Placeholder → Option BoundVar
    pub opens : OpensAlias s x alias maps between
    pub answered : IsAnsweredUnder between x alias maps y t

  -- one that names a binder beyond those listed stays
  pub record IsBeyond (s : Standing F) (x y : Tree) (t : Standing F) : Type 0 where
    pub beyond : IsClosedUnder (length s.universes) x → ⊥
    pub tree : y ≡ x
    pub state : t ≡ s

  -- what stands for a type or const whose parts were normalized
  abbrev pub Rebuilds : Standing F → Tree → Tree → Standing F → Type 0
  Rebuilds s x y t =
      (is_alias_tree x ≡ false) × (y ≡ x) × (t ≡ s)
      ⊎ (is_alias_tree x ≡ true) × (IsReplaced s x y t ⊎ IsReplacedUnder s x y t ⊎ IsBeyond s x y t)

  -- the question about the alias x fails: no universe is left to ask it in, or the closure answers an error
  abbrev pub FailsToAsk : Standing F → Tree → EvalError → Type 0
  FailsToAsk s x e =
      (e ≡ Full) × (s.content.universe ≡ last_universe)
      ⊎ ClosureRefuses g s.normalize (in_universe s.content (s.content.universe + 1)) x e

  -- an alias under binders fails: there are too few universes to open it, or the question about the opened one fails
  pub record FailsUnder (s : Standing F) (x : Tree) (e : EvalError) : Type 0 where
    pub escaping : IsClosed x → ⊥
    pub listed : IsClosedUnder (length s.universes) x
    pub ends :
        (e ≡ Full) × RunsOut (escapes x) s.universes s.content.universe last_universe
        ⊎ ((between : Standing F) × (alias : Tree) × (maps : Sort → Placeholder → Option BoundVar)
        × OpensAlias s x alias maps between × FailsToAsk between alias e)

  -- the errors at a term: want of memory, and what fails at an alias
  abbrev pub FailsToNormalize : Standing F → Option Tree → EvalError → Type 0
  FailsToNormalize s None e = e ≡ Memory
  FailsToNormalize s (Some x) e = (e ≡ Memory) ⊎ (is_alias_tree x ≡ true) × (IsClosed x × FailsToAsk s x e ⊎ FailsUnder s x e)

-- a part without aliases may be left as it is; any other is gone into
abbrev pub Skips : {F : Type 0} → Standing F → Tree → Option Tree → Standing F → Type 0
Skips s x None t = t ≡ s
Skips s x (Some y) t = (any_label is_alias x ≡ false) × (y ≡ x) × (t ≡ s)

-- a binder of the value is open at first, and leaves with its entry
abbrev pub Enters : {F : Type 0} → Standing F → Standing F → Type 0
Enters s t = t ≡ record s { universes = s.universes ++ None ∷ [] }

abbrev pub LeavesStanding : {F : Type 0} → Standing F → Standing F → Type 0
LeavesStanding s t = t ≡ record s { universes = take (length s.universes - 1) s.universes }

-- from one standing to another the tree x becomes y
abbrev pub IsNormalized : {F : Type 0} → ClosureNormalizes F → Standing F → Tree → Tree → Standing F → Type 0
IsNormalized g s x y t = Walk Skips Enters LeavesStanding (Rebuilds g) s x y t

-- the walk of the tree x from that standing ends at the error e
abbrev pub StopsNormalizing : {F : Type 0} → ClosureNormalizes F → Standing F → Tree → EvalError → Type 0
StopsNormalizing g s x e = Stops Skips Enters LeavesStanding (Rebuilds g) (FailsToNormalize g) s x e
