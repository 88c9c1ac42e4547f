-- The content that the entries of a table stand for, and the tables that a store and its callers keep.
use Rattle.std.specs.Prelude.{◌≡◌, ℕ, ◌<◌, List, [], ◌∷◌, map, slice_get, Some}
use Rattle.nts_model.specs.declared.labels.Sort.TheVariants as sort
use Rattle.nts_model.specs.Terms.Trees.{Tree, of_sort, kind_of}
use Rattle.nts_model.specs.Tables.Recording.{left_kind}
use Rattle.nts_model.specs.Tables.Contents.{Content, Slot, SlotState, unset, link, known, Recorded}
use Rattle.nts_model.specs.Tables.Resolving.{Knows, IsSound}
use Rattle.nts_model.specs.Tables.RegionClasses.{AreRegions}
use Rattle.nts_unify.specs.declared.contents.HiddenType.{HiddenType}
use Rattle.nts_terms.specs.Handles.{HoldsTy, HoldsArgs, IsAliasOf}
use Rattle.nts_terms.specs.nts_store.specs.Growth.{tree_at, IsIn}
use Rattle.nts_unify.specs.declared.contents.State.{State}
use Rattle.nts_unify.specs.declared.contents.State.TheVariants.{Unset, Link, Known}
use Rattle.nts_unify.specs.declared.contents.Variable.{Variable}
use Rattle.nts_unify.specs.declared.contents.Constraint.{Constraint}
use Rattle.nts_unify.specs.Entries.{Entries, HiddenTypes}
use Rattle.nts_unify.specs.Proper.{IsProper}

abbrev pub state_with : List Tree → State → SlotState
state_with ts Unset = unset
state_with ts (Link m) = link m
state_with ts (Known t) = known (tree_at ts t)

abbrev pub slot_of : List Tree → Variable → Slot
slot_of ts v =
    record { kind = v.kind; universe = v.universe; state = state_with ts v.state; sub_link = v.sub_link }

abbrev pub recorded_of : List Tree → Constraint → Recorded
recorded_of ts x =
    record { relation = x.relation; left = tree_at ts x.left; right = tree_at ts x.right; is_visible = x.is_visible }

-- the content that the entries of a table stand for, where the store has these trees
abbrev pub content_of : List Tree → Entries → Content
content_of ts c =
    record { slots = map (slot_of ts) c.variables; order = c.order; universe = c.universe; constraints = map (recorded_of ts) c.constraints }

-- the terms are of the store
abbrev pub IsHeldState : List Tree → State → Type 0
IsHeldState ts Unset = Unit {0}
IsHeldState ts (Link m) = Unit {0}
IsHeldState ts (Known t) = IsIn ts t

abbrev pub AreHeld : List Tree → List Variable → Type 0
AreHeld ts [] = Unit {0}
AreHeld ts (v ∷ vs) = IsHeldState ts v.state × AreHeld ts vs

-- the sides of a constraint are of the store and the table, and of their sorts; those of an equality are
-- no bound regions
pub record IsConstraint (ts : List Tree) (c : Content) (x : Constraint) : Type 0 where
  pub left_in : IsIn ts x.left
  pub right_in : IsIn ts x.right
  pub left_known : Knows c (tree_at ts x.left)
  pub right_known : Knows c (tree_at ts x.right)
  pub left_sort : kind_of (tree_at ts x.left) ≡ Some (left_kind x.relation)
  pub right_sort : kind_of (tree_at ts x.right) ≡ Some (of_sort sort.Region)
  pub regions : AreRegions x.relation (tree_at ts x.left) (tree_at ts x.right)

abbrev pub AreConstraints : List Tree → Content → List Constraint → Type 0
AreConstraints ts c [] = Unit {0}
AreConstraints ts c (x ∷ xs) = IsConstraint ts c x × AreConstraints ts c xs

-- a hidden type and its alias, which is one of types, are of the store and the table
pub record IsHiddenType (ts : List Tree) (c : Content) (h : HiddenType) : Type 0 where
  pub of_types : IsAliasOf sort.Ty h.alias
  pub args : HoldsArgs ts h.args
  pub args_known : Knows c (tree_at ts h.args.node)
  pub ty : HoldsTy ts h.ty
  pub ty_known : Knows c (tree_at ts h.ty.node)

abbrev pub AreHiddenTypes : List Tree → Content → List HiddenType → Type 0
AreHiddenTypes ts c [] = Unit {0}
AreHiddenTypes ts c (h ∷ hs) = IsHiddenType ts c h × AreHiddenTypes ts c hs

-- the hidden types that are looked up, and the duplicates, are of the store and the table
pub record AllHiddenTypes (ts : List Tree) (c : Content) (h : HiddenTypes) : Type 0 where
  pub lookup : AreHiddenTypes ts c h.lookup
  pub duplicates : AreHiddenTypes ts c h.duplicates

-- links lead to lower numbers, and so do those of sub-unification
pub record LinksDescend (c : Entries) : Type 0 where
  pub links : (n m : ℕ) (v : Variable) → slice_get c.variables n ≡ Some v → v.state ≡ Link m → m < n
  pub sub_links : (n m : ℕ) (v : Variable) → slice_get c.variables n ≡ Some v → v.sub_link ≡ Some m → m < n

-- entries whose terms are of the store, whose values stand for trees, and that have a solution
pub record IsLawful (ts : List Tree) (c : Entries) : Type 0 where
  pub held : AreHeld ts c.variables
  pub constraints : AreConstraints ts (content_of ts c) c.constraints
  pub hidden : AllHiddenTypes ts (content_of ts c) c.hidden
  pub descends : LinksDescend c
  pub sound : IsSound (content_of ts c)
  pub proper : IsProper (content_of ts c)

abbrev pub AllLawful : List Tree → List Entries → Type 0
AllLawful ts [] = Unit {0}
AllLawful ts (c ∷ cs) = IsLawful ts c × AllLawful ts cs
