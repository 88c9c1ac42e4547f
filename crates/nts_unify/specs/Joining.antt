-- What a table needs before two variables are joined, and what it is afterwards.
use Rattle.std.specs.Prelude.{◌≡◌, ◌≢◌, ℕ, ◌+◌, min, max, List, length, Some}
use Rattle.nts_model.specs.declared.labels.VariableKind.{VariableKind}
use Rattle.nts_model.specs.declared.labels.VariableKind.TheVariants as kind
use Rattle.nts_model.specs.Terms.Trees.{Tree}
use Rattle.nts_model.specs.Tables.Contents.{Content, link, state_of, universe_of}
use Rattle.nts_model.specs.Tables.Resolving.{Lacks, resolved}
use Rattle.nts_model.specs.Tables.Holding.{Continues}
use Rattle.nts_model.specs.Tables.Equations.{Narrows}
use Rattle.nts_model.specs.Tables.Passing.{BringsNoLabels}
use Rattle.nts_unify.specs.Entries.{Entries}
use Rattle.nts_unify.specs.Reading.{content_of, IsLawful, LinksDescend}
use Rattle.nts_unify.specs.Changing.{IsLater, KeepsKnowing, unset_count}
use Rattle.nts_unify.specs.Unchanged.{HasUnset}

-- the table has the variable without a value, of a kind that has values
pub record IsBindable (e : Entries) (n : ℕ) : Type 0 where
  pub of_kind : VariableKind
  pub no_region : of_kind ≢ kind.Region
  pub free : HasUnset e n of_kind

-- two variables of one kind
pub record CanJoin (e : Entries) (x y : ℕ) : Type 0 where
  pub of_kind : VariableKind
  pub no_region : of_kind ≢ kind.Region
  pub first : HasUnset e x of_kind
  pub second : HasUnset e y of_kind
  pub apart : x ≡ y → ⊥
  pub descends : LinksDescend e

pub record CanJoinRegions (e : Entries) (x y : ℕ) : Type 0 where
  pub first : HasUnset e x kind.Region
  pub second : HasUnset e y kind.Region
  pub apart : x ≡ y → ⊥

-- two variables are one afterwards, in the lower of their universes
pub record IsOneClass (c d : Content) (low high : ℕ) : Type 0 where
  pub continues : Continues c d
  pub linked : state_of d high ≡ Some (link low)
  pub narrows : Narrows c d (λ w. w.tree low ≡ w.tree high)
  pub root : (u v : ℕ) → universe_of c low ≡ Some u → universe_of c high ≡ Some v → universe_of d low ≡ Some (min u v)
  pub universes : (n : ℕ) → (n ≡ low → ⊥) → universe_of d n ≡ universe_of c n

-- the higher number leads to the lower one
pub record IsJoined (c d : Content) (low high : ℕ) : Type 0 where
  pub later : IsLater c d
  pub slots : length d.slots ≡ length c.slots
  pub fewer : unset_count d.slots + 1 ≡ unset_count c.slots
  pub linked : state_of d high ≡ Some (link low)
  pub others : (n : ℕ) → (n ≡ high → ⊥) → state_of d n ≡ state_of c n
  pub trees : (t : Tree) → Lacks high (resolved c t) → resolved d t ≡ resolved c t

pub record Joins (ts : List Tree) (e f : Entries) (x y : ℕ) : Type 0 where
  pub lawful : IsLawful ts f
  pub joined : IsJoined (content_of ts e) (content_of ts f) (min x y) (max x y)
  pub brings : BringsNoLabels (content_of ts e) (content_of ts f)
  pub one : IsOneClass (content_of ts e) (content_of ts f) (min x y) (max x y)

pub record RegionsJoin (ts : List Tree) (e f : Entries) (x y : ℕ) : Type 0 where
  pub lawful : IsLawful ts f
  pub keeps : KeepsKnowing (content_of ts e) (content_of ts f)
  pub brings : BringsNoLabels (content_of ts e) (content_of ts f)
  pub one : IsOneClass (content_of ts e) (content_of ts f) (min x y) (max x y)

-- a variable of the first kind may have one of the second kind as its value
abbrev pub TakesVariable : VariableKind → VariableKind → Type 0
TakesVariable kind.Ty kind.Int = Unit {0}
TakesVariable kind.Ty kind.Float = Unit {0}
TakesVariable j k = ⊥
