-- The tables that a store and its callers keep.
use Rattle.std.specs.Prelude.{◌≡◌, List, false}
use Rattle.nts_model.specs.Terms.Trees.{Tree, Place, any_label, is_alias}
use Rattle.nts_model.specs.Tables.Resolving.{Knows, resolved}
use Rattle.nts_store.specs.declared.nodes.NodeId.{NodeId}
use Rattle.nts_store.specs.Growth.{tree_at, IsIn}
use Rattle.nts_terms.specs.declared.cx.Cx.{Cx}
use Rattle.nts_terms.specs.Handles.{Holds}
use Rattle.nts_terms.specs.Rest.{Grows}
use Rattle.nts_unify.specs.Changing.{IsLater}
use Rattle.nts_terms.specs.declared.modes.TypingMode.{TypingMode}
use Rattle.nts_unify.specs.Entries.{Entries}
use Rattle.nts_unify.specs.Reading.{content_of, IsLawful, AllLawful}

-- the entries, those at the snapshots that are open, the first snapshot's first, and what goals may know of hidden
-- types
pub record Table : Type 0 where
  pub entries : Entries
  pub saved : List Entries
  pub mode : TypingMode

-- the table and the store belong together, at each open snapshot too
pub record IsTable (ts : List Tree) (t : Table) : Type 0 where
  pub now : IsLawful ts t.entries
  pub saved : AllLawful ts t.saved

-- a term of the store and the table
pub record IsTermIn (ts : List Tree) (t : Table) (x : NodeId) : Type 0 where
  pub within : IsIn ts x
  pub knows : Knows (content_of ts t.entries) (tree_at ts x)

-- a term of the store and the table that may stand at such a place
pub record IsSide (p : Place) (ts : List Tree) (t : Table) (x : NodeId) : Type 0 where
  pub holds : Holds p ts x
  pub known : Knows (content_of ts t.entries) (tree_at ts x)

-- .. in which no alias stands, with values in place of variables
pub record IsPlainSide (p : Place) (ts : List Tree) (t : Table) (x : NodeId) : Type 0 where
  pub holds : Holds p ts x
  pub known : Knows (content_of ts t.entries) (tree_at ts x)
  pub plain : any_label is_alias (resolved (content_of ts t.entries) (tree_at ts x)) ≡ false

-- what relating keeps, whatever it answers: the store grew at most, and the table is one of it, with the variables that it
-- had; its snapshots, mode, current universe and hidden types are as before
pub record RelatingKeeps (old new : Cx) (t u : Table) : Type 0 where
  pub grows : Grows old new
  pub table : IsTable new.nodes u
  pub later : IsLater (content_of old.nodes t.entries) (content_of new.nodes u.entries)
  pub saved : u.saved ≡ t.saved
  pub mode : u.mode ≡ t.mode
  pub universe : u.entries.universe ≡ t.entries.universe
  pub hidden : u.entries.hidden ≡ t.entries.hidden
