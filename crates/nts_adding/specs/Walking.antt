-- The folder as a walk sees it.
use Rattle.std.specs.Prelude.{◌≡◌, List, [], ◌∷◌, ◌++◌, Option, refl}
use Rattle.std.proofs.Common.{◌∙◌}
use Rattle.nts_model.specs.Terms.Trees.{Tree}
use Rattle.nts_store.specs.declared.fault.Fault.{Fault}
use Rattle.nts_store.specs.declared.fault.Fault.TheVariants.{Memory}
use Rattle.nts_store.specs.Growth.{Extends, IsIn}
use Rattle.nts_store.proofs.Growing.{IsIn-extended}
use Rattle.nts_table.specs.Tables.{IsTable}
use Rattle.nts_table.specs.TableLaws.{IsTable-extended}
use Rattle.nts_table.specs.Frames.{ChangesEntries}
use Rattle.nts_variance.specs.declared.along.Relating.{Relating}
use Rattle.nts_variance.specs.Terms.{pair_at, pairs_at}
use Rattle.nts_solver_relating.specs.Sides.{AreWithin}
use Rattle.nts_adding.specs.declared.putting.AliasFolder.{AliasFolder}
use Rattle.nts_adding.specs.Putting.{Standing}

-- the folder's table and what it has put are of the store
pub record IsFolderReady (ts : List Tree) (s : AliasFolder) : Type 0 where
  pub table : IsTable ts s.table
  pub within : AreWithin ts s.puts.items

-- the snapshots and the mode of its table stay
abbrev pub FolderKeeps : AliasFolder → AliasFolder → Type 0
FolderKeeps s t = ChangesEntries s.table t.table

-- a walk ends early for want of memory alone
abbrev pub FailsForWant : Standing → Option Tree → Fault → Type 0
FailsForWant s o e = e ≡ Memory

abbrev pub standing_of : List Tree → AliasFolder → Standing
standing_of ts s = record { entries = s.table.entries; puts = pairs_at ts s.puts.items }

pub within_later : {a b : List Tree} → Extends a b → (gs : List Relating) → AreWithin a gs → AreWithin b gs
within_later e [] h = tt
within_later e (g ∷ gs) h = ((IsIn-extended e g.left h.0.0, IsIn-extended e g.right h.0.1), within_later e gs h.1)

pub pairs_later : {a b : List Tree} → Extends a b → (gs : List Relating) → AreWithin a gs → pairs_at b gs ≡ pairs_at a gs
pairs_later e [] h = refl
pairs_later e (g ∷ gs) h = cc (e.kept g.left h.0.0, e.kept g.right h.0.1, pairs_later e gs h.1)

-- one more pair, in a store that grew
pub pushed_pairs : {a b : List Tree} → Extends a b → (gs : List Relating) (g : Relating) → AreWithin a gs → pairs_at b (gs ++ g ∷ []) ≡ pairs_at a gs ++ pair_at b g ∷ []
pushed_pairs e [] g h = refl
pushed_pairs e (x ∷ gs) g h = cc (e.kept x.left h.0.0, e.kept x.right h.0.1, pushed_pairs e gs g h.1)

pub within_more : (ts : List Tree) (gs : List Relating) (g : Relating) → AreWithin ts gs → IsIn ts g.left → IsIn ts g.right → AreWithin ts (gs ++ g ∷ [])
within_more ts [] g h l r = ((l, r), tt)
within_more ts (x ∷ gs) g h l r = (h.0, within_more ts gs g h.1 l r)

pub IsFolderReady-kept : (a b : List Tree) (s : AliasFolder) → IsFolderReady a s → Extends a b → IsFolderReady b s
IsFolderReady-kept a b s h e = record { table = IsTable-extended e h.table; within = within_later e s.puts.items h.within }

pub standing_of-kept : (a b : List Tree) (s : AliasFolder) → IsFolderReady a s → Extends a b → standing_of b s ≡ standing_of a s
standing_of-kept a b s h e = let same = pairs_later e s.puts.items h.within in cc same

pub FolderKeeps-refl : (s : AliasFolder) → FolderKeeps s s
FolderKeeps-refl s = record { saved = refl; mode = refl }

pub FolderKeeps-trans : (s t u : AliasFolder) → FolderKeeps s t → FolderKeeps t u → FolderKeeps s u
FolderKeeps-trans s t u h k =
    record { saved = k.saved ∙ h.saved; mode = k.mode ∙ h.mode }
