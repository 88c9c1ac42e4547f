-- Hidden types of a response, registered: one that gives place becomes a duplicate.
use Rattle.std.specs.Prelude.{◌≡◌, List, ◌++◌, Option}
use Rattle.nts_model.specs.Terms.Trees.{Tree}
use Rattle.nts_model.specs.Tables.Contents.{Content}
use Rattle.nts_terms.specs.declared.handles.AliasTerm.{AliasTerm}
use Rattle.nts_terms.specs.declared.handles.Ty.{Ty}
use Rattle.nts_canonical.specs.nts_unify.specs.declared.contents.HiddenType.{HiddenType}
use Rattle.nts_canonical.specs.nts_unify.specs.Entries.{HiddenTypes}
use Rattle.nts_canonical.specs.nts_table.specs.Registering.{Registers}
use Rattle.nts_canonical.specs.Building.{replaced_by, RegistersAll}

-- one is registered, and what gave place to it is a duplicate afterwards
pub record RegistersHidden (ts : List Tree) (c : Content) (x : HiddenTypes) (h : HiddenType) (y : HiddenTypes) : Type 0 where
  pub older : Option Ty
  pub registers : Registers ts c x.lookup h y.lookup older
  pub duplicates : y.duplicates ≡ x.duplicates ++ replaced_by h older

-- .. one after another
pub record TakesAll (ts : List Tree) (c : Content) (x : HiddenTypes) (hs : List (AliasTerm × Ty)) (y : HiddenTypes) : Type 0 where
  pub older : List HiddenType
  pub registers : RegistersAll ts c x.lookup hs y.lookup older
  pub duplicates : y.duplicates ≡ x.duplicates ++ older
