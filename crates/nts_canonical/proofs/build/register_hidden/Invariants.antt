use Rattle.std.proofs.Common.{◌≡◌, List, take}
use Rattle.nts_unify.specs.declared.contents.HiddenType.{HiddenType}
use Rattle.nts_store.specs.Growth.{Extends}
use Rattle.nts_terms.specs.Rest.{KeepsRest}
use Rattle.nts_unify.specs.Reading.{content_of}
use Rattle.nts_table.specs.Tables.{IsTable}
use Rattle.nts_canonical.specs.Building.{RegistersAll}
use Rattle.nts_canonical.proofs.build.register_hidden.Given as goal

abbrev pub invariant-loop-i : goal.invariant-loop-i
invariant-loop-i l = record {
  registered : (ds : List HiddenType) × RegistersAll l.cx.nodes (content_of l.cx.nodes l.fn.table.entries) l.fn.table.entries.hidden.lookup (take l.i l.hidden) l.table.entries.hidden.lookup ds;
  entries : l.table.entries ≡ record l.fn.table.entries { hidden = record l.fn.table.entries.hidden { lookup = l.table.entries.hidden.lookup } };
  saved : l.table.saved ≡ l.fn.table.saved;
  mode : l.table.mode ≡ l.fn.table.mode;
  table : IsTable l.cx.nodes l.table;
  extends : Extends l.fn.cx.nodes l.cx.nodes;
  rest : KeepsRest l.fn.cx l.cx;
}
