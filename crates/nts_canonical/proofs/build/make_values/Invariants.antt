use Rattle.std.proofs.Common.{◌≡◌, map, take}
use Rattle.nts_store.specs.Growth.{Extends}
use Rattle.nts_terms.specs.Rest.{KeepsRest}
use Rattle.nts_table.specs.Tables.{IsTable}
use Rattle.nts_canonical.specs.Forms.{kind_of_var}
use Rattle.nts_canonical.proofs.Valued.{MadeSoFar}
use Rattle.nts_canonical.proofs.build.make_values.Given as goal

abbrev pub invariant-loop-i : goal.invariant-loop-i
invariant-loop-i l = record {
  made : MadeSoFar l.cx.nodes l.values.items l.fn.table.entries l.table.entries (take l.i (map kind_of_var l.kinds));
  saved : l.table.saved ≡ l.fn.table.saved;
  mode : l.table.mode ≡ l.fn.table.mode;
  table : IsTable l.cx.nodes l.table;
  extends : Extends l.fn.cx.nodes l.cx.nodes;
  rest : KeepsRest l.fn.cx l.cx;
}
