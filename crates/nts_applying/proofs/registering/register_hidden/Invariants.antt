use Rattle.std.proofs.Common.{◌≡◌, take}
use Rattle.nts_terms.specs.Rest.{Grows}
use Rattle.nts_unify.specs.Reading.{content_of}
use Rattle.nts_table.specs.Frames.{ChangesEntries}
use Rattle.nts_table.specs.Tables.{IsTable}
use Rattle.nts_response.specs.Registered.{TakesAll}
use Rattle.nts_applying.proofs.registering.register_hidden.Given as goal

abbrev pub invariant-loop-i : goal.invariant-loop-i
invariant-loop-i l = record {
  registered : TakesAll l.cx.nodes (content_of l.cx.nodes l.fn.table.entries) l.fn.table.entries.hidden (take l.i l.hidden) l.table.entries.hidden;
  entries : l.table.entries ≡ record l.fn.table.entries { hidden = l.table.entries.hidden };
  changes : ChangesEntries l.fn.table l.table;
  table : IsTable l.cx.nodes l.table;
  grows : Grows l.fn.cx l.cx;
}
