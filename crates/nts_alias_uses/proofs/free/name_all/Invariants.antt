use Rattle.nts_table.specs.Tables.{IsTable}
use Rattle.nts_alias_uses.proofs.free.name_all.Given as goal

abbrev pub invariant-loop-n : goal.invariant-loop-n
invariant-loop-n l = IsTable l.fixture.cx.nodes l.fixture.table
