use Rattle.std.proofs.Common.{◌≡◌, length}
use Rattle.nts_table.specs.Tables.{IsTable}
use Rattle.nts_vectors.proofs.canonical_tests.see_both_ends.Given as goal

abbrev pub invariant-loop-i : goal.invariant-loop-i
invariant-loop-i g l = record {
  table : IsTable l.fixture.cx.nodes l.fixture.table;
  variables : length l.variables.items ≡ l.i;
  positions : length l.positions.items ≡ l.i;
}
