use Rattle.nts_canonical.specs.Building.{IsArgOf}
use Rattle.nts_canonical.proofs.Trying.{Before}
use Rattle.nts_vectors.proofs.inputs.value_of.Given as goal

abbrev pub invariant-loop-value : goal.invariant-loop-value
invariant-loop-value l = Before (IsArgOf l.fixture.cx.nodes l.fixture.table.entries) l.values l.value-index
