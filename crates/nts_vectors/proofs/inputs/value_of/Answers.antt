use Rattle.std.proofs.Common.{arith}
use Rattle.nts_vectors.proofs.inputs.value_of.Goals as goal

pub instantiate_canonical_var-requires-clause-values : goal.instantiate_canonical_var-requires-clause-values
instantiate_canonical_var-requires-clause-values c = λ k d l. c.loop-value.invariant k d (omega (arith, l, c.loop-value-test.false))
