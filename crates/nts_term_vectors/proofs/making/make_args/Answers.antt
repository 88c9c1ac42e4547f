use Rattle.std.proofs.Common.{arith}
use Rattle.nts_term_vectors.proofs.making.make_args.Goals as goal

pub mk_args-requires : goal.mk_args-requires
mk_args-requires c = λ k d l. c.loop-arg.invariant k d (omega (arith, l, c.loop-arg-test.false))
