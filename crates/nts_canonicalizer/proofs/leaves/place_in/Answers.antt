use Rattle.std.proofs.Common.{sym, ◌∙◌, arith}
use Rattle.nts_canonicalizer.proofs.AddingLeaves.{place_is, no_place}
use Rattle.nts_canonicalizer.proofs.leaves.place_in.Goals as goal

pub returns-then-is_one : goal.returns-then-is_one
returns-then-is_one c =
    place_is c.args.list.now c.args.leaf c.args.leaf _ c.loop-i.i (omega (arith, c.loop-i-test.true)) c.loop-i.invariant (sym c.is_one.ensures ∙ c.if-is_one.true)

pub returns : goal.returns
returns c = no_place c.args.list.now c.args.leaf c.args.leaf _ (omega arith) (λ k l. c.loop-i.invariant k (omega (arith, c.loop-i-test.false, l)))
