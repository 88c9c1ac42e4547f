use Rattle.std.proofs.Common.{arith, ap, ◌∙◌}
use Rattle.std.specs.Prelude.{map}
use Rattle.std.proofs.lemmas.List.{take_all}
use Rattle.nts_table.specs.Registering.{pair_of}
use Rattle.nts_table.proofs.HiddenLemmas.{pairs_more}
use Rattle.nts_table.proofs.hidden.pairs_of.Goals as goal

pub loop-i-preserved : goal.loop-i-preserved
loop-i-preserved c = record {
  pairs = pairs_more c.args.hidden.now c.loop-i.i _ (omega (arith, c.loop-i-test.true)) c.loop-i.invariant.pairs c.in_ok-push.ensures.items;
}

pub returns-clause-pairs : goal.returns-clause-pairs
returns-clause-pairs c = c.loop-i.invariant.pairs ∙ ap (map pair_of) (take_all c.loop-i.i c.args.hidden.now (omega (arith, c.loop-i-test.false)))
