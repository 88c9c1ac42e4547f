use Rattle.std.proofs.Common.{take}
use Rattle.nts_wording.proofs.Growths.{Begins-trans, Begins-Appends, Appends-piece, piece-within}
use Rattle.nts_wording.proofs.output.put.Goals as goal

pub returns-in_err-written-clause-begins : goal.returns-in_err-written-clause-begins
returns-in_err-written-clause-begins g c =
    Begins-trans (Begins-Appends (g.W.Write.contents c.args.output.now) (g.W.Write.contents c.turns.output) (take c.turns.written c.args.bytes.now) c.turns.invariant.appended) c.put_some.ensures.begins

pub turns-preserved : goal.turns-preserved
turns-preserved g c =
    let e = c.in_ok-written.ensures in
    record {
      within = piece-within c.args.bytes.now c.turns.written c.in_ok-written.field-0 c.turns.invariant.within e.bound;
      appended = Appends-piece (g.W.Write.contents c.args.output.now) (g.W.Write.contents c.turns.output) (g.W.Write.contents c.put_some.new.output) c.args.bytes.now c.turns.written c.in_ok-written.field-0 c.turns.invariant.appended e.some;
    }
