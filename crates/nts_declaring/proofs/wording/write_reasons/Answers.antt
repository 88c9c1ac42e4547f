use Rattle.std.proofs.Common.{length, ap, ◌∙◌}
use Rattle.nts_wording.proofs.Growths.{Begins-trans}
use Rattle.nts_declaring.specs.Origins.{origins_of}
use Rattle.nts_declaring.proofs.Worded.{with_text_of, get_here, lines_next}
use Rattle.nts_declaring.proofs.wording.write_reasons.Goals as goal

pub returns-in_err-reason-clause-begins : goal.returns-in_err-reason-clause-begins
returns-in_err-reason-clause-begins g c = Begins-trans c.loop-number.invariant.begins c.reason.ensures.begins

pub returns-clause-begins : goal.returns-clause-begins
returns-clause-begins g c = Begins-trans c.loop-number.invariant.begins c.put_out.ensures.begins

pub loop-number-preserved : goal.loop-number-preserved
loop-number-preserved g c =
    let i = c.loop-number.invariant in
    let e = c.in_ok-reason.ensures in
    record {
      says = lines_next (origins_of (length c.args.reasons.now) c.args.lines.now) c.args.reasons.now c.loop-number.number c.origin_of-origin.result _ c.origin_of-origin.ensures (get_here c.args.reasons.now c.loop-number.number _ c.loop-number-test.true) i.says e.says;
      rest = e.rest ∙ ap (with_text_of c.reason.new.self) i.rest;
      begins = Begins-trans i.begins e.begins;
    }
