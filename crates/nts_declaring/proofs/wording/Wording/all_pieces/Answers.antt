use Rattle.std.proofs.Common.{ap, ◌∙◌}
use Rattle.nts_wording.proofs.Growths.{Begins-trans}
use Rattle.nts_declaring.proofs.Holding.{Says-more, Says-any}
use Rattle.nts_declaring.proofs.Worded.{with_text_of}
use Rattle.nts_declaring.proofs.wording.Wording.all_pieces.Goals as goal

pub returns-in_err-put_much-clause-begins : goal.returns-in_err-put_much-clause-begins
returns-in_err-put_much-clause-begins g c = Begins-trans c.turns.invariant.begins c.put_much.ensures.begins

pub turns-preserved : goal.turns-preserved
turns-preserved g c =
    let i = c.turns.invariant in
    let piece = c.in_ok-piece-in-Some.ensures in
    let out = c.in_ok-put_much.ensures in
    record {
      says = Says-any (Says-any i.says (Says-more piece.more)) out.says;
      rest = out.rest ∙ ap (with_text_of c.put_much.new.self) (piece.rest ∙ ap (with_text_of c.piece.new.self) i.rest);
      begins = Begins-trans i.begins out.begins;
    }
