use Rattle.nts_relating.proofs.MetPairs.{noted}
use Rattle.nts_relating.proofs.relate.note.Goals as goal

pub returns : goal.returns
returns c = noted _ _ c.args.pair _ c.in_ok-insert.ensures.added c.in_ok-insert.ensures.keys
