use Rattle.std.proofs.Common.{inr}
use Rattle.nts_relating.proofs.PairLemmas.{err_of}
use Rattle.nts_variance.proofs.Looks.{value_at}
use Rattle.nts_variance.proofs.looking.look_at_value.Goals as goal

pub returns-in-Ok-clause-look : goal.returns-in-Ok-clause-look
returns-in-Ok-clause-look c = λ declared gs.
    let s = c.in-Ok.ensures in
    value_at declared c.args.target.is_turned c.args.target.universe c.args.target.variable c.args.spot.binders c.args.nodes.now c.generalize.new.nodes c.args.table.now.entries c.generalize.new.table.entries c.args.spot c.in-Ok.made gs c.requires.known c.requires.no_region c.requires.lawful s.lawful c.requires.part c.requires.formed c.requires.alone c.requires.plain c.requires.resolved s.within s.generalized

pub returns-in-Err-clause-no : goal.returns-in-Err-clause-no
returns-in-Err-clause-no c = λ q. inr (c.requires.alone, c.requires.plain, c.in-Err.ensures.no (err_of _ _ q))
