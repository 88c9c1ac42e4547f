use Rattle.std.proofs.Common.{sym, arith}
use Rattle.nts_relating.proofs.HeadLemmas.{head_known, head_through, head_open}
use Rattle.nts_relating.proofs.relate.+head_of.Goals as goal

pub head_of-requires : goal.head_of-requires
head_of-requires t c =
    let k = head_known _ c.args.table.now.entries _ _ _ _ _ c.requires.lawful c.requires.knows c.label.ensures.is (sym c.in-Some.ensures) c.in-Ok.ensures.value.1 in
    (omega (arith, k.step.lower, c.decreases), (k.within, (k.step.knows, c.requires.lawful)))

pub returns-in-Ok : goal.returns-in-Ok
returns-in-Ok t c =
    head_through _ _ _ _ _ (head_known _ c.args.table.now.entries _ _ _ _ _ c.requires.lawful c.requires.knows c.label.ensures.is (sym c.in-Some.ensures) c.in-Ok.ensures.value.1) c.head_of.ensures

pub returns-in-Err : goal.returns-in-Err
returns-in-Err t c =
    head_open _ c.args.table.now.entries _ _ _ _ c.requires.lawful c.requires.knows c.label.ensures.is c.label.ensures.formed (sym c.in-Some.ensures) c.in-Err.ensures.root
