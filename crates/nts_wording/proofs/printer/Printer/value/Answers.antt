use Rattle.nts_wording.proofs.Lines.{value_written}
use Rattle.nts_wording.proofs.printer.Printer.value.Goals as goal

pub returns-clause-told : goal.returns-clause-told
returns-clause-told g c =
    value_written c.args.self.now c.write.new.self c.write-2.new.self c.write-3.new.self c.term.new.self c.write-4.new.self c.args.name.now c.args.value
    c.in_ok-write.ensures.writes c.in_ok-write.ensures.seen c.in_ok-write-2.ensures.writes c.in_ok-write-2.ensures.seen
    c.in_ok-write-3.ensures.writes c.in_ok-write-3.ensures.seen c.in_ok-term.ensures.told c.in_ok-write-4.ensures.writes c.in_ok-write-4.ensures.seen
