use Rattle.nts_wording.proofs.Lines.{fact_written}
use Rattle.nts_wording.proofs.Growths.{Begins-trans}
use Rattle.nts_wording.proofs.printer.Printer.fact.Goals as goal

pub returns-clause-told : goal.returns-clause-told
returns-clause-told g c =
    fact_written c.args.self.now c.write.new.self c.term.new.self c.write-2.new.self c.term-2.new.self c.write-3.new.self c.args.fact
    c.in_ok-write.ensures.writes c.in_ok-write.ensures.seen c.in_ok-term.ensures.told (rw c.relation_word.ensures at c.in_ok-write-2.ensures.writes)
    c.in_ok-write-2.ensures.seen c.in_ok-term-2.ensures.told c.in_ok-write-3.ensures.writes c.in_ok-write-3.ensures.seen

pub returns-in_err-term-2-clause-begins : goal.returns-in_err-term-2-clause-begins
returns-in_err-term-2-clause-begins g c = Begins-trans c.term.ensures.begins c.term-2.ensures.begins

pub returns-in_err-write-3-clause-begins : goal.returns-in_err-write-3-clause-begins
returns-in_err-write-3-clause-begins g c = Begins-trans c.term.ensures.begins c.term-2.ensures.begins

pub returns-clause-begins : goal.returns-clause-begins
returns-clause-begins g c = Begins-trans c.term.ensures.begins c.term-2.ensures.begins
