use Rattle.nts_wording.proofs.Growths.{Begins-trans}
use Rattle.nts_wording.proofs.Writing.{on_ok}
use Rattle.nts_wording.proofs.Answered.{found_written}
use Rattle.nts_wording.proofs.printer.Printer.found.Goals as goal

pub returns-clause-told : goal.returns-clause-told
returns-clause-told g c =
    let facts = rw c.deref.ensures.value at c.in_ok-facts.ensures.told in
    on_ok c.put_out.result
    (λ out. found_written (g.W.Write.contents c.put_out.new.output) c.args.self.now c.learn.new.self c.values.new.self c.facts.new.self c.args.found.now c.in_ok-learn.ensures.rest c.requires.yes c.requires.seen c.in_ok-learn.ensures.names c.in_ok-values.ensures.told facts out)
    c.put_out.ensures.put

pub returns-in_err-facts-clause-begins : goal.returns-in_err-facts-clause-begins
returns-in_err-facts-clause-begins g c = Begins-trans c.values.ensures.begins c.facts.ensures.begins

pub returns-clause-begins : goal.returns-clause-begins
returns-clause-begins g c = Begins-trans (Begins-trans c.values.ensures.begins c.facts.ensures.begins) c.put_out.ensures.begins
