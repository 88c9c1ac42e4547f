use Rattle.std.proofs.Common.{[], None, refl}
use Rattle.nts_program.proofs.Obeyed.{never}
use Rattle.nts_wording.proofs.Growths.{Appends-none}
use Rattle.nts_reasons.proofs.Staying.{heads_told, lines_told, on_any}
use Rattle.nts_reasons.proofs.Telling.{told_where, terms-refl}
use Rattle.nts_reasons.proofs.running.handle_line.Goals as goal

pub returns-in-Ok-Some-clause-passed : goal.returns-in-Ok-Some-clause-passed
returns-in-Ok-Some-clause-passed g c = never _ c.tell.result (rw c.in-Ok-Some.field-0-is at c.in-Ok-Some.ensures.passed)

pub returns-in-Ok-Some-clause-answered : goal.returns-in-Ok-Some-clause-answered
returns-in-Ok-Some-clause-answered g c =
    told_where c.tell.result _ _ _ _ _ _ _ c.in-Ok-Some.asked (rw c.in-Ok-Some.field-0-is at c.in-Ok-Some.ensures.obeyed) c.tell.ensures.told c.tell.ensures.terms

pub returns-in-Ok-None-clause-answered : goal.returns-in-Ok-None-clause-answered
returns-in-Ok-None-clause-answered g c = record {
  asked = None;
  obeying = c.obey.new.self;
  obeyed = rw c.in-Ok-None.field-0-is at c.in-Ok-None.ensures.obeyed;
  text = [];
  says = refl;
  terms = terms-refl c.obey.new.self;
  written = Appends-none _;
}

pub returns-in-Ok-Some-clause-heads : goal.returns-in-Ok-Some-clause-heads
returns-in-Ok-Some-clause-heads g c = on_any _ c.tell.result (heads_told _ _ c.tell.ensures.terms (c.in-Ok-Some.ensures.heads c.requires.heads))

pub returns-in-Ok-Some-clause-lines : goal.returns-in-Ok-Some-clause-lines
returns-in-Ok-Some-clause-lines g c = on_any _ c.tell.result (lines_told _ _ c.tell.ensures.terms (c.in-Ok-Some.ensures.lines c.requires.lines))
