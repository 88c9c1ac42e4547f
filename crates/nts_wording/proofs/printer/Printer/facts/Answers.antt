use Rattle.std.proofs.Common.{sym, subst, take, [], refl}
use Rattle.nts_wording.specs.Answers.{IsFactLine, AreLines}
use Rattle.nts_wording.specs.Pieces.{lexicon_of, PutsText}
use Rattle.nts_wording.proofs.Growths.{Begins-refl, Begins-trans}
use Rattle.nts_wording.proofs.Writing.{Writes-refl, held}
use Rattle.nts_wording.proofs.Lines.{line_more, take_one}
use Rattle.nts_wording.proofs.printer.Printer.facts.Goals as goal

pub loop-fact-init : goal.loop-fact-init
loop-fact-init g c =
    record { told = ([], held (g.W.Write.contents c.args.output.now) (Writes-refl c.args.self.now), (refl, refl)); begins = Begins-refl }

pub loop-fact-preserved : goal.loop-fact-preserved
loop-fact-preserved g c =
    let p = c.args.self.now in
    let q = c.fact.new.self in
    let i = c.loop-fact.invariant in
    record {
      told = subst (λ fs. PutsText (g.W.Write.contents c.args.output.now) (g.W.Write.contents c.fact.new.output) p q (λ old text new. AreLines (IsFactLine (lexicon_of p)) old fs text new)) (sym (take_one c.args.facts.now c.loop-fact.fact-index _ c.loop-fact-test.true))
          (line_more IsFactLine p c.loop-fact.self q (take c.loop-fact.fact-index c.args.facts.now) _ i.told c.in_ok-fact.ensures.told);
      begins = Begins-trans i.begins c.fact.ensures.begins;
    }

pub returns-in_err-fact-clause-begins : goal.returns-in_err-fact-clause-begins
returns-in_err-fact-clause-begins g c = (let i = c.loop-fact.invariant in Begins-trans i.begins c.fact.ensures.begins)
