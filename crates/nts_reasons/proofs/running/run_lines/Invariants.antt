use Rattle.nts_delegate.specs.Clauses.{AreClausesReady}
use Rattle.nts_wording.specs.Growing.{Begins}
use Rattle.nts_program.specs.nts_declaring.specs.Heads.{HeadsFit}
use Rattle.nts_reasons.specs.Obeying.{HasLines}
use Rattle.nts_reasons.proofs.Runs.{HasRun}
use Rattle.nts_reasons.proofs.running.run_lines.Given as goal

abbrev pub invariant-lines : goal.invariant-lines
invariant-lines g l = record {
  ready : AreClausesReady l.explainer.program.cx.nodes l.explainer.program.clauses;
  heads : HeadsFit l.explainer.program.cx l.explainer.program.clauses;
  lined : HasLines l.explainer;
  begins : Begins (g.W.Write.contents l.fn.output) (g.W.Write.contents l.output);
  run : HasRun (g.R.Read.remaining l.fn.reader) (g.R.Read.remaining l.reader) (g.W.Write.contents l.fn.output) (g.W.Write.contents l.output) l.explainer l.number;
}
