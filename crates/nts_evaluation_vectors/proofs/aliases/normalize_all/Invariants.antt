use Rattle.nts_terms.specs.Rest.{Grows}
use Rattle.nts_delegate.specs.Clauses.{AreClausesReady}
use Rattle.nts_evaluation_vectors.proofs.aliases.normalize_all.Given as goal

abbrev pub invariant-loop-n : goal.invariant-loop-n
invariant-loop-n g l = record {
  ready : AreClausesReady l.cx.nodes l.clauses;
  grows : Grows l.fn.cx l.cx;
}
