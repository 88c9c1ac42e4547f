use Rattle.nts_table.proofs.SnapshotLemmas.{IsTable-rolled_back}
use Rattle.nts_table.proofs.infer_ctxt.InferCtxt.rollback_to.Goals as goal

pub returns-clause-table : goal.returns-clause-table
returns-clause-table c = λ ts h. IsTable-rolled_back ts (record { entries = c.self.inside.inner.entries; saved = c.self.inside.inner.saved; mode = c.self.inside.mode }) _ c.rollback_to.ensures.saved (rw c.self.view_is h)
