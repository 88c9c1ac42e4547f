use Rattle.nts_table.proofs.SnapshotLemmas.{IsTable-committed}
use Rattle.nts_table.proofs.infer_ctxt.InferCtxt.commit.Goals as goal

pub returns-clause-table : goal.returns-clause-table
returns-clause-table c = λ ts h. IsTable-committed ts (record { entries = c.self.inside.inner.entries; saved = c.self.inside.inner.saved; mode = c.self.inside.mode }) _ c.commit.ensures.saved.0 c.commit.ensures.entries c.commit.ensures.saved.1 (rw c.self.view_is h)
