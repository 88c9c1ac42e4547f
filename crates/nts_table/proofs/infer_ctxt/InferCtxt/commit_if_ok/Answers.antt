use Rattle.nts_table.proofs.SnapshotLemmas.{IsTable-ended}
use Rattle.nts_table.proofs.infer_ctxt.InferCtxt.commit_if_ok.Goals as goal

pub returns-clause-table : goal.returns-clause-table
returns-clause-table g c = λ ts h.
    let e = c.commit_if_ok.ensures in
    IsTable-ended ts (record { entries = c.self.inside.inner.entries; saved = c.self.inside.inner.saved; mode = c.self.inside.mode }) _ c.commit_if_ok.result e.ok e.err e.saved (rw c.self.view_is h)
