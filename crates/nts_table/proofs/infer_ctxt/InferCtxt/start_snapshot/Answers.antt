use Rattle.nts_table.proofs.SnapshotLemmas.{IsTable-started}
use Rattle.nts_table.proofs.infer_ctxt.InferCtxt.start_snapshot.Goals as goal

pub returns-clause-table : goal.returns-clause-table
returns-clause-table c = λ ts h.
    let e = c.start_snapshot.ensures in
    IsTable-started ts c.self.inside.inner c.start_snapshot.new.self c.self.inside.mode c.start_snapshot.result e.entries e.saved e.err (rw c.self.view_is h)

pub returns-in_err-snapshot-clause-table : goal.returns-in_err-snapshot-clause-table
returns-in_err-snapshot-clause-table c = λ ts h.
    let e = c.start_snapshot.ensures in
    IsTable-started ts c.self.inside.inner c.start_snapshot.new.self c.self.inside.mode c.start_snapshot.result e.entries e.saved e.err (rw c.self.view_is h)
