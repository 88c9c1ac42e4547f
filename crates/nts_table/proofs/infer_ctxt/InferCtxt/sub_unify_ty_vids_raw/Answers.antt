use Rattle.nts_table.proofs.SubLinks.{IsTable-sub_joined}
use Rattle.nts_table.proofs.infer_ctxt.InferCtxt.sub_unify_ty_vids_raw.Goals as goal

pub returns-clause-table : goal.returns-clause-table
returns-clause-table c =
    λ ts h. IsTable-sub_joined ts (record { entries = c.self.inside.inner.entries; saved = c.self.inside.inner.saved; mode = c.self.inside.mode }) _ c.args.a c.args.b c.in_ok-join_sub_roots.ensures.joined c.join_sub_roots.ensures.changes.saved (rw c.self.view_is h)
