use Rattle.std.proofs.Common.{ap, ◌∙◌}
use Rattle.nts_unify.specs.Entries.{duplicated}
use Rattle.nts_table.specs.Tables.{Table}
use Rattle.nts_unify.specs.Reading.{content_of, IsHiddenType}
use Rattle.nts_table.specs.TableLaws.{IsTable-duplicated}
use Rattle.nts_table.proofs.infer_ctxt.InferCtxt.add_duplicate_opaque_type.Goals as goal

pub returns-clause-table : goal.returns-clause-table
returns-clause-table c =
    let new : IsHiddenType c.args.cx.now.nodes (content_of c.args.cx.now.nodes c.args.self.now.entries) (record { alias = c.args.key.def_id; args = c.args.key.args; ty = c.args.ty }) = record { of_types = c.requires.of_types; args = c.requires.args; args_known = c.requires.args_known; ty = c.requires.ty; ty_known = c.requires.ty_known } in
    IsTable-duplicated c.requires.table new (c.in_ok-add_duplicate.ensures.entries ∙ ap (λ (t : Table). duplicated t.entries (record { alias = c.args.key.def_id; args = c.args.key.args; ty = c.args.ty })) c.self.view_is) (c.add_duplicate.ensures.saved ∙ ap (λ (t : Table). t.saved) c.self.view_is)
