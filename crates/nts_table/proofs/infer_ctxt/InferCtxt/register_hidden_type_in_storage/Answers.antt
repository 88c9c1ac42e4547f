use Rattle.std.proofs.Common.{ap, ◌∙◌}
use Rattle.nts_unify.specs.Entries.{Inner, registered, with_hidden}
use Rattle.nts_table.specs.Tables.{Table}
use Rattle.nts_model.proofs.Tables.Slots.{slice_get_below}
use Rattle.nts_unify.specs.Reading.{content_of, IsHiddenType}
use Rattle.nts_table.specs.TableLaws.{IsTable-extended, IsTable-same, IsTable-registered, IsTable-with_hidden}
use Rattle.nts_table.proofs.HiddenLemmas.{hidden_at, IsHiddenType-extended, other_type}
use Rattle.nts_table.proofs.infer_ctxt.InferCtxt.register_hidden_type_in_storage.Goals as goal

pub returns-in_err-place-clause-table : goal.returns-in_err-place-clause-table
returns-in_err-place-clause-table c = IsTable-extended c.place_of_hidden.ensures.extends c.requires.table

pub hidden_type-old-requires : goal.hidden_type-old-requires
hidden_type-old-requires c =
    let p = rw c.in-Some.is at c.in_ok-place.ensures.place in slice_get_below c.args.self.now.entries.hidden.lookup c.in-Some.place p.0 p.1.at

pub replace-requires : goal.replace-requires
replace-requires c =
    let p = rw c.in-Some.is at c.in_ok-place.ensures.place in
    rw (ap (λ (t : Table). t.entries) c.self.view_is) (slice_get_below c.args.self.now.entries.hidden.lookup c.in-Some.place p.0 p.1.at)

pub returns-in_err-replace-in-Some-clause-table : goal.returns-in_err-replace-in-Some-clause-table
returns-in_err-replace-in-Some-clause-table c = IsTable-same c.requires.table c.place_of_hidden.ensures.extends (ap (λ (i : Inner). record { entries = i.entries; saved = i.saved; mode = c.self.inside.mode }) c.in_err-replace-in-Some.ensures.err ∙ c.self.view_is)

pub returns-in_err-register-in-None-clause-table : goal.returns-in_err-register-in-None-clause-table
returns-in_err-register-in-None-clause-table c = IsTable-same c.requires.table c.place_of_hidden.ensures.extends (ap (λ (i : Inner). record { entries = i.entries; saved = i.saved; mode = c.self.inside.mode }) c.in_err-register-in-None.ensures.err ∙ c.self.view_is)

pub returns-in_ok-replace-in-Some-clause-table : goal.returns-in_ok-replace-in-Some-clause-table
returns-in_ok-replace-in-Some-clause-table c =
    let ext = c.place_of_hidden.ensures.extends in
    let old = hidden_at c.args.cx.now.nodes c.args.self.now.entries c.in-Some.place _ c.requires.table.now c.hidden_type-old.ensures in
    let new : IsHiddenType c.args.cx.now.nodes (content_of c.args.cx.now.nodes c.args.self.now.entries) (record { alias = c.args.key.def_id; args = c.args.key.args; ty = c.args.ty }) = record { of_types = c.requires.of_types; args = c.requires.args; args_known = c.requires.args_known; ty = c.requires.ty; ty_known = c.requires.ty_known } in
    IsTable-with_hidden c.in-Some.place (IsTable-extended ext c.requires.table) (IsHiddenType-extended c.requires.table.now ext (other_type old new)) (c.in_ok-replace-in-Some.ensures.entries ∙ ap (λ (t : Table). with_hidden t.entries c.in-Some.place (record c.hidden_type-old.result { ty = c.args.ty })) c.self.view_is) (c.replace.ensures.saved ∙ ap (λ (t : Table). t.saved) c.self.view_is)

pub returns-in_ok-register-in-None-clause-table : goal.returns-in_ok-register-in-None-clause-table
returns-in_ok-register-in-None-clause-table c =
    let ext = c.place_of_hidden.ensures.extends in
    let new : IsHiddenType c.args.cx.now.nodes (content_of c.args.cx.now.nodes c.args.self.now.entries) (record { alias = c.args.key.def_id; args = c.args.key.args; ty = c.args.ty }) = record { of_types = c.requires.of_types; args = c.requires.args; args_known = c.requires.args_known; ty = c.requires.ty; ty_known = c.requires.ty_known } in
    IsTable-registered (IsTable-extended ext c.requires.table) (IsHiddenType-extended c.requires.table.now ext new) (c.in_ok-register-in-None.ensures.entries ∙ ap (λ (t : Table). registered t.entries (record { alias = c.args.key.def_id; args = c.args.key.args; ty = c.args.ty })) c.self.view_is) (c.register.ensures.saved ∙ ap (λ (t : Table). t.saved) c.self.view_is)
