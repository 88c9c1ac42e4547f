use Rattle.std.proofs.Common.{subst}
use Rattle.nts_unify.specs.Changing.{IsLater}
use Rattle.nts_unify.specs.Reading.{content_of}
use Rattle.nts_store.proofs.Growing.{IsIn-extended}
use Rattle.nts_unify.specs.Lawful.{content_of-extended}
use Rattle.nts_table.specs.TableLaws.{IsTable-extended}
use Rattle.nts_candidates.proofs.Results.{OnOk-map}
use Rattle.nts_applying.proofs.Stepping.{nodes_grown, nodes_related, later_grown}
use Rattle.nts_applying.proofs.equating.equate_one.Goals as goal

pub relate_nodes-requires-clause-table : goal.relate_nodes-requires-clause-table
relate_nodes-requires-clause-table c = IsTable-extended c.in_ok-value.ensures.extends c.requires.table

pub relate_nodes-requires-clause-left : goal.relate_nodes-requires-clause-left
relate_nodes-requires-clause-left c =
    let e = c.in_ok-value.ensures in
    let same = content_of-extended e.extends c.requires.table.now in
    record { within = e.within; knows = rw (e.tree, same) c.requires.value.knows }

pub relate_nodes-requires-clause-right : goal.relate_nodes-requires-clause-right
relate_nodes-requires-clause-right c =
    let e = c.in_ok-value.ensures in
    let same = content_of-extended e.extends c.requires.table.now in
    let o = c.requires.original in
    record { within = IsIn-extended e.extends c.args.original o.within; knows = rw (e.extends.kept c.args.original o.within, same) o.knows }

pub returns-clause-related : goal.returns-clause-related
returns-clause-related c =
    let e = c.in_ok-value.ensures in
    let same = content_of-extended e.extends c.requires.table.now in
    OnOk-map c.relate_nodes.result (λ h. rw (e.tree, e.extends.kept c.args.original c.requires.original.within, same) at h) c.relate_nodes.ensures.related

pub returns-clause-labels : goal.returns-clause-labels
returns-clause-labels c =
    let e = c.in_ok-value.ensures in
    let same = content_of-extended e.extends c.requires.table.now in
    OnOk-map c.relate_nodes.result (λ h. rw (e.tree, e.extends.kept c.args.original c.requires.original.within, same) at h) c.relate_nodes.ensures.labels

pub returns-clause-no : goal.returns-clause-no
returns-clause-no c = λ q.
    let e = c.in_ok-value.ensures in
    let same = content_of-extended e.extends c.requires.table.now in
    rw (e.tree, e.extends.kept c.args.original c.requires.original.within, same) at (c.relate_nodes.ensures.no q)

pub returns-clause-keeps : goal.returns-clause-keeps
returns-clause-keeps c =
    let e = c.relate_nodes.ensures in
    nodes_related c.args.cx.now c.instantiate_canonical.new.nodes c.relate_nodes.new.nodes c.args.table.now c.relate_nodes.new.table c.requires.table c.instantiate_canonical.ensures.extends e.extends e.table e.changes e.later

pub returns-in_err-value-clause-keeps : goal.returns-in_err-value-clause-keeps
returns-in_err-value-clause-keeps c = nodes_grown c.args.cx.now c.instantiate_canonical.new.nodes c.args.table.now c.requires.table c.instantiate_canonical.ensures.extends

pub returns-clause-later : goal.returns-clause-later
returns-clause-later c =
    let same = content_of-extended c.instantiate_canonical.ensures.extends c.requires.table.now in
    subst (λ z. IsLater z (content_of c.relate_nodes.new.nodes c.relate_nodes.new.table.entries)) same c.relate_nodes.ensures.later

pub returns-in_err-value-clause-later : goal.returns-in_err-value-clause-later
returns-in_err-value-clause-later c = later_grown c.args.cx.now.nodes c.instantiate_canonical.new.nodes c.args.table.now c.requires.table c.instantiate_canonical.ensures.extends
