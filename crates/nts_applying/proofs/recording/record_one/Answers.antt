use Rattle.std.proofs.Common.{subst}
use Rattle.nts_model.specs.Tables.SubUnifying.{JoinsSubRoots}
use Rattle.nts_store.specs.Growth.{tree_at}
use Rattle.nts_store.proofs.Growing.{IsIn-extended, AllIn-extended, Extends-trans}
use Rattle.nts_store.specs.Kept.{map-kept}
use Rattle.nts_unify.specs.Reading.{content_of}
use Rattle.nts_unify.specs.Lawful.{content_of-extended}
use Rattle.nts_unify.specs.Recording.{is_visible}
use Rattle.nts_table.specs.TableLaws.{IsTable-extended}
use Rattle.nts_candidates.proofs.Results.{OnOk-map}
use Rattle.nts_response.specs.Forms.{recorded_at}
use Rattle.nts_response.specs.Recorded.{AddsSeen, seen_by_leak_check, seen_if}
use Rattle.nts_applying.proofs.Stepping.{nodes_grown, nodes_recorded}
use Rattle.nts_applying.proofs.RecordLemmas.{recorded_seen, recorded_kinds}
use Rattle.nts_applying.proofs.recording.record_one.Goals as goal

pub returns-in_err-left-clause-keeps : goal.returns-in_err-left-clause-keeps
returns-in_err-left-clause-keeps c = nodes_grown c.args.cx.now c.instantiate_canonical.new.nodes c.args.table.now c.requires.table c.instantiate_canonical.ensures.extends

pub instantiate_canonical-requires-2-clause-values :
    goal.instantiate_canonical-requires-2-clause-values
instantiate_canonical-requires-2-clause-values c = AllIn-extended c.instantiate_canonical.ensures.extends c.args.chosen.now c.requires.chosen

pub instantiate_canonical-requires-2-clause-positions :
    goal.instantiate_canonical-requires-2-clause-positions
instantiate_canonical-requires-2-clause-positions c =
    let r = c.requires.constraint.right in
    let e = c.instantiate_canonical.ensures.extends in
    rw (map-kept c.args.cx.now.nodes c.instantiate_canonical.new.nodes c.args.chosen.now c.requires.chosen e, e.kept c.args.constraint.0.right.node r.within) r.positions

pub returns-in_err-right-clause-keeps : goal.returns-in_err-right-clause-keeps
returns-in_err-right-clause-keeps c =
    nodes_grown c.args.cx.now c.instantiate_canonical-2.new.nodes c.args.table.now c.requires.table (Extends-trans c.instantiate_canonical.ensures.extends c.instantiate_canonical-2.ensures.extends)

pub record_between-requires-clause-table : goal.record_between-requires-clause-table
record_between-requires-clause-table c = IsTable-extended (Extends-trans c.in_ok-left.ensures.extends c.in_ok-right.ensures.extends) c.requires.table

pub record_between-requires-clause-left : goal.record_between-requires-clause-left
record_between-requires-clause-left c =
    let a = c.in_ok-left.ensures in
    let b = c.in_ok-right.ensures in
    let same = content_of-extended (Extends-trans a.extends b.extends) c.requires.table.now in
    record { within = IsIn-extended b.extends c.in_ok-left.left a.within; knows = rw (b.extends.kept c.in_ok-left.left a.within, a.tree, same) c.requires.constraint.left.knows }

pub record_between-requires-clause-right : goal.record_between-requires-clause-right
record_between-requires-clause-right c =
    let a = c.in_ok-left.ensures in
    let b = c.in_ok-right.ensures in
    let r = c.requires.constraint.right in
    let same = content_of-extended (Extends-trans a.extends b.extends) c.requires.table.now in
    record { within = b.within; knows = rw (b.tree, map-kept c.args.cx.now.nodes c.instantiate_canonical.new.nodes c.args.chosen.now c.requires.chosen a.extends, a.extends.kept c.args.constraint.0.right.node r.within, same) r.knows }

pub record_between-requires-clause-closed : goal.record_between-requires-clause-closed
record_between-requires-clause-closed c =
    let a = c.in_ok-left.ensures in
    let b = c.in_ok-right.ensures in
    rw (b.extends.kept c.in_ok-left.left a.within, a.tree) c.requires.constraint.left_closed

pub record_between-requires-clause-right_side : goal.record_between-requires-clause-right_side
record_between-requires-clause-right_side c =
    let a = c.in_ok-left.ensures in
    let b = c.in_ok-right.ensures in
    let r = c.requires.constraint.right in
    rw (b.tree, map-kept c.args.cx.now.nodes c.instantiate_canonical.new.nodes c.args.chosen.now c.requires.chosen a.extends, a.extends.kept c.args.constraint.0.right.node r.within) c.requires.constraint.right_side

pub returns-clause-recorded : goal.returns-clause-recorded
returns-clause-recorded c =
    let a = c.in_ok-left.ensures in
    let b = c.in_ok-right.ensures in
    let r = c.requires.constraint.right in
    let same = content_of-extended (Extends-trans a.extends b.extends) c.requires.table.now in
    OnOk-map c.record_between.result
    (λ h. rw (b.extends.kept c.in_ok-left.left a.within, a.tree, b.tree, map-kept c.args.cx.now.nodes c.instantiate_canonical.new.nodes c.args.chosen.now c.requires.chosen a.extends, a.extends.kept c.args.constraint.0.right.node r.within, same) at
    (recorded_seen (content_of c.instantiate_canonical-2.new.nodes c.args.table.now.entries) (content_of c.instantiate_canonical-2.new.nodes c.record_between.new.table.entries)
    (record { relation = c.args.constraint.0.relation; left = tree_at c.instantiate_canonical-2.new.nodes c.in_ok-left.left; right = tree_at c.instantiate_canonical-2.new.nodes c.in_ok-right.right; is_visible = is_visible c.seen_in_both-seen.result }) (is_visible c.args.constraint.1) h)) c.record_between.ensures.recorded

pub returns-clause-labels : goal.returns-clause-labels
returns-clause-labels c =
    let a = c.in_ok-left.ensures in
    let b = c.in_ok-right.ensures in
    let r = c.requires.constraint.right in
    let same = content_of-extended (Extends-trans a.extends b.extends) c.requires.table.now in
    OnOk-map c.record_between.result
    (λ h. rw (b.extends.kept c.in_ok-left.left a.within, a.tree, b.tree, map-kept c.args.cx.now.nodes c.instantiate_canonical.new.nodes c.args.chosen.now c.requires.chosen a.extends, a.extends.kept c.args.constraint.0.right.node r.within, same) at h) c.record_between.ensures.labels

pub returns-clause-seen : goal.returns-clause-seen
returns-clause-seen c =
    let a = c.in_ok-left.ensures in
    let b = c.in_ok-right.ensures in
    let same = content_of-extended (Extends-trans a.extends b.extends) c.requires.table.now in
    let new = content_of c.instantiate_canonical-2.new.nodes c.record_between.new.table.entries in
    OnOk-map c.record_between.result
    (λ h. subst (λ z. AddsSeen (seen_if (is_visible c.args.visible) (recorded_at c.args.cx.now.nodes c.args.constraint)) z.constraints new.constraints) same
    (subst (λ v. AddsSeen (seen_by_leak_check c.args.constraint.0.relation v) (content_of c.instantiate_canonical-2.new.nodes c.args.table.now.entries).constraints new.constraints) c.seen_in_both-seen.ensures h)) c.record_between.ensures.seen

pub returns-clause-keeps : goal.returns-clause-keeps
returns-clause-keeps c =
    let e = c.record_between.ensures in
    nodes_recorded c.args.cx.now c.instantiate_canonical-2.new.nodes c.args.table.now c.record_between.new.table c.requires.table (Extends-trans c.instantiate_canonical.ensures.extends c.instantiate_canonical-2.ensures.extends) e.table e.changes (recorded_kinds c.record_between.result _ c.args.table.now c.record_between.new.table _ e.recorded e.err)

pub returns-clause-joins : goal.returns-clause-joins
returns-clause-joins c =
    let same = content_of-extended (Extends-trans c.in_ok-left.ensures.extends c.in_ok-right.ensures.extends) c.requires.table.now in
    let new = content_of c.instantiate_canonical-2.new.nodes c.record_between.new.table.entries in
    OnOk-map c.record_between.result (λ h. subst (λ z. JoinsSubRoots z new) same h) c.record_between.ensures.joins
