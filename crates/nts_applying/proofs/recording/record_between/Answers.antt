use Rattle.std.proofs.Common.{◌≡◌, OnOk, true, Some, sym, ap, subst, ◌∙◌}
use Rattle.nts_model.specs.declared.labels.Sort.TheVariants as sort
use Rattle.nts_model.specs.declared.labels.Relation.TheVariants as relation
use Rattle.nts_model.specs.Terms.Trees.{kind_of, of_sort}
use Rattle.nts_model.specs.Answers.Applying.{IsRecordedIn}
use Rattle.nts_model.proofs.Tables.AliasLabels.{region_kind}
use Rattle.nts_store.specs.Growth.{tree_at}
use Rattle.nts_unify.specs.Reading.{content_of}
use Rattle.nts_unify.specs.Recording.{is_visible}
use Rattle.nts_candidates.proofs.Results.{OnOk-map}
use Rattle.nts_table.proofs.TermTables.{proper_content}
use Rattle.nts_response.specs.Recorded.{IsLeftSide, AddsSeen, seen_by_leak_check}
use Rattle.nts_applying.proofs.RecordLemmas.{recorded_in, recorded_seen, seen_in, recorded_joins, equated_in, equated_joins}
use Rattle.nts_applying.proofs.recording.record_between.Goals as goal

pub returns-in-Equal-clause-recorded : goal.returns-in-Equal-clause-recorded
returns-in-Equal-clause-recorded c =
    let ts = c.args.cx.now.nodes in
    let t = c.args.table.now in
    let u = c.equate_regions.new.self in
    let side : IsLeftSide relation.Equal (tree_at ts c.args.left) = subst (λ z. IsLeftSide z (tree_at ts c.args.left)) c.in-Equal.is c.requires.left_side in
    subst (λ z. OnOk c.equate_regions.result (IsRecordedIn (content_of ts t.entries) (content_of ts u.entries) (record { relation = z; left = tree_at ts c.args.left; right = tree_at ts c.args.right; is_visible = is_visible c.args.visible }))) (sym c.in-Equal.is)
    (OnOk-map c.equate_regions.result (λ k. (equated_in ts t.entries u.entries c.args.left c.args.right (is_visible c.args.visible) c.requires.table.now (proper_content c.requires.table) (proper_content c.equate_regions.ensures.table) c.requires.left.knows c.requires.right.knows side c.requires.right_side k).0) c.equate_regions.ensures.equated)

pub returns-in-Equal-clause-seen : goal.returns-in-Equal-clause-seen
returns-in-Equal-clause-seen c =
    let ts = c.args.cx.now.nodes in
    let t = c.args.table.now in
    let u = c.equate_regions.new.self in
    let side : IsLeftSide relation.Equal (tree_at ts c.args.left) = subst (λ z. IsLeftSide z (tree_at ts c.args.left)) c.in-Equal.is c.requires.left_side in
    subst (λ z. OnOk c.equate_regions.result (AddsSeen (seen_by_leak_check z (is_visible c.args.visible)) (content_of ts t.entries).constraints (content_of ts u.entries).constraints)) (sym c.in-Equal.is)
    (OnOk-map c.equate_regions.result (λ k. (equated_in ts t.entries u.entries c.args.left c.args.right (is_visible c.args.visible) c.requires.table.now (proper_content c.requires.table) (proper_content c.equate_regions.ensures.table) c.requires.left.knows c.requires.right.knows side c.requires.right_side k).1) c.equate_regions.ensures.equated)

pub returns-in-RegionOutlives-clause-recorded : goal.returns-in-RegionOutlives-clause-recorded
returns-in-RegionOutlives-clause-recorded c =
    let ts = c.args.cx.now.nodes in
    let t = c.args.table.now in
    let u = c.sub_regions.new.self in
    subst (λ z. OnOk c.sub_regions.result (IsRecordedIn (content_of ts t.entries) (content_of ts u.entries) (record { relation = z; left = tree_at ts c.args.left; right = tree_at ts c.args.right; is_visible = is_visible c.args.visible }))) (sym c.in-RegionOutlives.is)
    (OnOk-map c.sub_regions.result (λ k. recorded_in ts t.entries u.entries (record { relation = relation.RegionOutlives; left = c.args.left; right = c.args.right; is_visible = is_visible c.args.visible }) (proper_content c.requires.table) (proper_content c.sub_regions.ensures.table) (λ i j. cc i) k) c.sub_regions.ensures.recorded)

pub returns-in-RegionOutlives-clause-seen : goal.returns-in-RegionOutlives-clause-seen
returns-in-RegionOutlives-clause-seen c =
    let ts = c.args.cx.now.nodes in
    let t = c.args.table.now in
    let u = c.sub_regions.new.self in
    subst (λ z. OnOk c.sub_regions.result (AddsSeen (seen_by_leak_check z (is_visible c.args.visible)) (content_of ts t.entries).constraints (content_of ts u.entries).constraints)) (sym c.in-RegionOutlives.is)
    (OnOk-map c.sub_regions.result (λ k. seen_in ts t.entries u.entries (record { relation = relation.RegionOutlives; left = c.args.left; right = c.args.right; is_visible = is_visible c.args.visible }) c.requires.closed c.requires.right_side k) c.sub_regions.ensures.recorded)

pub returns-in-TypeOutlives-clause-seen : goal.returns-in-TypeOutlives-clause-seen
returns-in-TypeOutlives-clause-seen c =
    let ts = c.args.cx.now.nodes in
    let t = c.args.table.now in
    let u = c.register_ty_outlives.new.self in
    subst (λ z. OnOk c.register_ty_outlives.result (AddsSeen (seen_by_leak_check z (is_visible c.args.visible)) (content_of ts t.entries).constraints (content_of ts u.entries).constraints)) (sym c.in-TypeOutlives.is)
    (OnOk-map c.register_ty_outlives.result (λ k. seen_in ts t.entries u.entries (record { relation = relation.TypeOutlives; left = c.args.left; right = c.args.right; is_visible = true }) c.requires.closed c.requires.right_side k) c.register_ty_outlives.ensures.recorded)

pub returns-in-TypeOutlives-clause-recorded : goal.returns-in-TypeOutlives-clause-recorded
returns-in-TypeOutlives-clause-recorded c =
    let ts = c.args.cx.now.nodes in
    let t = c.args.table.now in
    let u = c.register_ty_outlives.new.self in
    let side : kind_of (tree_at ts c.args.left) ≡ Some (of_sort sort.Ty) = subst (λ z. IsLeftSide z (tree_at ts c.args.left)) c.in-TypeOutlives.is c.requires.left_side in
    let other = region_kind (tree_at ts c.args.right) c.requires.right_side in
    subst (λ z. OnOk c.register_ty_outlives.result (IsRecordedIn (content_of ts t.entries) (content_of ts u.entries) (record { relation = z; left = tree_at ts c.args.left; right = tree_at ts c.args.right; is_visible = is_visible c.args.visible }))) (sym c.in-TypeOutlives.is)
    (OnOk-map c.register_ty_outlives.result (λ k. recorded_seen (content_of ts t.entries) (content_of ts u.entries) (record { relation = relation.TypeOutlives; left = tree_at ts c.args.left; right = tree_at ts c.args.right; is_visible = true }) (is_visible c.args.visible)
    (recorded_in ts t.entries u.entries (record { relation = relation.TypeOutlives; left = c.args.left; right = c.args.right; is_visible = true }) (proper_content c.requires.table) (proper_content c.register_ty_outlives.ensures.table)
    (λ i j. (let z : Some (of_sort sort.Ty) ≡ Some (of_sort sort.Region) = sym side ∙ ap kind_of j ∙ other in cc z)) k)) c.register_ty_outlives.ensures.recorded)

pub returns-in-Equal-clause-joins : goal.returns-in-Equal-clause-joins
returns-in-Equal-clause-joins c =
    let ts = c.args.cx.now.nodes in
    let side : IsLeftSide relation.Equal (tree_at ts c.args.left) = subst (λ z. IsLeftSide z (tree_at ts c.args.left)) c.in-Equal.is c.requires.left_side in
    OnOk-map c.equate_regions.result (λ k. equated_joins ts c.args.table.now.entries c.equate_regions.new.self.entries c.args.left c.args.right (is_visible c.args.visible) c.requires.table.now c.requires.left.knows c.requires.right.knows side c.requires.right_side k) c.equate_regions.ensures.equated

pub returns-in-RegionOutlives-clause-joins : goal.returns-in-RegionOutlives-clause-joins
returns-in-RegionOutlives-clause-joins c =
    OnOk-map c.sub_regions.result (λ k. recorded_joins c.args.cx.now.nodes c.args.table.now.entries c.sub_regions.new.self.entries _ k) c.sub_regions.ensures.recorded

pub returns-in-TypeOutlives-clause-joins : goal.returns-in-TypeOutlives-clause-joins
returns-in-TypeOutlives-clause-joins c =
    OnOk-map c.register_ty_outlives.result (λ k. recorded_joins c.args.cx.now.nodes c.args.table.now.entries c.register_ty_outlives.new.self.entries _ k) c.register_ty_outlives.ensures.recorded
