use Rattle.std.proofs.Common.{true, false}
use Rattle.nts_model.specs.declared.labels.Relation.TheVariants as relations
use Rattle.nts_unify.specs.declared.contents.Constraint.{Constraint}
use Rattle.nts_candidates.proofs.Results.{OnOk-map}
use Rattle.nts_meaning.proofs.Running.{Stays-map, recorded_stays, unseen, is_region_outlives}
use Rattle.nts_meaning.proofs.Evaluating.{recorded_goes}
use Rattle.nts_trying.proofs.Constraining.{added_entry}
use Rattle.nts_trying.proofs.candidate.record_outlives.Goals as goal

-- a type outlives a region

pub returns-in-TypeOutlives-clause-goes : goal.returns-in-TypeOutlives-clause-goes
returns-in-TypeOutlives-clause-goes c =
    let e = c.register_ty_outlives.ensures in
    let x : Constraint = record { relation = relations.TypeOutlives; left = c.args.left; right = c.args.right; is_visible = true } in
    recorded_goes x c.register_ty_outlives.result c.requires.table c.requires.left c.requires.right (rw c.in-TypeOutlives.is at c.requires.left_sort) c.requires.right_sort (λ q. cc) c.requires.left_closed c.requires.right_closed e.recorded e.changes.saved e.changes.mode e.err

pub returns-in-TypeOutlives-clause-held : goal.returns-in-TypeOutlives-clause-held
returns-in-TypeOutlives-clause-held c =
    let e = c.register_ty_outlives.ensures in
    let x : Constraint = record { relation = relations.TypeOutlives; left = c.args.left; right = c.args.right; is_visible = true } in
    let k = rw c.in-TypeOutlives.is at c.requires.left_sort in
    let goes = recorded_goes x c.register_ty_outlives.result c.requires.table c.requires.left c.requires.right k c.requires.right_sort (λ q. cc) c.requires.left_closed c.requires.right_closed e.recorded e.changes.saved e.changes.mode e.err in
    rw c.in-TypeOutlives.is (OnOk-map c.register_ty_outlives.result (λ h. Stays-map (λ d s n z. unseen d relations.TypeOutlives _ _ true false z) (recorded_stays x goes c.requires.left c.requires.right k c.requires.right_sort h)) e.recorded)

pub returns-in-TypeOutlives-clause-added : goal.returns-in-TypeOutlives-clause-added
returns-in-TypeOutlives-clause-added c =
    rw c.in-TypeOutlives.is (OnOk-map c.register_ty_outlives.result (λ h. added_entry _ _ _ relations.TypeOutlives c.args.left c.args.right h) c.register_ty_outlives.ensures.recorded)

-- a region outlives another

pub returns : goal.returns
returns c =
    let e = c.sub_regions.ensures in
    let is = is_region_outlives c.args.relation c.in_default.not-TypeOutlives c.requires.outlives in
    let x : Constraint = record { relation = relations.RegionOutlives; left = c.args.left; right = c.args.right; is_visible = true } in
    let k = rw is at c.requires.left_sort in
    let goes = recorded_goes x c.sub_regions.result c.requires.table c.requires.left c.requires.right k c.requires.right_sort (λ q. cc) c.requires.left_closed c.requires.right_closed e.recorded e.changes.saved e.changes.mode e.err in
    record {
      goes = goes;
      held = rw is (OnOk-map c.sub_regions.result (λ h. Stays-map (λ d s n z. unseen d relations.RegionOutlives _ _ true false z) (recorded_stays x goes c.requires.left c.requires.right k c.requires.right_sort h)) e.recorded);
      added = rw is (OnOk-map c.sub_regions.result (λ h. added_entry _ _ _ relations.RegionOutlives c.args.left c.args.right h) e.recorded);
      labels = e.labels;
      memory = e.memory;
    }
