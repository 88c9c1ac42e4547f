use Rattle.std.proofs.Common.{◌∙◌, map, ap, Some}
use Rattle.nts_store.specs.Growth.{tree_at}
use Rattle.nts_terms.proofs.Moved.{KeepsRest-refl}
use Rattle.nts_table.specs.TableLaws.{IsTable-extended}
use Rattle.nts_meaning.proofs.Running.{constraint_stays, equality_stays}
use Rattle.nts_candidates.proofs.Results.{OnOk-map}
use Rattle.nts_trying.proofs.Instances.{held_values, instance_term}
use Rattle.nts_meaning.proofs.Evaluating.{Runs-trans, Runs-extends, can_fill}
use Rattle.nts_model.specs.Terms.Substitutions.{filled}
use Rattle.nts_model.specs.Derivations.Handlers.{constraint_by}
use Rattle.nts_unify.specs.Lawful.{content_of-extended}
use Rattle.nts_candidates.specs.Offered.{constraint_of}
use Rattle.nts_model.specs.Tables.Recording.{left_kind}
use Rattle.nts_decisions.proofs.RelatedRegions.{regions_are_related}
use Rattle.nts_trying.proofs.Constraining.{added_equal, never_refused}
use Rattle.nts_trying.proofs.candidate.record_one.Goals as goal
use Rattle.nts_trying.proofs.Labels.{over_only}
use Rattle.nts_trying.proofs.Sides.{instance_closed}

pub instantiate_both-requires-clause-values : goal.instantiate_both-requires-clause-values
instantiate_both-requires-clause-values c = held_values c.requires.values

pub returns-in_err-left-clause-runs : goal.returns-in_err-left-clause-runs
returns-in_err-left-clause-runs c = Runs-extends c.requires.posed.table c.instantiate_both.ensures.grows.extends c.instantiate_both.ensures.grows.rest

pub relate_terms-requires-clause-table : goal.relate_terms-requires-clause-table
relate_terms-requires-clause-table c = IsTable-extended c.in_ok-left.ensures.grows.extends c.requires.posed.table

pub relate_terms-requires-clause-left : goal.relate_terms-requires-clause-left
relate_terms-requires-clause-left c =
    let e = c.in_ok-left.ensures in
    instance_term c.requires.posed.table (can_fill c.requires.posed c.requires.constraint.left c.requires.values) e.grows.extends e.left

pub relate_terms-requires-clause-right : goal.relate_terms-requires-clause-right
relate_terms-requires-clause-right c =
    let e = c.in_ok-left.ensures in
    instance_term c.requires.posed.table (can_fill c.requires.posed c.requires.constraint.right c.requires.values) e.grows.extends e.right

pub returns-in-Equal-clause-runs : goal.returns-in-Equal-clause-runs
returns-in-Equal-clause-runs c =
    let e = c.in_ok-left.ensures in
    Runs-trans (Runs-extends c.requires.posed.table e.grows.extends e.grows.rest) c.relate_terms.ensures.runs

pub returns-in-Equal-clause-held : goal.returns-in-Equal-clause-held
returns-in-Equal-clause-held c =
    let e = c.in_ok-left.ensures in
    let k = c.requires.constraint in
    let p = c.requires.posed in
    let l = instance_term p.table (can_fill p k.left c.requires.values) e.grows.extends e.left in
    let r = instance_term p.table (can_fill p k.right c.requires.values) e.grows.extends e.right in
    let goes = c.relate_terms.ensures.runs.goes in
    OnOk-map c.relate_terms.result
    (λ h. constraint_stays c.args.cx.now.nodes (map (tree_at c.args.cx.now.nodes) c.args.trial.values.now) c.args.constraint goes e.left.formed l r e.left.tree e.right.tree
    (equality_stays c.args.constraint.relation c.in-Equal.is goes e.left.formed l r (e.left.kind ∙ k.left_sort) (e.right.kind ∙ k.right_sort) h))
    c.relate_terms.ensures.equal

pub record_outlives-requires-clause-table : goal.record_outlives-requires-clause-table
record_outlives-requires-clause-table c = IsTable-extended c.in_ok-left.ensures.grows.extends c.requires.posed.table

pub record_outlives-requires-clause-left : goal.record_outlives-requires-clause-left
record_outlives-requires-clause-left c =
    let e = c.in_ok-left.ensures in
    instance_term c.requires.posed.table (can_fill c.requires.posed c.requires.constraint.left c.requires.values) e.grows.extends e.left

pub record_outlives-requires-clause-right : goal.record_outlives-requires-clause-right
record_outlives-requires-clause-right c =
    let e = c.in_ok-left.ensures in
    instance_term c.requires.posed.table (can_fill c.requires.posed c.requires.constraint.right c.requires.values) e.grows.extends e.right

pub record_outlives-requires-clause-left_sort : goal.record_outlives-requires-clause-left_sort
record_outlives-requires-clause-left_sort c = c.in_ok-left.ensures.left.kind ∙ c.requires.constraint.left_sort

pub record_outlives-requires-clause-right_sort : goal.record_outlives-requires-clause-right_sort
record_outlives-requires-clause-right_sort c = c.in_ok-left.ensures.right.kind ∙ c.requires.constraint.right_sort

pub record_outlives-requires-clause-left_closed :
    goal.record_outlives-requires-clause-left_closed
record_outlives-requires-clause-left_closed c =
    let e = c.in_ok-left.ensures in
    rw e.left.tree (instance_closed c.requires.constraint.left c.requires.values)

pub record_outlives-requires-clause-right_closed :
    goal.record_outlives-requires-clause-right_closed
record_outlives-requires-clause-right_closed c =
    let e = c.in_ok-left.ensures in
    rw e.right.tree (instance_closed c.requires.constraint.right c.requires.values)

pub returns-clause-runs : goal.returns-clause-runs
returns-clause-runs c =
    let e = c.in_ok-left.ensures in
    Runs-trans (Runs-extends c.requires.posed.table e.grows.extends e.grows.rest) (record { goes = c.record_outlives.ensures.goes; rest = KeepsRest-refl _ })

pub returns-clause-held : goal.returns-clause-held
returns-clause-held c =
    let e = c.in_ok-left.ensures in
    let k = c.requires.constraint in
    let p = c.requires.posed in
    let l = instance_term p.table (can_fill p k.left c.requires.values) e.grows.extends e.left in
    let r = instance_term p.table (can_fill p k.right c.requires.values) e.grows.extends e.right in
    constraint_stays c.args.cx.now.nodes (map (tree_at c.args.cx.now.nodes) c.args.trial.values.now) c.args.constraint c.record_outlives.ensures.goes e.left.formed l r e.left.tree e.right.tree c.in_ok-record_outlives.ensures.held

pub returns-in_err-record_outlives-clause-runs : goal.returns-in_err-record_outlives-clause-runs
returns-in_err-record_outlives-clause-runs c =
    let e = c.in_ok-left.ensures in
    Runs-trans (Runs-extends c.requires.posed.table e.grows.extends e.grows.rest) (record { goes = c.record_outlives.ensures.goes; rest = KeepsRest-refl _ })

pub returns-in-Equal-clause-added : goal.returns-in-Equal-clause-added
returns-in-Equal-clause-added c =
    let e = c.in_ok-left.ensures in
    let same = content_of-extended e.grows.extends c.requires.posed.table.now in
    let a = c.args.cx.now.nodes in
    OnOk-map c.relate_terms.result (λ h. added_equal (constraint_by (filled (map (tree_at a) c.args.trial.values.now)) (constraint_of a c.args.constraint)) _ _ c.in-Equal.is (rw (e.left.tree, e.right.tree, same) at h)) c.relate_terms.ensures.related

pub returns-clause-added : goal.returns-clause-added
returns-clause-added c =
    let e = c.in_ok-left.ensures in
    let same = content_of-extended e.grows.extends c.requires.posed.table.now in
    rw (e.left.tree, e.right.tree, same) at c.in_ok-record_outlives.ensures.added

pub returns-in-Equal-clause-memory : goal.returns-in-Equal-clause-memory
returns-in-Equal-clause-memory c =
    let e = c.in_ok-left.ensures in
    let k = c.requires.constraint in
    let p = c.requires.posed in
    let l = instance_term p.table (can_fill p k.left c.requires.values) e.grows.extends e.left in
    let r = instance_term p.table (can_fill p k.right c.requires.values) e.grows.extends e.right in
    let table = IsTable-extended e.grows.extends p.table in
    let now = table.now in
    let proper = now.proper in
    let sort = ap left_kind c.in-Equal.is in
    never_refused c.relate_terms.result
    (λ q. regions_are_related _ _ _ now.sound proper.solvable
    (record { knows = l.knows; of_kind = e.left.kind ∙ k.left_sort ∙ ap Some sort; formed = e.left.formed _ l.within; closed = rw e.left.tree (instance_closed k.left c.requires.values) })
    (record { knows = r.knows; of_kind = e.right.kind ∙ k.right_sort; formed = e.right.formed _ r.within; closed = rw e.right.tree (instance_closed k.right c.requires.values) })
    (c.relate_terms.ensures.no q)) c.relate_terms.ensures.full

pub returns-in-Equal-clause-labels : goal.returns-in-Equal-clause-labels
returns-in-Equal-clause-labels c =
    let e = c.in_ok-left.ensures in
    let same = content_of-extended e.grows.extends c.requires.posed.table.now in
    OnOk-map c.relate_terms.result (λ h. over_only c.requires.values c.requires.constraint.left c.requires.constraint.right (rw (e.left.tree, e.right.tree, same) at h)) c.relate_terms.ensures.labels

pub returns-clause-labels : goal.returns-clause-labels
returns-clause-labels c =
    let e = c.in_ok-left.ensures in
    let same = content_of-extended e.grows.extends c.requires.posed.table.now in
    over_only c.requires.values c.requires.constraint.left c.requires.constraint.right (rw (e.left.tree, e.right.tree, same) at c.in_ok-record_outlives.ensures.labels)
