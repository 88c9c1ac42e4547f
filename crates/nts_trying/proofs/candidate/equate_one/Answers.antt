use Rattle.std.proofs.Common.{map}
use Rattle.nts_store.specs.Growth.{tree_at}
use Rattle.nts_table.specs.TableLaws.{IsTable-extended}
use Rattle.nts_meaning.proofs.Running.{equation_stays}
use Rattle.nts_candidates.proofs.Results.{OnOk-map}
use Rattle.nts_trying.proofs.Instances.{held_values, instance_term}
use Rattle.nts_meaning.proofs.Evaluating.{Runs-trans, Runs-extends, can_fill}
use Rattle.nts_unify.specs.Lawful.{content_of-extended}
use Rattle.nts_trying.proofs.candidate.equate_one.Goals as goal
use Rattle.nts_trying.proofs.Labels.{over_only}

pub instantiate_both-requires-clause-values : goal.instantiate_both-requires-clause-values
instantiate_both-requires-clause-values c = held_values c.requires.values

pub returns-in_err-lhs-clause-runs : goal.returns-in_err-lhs-clause-runs
returns-in_err-lhs-clause-runs c = Runs-extends c.requires.posed.table c.instantiate_both.ensures.grows.extends c.instantiate_both.ensures.grows.rest

pub relate_terms-requires-clause-left : goal.relate_terms-requires-clause-left
relate_terms-requires-clause-left c =
    let e = c.in_ok-lhs.ensures in
    instance_term c.requires.posed.table (can_fill c.requires.posed c.requires.equation.lhs c.requires.values) e.grows.extends e.left

pub relate_terms-requires-clause-right : goal.relate_terms-requires-clause-right
relate_terms-requires-clause-right c =
    let e = c.in_ok-lhs.ensures in
    instance_term c.requires.posed.table (can_fill c.requires.posed c.requires.equation.rhs c.requires.values) e.grows.extends e.right

pub relate_terms-requires-clause-table : goal.relate_terms-requires-clause-table
relate_terms-requires-clause-table c = IsTable-extended c.in_ok-lhs.ensures.grows.extends c.requires.posed.table

pub returns-clause-runs : goal.returns-clause-runs
returns-clause-runs c =
    let e = c.in_ok-lhs.ensures in
    Runs-trans (Runs-extends c.requires.posed.table e.grows.extends e.grows.rest) c.relate_terms.ensures.runs

pub returns-clause-equal : goal.returns-clause-equal
returns-clause-equal c =
    let e = c.in_ok-lhs.ensures in
    let p = c.requires.posed in
    let l = instance_term p.table (can_fill p c.requires.equation.lhs c.requires.values) e.grows.extends e.left in
    let r = instance_term p.table (can_fill p c.requires.equation.rhs c.requires.values) e.grows.extends e.right in
    OnOk-map c.relate_terms.result
    (λ h. equation_stays c.args.cx.now.nodes (map (tree_at c.args.cx.now.nodes) c.args.trial.values.now) c.args.equation c.relate_terms.ensures.runs.goes e.left.formed l r e.left.tree e.right.tree e.left.kind c.requires.equation.argument h)
    c.relate_terms.ensures.equal

pub returns-clause-related : goal.returns-clause-related
returns-clause-related c =
    let e = c.in_ok-lhs.ensures in
    let same = content_of-extended e.grows.extends c.requires.posed.table.now in
    OnOk-map c.relate_terms.result (λ h. rw (e.left.tree, e.right.tree, same) at h) c.relate_terms.ensures.related

pub returns-clause-no : goal.returns-clause-no
returns-clause-no c = λ q.
    let e = c.in_ok-lhs.ensures in
    let same = content_of-extended e.grows.extends c.requires.posed.table.now in
    rw (e.left.tree, e.right.tree, same) at (c.relate_terms.ensures.no q)

pub returns-clause-labels : goal.returns-clause-labels
returns-clause-labels c =
    let e = c.in_ok-lhs.ensures in
    let same = content_of-extended e.grows.extends c.requires.posed.table.now in
    OnOk-map c.relate_terms.result (λ h. over_only c.requires.values c.requires.equation.lhs c.requires.equation.rhs (rw (e.left.tree, e.right.tree, same) at h)) c.relate_terms.ensures.labels
