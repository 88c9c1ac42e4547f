use Rattle.std.proofs.Common.{rules, ◌≡◌, true, false}
use Rattle.nts_model.specs.Terms.Trees.{children, row_length, kind_of}
use Rattle.nts_store.specs.Growth.{tree_at}
use Rattle.nts_variance.specs.Goals.{is_alias_node}
use Rattle.nts_trying.proofs.NormalGoals.{both_equated, left_equated, right_equated}
use Rattle.nts_trying.proofs.normal.equated_in.Goals as goal

pub returns-in-true-false-clause-found : goal.returns-in-true-false-clause-found
returns-in-true-false-clause-found c =
    let ts = c.args.cx.now.nodes in
    let none : row_length (children (tree_at ts c.kind-predicate.result.vars.node)) ≡ 0 = first_of (cc, search rules) in
    let kinds : kind_of (tree_at ts c.in_ok-left.left.node) ≡ kind_of (tree_at ts c.in_ok-left.right.node) = search rules in
    let left : is_alias_node (tree_at ts c.in_ok-left.left.node) ≡ true = first_of (cc, search rules) in
    let right : is_alias_node (tree_at ts c.in_ok-left.right.node) ≡ false = first_of (cc, search rules) in
    left_equated ts c.args.goal c.kind-predicate.result c.kind-predicate.ensures.tree c.terms_are_formed.ensures c.kind-predicate.ensures.fits c.len.ensures.row none c.in_ok-left.left c.in_ok-left.right c.in_ok-left.direction c.in_ok-left.ensures.found c.lesser_types-types.result c.lesser_types-types.ensures (c.has_closed_statement.ensures.0 c.if-not-has_closed_statement.false)
    (c.is_closed_env.ensures.0 c.if-not-is_closed_env.false) kinds left right

pub returns-in-false-true-clause-found : goal.returns-in-false-true-clause-found
returns-in-false-true-clause-found c =
    let ts = c.args.cx.now.nodes in
    let none : row_length (children (tree_at ts c.kind-predicate.result.vars.node)) ≡ 0 = first_of (cc, search rules) in
    let kinds : kind_of (tree_at ts c.in_ok-left.left.node) ≡ kind_of (tree_at ts c.in_ok-left.right.node) = search rules in
    let left : is_alias_node (tree_at ts c.in_ok-left.left.node) ≡ false = first_of (cc, search rules) in
    let right : is_alias_node (tree_at ts c.in_ok-left.right.node) ≡ true = first_of (cc, search rules) in
    right_equated ts c.args.goal c.kind-predicate.result c.kind-predicate.ensures.tree c.terms_are_formed.ensures c.kind-predicate.ensures.fits c.len.ensures.row none c.in_ok-left.left c.in_ok-left.right c.in_ok-left.direction c.in_ok-left.ensures.found c.lesser_types-types.result c.lesser_types-types.ensures (c.has_closed_statement.ensures.0 c.if-not-has_closed_statement.false)
    (c.is_closed_env.ensures.0 c.if-not-is_closed_env.false) kinds left right

pub returns-in-true-true-clause-found : goal.returns-in-true-true-clause-found
returns-in-true-true-clause-found c =
    let ts = c.args.cx.now.nodes in
    let none : row_length (children (tree_at ts c.kind-predicate.result.vars.node)) ≡ 0 = first_of (cc, search rules) in
    let kinds : kind_of (tree_at ts c.in_ok-left.left.node) ≡ kind_of (tree_at ts c.in_ok-left.right.node) = search rules in
    let left : is_alias_node (tree_at ts c.in_ok-left.left.node) ≡ true = first_of (cc, search rules) in
    let right : is_alias_node (tree_at ts c.in_ok-left.right.node) ≡ true = first_of (cc, search rules) in
    both_equated ts c.args.goal c.kind-predicate.result c.kind-predicate.ensures.tree c.terms_are_formed.ensures c.kind-predicate.ensures.fits c.len.ensures.row none c.in_ok-left.left c.in_ok-left.right c.in_ok-left.direction c.in_ok-left.ensures.found c.lesser_types-types.result c.lesser_types-types.ensures (c.has_closed_statement.ensures.0 c.if-not-has_closed_statement.false)
    (c.is_closed_env.ensures.0 c.if-not-is_closed_env.false) kinds left right
