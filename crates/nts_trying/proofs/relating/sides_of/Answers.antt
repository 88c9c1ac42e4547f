use Rattle.std.proofs.Common.{◌≡◌, ◌∙◌, List, map}
use Rattle.nts_model.specs.Terms.Trees.{Tree}
use Rattle.nts_model.specs.Terms.Substitutions.{filled}
use Rattle.nts_store.specs.Growth.{tree_at, trees_at}
use Rattle.nts_store.specs.Kept.{AllIn-kept, map-kept}
use Rattle.nts_store.proofs.Growing.{Extends-trans, trees_at-extended, IsIn-extended}
use Rattle.nts_candidates.proofs.Results.{IfOk-map}
use Rattle.nts_trying.specs.Relating.{left_node, right_node, list_of}
use Rattle.nts_trying.proofs.Instances.{HoldsValues-extended}
use Rattle.nts_trying.proofs.RelatedAliases.{left_in, right_in, left_fit, left_row, right_row, list_over}
use Rattle.nts_trying.proofs.relating.sides_of.Goals as goal

pub make_list-requires-clause-within : goal.make_list-requires-clause-within
make_list-requires-clause-within c =
    rw (c.deref.ensures.value, c.in_ok-lefts.ensures) (left_in c.args.cx.now.nodes c.args.trial.fresh.now c.args.trial.goal c.args.equations.now c.requires.equations)

pub make_list-requires-clause-fits : goal.make_list-requires-clause-fits
make_list-requires-clause-fits c =
    rw (c.deref.ensures.value, c.in_ok-lefts.ensures) (left_fit c.args.cx.now.nodes c.args.trial.fresh.now c.args.trial.goal c.args.equations.now c.requires.equations)

pub make_list-requires-2-clause-within : goal.make_list-requires-2-clause-within
make_list-requires-2-clause-within c =
    rw (c.deref-2.ensures.value, c.in_ok-rights.ensures)
    (AllIn-kept c.args.cx.now.nodes _ _ (right_in c.args.cx.now.nodes c.args.trial.fresh.now c.args.trial.goal c.args.equations.now c.requires.equations) c.in_ok-left.ensures.grows.extends)

rights_kept : (c : goal.After-deref-2) → trees_at c.make_list.new.cx.nodes (map right_node c.args.equations.now) ≡ trees_at c.args.cx.now.nodes (map right_node c.args.equations.now)
rights_kept c = trees_at-extended c.in_ok-left.ensures.grows.extends _ (right_in c.args.cx.now.nodes c.args.trial.fresh.now c.args.trial.goal c.args.equations.now c.requires.equations)

pub make_list-requires-2-clause-fits : goal.make_list-requires-2-clause-fits
make_list-requires-2-clause-fits c = rw (c.deref-2.ensures.value, c.in_ok-rights.ensures, rights_kept c) c.requires.fits

left_is : (c : goal.After-instantiate_both-arg-1) → tree_at c.make_list-2.new.cx.nodes c.in_ok-left.left ≡ list_of (trees_at c.args.cx.now.nodes (map left_node c.args.equations.now))
left_is c =
    let first = rw (c.deref.ensures.value, c.in_ok-lefts.ensures) at c.in_ok-left.ensures.tree in
    let up = c.in_ok-right.ensures.grows.extends in
    up.kept c.in_ok-left.left c.in_ok-left.ensures.within ∙ first

right_is : (c : goal.After-instantiate_both-arg-1) → tree_at c.make_list-2.new.cx.nodes c.in_ok-right.right ≡ list_of (trees_at c.args.cx.now.nodes (map right_node c.args.equations.now))
right_is c =
    let kept = trees_at-extended c.in_ok-left.ensures.grows.extends (map right_node c.args.equations.now) (right_in c.args.cx.now.nodes c.args.trial.fresh.now c.args.trial.goal c.args.equations.now c.requires.equations) in
    rw (c.deref-2.ensures.value, c.in_ok-rights.ensures, kept) at c.in_ok-right.ensures.tree

pub instantiate_both-requires-clause-left : goal.instantiate_both-requires-clause-left
instantiate_both-requires-clause-left c =
    let up = Extends-trans c.in_ok-left.ensures.grows.extends c.in_ok-right.ensures.grows.extends in
    let holds = c.requires.holds in
    list_over c.args.cx.now.nodes c.make_list-2.new.cx.nodes c.args.trial.fresh.now c.args.trial.goal _ c.in_ok-left.left (left_row c.args.cx.now.nodes c.args.trial.fresh.now c.args.trial.goal c.args.equations.now c.requires.equations)
    (IsIn-extended c.in_ok-right.ensures.grows.extends c.in_ok-left.left c.in_ok-left.ensures.within) (left_is c) (up.kept _ holds.env.within) (up.kept _ holds.predicate.within)

pub instantiate_both-requires-clause-right : goal.instantiate_both-requires-clause-right
instantiate_both-requires-clause-right c =
    let up = Extends-trans c.in_ok-left.ensures.grows.extends c.in_ok-right.ensures.grows.extends in
    let holds = c.requires.holds in
    list_over c.args.cx.now.nodes c.make_list-2.new.cx.nodes c.args.trial.fresh.now c.args.trial.goal _ c.in_ok-right.right (right_row c.args.cx.now.nodes c.args.trial.fresh.now c.args.trial.goal c.args.equations.now c.requires.equations)
    c.in_ok-right.ensures.within (right_is c) (up.kept _ holds.env.within) (up.kept _ holds.predicate.within)

pub instantiate_both-requires-clause-values : goal.instantiate_both-requires-clause-values
instantiate_both-requires-clause-values c = HoldsValues-extended (Extends-trans c.in_ok-left.ensures.grows.extends c.in_ok-right.ensures.grows.extends) c.requires.values

filled_same : {vs ws : List Tree} {x y : Tree} → vs ≡ ws → x ≡ y → filled vs x ≡ filled ws y
filled_same p q = λ i. filled (p i) (q i)

pub returns-clause-left : goal.returns-clause-left
returns-clause-left c =
    let one = c.in_ok-left.ensures in
    let two = c.in_ok-right.ensures in
    let up = Extends-trans one.grows.extends two.grows.extends in
    let first = rw (c.deref.ensures.value, c.in_ok-lefts.ensures) at one.tree in
    let values = map-kept c.args.cx.now.nodes c.make_list-2.new.cx.nodes c.args.trial.values.now c.requires.values.within up in
    let kept = two.grows.extends.kept c.in_ok-left.left one.within in
    IfOk-map c.instantiate_both.result (λ r h. h.tree ∙ filled_same values (kept ∙ first)) c.instantiate_both.ensures.left

pub returns-clause-right : goal.returns-clause-right
returns-clause-right c =
    let one = c.in_ok-left.ensures in
    let two = c.in_ok-right.ensures in
    let up = Extends-trans one.grows.extends two.grows.extends in
    let kept = trees_at-extended one.grows.extends (map right_node c.args.equations.now) (right_in c.args.cx.now.nodes c.args.trial.fresh.now c.args.trial.goal c.args.equations.now c.requires.equations) in
    let values = map-kept c.args.cx.now.nodes c.make_list-2.new.cx.nodes c.args.trial.values.now c.requires.values.within up in
    let there = rw (c.deref-2.ensures.value, c.in_ok-rights.ensures, kept) at two.tree in
    IfOk-map c.instantiate_both.result (λ r h. h.tree ∙ filled_same values there) c.instantiate_both.ensures.right

pub returns-clause-formed : goal.returns-clause-formed
returns-clause-formed c = IfOk-map c.instantiate_both.result (λ r h. h.formed) c.instantiate_both.ensures.left
