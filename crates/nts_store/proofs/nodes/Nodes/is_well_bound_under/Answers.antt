use Rattle.std.proofs.Common.{◌<◌, ◌-◌, length, arith}
use Rattle.std.specs.Prelude.{IsTrue}
use Rattle.nts_model.specs.Terms.Trees.{binders}
use Rattle.nts_store.proofs.Growing.{AllIn-get_or, get_or_from_fits}
use Rattle.nts_store.proofs.WellBound.{child_well_bound, child_listed, first_child}
use Rattle.nts_store.proofs.nodes.Nodes.is_well_bound_under.Goals as goal

pub node-requires : goal.node-requires
node-requires c =
    let is = get_or_from_fits c.args.children.now (c.loop-i.i - 1) _ (omega (arith, c.loop-i.invariant.fits)) in
    AllIn-get_or c.args.self.now c.args.children.now (c.loop-i.i - 1) _ c.requires.within (omega (arith, c.loop-i.invariant.fits)) is

pub returns-then-not-node : goal.returns-then-not-node
returns-then-not-node c =
    let less : c.loop-i.i - 1 < length c.args.children.now = omega (arith, c.loop-i.invariant.fits, c.loop-i-test.true) in
    let is = get_or_from_fits c.args.children.now (c.loop-i.i - 1) (record { number = 0 }) less in (
      (λ h. cc),
      λ w. let yes : IsTrue c.node.result.now.is_well_bound = c.node.ensures.well_bound.1 (child_well_bound c.args.self.now c.args.children.now (c.loop-i.i - 1) _ less is w.1) in cc,
    )

pub returns-then-not-branch : goal.returns-then-not-branch
returns-then-not-branch c =
    let less : c.loop-i.i - 1 < length c.args.children.now = omega (arith, c.loop-i.invariant.fits, c.loop-i-test.true) in
    let is = get_or_from_fits c.args.children.now (c.loop-i.i - 1) (record { number = 0 }) less in
    let first = first_child c.args.self.now c.args.children.now (c.loop-i.i - 1) _ less (get_or_from_fits c.args.children.now 0 (record { number = 0 }) (omega (arith, less))) in
    let binds : 0 < binders c.args.label = omega (arith, c.if-binds.true, c.binders_of-binds.ensures) in (
      (λ h. cc),
      λ w. let yes : IsTrue c.in_ok-all_listed.field-0 = c.in_ok-all_listed.ensures.1 (rw first at (child_listed c.args.self.now c.args.label c.args.children.now (c.loop-i.i - 1) _ binds c.requires.formed less is w)) in cc,
    )
