use Rattle.std.proofs.Common.{arith, ap, ◌∙◌}
use Rattle.nts_model.specs.declared.labels.BoundVarIndexKind.TheVariants as index
use Rattle.nts_model.specs.declared.labels.Label.TheVariants as label
use Rattle.nts_model.specs.Terms.Trees.{node, empty}
use Rattle.nts_store.proofs.Growing.{Extends-trans}
use Rattle.nts_response.proofs.Positioned.{one_position, all_positions}
use Rattle.nts_response.proofs.unconstrained.positions.Goals as goal

pub loop-i-preserved : goal.loop-i-preserved
loop-i-preserved c =
    let up = c.make.ensures.extends in
    let tree = c.in_ok-node.ensures.tree ∙ ap (λ s. node (label.Bound s index.Canonical c.loop-i.i) empty) c.sort_of_kind.ensures in
    record {
      so_far = one_position c.loop-i.nodes c.make.new.self c.loop-i.values.items c.push.new.self.items c.args.kinds.now c.loop-i.i _ (record { node = c.in_ok-node.node }) (omega (arith, c.loop-i-test.true)) up c.loop-i.invariant.so_far
          c.in_ok-node.ensures.within tree c.in_ok-push.ensures.items;
      extends = Extends-trans c.loop-i.invariant.extends up;
    }

pub returns-clause-values : goal.returns-clause-values
returns-clause-values c = all_positions c.loop-i.nodes c.loop-i.values.items c.args.kinds.now c.loop-i.i (omega (arith, c.loop-i-test.false)) c.loop-i.invariant.so_far
