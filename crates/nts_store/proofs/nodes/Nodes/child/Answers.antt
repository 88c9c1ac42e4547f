use Rattle.nts_store.specs.Children.{listed}
use Rattle.nts_store.proofs.Reading.{child_at}
use Rattle.nts_store.proofs.nodes.Nodes.child.Goals as goal

pub returns-clause-within : goal.returns-clause-within
returns-clause-within c =
    (child_at c.args.self.now c.args.t c.args.i c.node.result.now.label (listed c.node.result.now.children) c.as_slice.result.now c.node.ensures.is c.as_slice.ensures c.requires.index c.node.ensures.all c.node.ensures.before).within

pub returns-clause-before : goal.returns-clause-before
returns-clause-before c =
    (child_at c.args.self.now c.args.t c.args.i c.node.result.now.label (listed c.node.result.now.children) c.as_slice.result.now c.node.ensures.is c.as_slice.ensures c.requires.index c.node.ensures.all c.node.ensures.before).before

pub returns-clause-tree : goal.returns-clause-tree
returns-clause-tree c =
    (child_at c.args.self.now c.args.t c.args.i c.node.result.now.label (listed c.node.result.now.children) c.as_slice.result.now c.node.ensures.is c.as_slice.ensures c.requires.index c.node.ensures.all c.node.ensures.before).tree
