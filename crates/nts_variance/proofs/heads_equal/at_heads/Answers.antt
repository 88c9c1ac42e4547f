use Rattle.nts_variance.proofs.Standing.{heads_of}
use Rattle.nts_variance.proofs.heads_equal.at_heads.Goals as goal

pub returns : goal.returns
returns c = heads_of c.args.nodes.now c.args.table.now.entries c.args.pair c.head_of-left.result c.head_of-right.result c.node_of.result c.node_of-2.result c.requires.lawful c.requires.pair c.head_of-left.ensures c.head_of-right.ensures c.node_of.ensures c.node_of-2.ensures
