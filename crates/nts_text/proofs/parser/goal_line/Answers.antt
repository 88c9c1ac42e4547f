use Rattle.nts_text.proofs.NodeLemmas.{inside_nodes}
use Rattle.nts_text.proofs.parser.goal_line.Goals as goal

pub returns-in-Some-clause-inside : goal.returns-in-Some-clause-inside
returns-in-Some-clause-inside c = inside_nodes c.args.line.now c.in-Some.nodes.items c.args.tokens.now (rw c.in-Some.is at c.in_ok-nodes.ensures.tokens) c.requires
