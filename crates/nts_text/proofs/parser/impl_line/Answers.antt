use Rattle.std.proofs.Common.{is_some, ap}
use Rattle.nts_text.proofs.ArrowLemmas.{says_no_impl}
use Rattle.nts_text.proofs.NodeLemmas.{inside_nodes}
use Rattle.nts_text.proofs.parser.impl_line.Goals as goal

pub returns-in-Some-clause-inside : goal.returns-in-Some-clause-inside
returns-in-Some-clause-inside c = (
  inside_nodes c.args.line.now c.in-Some.parts.head.items c.args.tokens.now (rw c.in-Some.is at c.in_ok-parts.ensures.head) c.requires,
  inside_nodes c.args.line.now c.in-Some.parts.body.items c.args.tokens.now (rw c.in-Some.is at c.in_ok-parts.ensures.body) c.requires,
)

pub returns-in-None-clause-none : goal.returns-in-None-clause-none
returns-in-None-clause-none c = λ _. says_no_impl c.args.line.now c.args.tokens.now (c.in_ok-parts.ensures.none (ap is_some c.in-None.is))
