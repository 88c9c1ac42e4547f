use Rattle.std.proofs.Common.{ap, ◌∙◌}
use Rattle.nts_model.specs.Terms.Trees.{kind_of}
use Rattle.nts_model.proofs.Tables.Kept.{kind_of-deeply_resolved}
use Rattle.nts_store.specs.Growth.{tree_at}
use Rattle.nts_unify.specs.Reading.{content_of}
use Rattle.nts_nested_goals.proofs.normalizing.resolved.Goals as goal

pub returns-clause-kind : goal.returns-clause-kind
returns-clause-kind c = ap kind_of c.in_ok-value.ensures.tree ∙ kind_of-deeply_resolved (content_of c.args.cx.now.nodes c.args.table.now.entries) (tree_at c.args.cx.now.nodes c.args.term.node) c.requires.table.now.sound c.requires.term.known
