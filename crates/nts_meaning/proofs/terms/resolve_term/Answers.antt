use Rattle.std.proofs.Common.{true, sym}
use Rattle.nts_unify.specs.Reading.{content_of}
use Rattle.nts_table.proofs.Walking.{resolved_to-left}
use Rattle.nts_meaning.proofs.Evaluating.{is_resolved}
use Rattle.nts_meaning.proofs.terms.resolve_term.Goals as goal

pub returns-clause-term : goal.returns-clause-term
returns-clause-term c =
    let e = c.in_ok-resolved.ensures in
    (is_resolved c.requires.table c.requires.term e.extends e.within e.tree).term

pub returns-clause-kind : goal.returns-clause-kind
returns-clause-kind c =
    let e = c.in_ok-resolved.ensures in
    (is_resolved c.requires.table c.requires.term e.extends e.within e.tree).kind

pub returns-then-has_no_variable-clause-tree : goal.returns-then-has_no_variable-clause-tree
returns-then-has_no_variable-clause-tree c = sym (resolved_to-left true (content_of c.args.cx.now.nodes c.args.table.now.entries) _ (c.has_no_variable.ensures c.if-has_no_variable.true))
