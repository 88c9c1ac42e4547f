use Rattle.std.proofs.Common.{◌≡◌, ap, ◌∙◌}
use Rattle.nts_model.proofs.Tables.Kept.{kind_of-deeply_resolved}
use Rattle.nts_model.proofs.Tables.Open.{Knows-deeply_resolved}
use Rattle.nts_model.proofs.Tables.Resolved.{deeply_resolved-deeply_resolved}
use Rattle.nts_model.specs.Tables.Resolving.{deeply_resolved}
use Rattle.nts_model.specs.Terms.Trees.{kind_of}
use Rattle.nts_store.specs.declared.nodes.NodeId.{NodeId}
use Rattle.nts_store.specs.Growth.{tree_at}
use Rattle.nts_unify.specs.Lawful.{content_of-extended}
use Rattle.nts_unify.specs.Reading.{content_of}
use Rattle.nts_table.proofs.eager.eager_resolve_vars.Goals as goal

pub returns-clause-holds : goal.returns-clause-holds
returns-clause-holds g c =
    let content = content_of c.args.cx.now.nodes c.args.table.now.entries in
    let x = tree_at c.args.cx.now.nodes (g.T.Stored.id c.args.value) in
    let same : kind_of (tree_at c.resolve_nodes.new.nodes c.in_ok-node.node) ≡ kind_of x = ap kind_of (c.in_ok-node.ensures.tree ∙ ap (λ (n : NodeId). deeply_resolved (content_of c.args.cx.now.nodes c.args.table.now.entries) (tree_at c.args.cx.now.nodes n)) c.node.ensures) ∙ kind_of-deeply_resolved content x c.requires.table.now.sound c.requires.knows in
    rw c.from_node.ensures (record { within = c.in_ok-node.ensures.within; fits = rw same c.requires.holds.fits })

pub returns-clause-knows : goal.returns-clause-knows
returns-clause-knows g c =
    let content = content_of c.args.cx.now.nodes c.args.table.now.entries in
    let x = tree_at c.args.cx.now.nodes (g.T.Stored.id c.args.value) in
    let same = content_of-extended c.in_ok-node.ensures.extends c.requires.table.now in
    let tree : tree_at c.resolve_nodes.new.nodes c.in_ok-node.node ≡ deeply_resolved content x = c.in_ok-node.ensures.tree ∙ ap (λ (n : NodeId). deeply_resolved (content_of c.args.cx.now.nodes c.args.table.now.entries) (tree_at c.args.cx.now.nodes n)) c.node.ensures in
    rw (c.from_node.ensures, same, tree) (Knows-deeply_resolved content x c.requires.table.now.sound c.requires.knows)

pub returns-clause-tree : goal.returns-clause-tree
returns-clause-tree g c = rw c.from_node.ensures (c.in_ok-node.ensures.tree ∙ ap (λ (n : NodeId). deeply_resolved (content_of c.args.cx.now.nodes c.args.table.now.entries) (tree_at c.args.cx.now.nodes n)) c.node.ensures)

pub returns-clause-twice : goal.returns-clause-twice
returns-clause-twice g c =
    let content = content_of c.args.cx.now.nodes c.args.table.now.entries in
    let x = tree_at c.args.cx.now.nodes (g.T.Stored.id c.args.value) in
    let tree : tree_at c.resolve_nodes.new.nodes c.in_ok-node.node ≡ deeply_resolved content x = c.in_ok-node.ensures.tree ∙ ap (λ (n : NodeId). deeply_resolved (content_of c.args.cx.now.nodes c.args.table.now.entries) (tree_at c.args.cx.now.nodes n)) c.node.ensures in
    rw (c.from_node.ensures, tree) (deeply_resolved-deeply_resolved _ _ c.requires.table.now.sound)
