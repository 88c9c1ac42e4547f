use Rattle.std.proofs.Common.{◌≡◌, ap, ◌∙◌}
use Rattle.nts_model.proofs.Tables.Open.{Knows-deeply_resolved}
use Rattle.nts_model.proofs.Tables.Kept.{kind_of-deeply_resolved}
use Rattle.nts_model.specs.Tables.Resolving.{deeply_resolved}
use Rattle.nts_model.specs.Terms.Trees.{kind_of}
use Rattle.nts_store.specs.declared.nodes.NodeId.{NodeId}
use Rattle.nts_store.specs.Growth.{tree_at}
use Rattle.nts_unify.specs.Lawful.{content_of-extended}
use Rattle.nts_unify.specs.Reading.{content_of}
use Rattle.nts_placeholder.specs.Closing.{mapped}
use Rattle.nts_placeholder.specs.ClosingLaws.{closing_of-same_kind}
use Rattle.nts_store.proofs.Growing.{Extends-trans}
use Rattle.nts_placeholder.proofs.Relabelling.{closing_keeps_known}
use Rattle.nts_placeholder.proofs.closing.PlaceholderReplacer.replace_placeholders.Goals as goal

pub returns-clause-holds : goal.returns-clause-holds
returns-clause-holds g c =
    let content = content_of c.args.cx.now.nodes c.args.table.now.entries in
    let x = tree_at c.args.cx.now.nodes (g.T.Stored.id c.args.value) in
    let known : kind_of (tree_at c.resolve_nodes.new.nodes c.in_ok-known.known) ≡ kind_of x = ap kind_of (c.in_ok-known.ensures.tree ∙ ap (λ (n : NodeId). deeply_resolved (content_of c.args.cx.now.nodes c.args.table.now.entries) (tree_at c.args.cx.now.nodes n)) c.node.ensures) ∙ kind_of-deeply_resolved content x c.requires.table.now.sound c.requires.knows in
    let same : kind_of (tree_at c.close_nodes.new.nodes c.in_ok-node.node) ≡ kind_of x = ap kind_of c.in_ok-node.ensures.tree ∙ closing_of-same_kind (mapped c.args.maps.now) c.args.universe_indices.now 0 (tree_at c.resolve_nodes.new.nodes c.in_ok-known.known) ∙ known in
    rw c.from_node.ensures (record { within = c.in_ok-node.ensures.within; fits = rw same c.requires.holds.fits })

pub returns-clause-knows : goal.returns-clause-knows
returns-clause-knows g c =
    let content = content_of c.args.cx.now.nodes c.args.table.now.entries in
    let x = tree_at c.args.cx.now.nodes (g.T.Stored.id c.args.value) in
    let up = Extends-trans c.in_ok-known.ensures.extends c.in_ok-node.ensures.extends in
    let same = content_of-extended up c.requires.table.now in
    let known : tree_at c.resolve_nodes.new.nodes c.in_ok-known.known ≡ deeply_resolved content x = c.in_ok-known.ensures.tree ∙ ap (λ (n : NodeId). deeply_resolved (content_of c.args.cx.now.nodes c.args.table.now.entries) (tree_at c.args.cx.now.nodes n)) c.node.ensures in
    rw (c.from_node.ensures, same, c.in_ok-node.ensures.tree, known) (closing_keeps_known content (mapped c.args.maps.now) c.args.universe_indices.now (deeply_resolved content x) (Knows-deeply_resolved content x c.requires.table.now.sound c.requires.knows))
