use Rattle.std.proofs.Common.{rules, ◌≡◌, false, sym, ap, ◌∙◌, subst}
use Rattle.nts_model.specs.Terms.Trees.{kind_of}
use Rattle.nts_model.specs.Terms.Substitutions.{replace}
use Rattle.nts_model.specs.Canonical.Numbered.{numbered_leaf}
use Rattle.nts_store.specs.declared.nodes.NodeId.{NodeId}
use Rattle.nts_store.specs.Growth.{tree_at}
use Rattle.nts_terms.specs.Handles.{Holds}
use Rattle.nts_canonicalizer.specs.Collecting.{stays_where}
use Rattle.nts_canonicalizer.specs.Positions.{kind_of-numbered}
use Rattle.nts_canonical.proofs.Placing.{holds_alike}
use Rattle.nts_canonicalizer.proofs.Leafless.{replace-known}
use Rattle.nts_canonicalizer.proofs.numbering.numbered.Goals as goal

pub returns-then-not-flags-clause-tree : goal.returns-then-not-flags-clause-tree
returns-then-not-flags-clause-tree g c =
    let none : c.flags.result.has_leaf ≡ false = first_of (cc, search rules) in
    ap (tree_at c.args.nodes.now) (sym c.node-node.ensures) ∙ replace-known _ _ c.flags.result c.flags.ensures none ∙ ap (λ (n : NodeId). replace (numbered_leaf (stays_where c.args.staying) c.args.leaves.now) (tree_at c.args.nodes.now n)) c.node-node.ensures

pub returns-clause-holds : goal.returns-clause-holds
returns-clause-holds g c =
    let e = c.in_ok-node.ensures in
    let old = c.args.nodes.now in
    let new = c.replace.new.nodes in
    let stays = stays_where c.args.staying in
    let s = c.args.leaves.now in
    let tree = e.tree ∙ ap (λ (n : NodeId). replace (numbered_leaf stays s) (tree_at old n)) c.node-node.ensures in
    let held = holds_alike g.T.Stored.place old new (g.T.Stored.id c.args.x) c.in_ok-node.node c.requires e.within (ap kind_of tree ∙ kind_of-numbered stays s (tree_at old (g.T.Stored.id c.args.x))) in
    subst (λ (n : NodeId). Holds g.T.Stored.place new n) (sym c.from_node.ensures) held
