use Rattle.std.proofs.Common.{sym, ap, ◌∙◌, subst, map}
use Rattle.nts_model.specs.Terms.Trees.{kind_of}
use Rattle.nts_model.specs.Terms.Substitutions.{filled}
use Rattle.nts_store.specs.declared.nodes.NodeId.{NodeId}
use Rattle.nts_store.specs.Growth.{tree_at}
use Rattle.nts_terms.specs.Handles.{Holds}
use Rattle.nts_store.specs.Filled.{kind_of-filled}
use Rattle.nts_canonical.proofs.Placing.{holds_alike}
use Rattle.nts_canonical.proofs.queries.fill.Goals as goal

pub returns-clause-holds : goal.returns-clause-holds
returns-clause-holds g c =
    let e = c.in_ok-node.ensures in
    let old = c.args.nodes.now in
    let new = c.instantiate_canonical.new.nodes in
    let vs = map (tree_at old) c.args.values.now in
    let tree = e.tree ∙ ap (λ (n : NodeId). filled vs (tree_at old n)) c.node.ensures in
    let held = holds_alike g.T.Stored.place old new (g.T.Stored.id c.args.x) c.in_ok-node.node c.requires.holds e.within (ap kind_of tree ∙ kind_of-filled vs (tree_at old (g.T.Stored.id c.args.x)) c.requires.positions) in
    subst (λ (n : NodeId). Holds g.T.Stored.place new n) (sym c.from_node.ensures) held
