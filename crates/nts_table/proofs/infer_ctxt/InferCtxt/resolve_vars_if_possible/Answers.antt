use Rattle.std.proofs.Common.{sym, ap, ◌∙◌, subst}
use Rattle.nts_model.specs.Tables.Resolving.{resolved}
use Rattle.nts_store.specs.declared.nodes.NodeId.{NodeId}
use Rattle.nts_store.specs.Growth.{tree_at}
use Rattle.nts_terms.specs.Handles.{Holds}
use Rattle.nts_unify.specs.Reading.{content_of}
use Rattle.nts_table.proofs.ClassValues.{Holds-resolved}
use Rattle.nts_table.proofs.infer_ctxt.InferCtxt.resolve_vars_if_possible.Goals as goal

pub returns-clause-holds : goal.returns-clause-holds
returns-clause-holds g c =
    let e = c.in_ok-node.ensures in
    let old = c.args.cx.now.nodes in
    let new = c.resolve_nodes.new.nodes in
    let tree = e.tree ∙ ap (λ (n : NodeId). resolved (content_of old c.args.self.now.entries) (tree_at old n)) c.node.ensures in
    let held = Holds-resolved g.T.Stored.place old new c.args.self.now (g.T.Stored.id c.args.x) c.in_ok-node.node c.requires.table c.requires.knows c.requires.holds e.within tree in
    subst (λ (n : NodeId). Holds g.T.Stored.place new n) (sym c.from_node.ensures) held
