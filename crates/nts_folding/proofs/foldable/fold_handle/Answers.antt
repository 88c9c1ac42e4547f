use Rattle.nts_folding.proofs.Folded.{holds_walk}
use Rattle.nts_folding.proofs.foldable.fold_handle.Goals as goal

pub returns-clause-holds : goal.returns-clause-holds
returns-clause-holds g c =
    let f = g.F.TypeFolder in
    let made = c.in_ok-node.ensures in
    rw c.from_node.ensures (holds_walk f.answers f.enters f.leaves f.rebuilds g.T.Stored.place c.args.cx.now.nodes c.fold_node.new.cx.nodes (g.T.Stored.id c.args.x) c.in_ok-node.node _ _ c.requires.holds made.within (rw c.node.ensures at made.walk))
