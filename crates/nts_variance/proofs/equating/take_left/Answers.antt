use Rattle.std.proofs.Common.{inr}
use Rattle.nts_store.specs.Growth.{tree_at}
use Rattle.nts_terms.specs.Signatures.{variances_in}
use Rattle.nts_unify.specs.Reading.{content_of}
use Rattle.nts_variance.proofs.Refusals.{refuses_owed}
use Rattle.nts_variance.proofs.equating.take_left.Goals as goal

pub returns-then-is_loose-clause-no : goal.returns-then-is_loose-clause-no
returns-then-is_loose-clause-no c = λ q.
    let ts = c.args.nodes.now in
    let p = c.args.pair in
    let known = c.requires.pair in
    let loose = c.is_loose.ensures.yes c.if-is_loose.true in
    refuses_owed (variances_in c.args.declarations.now) (content_of ts c.args.table.now.entries) p.variance (tree_at ts p.left) (tree_at ts p.right) known.left.sort known.right.sort known.left.knows known.right.knows (c.terms_are_formed.ensures.formed p.left known.left.within) (c.terms_are_formed.ensures.formed p.right known.right.within) known.left.kind known.right.kind (inr loose.closed) (c.owe.ensures.no q)
