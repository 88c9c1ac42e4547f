use Rattle.std.proofs.Common.{ap}
use Rattle.nts_model.specs.Tables.Resolving.{deeply_resolved}
use Rattle.nts_store.specs.Growth.{tree_at}
use Rattle.nts_terms.specs.Signatures.{variances_in}
use Rattle.nts_unify.specs.Reading.{content_of}
use Rattle.nts_variance.proofs.Takes.{takes_one}
use Rattle.nts_variance.proofs.splitting.take.Goals as goal

pub returns-then-not-flags-clause-taken : goal.returns-then-not-flags-clause-taken
returns-then-not-flags-clause-taken c =
    let ts = c.args.nodes.now in
    let p = c.args.pair in
    let one = c.same.ensures.tree.0 c.if-same.true in
    (c.requires.lawful, takes_one (variances_in c.args.declarations.now) (content_of ts c.args.table.now.entries) p.variance (tree_at ts p.left) (tree_at ts p.right) c.requires.lawful.sound (λ f on. ap (deeply_resolved f) one))

pub returns-then-eq-clause-taken : goal.returns-then-eq-clause-taken
returns-then-eq-clause-taken c = c.equate.ensures.taken (variances_in c.args.declarations.now)
