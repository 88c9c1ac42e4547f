use Rattle.nts_store.specs.Growth.{tree_at}
use Rattle.nts_terms.specs.Signatures.{variances_in}
use Rattle.nts_unify.specs.Reading.{content_of}
use Rattle.nts_relating.proofs.PairLemmas.{err_of}
use Rattle.nts_solver_relating.proofs.GoalsLeft.{plain_sides, plain_related, plain_refused}
use Rattle.nts_solver_relating.proofs.nodes.equate_plain.Goals as goal

pub returns-in-Ok-clause-related : goal.returns-in-Ok-clause-related
returns-in-Ok-clause-related c =
    let ts = c.args.nodes.now in
    let us = c.relate_nodes.new.nodes in
    let e = c.args.table.now.entries in
    let f = c.relate_nodes.new.table.entries in
    let made = c.in-Ok.ensures in
    let sides = plain_sides (variances_in c.args.declarations.now) ts us e f c.args.left c.args.right c.requires.sides c.requires.lawful made.lawful made.later c.terms_are_formed.ensures.formed c.requires.left c.requires.right (made.plain c.requires.left c.requires.right) made.related made.ties made.labels in
    plain_related (variances_in c.args.declarations.now) ts us e f c.args.env (tree_at ts c.args.left) (tree_at ts c.args.right) _ c.new.ensures.items sides

pub returns-in-Err-clause-no : goal.returns-in-Err-clause-no
returns-in-Err-clause-no c = λ q.
    let ts = c.args.nodes.now in
    plain_refused (variances_in c.args.declarations.now) ts (content_of ts c.args.table.now.entries) c.args.left c.args.right c.requires.sides c.requires.lawful.sound c.terms_are_formed.ensures.formed c.requires.left c.requires.right (c.in-Err.ensures.no (err_of _ _ q))
