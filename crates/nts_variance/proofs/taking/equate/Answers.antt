use Rattle.nts_store.specs.Growth.{tree_at}
use Rattle.nts_unify.specs.Reading.{content_of}
use Rattle.nts_relating.proofs.PairLemmas.{err_of}
use Rattle.nts_variance.proofs.Takes.{takes_equal, refuses_equal}
use Rattle.nts_variance.proofs.taking.equate.Goals as goal

pub returns-in-Err-clause-no : goal.returns-in-Err-clause-no
returns-in-Err-clause-no c = λ declared q.
    let ts = c.args.nodes.now in
    let p = c.args.pair in
    let plain = c.if-not-is_plain.false in
    let known = c.requires.pair in
    rw c.requires.invariant (refuses_equal declared (content_of ts c.args.table.now.entries) (tree_at ts p.left) (tree_at ts p.right) known.left.knows known.right.knows (c.is_plain.ensures.left plain) (c.is_plain.ensures.right plain) (c.in-Err.ensures.no (err_of _ _ q)))

pub returns-in-Ok-clause-taken : goal.returns-in-Ok-clause-taken
returns-in-Ok-clause-taken c = λ declared.
    let ts = c.args.nodes.now in
    let p = c.args.pair in
    let plain = c.if-not-is_plain.false in
    let known = c.requires.pair in
    let s = c.in-Ok.ensures in
    let d = content_of c.relate_nodes.new.nodes c.relate_nodes.new.table.entries in
    (s.lawful, rw c.requires.invariant (takes_equal declared (content_of ts c.args.table.now.entries) d (tree_at ts p.left) (tree_at ts p.right) known.left.sort known.right.sort s.lawful.sound s.lawful.proper.solvable s.later known.left.knows known.right.knows (c.terms_are_formed.ensures.formed p.left known.left.within) (c.terms_are_formed.ensures.formed p.right known.right.within) known.left.kind known.right.kind (c.is_plain.ensures.left plain) (c.is_plain.ensures.right plain) (c.is_plain.ensures.values plain) s.related s.ties s.labels s.plain))
