use Rattle.std.proofs.Common.{arith}
use Rattle.nts_store.specs.Growth.{tree_at}
use Rattle.nts_unify.specs.Reading.{content_of}
use Rattle.nts_unify.proofs.Keeping.{KeepsKnowing-refl}
use Rattle.nts_relating.proofs.PairLemmas.{err_of}
use Rattle.nts_variance.proofs.Joining.{takes_joined, takes_twice, refuses_joined, meet_as_one}
use Rattle.nts_variance.proofs.heads_equal.join_variables.Goals as goal

pub returns-then-made-clause-taken : goal.returns-then-made-clause-taken
returns-then-made-clause-taken c = λ declared.
    let ts = c.args.nodes.now in
    let e = c.args.table.now.entries in
    let p = c.args.pair in
    let a = tree_at ts p.left in
    let b = tree_at ts p.right in
    let known = c.requires.pair in
    let m = c.in-Ok.ensures.related.made c.if-made.true in
    rw c.new.ensures.items (
      m.0,
      tt,
      takes_joined declared ts c.relate_variables.new.nodes e c.relate_variables.new.table.entries p.variance a b c.args.x c.args.y c.requires.lawful m.0.sound known.left.knows known.right.knows c.requires.left c.requires.right (meet_as_one declared ts e p.variance a b c.args.x c.args.y c.requires.left c.requires.right c.requires.one) m.1,
      tt,
      λ d le f. tt,
    )

pub returns-then-made-clause-paid : goal.returns-then-made-clause-paid
returns-then-made-clause-paid c =
    let m = c.in-Ok.ensures.related.made c.if-made.true in
    let ts = c.args.nodes.now in
    let before = content_of ts c.args.table.now.entries in
    let made = m.1 in
    let fewer = made.fewer in
    λ v. (omega (arith, fewer), made.aliases)

pub returns-in-Err-clause-no : goal.returns-in-Err-clause-no
returns-in-Err-clause-no c = λ declared q.
    let ts = c.args.nodes.now in
    let e = c.args.table.now.entries in
    let p = c.args.pair in
    let a = tree_at ts p.left in
    let b = tree_at ts p.right in
    refuses_joined declared ts e p.variance a b c.args.x c.args.y c.requires.left c.requires.right (meet_as_one declared ts e p.variance a b c.args.x c.args.y c.requires.left c.requires.right c.requires.one) (c.in-Err.ensures.no (err_of _ _ q))

pub returns-else-made-clause-taken : goal.returns-else-made-clause-taken
returns-else-made-clause-taken c = λ declared.
    let ts = c.args.nodes.now in
    let e = c.args.table.now.entries in
    let p = c.args.pair in
    let known = c.requires.pair in
    let same = c.in-Ok.ensures.related.same c.if-made.false in
    rw (same.0, same.1) (c.requires.lawful, takes_twice declared ts e p.variance (tree_at ts p.left) (tree_at ts p.right) c.args.x c.args.y c.requires.lawful known.left.knows known.right.knows c.requires.left c.requires.right same.2)

pub returns-else-made-clause-paid : goal.returns-else-made-clause-paid
returns-else-made-clause-paid c =
    let same = c.in-Ok.ensures.related.same c.if-made.false in
    rw (same.0, same.1) (KeepsKnowing-refl (content_of c.args.nodes.now c.args.table.now.entries))

pub returns-then-made-clause-due : goal.returns-then-made-clause-due
returns-then-made-clause-due c = rw c.new.ensures.items tt
