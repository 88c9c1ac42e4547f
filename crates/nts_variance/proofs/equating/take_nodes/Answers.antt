use Rattle.std.proofs.Common.{inl, inr, ap}
use Rattle.nts_model.specs.Tables.Resolving.{deeply_resolved}
use Rattle.nts_store.specs.Growth.{tree_at}
use Rattle.nts_unify.specs.Reading.{content_of}
use Rattle.nts_unify.proofs.Keeping.{KeepsKnowing-refl}
use Rattle.nts_variance.proofs.DueCalls.{alias_taken}
use Rattle.nts_variance.proofs.Refusals.{refuses_owed}
use Rattle.nts_variance.proofs.Takes.{takes_one}
use Rattle.nts_variance.proofs.equating.take_nodes.Goals as goal

pub returns-then-not-flags-clause-taken : goal.returns-then-not-flags-clause-taken
returns-then-not-flags-clause-taken c = λ declared.
    let ts = c.args.nodes.now in
    let p = c.args.pair in
    let one = c.same.ensures.tree.0 c.if-same.true in
    (c.requires.lawful, takes_one declared (content_of ts c.args.table.now.entries) p.variance (tree_at ts p.left) (tree_at ts p.right) c.requires.lawful.sound (λ f on. ap (deeply_resolved f) one))

pub returns-then-not-flags-clause-paid : goal.returns-then-not-flags-clause-paid
returns-then-not-flags-clause-paid c = KeepsKnowing-refl (content_of c.args.nodes.now c.args.table.now.entries)

pub returns-then-is_loose-clause-no : goal.returns-then-is_loose-clause-no
returns-then-is_loose-clause-no c = λ declared q.
    let ts = c.args.nodes.now in
    let p = c.args.pair in
    let known = c.requires.pair in
    refuses_owed declared (content_of ts c.args.table.now.entries) p.variance (tree_at ts p.left) (tree_at ts p.right) known.left.sort known.right.sort known.left.knows known.right.knows (c.terms_are_formed.ensures.formed p.left known.left.within) (c.terms_are_formed.ensures.formed p.right known.right.within) known.left.kind known.right.kind (let a = c.is_loose.ensures.yes c.if-is_loose.true in inl a.closed) (c.owe.ensures.no q)

pub returns-then-is_loose-2-clause-no : goal.returns-then-is_loose-2-clause-no
returns-then-is_loose-2-clause-no c = λ declared q.
    let ts = c.args.nodes.now in
    let p = c.args.pair in
    let known = c.requires.pair in
    refuses_owed declared (content_of ts c.args.table.now.entries) p.variance (tree_at ts p.left) (tree_at ts p.right) known.left.sort known.right.sort known.left.knows known.right.knows (c.terms_are_formed.ensures.formed p.left known.left.within) (c.terms_are_formed.ensures.formed p.right known.right.within) known.left.kind known.right.kind (let a = c.is_loose-2.ensures.yes c.if-is_loose-2.true in inr a.closed) (c.owe-then-is_loose-2.ensures.no q)

pub returns-then-is_loose-2-clause-taken : goal.returns-then-is_loose-2-clause-taken
returns-then-is_loose-2-clause-taken c = λ declared.
    let s = c.owe-then-is_loose-2.ensures in
    alias_taken c.args.nodes.now c.args.table.now.entries c.args.pair c.owe-then-is_loose-2.result (inr (c.is_loose-2.ensures.yes c.if-is_loose-2.true)) s.owed s.closed s.kinds declared
