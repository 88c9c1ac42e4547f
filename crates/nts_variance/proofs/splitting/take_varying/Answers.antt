use Rattle.std.proofs.Common.{inl, inr}
use Rattle.nts_store.specs.Growth.{tree_at}
use Rattle.nts_terms.specs.Signatures.{variances_in}
use Rattle.nts_unify.specs.Reading.{content_of}
use Rattle.nts_variance.proofs.DueCalls.{owed_closed, owed_taken, plain_apart}
use Rattle.nts_variance.proofs.Refusals.{refuses_owed}
use Rattle.nts_variance.proofs.splitting.take_varying.Goals as goal

pub returns-then-is_owed-clause-no : goal.returns-then-is_owed-clause-no
returns-then-is_owed-clause-no c = λ q.
    let ts = c.args.nodes.now in
    let p = c.args.pair in
    let known = c.requires.pair in
    refuses_owed (variances_in c.args.declarations.now) (content_of ts c.args.table.now.entries) p.variance (tree_at ts p.left) (tree_at ts p.right) known.left.sort known.right.sort known.left.knows known.right.knows (c.terms_are_formed.ensures.formed p.left known.left.within) (c.terms_are_formed.ensures.formed p.right known.right.within) known.left.kind known.right.kind (inl (owed_closed c.args.table.now.entries (tree_at ts p.left) (c.terms_are_formed.ensures.formed p.left known.left.within) (c.is_owed.ensures.yes c.if-is_owed.true))) (c.owe.ensures.no q)

pub returns-then-is_owed-2-clause-no : goal.returns-then-is_owed-2-clause-no
returns-then-is_owed-2-clause-no c = λ q.
    let ts = c.args.nodes.now in
    let p = c.args.pair in
    let known = c.requires.pair in
    refuses_owed (variances_in c.args.declarations.now) (content_of ts c.args.table.now.entries) p.variance (tree_at ts p.left) (tree_at ts p.right) known.left.sort known.right.sort known.left.knows known.right.knows (c.terms_are_formed.ensures.formed p.left known.left.within) (c.terms_are_formed.ensures.formed p.right known.right.within) known.left.kind known.right.kind (inr (owed_closed c.args.table.now.entries (tree_at ts p.right) (c.terms_are_formed.ensures.formed p.right known.right.within) (c.is_owed-2.ensures.yes c.if-is_owed-2.true))) (c.owe-then-is_owed-2.ensures.no q)

pub returns-in-Some-infer_number-clause-taken : goal.returns-in-Some-infer_number-clause-taken
returns-in-Some-infer_number-clause-taken c = λ apart. c.take_variables.ensures (variances_in c.args.declarations.now)

pub returns-in-None-infer_number-2-clause-taken : goal.returns-in-None-infer_number-2-clause-taken
returns-in-None-infer_number-2-clause-taken c = λ apart. c.take_heads.ensures.taken (variances_in c.args.declarations.now)

pub returns-then-is_owed-clause-taken : goal.returns-then-is_owed-clause-taken
returns-then-is_owed-clause-taken c = λ apart.
    let s = c.owe.ensures in
    owed_taken c.args.nodes.now c.args.table.now.entries c.args.pair c.owe.result c.requires.lawful c.requires.pair.left.knows c.requires.pair.right.knows c.requires.varies (plain_apart (tree_at c.args.nodes.now c.args.pair.left) (tree_at c.args.nodes.now c.args.pair.right) (c.terms_are_formed.ensures.formed c.args.pair.left c.requires.pair.left.within) (c.terms_are_formed.ensures.formed c.args.pair.right c.requires.pair.right.within) apart) (inl (c.is_owed.ensures.yes c.if-is_owed.true)) s.owed s.closed s.kinds (variances_in c.args.declarations.now)

pub returns-then-is_owed-2-clause-taken : goal.returns-then-is_owed-2-clause-taken
returns-then-is_owed-2-clause-taken c = λ apart.
    let s = c.owe-then-is_owed-2.ensures in
    owed_taken c.args.nodes.now c.args.table.now.entries c.args.pair c.owe-then-is_owed-2.result c.requires.lawful c.requires.pair.left.knows c.requires.pair.right.knows c.requires.varies (plain_apart (tree_at c.args.nodes.now c.args.pair.left) (tree_at c.args.nodes.now c.args.pair.right) (c.terms_are_formed.ensures.formed c.args.pair.left c.requires.pair.left.within) (c.terms_are_formed.ensures.formed c.args.pair.right c.requires.pair.right.within) apart) (inr (c.is_owed-2.ensures.yes c.if-is_owed-2.true)) s.owed s.closed s.kinds (variances_in c.args.declarations.now)
