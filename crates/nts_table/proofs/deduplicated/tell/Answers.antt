use Rattle.std.proofs.Common.{inl, inr, refl}
use Rattle.nts_table.proofs.Telling.{tells_new, tells_old}
use Rattle.nts_unify.proofs.Tests.{is_false, is_true}
use Rattle.nts_table.proofs.deduplicated.tell.Goals as goal

pub returns-in_ok-push-clause-tells : goal.returns-in_ok-push-clause-tells
returns-in_ok-push-clause-tells c =
    let lacks = rw c.requires.seen at (is_false _ _ c.in_ok-is_new.ensures.added c.if-is_new.true) in
    inr (tells_new c.args.nodes.now c.args.told.now.items c.args.constraint c.terms_are_formed.ensures.apart c.requires.sides c.requires.told (λ e. let f = c.if-same.ensures.tree.1 e in cc) lacks, c.in_ok-push.ensures.items)

pub returns-else-is_new-clause-tells : goal.returns-else-is_new-clause-tells
returns-else-is_new-clause-tells c =
    let has = rw c.requires.seen at (is_true _ _ c.in_ok-is_new.ensures.added c.if-is_new.false) in
    inl (tells_old c.args.nodes.now c.args.told.now.items c.args.constraint has, refl)
