use Rattle.std.proofs.Common.{arith, refl}
use Rattle.nts_wording.proofs.Meant.{takes}
use Rattle.nts_wording.proofs.build.take_args.Goals as goal

pub returns-clause-takes : goal.returns-clause-takes
returns-clause-takes c =
    let e = c.in_ok-mk_args.ensures in
    takes c.args.cx.now.nodes c.mk_args.new.self.nodes c.args.made.now c.taking.made c.taking.args.items c.args.count c.in_ok-mk_args.field-0
    c.taking.invariant.parts (omega (arith, c.taking.invariant.few, c.taking-test.false, c.len.ensures)) ((rw c.deref.ensures.value at c.if-not-are_held.ensures) refl)
    e.grows.extends e.holds (rw c.deref-2.ensures.value at e.tree)
