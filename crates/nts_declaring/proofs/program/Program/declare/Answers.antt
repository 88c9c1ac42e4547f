use Rattle.std.specs.Prelude.{Result, Ok, Err, OnOk}
use Rattle.nts_declaring.proofs.HeadsKept.{on_declared}
use Rattle.nts_declaring.proofs.program.Program.declare.Goals as goal

both_ok : {T E A B C : Type 0} (r : Result T E) → OnOk r A → OnOk r B → (A → B → C) → OnOk r C
both_ok (Ok x) a b f = f a b
both_ok (Err e) a b f = tt

-- the clause that the line says is the one that is added
pub returns-in-Impl-clause-declares : goal.returns-in-Impl-clause-declares
returns-in-Impl-clause-declares c =
    let e = c.add_impl.ensures in
    both_ok c.add_impl.result e.added e.grows
    (λ a g. rw c.in-Impl.is (a.0, a.1, rw (c.deref-in-Impl.ensures.value, c.deref-in-Impl-2.ensures.value) at a.2, a.3, g, e.mode, e.env))

pub returns-in-Impl-clause-heads : goal.returns-in-Impl-clause-heads
returns-in-Impl-clause-heads c = on_declared c.add_impl.result c.args.self.now c.add_impl.new.self c.args.command.now (returns-in-Impl-clause-declares c)

-- .. and likewise for an alias
pub returns-in-Norm-clause-declares : goal.returns-in-Norm-clause-declares
returns-in-Norm-clause-declares c =
    let e = c.add_norm.ensures in
    both_ok c.add_norm.result e.added e.grows
    (λ a g. rw c.in-Norm.is (a.0, a.1, rw (c.deref-in-Norm.ensures.value, c.deref-in-Norm-2.ensures.value) at a.2, g, e.mode, e.env))

pub returns-in-Norm-clause-heads : goal.returns-in-Norm-clause-heads
returns-in-Norm-clause-heads c = on_declared c.add_norm.result c.args.self.now c.add_norm.new.self c.args.command.now (returns-in-Norm-clause-declares c)
