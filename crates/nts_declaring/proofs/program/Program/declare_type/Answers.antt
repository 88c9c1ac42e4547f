use Rattle.nts_declaring.proofs.program.Program.declare_type.Goals as goal

pub returns-clause-declared : goal.returns-clause-declared
returns-clause-declared c =
    rw (c.deref-3.ensures.value, c.deref-4.ensures.value, c.in_ok-sorts.ensures, c.in_ok-variances.ensures) at c.in_ok-declare_ctor.ensures.declared
