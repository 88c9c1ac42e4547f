use Rattle.std.proofs.Common.{refl, inl}
use Rattle.nts_program.proofs.Obeyed.{never_passed, on_error}
use Rattle.nts_reasons.proofs.Does.{obeyed}
use Rattle.nts_reasons.proofs.Lining.{lines_kept}
use Rattle.nts_reasons.proofs.Staying.{heads_kept}
use Rattle.nts_reasons.proofs.explainer.Explainer.obey.Goals as goal

pub returns-in-Some-clause-passed : goal.returns-in-Some-clause-passed
returns-in-Some-clause-passed c = never_passed _ _ c.follow.result (λ p. (let e = c.in_ok-command.ensures in let passed = rw c.in-Some.is at e.passed in let different = passed.1 p in cc different))

pub returns-in-Some-clause-refused : goal.returns-in-Some-clause-refused
returns-in-Some-clause-refused c = on_error _ c.follow.result (λ p. (let e = c.in_ok-command.ensures in let passed = rw c.in-Some.is at e.passed in let different = passed.1 p in cc different))

pub returns-in-Some-clause-obeyed : goal.returns-in-Some-clause-obeyed
returns-in-Some-clause-obeyed c =
    let e = c.in_ok-command.ensures in
    obeyed c.args.number c.args.self.now c.follow.new.self c.read_command.new.names c.read_command.new.scope c.args.line.now c.in-Some.command c.follow.result
    c.follow.ensures.names c.follow.ensures.scope (rw c.in-Some.is at e.said) e.parameters c.follow.ensures.does

pub returns-in-None-clause-obeyed : goal.returns-in-None-clause-obeyed
returns-in-None-clause-obeyed c =
    let e = c.in_ok-command.ensures in
    let passed = rw c.in-None.is at e.passed in
    let names = rw c.in-None.is at e.names in
    inl (record {
      passes = record { passed = passed.0 refl; cx = refl; rules = record { clauses = refl; mode = refl; env = refl }; names = names refl; parameters = e.parameters; silent = refl };
      lines = refl;
    })

pub returns-in-Some-clause-lines : goal.returns-in-Some-clause-lines
returns-in-Some-clause-lines c = lines_kept c.follow.result c.args.number c.args.line.now c.args.self.now c.follow.new.self (returns-in-Some-clause-obeyed c)

pub returns-in-Some-clause-heads : goal.returns-in-Some-clause-heads
returns-in-Some-clause-heads c = heads_kept c.follow.result c.args.number c.args.line.now c.args.self.now c.follow.new.self (returns-in-Some-clause-obeyed c)
