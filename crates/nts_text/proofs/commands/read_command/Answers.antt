use Rattle.std.proofs.Common.{ap, Err}
use Rattle.nts_text.specs.Lines.{BeginsWithKeyword}
use Rattle.nts_text.proofs.FaultLemmas.{passed_on, fault_of_byte, fault_of_form, fault_of_names}
use Rattle.nts_text.proofs.commands.read_command.Goals as goal

pub returns-in_err-tokens-in-Ok-Some-clause-fault : goal.returns-in_err-tokens-in-Ok-Some-clause-fault
returns-in_err-tokens-in-Ok-Some-clause-fault c =
    let begins : BeginsWithKeyword c.args.line.now c.in-Ok-Some.keyword c.in-Ok-Some.start = rw c.in-Ok-Some.field-0-is at c.in-Ok-Some.ensures.keyword in
    let e = c.in_err-tokens-in-Ok-Some in
    passed_on c.from_residual.result e.field-0.0 _ c.from_residual.ensures.1
    (fault_of_byte c.args.names.now c.args.line.now c.in-Ok-Some.keyword c.in-Ok-Some.start e.field-0.0 begins e.ensures.refused)

pub returns-in_err-parsed-in-Ok-Some-clause-fault : goal.returns-in_err-parsed-in-Ok-Some-clause-fault
returns-in_err-parsed-in-Ok-Some-clause-fault c =
    let begins : BeginsWithKeyword c.args.line.now c.in-Ok-Some.keyword c.in-Ok-Some.start = rw c.in-Ok-Some.field-0-is at c.in-Ok-Some.ensures.keyword in
    let e = c.in_err-parsed-in-Ok-Some in
    passed_on c.from_residual-in_err-parsed-in-Ok-Some.result e.field-0.0 _ c.from_residual-in_err-parsed-in-Ok-Some.ensures.1
    (fault_of_form c.args.names.now c.args.line.now c.in-Ok-Some.keyword c.in-Ok-Some.start c.in_ok-tokens-in-Ok-Some.tokens.items e.field-0.0 begins
    c.in_ok-tokens-in-Ok-Some.ensures.tokens e.ensures.reasons (λ is. rw c.deref.ensures.value at e.ensures.syntax (ap Err is)) (λ is. rw c.deref.ensures.value at e.ensures.range (ap Err is)))

pub returns-in_err-meaning-in-Ok-Some-clause-fault : goal.returns-in_err-meaning-in-Ok-Some-clause-fault
returns-in_err-meaning-in-Ok-Some-clause-fault c =
    let begins : BeginsWithKeyword c.args.line.now c.in-Ok-Some.keyword c.in-Ok-Some.start = rw c.in-Ok-Some.field-0-is at c.in-Ok-Some.ensures.keyword in
    let e = c.in_err-meaning-in-Ok-Some in
    passed_on c.from_residual-in_err-meaning-in-Ok-Some.result e.field-0.0 _ c.from_residual-in_err-meaning-in-Ok-Some.ensures.1
    (fault_of_names c.args.names.now c.args.line.now c.in-Ok-Some.keyword c.in-Ok-Some.start c.in_ok-tokens-in-Ok-Some.tokens.items c.in_ok-parsed-in-Ok-Some.parsed e.field-0.0 begins
    c.in_ok-tokens-in-Ok-Some.ensures.tokens (rw c.deref.ensures.value at c.in_ok-parsed-in-Ok-Some.ensures.says) e.ensures.fault)
