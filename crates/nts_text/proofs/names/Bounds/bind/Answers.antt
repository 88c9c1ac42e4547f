use Rattle.std.proofs.Common.{arith}
use Rattle.std.proofs.lemmas.Grind.{common_steps}
use Rattle.nts_text.proofs.SpellingLemmas.{none_equal, some_equal}
use Rattle.nts_text.proofs.names.Bounds.bind.Goals as goal

pub returns-clause-new : goal.returns-clause-new
returns-clause-new c = λ is.
    none_equal (λ v. v.items) c.args.self.now.next.keys c.args.name.now (grind (arith, common_steps, is, c.in_ok-is_new.ensures.added, c.in_ok-from_slice.ensures.items))

pub returns-clause-twice : goal.returns-clause-twice
returns-clause-twice c = λ is.
    some_equal (λ v. v.items) c.args.self.now.next.keys c.args.name.now (grind (arith, common_steps, is, c.in_ok-is_new.ensures.added, c.in_ok-from_slice.ensures.items))
