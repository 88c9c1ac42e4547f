use Rattle.std.proofs.Common.{sym, ◌∙◌, arith, None}
use Rattle.std.proofs.lemmas.List.Sums.{position_or_len_is}
use Rattle.nts_model.specs.Canonical.Inputs.{are_one}
use Rattle.nts_canonical.proofs.var_kinds.first_of.Goals as goal

pub returns-then-are_one : goal.returns-then-are_one
returns-then-are_one c =
    sym (position_or_len_is (are_one c.args.root) c.args.roots.now c.loop-i.i None (omega (arith, c.loop-i-test.true)) c.loop-i.invariant (λ l. sym c.are_one.ensures ∙ c.if-are_one.true))

pub returns : goal.returns
returns c =
    sym (position_or_len_is (are_one c.args.root) c.args.roots.now _ None (omega arith) (λ k l. c.loop-i.invariant k (omega (arith, c.loop-i-test.false, l))) (λ l. absurd (omega (arith, l))))
