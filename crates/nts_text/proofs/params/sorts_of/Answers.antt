use Rattle.std.proofs.Common.{map, ◌∙◌, arith}
use Rattle.std.proofs.lemmas.Grind.{common_steps}
use Rattle.nts_model.specs.declared.labels.Sort.TheVariants as sorts
use Rattle.nts_model.specs.declared.labels.Variance.TheVariants as variances
use Rattle.nts_text.specs.declared.parser.Param.{Param}
use Rattle.nts_text.specs.Declarations.{unmarked}
use Rattle.nts_text.proofs.ComeLemmas.{all_unmarked}
use Rattle.nts_text.proofs.params.sorts_of.Goals as goal

-- a parameter with a mark is none of a trait
pub returns-then-ne-clause-none : goal.returns-then-ne-clause-none
returns-then-ne-clause-none c = λ _ ss are.
    let same = rw c.in-Some.is at c.in_ok-params.ensures.only (map unmarked ss) are in
    let d : Param = record { sort = sorts.Ty; variance = variances.Covariant } in
    let plain = all_unmarked c.deref-param-items.result.now ss c.loop-param.param-index d (c.deref-param-items.ensures.value ∙ same) c.loop-param-test.true in
    grind (arith, common_steps, c.ne.ensures, c.if-ne.true, plain)
