use Rattle.std.proofs.Common.{arith, refl, below_more}
use Rattle.std.specs.Prelude.{IsTrue}
use Rattle.std.proofs.lemmas.Slice.Zip.{AllZip-long}
use Rattle.nts_model.specs.declared.labels.Sort.TheVariants as sort
use Rattle.nts_model.specs.declared.labels.Variance.TheVariants as variance
use Rattle.nts_terms.specs.Signatures.{IsVarianceOf}
use Rattle.nts_terms.proofs.Varying.{at_each_place, from_all}
use Rattle.nts_terms.proofs.declarations.are_variances.Goals as goal

pub returns-then-sorts-variances : goal.returns-then-sorts-variances
returns-then-sorts-variances c =
    ((λ h. cc), λ h. absurd (c.if-sorts-variances.true (cc (AllZip-long IsVarianceOf c.args.sorts.now c.args.variances.now h))))

pub returns-then-not-may_vary : goal.returns-then-not-may_vary
returns-then-not-may_vary c = (
  (λ h. cc),
  λ h. let here = from_all IsVarianceOf sort.Ty variance.Covariant c.args.sorts.now c.args.variances.now h c.loop-i.i c.loop-i-test.true in
      let yes : IsTrue c.may_vary.result = c.may_vary.ensures.1 here in
      cc,
)

pub loop-i-preserved : goal.loop-i-preserved
loop-i-preserved c =
    let yes : IsTrue c.may_vary.result = c.if-not-may_vary.false in
    below_more _ _ c.loop-i.invariant (c.may_vary.ensures.0 yes)

pub returns : goal.returns
returns c = (
  (λ h. at_each_place IsVarianceOf sort.Ty variance.Covariant c.args.sorts.now c.args.variances.now c.if-sorts-variances.false
      (λ k l. c.loop-i.invariant k (omega (arith, l, c.loop-i-test.false)))),
  λ h. refl,
)
