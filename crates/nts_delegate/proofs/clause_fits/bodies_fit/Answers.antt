use Rattle.std.proofs.Common.{◌<◌, length, refl, arith}
use Rattle.std.specs.Prelude.{IsTrue}
use Rattle.nts_delegate.proofs.Testing.{body_at, bodies_step}
use Rattle.nts_delegate.proofs.clause_fits.bodies_fit.Goals as goal

pub returns-then-not-branch : goal.returns-then-not-branch
returns-then-not-branch c = (
  (λ h. cc),
  λ h. let inside : c.loop-predicate.predicate-index < length c.args.body.now = omega (arith, c.loop-predicate-test.true) in
      let yes : IsTrue c.in_ok-body_fits.field-0 = c.in_ok-body_fits.ensures.1 (body_at c.args.cx.now.nodes _ _ c.loop-predicate.predicate-index _ h inside) in
      cc,
)

pub loop-predicate-preserved : goal.loop-predicate-preserved
loop-predicate-preserved c =
    let yes : IsTrue c.in_ok-body_fits.field-0 = c.if-not-branch.false in
    bodies_step c.args.cx.now.nodes _ _ c.args.body.now c.loop-predicate.predicate-index _ refl (omega (arith, c.loop-predicate-test.true)) c.loop-predicate.invariant (c.in_ok-body_fits.ensures.0 yes)
