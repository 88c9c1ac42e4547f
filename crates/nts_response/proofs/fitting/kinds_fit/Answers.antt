use Rattle.std.proofs.Common.{subst, arith, refl}
use Rattle.std.specs.Prelude.{All}
use Rattle.std.proofs.lemmas.List.{take_all}
use Rattle.std.proofs.lemmas.List.Elements.{All-more}
use Rattle.nts_canonical.specs.Forms.{kind_of_var, trees_of}
use Rattle.nts_response.specs.Applicable.{IsKindFor}
use Rattle.nts_response.proofs.fitting.kinds_fit.Goals as goal

pub loop-i-preserved : goal.loop-i-preserved
loop-i-preserved c =
    All-more (λ k. IsKindFor c.args.max_universe (trees_of c.args.cx.now.nodes c.args.originals.now) (kind_of_var k)) c.args.kinds.now c.loop-i.i _ (omega (arith, c.loop-i-test.true)) c.loop-i.invariant (c.kind_fits.ensures.0 c.if-not-kind_fits.false)

pub returns : goal.returns
returns c = (
  (λ h. subst (All (λ k. IsKindFor c.args.max_universe (trees_of c.args.cx.now.nodes c.args.originals.now) (kind_of_var k))) (take_all c.loop-i.i c.args.kinds.now (omega (arith, c.loop-i-test.false))) c.loop-i.invariant),
  λ h. refl,
)
