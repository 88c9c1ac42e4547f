use Rattle.std.proofs.Common.{◌<◌, arith}
use Rattle.nts_unify.specs.Roots.{here, on}
use Rattle.nts_unify.proofs.inner.InferCtxtInner.root.Goals as goal

pub loop-next-init : goal.loop-next-init
loop-next-init c = record { within = c.requires.within; leads = here }

pub loop-next-preserved : goal.loop-next-preserved
loop-next-preserved c =
    let down : c.in-Link.next < c.loop-next.root = c.requires.descends.links _ _ _ c.variable.ensures c.in-Link.is in
    record {
      within = omega (arith, c.loop-next.invariant.within);
      leads = on c.variable.result c.loop-next.invariant.leads c.variable.ensures c.in-Link.is;
    }
