use Rattle.std.proofs.Common.{◌<◌, arith}
use Rattle.nts_unify.specs.Roots.{SubLeads}
use Rattle.nts_unify.proofs.inner.InferCtxtInner.sub_root.Goals as goal

pub loop-next-init : goal.loop-next-init
loop-next-init c = record { within = c.requires.within; leads = SubLeads.here }

pub loop-next-preserved : goal.loop-next-preserved
loop-next-preserved c =
    let down : c.in-Some.next < c.loop-next.root = c.requires.descends.sub_links _ _ _ c.variable.ensures c.in-Some.is in
    record {
      within = omega (arith, c.loop-next.invariant.within);
      leads = SubLeads.on c.variable.result c.loop-next.invariant.leads c.variable.ensures c.in-Some.is;
    }
