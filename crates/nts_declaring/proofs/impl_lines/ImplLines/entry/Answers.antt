use Rattle.std.proofs.Common.{refl}
use Rattle.nts_declaring.specs.declared.impl_lines.ImplLines.{ImplLines}
use Rattle.nts_declaring.proofs.Noting.{same_push}
use Rattle.nts_declaring.proofs.impl_lines.ImplLines.entry.Goals as goal

pub loop-self-init : goal.loop-self-init
loop-self-init c = λ i. refl

pub loop-self-preserved : goal.loop-self-preserved
loop-self-preserved c =
    let now : ImplLines = record { alloc = c.loop-self.self.alloc; traits = c.push.new.self } in
    same_push c.args.self.now c.loop-self.self now c.new.result c.loop-self.invariant c.in_ok-push.ensures.items c.new.ensures.items
