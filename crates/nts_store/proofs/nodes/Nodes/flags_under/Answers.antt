use Rattle.std.proofs.Common.{arith, ap, ◌∙◌, ◌-◌, ◌≡◌}
use Rattle.nts_store.specs.TypeFlags.{labelled}
use Rattle.nts_store.proofs.Growing.{AllIn-get_or, get_or_from_fits}
use Rattle.nts_store.proofs.Reading.{known_end, known_all}
use Rattle.nts_store.proofs.nodes.Nodes.flags_under.Goals as goal

pub loop-i-init : goal.loop-i-init
loop-i-init c = rw c.new-flags.ensures (known_end c.args.self.now c.args.children.now)

pub flags-requires : goal.flags-requires
flags-requires c =
    let is = get_or_from_fits c.args.children.now (c.loop-i.i - 1) _ (omega (arith, c.loop-i.invariant.fits)) in
    AllIn-get_or c.args.self.now c.args.children.now (c.loop-i.i - 1) _ c.requires (omega (arith, c.loop-i.invariant.fits)) is

pub returns : goal.returns
returns c =
    let zero_is : c.loop-i.i ≡ 0 = omega arith in
    let all = known_all c.args.self.now c.args.children.now c.loop-i.flags (rw zero_is at c.loop-i.invariant) in
    c.under.ensures ∙ ap (labelled c.args.label) all
