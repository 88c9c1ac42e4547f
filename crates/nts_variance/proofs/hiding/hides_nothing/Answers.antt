use Rattle.nts_store.specs.Growth.{tree_at}
use Rattle.nts_variance.proofs.Bareness.{bare_plain, told}
use Rattle.nts_variance.proofs.hiding.hides_nothing.Goals as goal

pub returns-clause-plain : goal.returns-clause-plain
returns-clause-plain c =
    let e = c.args.table.now.entries in
    told c.all_labels.result _ _ c.all_labels.ensures (λ h. bare_plain c.args.nodes.now e (tree_at c.args.nodes.now c.args.t) c.requires.lawful.sound h c.requires.plain)
