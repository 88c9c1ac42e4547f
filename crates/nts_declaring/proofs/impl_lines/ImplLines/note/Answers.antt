use Rattle.std.proofs.Common.{refl}
use Rattle.std.specs.Vec.{with_item}
use Rattle.nts_declaring.specs.declared.impl_lines.ImplLines.{ImplLines}
use Rattle.nts_declaring.proofs.Noting.{noted}
use Rattle.nts_declaring.proofs.impl_lines.ImplLines.note.Goals as goal

pub returns-clause-noted : goal.returns-clause-noted
returns-clause-noted c =
    let now : ImplLines = record { alloc = c.entry.new.self.alloc; traits = with_item c.entry.new.self.traits c.in_ok-entry.entry c.push.new.self } in
    noted c.args.self.now c.entry.new.self now c.args.trait_number c.args.line c.in_ok-entry.entry c.index_mut.result.now c.push.new.self
    c.in_ok-entry.ensures.same c.in_ok-entry.ensures.is refl c.in_ok-entry.ensures.within (rw (← c.index_mut.ensures.value) c.in_ok-push.ensures.items)
