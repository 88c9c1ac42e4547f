use Rattle.std.proofs.Common.{◌∙◌}
use Rattle.nts_trying.proofs.Opened.{on_ok}
use Rattle.nts_contexts.proofs.Handed.{plain_later}
use Rattle.nts_contexts.proofs.Frames.{keeps_then}
use Rattle.nts_context_uses.proofs.errors.fn.err_in_probes.enter_root.Goals as goal

pub eq_structurally_relating_aliases-requires : goal.eq_structurally_relating_aliases-requires
eq_structurally_relating_aliases-requires c =
    let e = c.try_in_probes.ensures in
    let ready = c.requires.ready in
    let left = plain_later e.keeps ready.table e.table c.requires.left in
    let right = plain_later e.keeps ready.table e.table c.requires.right in
    record {
      ready = e.keeps.is_ready;
      left = record { holds = left.holds; known = left.known };
      right = record { holds = right.holds; known = right.known };
    }

pub returns : goal.returns
returns c =
    let e = c.try_in_probes.ensures in
    record { keeps = keeps_then e.keeps c.eq_structurally_relating_aliases.ensures.keeps; goals = on_ok c.eq_structurally_relating_aliases.result (c.eq_structurally_relating_aliases.ensures.goals ∙ e.goals) }
