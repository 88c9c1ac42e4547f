use Rattle.std.proofs.Common.{◌∙◌}
use Rattle.nts_trying.proofs.Opened.{on_ok}
use Rattle.nts_contexts.proofs.Handed.{env_kept, side_later}
use Rattle.nts_contexts.proofs.Frames.{keeps_then}
use Rattle.nts_context_uses.proofs.related.fn.relate_in_probes.enter_root.Goals as goal

pub left_of-requires : goal.left_of-requires
left_of-requires c =
    let e = c.in_ok-answered.ensures in
    record {
      ready = e.keeps.is_ready;
      env = env_kept e.keeps c.requires.env;
      left = side_later e.keeps c.requires.left;
      right = side_later e.keeps c.requires.right;
    }

pub returns : goal.returns
returns c =
    let e = c.in_ok-answered.ensures in
    record { keeps = keeps_then e.keeps c.left_of.ensures.keeps; goals = on_ok c.left_of.result (c.left_of.ensures.goals ∙ e.goals) }
