use Rattle.std.proofs.Common.{◌∙◌}
use Rattle.nts_trying.proofs.Opened.{on_ok}
use Rattle.nts_contexts.proofs.Handed.{goal_later, plain_later}
use Rattle.nts_contexts.proofs.Frames.{keeps_then}
use Rattle.nts_context_uses.proofs.count.fn.count_goals.enter_root.Goals as goal

pub count_asked-requires : goal.count_asked-requires
count_asked-requires c =
    let e = c.in_ok-equated.ensures in
    let ready = c.requires.ready in
    record {
      ready = e.keeps.is_ready;
      left = plain_later e.keeps ready.table e.table c.requires.left;
      right = plain_later e.keeps ready.table e.table c.requires.right;
      first = goal_later e.keeps c.requires.first;
      second = goal_later e.keeps c.requires.second;
    }

pub returns-in_err-asked : goal.returns-in_err-asked
returns-in_err-asked c =
    let e = c.in_ok-equated.ensures in
    record { keeps = keeps_then e.keeps c.count_asked.ensures.keeps; goals = on_ok c.from_residual-in_err-asked.result (c.count_asked.ensures.goals ∙ e.goals) }

pub returns : goal.returns
returns c =
    let e = c.in_ok-equated.ensures in
    record { keeps = keeps_then e.keeps c.count_asked.ensures.keeps; goals = c.count_asked.ensures.goals ∙ e.goals }
