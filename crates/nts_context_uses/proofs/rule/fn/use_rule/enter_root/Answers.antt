use Rattle.std.proofs.Common.{◌∙◌, refl}
use Rattle.nts_trying.proofs.Opened.{on_ok}
use Rattle.nts_contexts.proofs.Handed.{goal_later}
use Rattle.nts_contexts.proofs.Frames.{keeps_then}
use Rattle.nts_context_uses.proofs.rule.fn.use_rule.enter_root.Goals as goal

pub certainty_of-requires : goal.certainty_of-requires
certainty_of-requires c =
    let e = c.in_ok-eq.ensures in
    record { ready = e.keeps.is_ready; goal = goal_later e.keeps c.requires.goal }

pub returns : goal.returns
returns c =
    let e = c.in_ok-eq.ensures in
    let left = c.requires.left in
    let right = c.requires.right in
    let equated = e.equal (refl, left.plain, right.plain) in
    record {
      keeps = keeps_then e.keeps c.certainty_of.ensures.keeps;
      goals = on_ok c.certainty_of.result (c.certainty_of.ensures.goals ∙ equated.goals);
    }
