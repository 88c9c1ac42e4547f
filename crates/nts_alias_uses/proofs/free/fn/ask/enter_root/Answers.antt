use Rattle.std.proofs.Common.{◌∙◌}
use Rattle.nts_trying.proofs.Opened.{on_ok}
use Rattle.nts_contexts.proofs.Handed.{goal_later}
use Rattle.nts_contexts.proofs.Frames.{keeps_then}
use Rattle.nts_alias_uses.proofs.free.fn.ask.enter_root.Goals as goal

pub term_is_fully_unconstrained-requires : goal.term_is_fully_unconstrained-requires
term_is_fully_unconstrained-requires c =
    let e = c.in_ok-eq_structurally_relating_aliases.ensures in
    record { ready = e.keeps.is_ready; goal = goal_later e.keeps c.requires.goal }

pub returns : goal.returns
returns c =
    let e = c.in_ok-eq_structurally_relating_aliases.ensures in
    let r = c.term_is_fully_unconstrained.ensures in
    record { keeps = keeps_then e.keeps r.keeps; goals = on_ok c.term_is_fully_unconstrained.result (r.goals ∙ e.goals) }
