use Rattle.std.proofs.Common.{[], ◌∷◌}
use Rattle.std.proofs.lemmas.List.Elements.{All-nil, All-cons}
use Rattle.nts_contexts.specs.Contexts.{IsGoalOfContext}
use Rattle.nts_contexts.proofs.Handed.{goal_later}
use Rattle.nts_contexts.proofs.Frames.{keeps_then}
use Rattle.nts_context_uses.proofs.count.fn.count_asked.probe.Goals as goal

pub add_goals-requires : goal.add_goals-requires
add_goals-requires c =
    let e = c.in_ok-sub.ensures in
    record {
      ready = e.keeps.is_ready;
      goals = All-cons (IsGoalOfContext c.sub.new.self) c.captures.first (c.captures.second ∷ []) (goal_later e.keeps c.requires.first)
          (All-cons (IsGoalOfContext c.sub.new.self) c.captures.second [] (goal_later e.keeps c.requires.second) (All-nil (IsGoalOfContext c.sub.new.self)));
    }

pub returns-in_err-add_goals : goal.returns-in_err-add_goals
returns-in_err-add_goals c = record { keeps = keeps_then c.sub.ensures.keeps c.add_goals.ensures.keeps }

pub returns-in_err-try_evaluate_added_goals : goal.returns-in_err-try_evaluate_added_goals
returns-in_err-try_evaluate_added_goals c = record { keeps = keeps_then (keeps_then c.sub.ensures.keeps c.add_goals.ensures.keeps) c.try_evaluate_added_goals.ensures.keeps }

pub returns : goal.returns
returns c = record { keeps = keeps_then (keeps_then c.sub.ensures.keeps c.add_goals.ensures.keeps) c.try_evaluate_added_goals.ensures.keeps }
