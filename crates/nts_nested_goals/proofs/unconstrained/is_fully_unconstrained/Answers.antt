use Rattle.std.proofs.Common.{sym, ◌∙◌}
use Rattle.nts_nested_goals.proofs.Spared.{asks, spared_goal, goal_spared, none_spared}
use Rattle.nts_nested_goals.proofs.unconstrained.is_fully_unconstrained.Goals as goal

pub returns-in_default-variable_universe-clause-answer : goal.returns-in_default-variable_universe-clause-answer
returns-in_default-variable_universe-clause-answer c =
    let v = c.label-variable.ensures in
    let x = c.in-NormalizesTo in
    let says = asks c.resolve_goal.new.cx.nodes _ _ c.kind.result x.alias x.term c.label-variable.result c.in-Some.kind c.in-Some.n c.in_ok-asked.ensures.predicate c.kind.ensures.tree x.is v.is v.formed c.in-Some.ensures in
    let none = sym c.variable_universe.ensures ∙ c.in_default-variable_universe.is in
    ((λ h. cc), λ r. absurd (none_spared c.args.cx.now.nodes c.args.table.now.entries _ _ _ _ _ _ _ c.in-Some.ensures says none r))

pub returns-then-not-branch-clause-answer : goal.returns-then-not-branch-clause-answer
returns-then-not-branch-clause-answer c =
    let v = c.label-variable.ensures in
    let x = c.in-NormalizesTo in
    let says = asks c.resolve_goal.new.cx.nodes _ _ c.kind.result x.alias x.term c.label-variable.result c.in-Some.kind c.in-Some.n c.in_ok-asked.ensures.predicate c.kind.ensures.tree x.is v.is v.formed c.in-Some.ensures in
    let within = sym c.variable_universe.ensures ∙ c.in-Some-variable_universe.is in (
      (λ h. cc),
      λ r.
          let spared = goal_spared c.args.cx.now.nodes c.args.table.now.entries _ _ _ _ _ _ _ c.in-Some.ensures says c.in-Some-variable_universe.universe within r in
          let yes = c.in_ok-all_labels.ensures.1 (rw c.in_ok-asked.ensures.env spared.0) in
          cc,
    )

pub returns-clause-answer : goal.returns-clause-answer
returns-clause-answer c =
    let v = c.label-variable.ensures in
    let x = c.in-NormalizesTo in
    let says = asks c.resolve_goal.new.cx.nodes _ _ c.kind.result x.alias x.term c.label-variable.result c.in-Some.kind c.in-Some.n c.in_ok-asked.ensures.predicate c.kind.ensures.tree x.is v.is v.formed c.in-Some.ensures in
    let within = sym c.variable_universe.ensures ∙ c.in-Some-variable_universe.is in
    let last = c.in_ok-spared.ensures in
    let u = c.in-Some-variable_universe.universe in (
      (λ h.
          let first = c.in_ok-all_labels.ensures.0 cc in
          spared_goal c.args.cx.now.nodes c.args.table.now.entries _ _ _ _ _ _ _ c.in-Some.ensures says u within (rw (← c.in_ok-asked.ensures.env) first) (last.0 h)),
      λ r.
          let spared = goal_spared c.args.cx.now.nodes c.args.table.now.entries _ _ _ _ _ _ _ c.in-Some.ensures says u within r in
          last.1 spared.1,
    )
