use Rattle.std.proofs.Common.{◌∙◌}
use Rattle.nts_table.specs.TableLaws.{IsTable-extended}
use Rattle.nts_trying.proofs.Instances.{held_values, instance_term}
use Rattle.nts_meaning.proofs.Evaluating.{goal_posed, can_fill}
use Rattle.nts_trying.proofs.candidate.Trial.added_goal.Goals as goal
use Rattle.nts_trying.proofs.Labels.{nested_only}

pub instantiate_both-requires-clause-values : goal.instantiate_both-requires-clause-values
instantiate_both-requires-clause-values c = held_values c.requires.values

pub returns-clause-posed : goal.returns-clause-posed
returns-clause-posed c =
    let e = c.in_ok-env.ensures in
    let n = c.requires.nested in
    let p = c.requires.posed in
    let v = c.requires.values in
    goal_posed (IsTable-extended e.grows.extends p.table) (instance_term p.table (can_fill p n.env v) e.grows.extends e.left) (e.left.kind ∙ n.holds.env.fits) (instance_term p.table (can_fill p n.predicate v) e.grows.extends e.right) (e.right.kind ∙ n.holds.predicate.fits)

pub returns-clause-goal : goal.returns-clause-goal
returns-clause-goal c =
    let e = c.in_ok-env.ensures in
    record {
      env = e.left.tree;
      predicate = e.right.tree;
      formed_env = rw e.left.tree at (e.left.formed _ e.left.within);
      formed_predicate = rw e.right.tree at (e.right.formed _ e.right.within);
    }

pub returns-clause-labels : goal.returns-clause-labels
returns-clause-labels c = nested_only c.requires.nested c.requires.values (returns-clause-goal c)
