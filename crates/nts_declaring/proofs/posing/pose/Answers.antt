use Rattle.std.proofs.Common.{subst}
use Rattle.nts_store.proofs.Growing.{Extends-trans}
use Rattle.nts_table.specs.TableLaws.{IsTable-extended}
use Rattle.nts_wording.specs.Meaning.{AreVariablesFrom, IsGoalOf}
use Rattle.nts_wording.proofs.Telling.{values-extended}
use Rattle.nts_declaring.proofs.posing.pose.Goals as goal

pub returns-clause-posed : goal.returns-clause-posed
returns-clause-posed c =
    let later = c.in_ok-goal.ensures.grows.extends in
    let vs = c.in_ok-values.values.items in
    record {
      table = IsTable-extended later c.in_ok-values.ensures.table;
      values = values-extended vs c.in_ok-values.ensures.table later c.in_ok-values.ensures.values;
      holds = c.in_ok-goal.ensures.holds;
      own = c.in_ok-see.ensures.own c.new-variables.ensures.own;
      placed = c.in_ok-see.ensures.placed;
      first = λ us e. subst (λ ss. AreVariablesFrom 0 us ss vs) c.deref.ensures.value (rw c.new-table.ensures.entries at c.in_ok-values.ensures.variables us (Extends-trans later e));
      mode = rw (c.fresh_values.ensures.mode, c.new-table.ensures.mode) c.typing_mode.ensures;
      asked = λ us e. subst (λ ws. IsGoalOf us c.args.env c.see.new.self ws c.args.nodes.now c.in_ok-goal.goal) c.deref-2.ensures.value (c.in_ok-goal.ensures.asks us e);
    }
