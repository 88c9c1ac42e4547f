use Rattle.std.proofs.Common.{◌≡◌, length, sym, ◌∙◌, rules, arith}
use Rattle.nts_delegate.proofs.AliasTables.{none_said}
use Rattle.nts_delegate.proofs.alias_table.set_rigid_at.Goals as goal

pub returns-clause-bare : goal.returns-clause-bare
returns-clause-bare c =
    let long : length c.index.result.now.clauses.items ≡ c.index.result.now.clauses.len = let ok = c.index.result.now.clauses.ok.0 in omega (arith, ok) in
    ((λ t. none_said c.reach.new.rules.items c.args.number c.index.result.now.clauses.len c.index.result.now _ c.in_ok-reach.ensures.within c.index.ensures (c.in_ok-reach.ensures.same c.args.number) long (sym c.is_empty.ensures ∙ c.if-not-is_empty.false)), λ h. search rules)
