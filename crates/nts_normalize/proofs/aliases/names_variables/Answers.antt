use Rattle.nts_normalize.proofs.Named.{all_forth, all_back}
use Rattle.nts_normalize.proofs.aliases.names_variables.Goals as goal

pub returns-clause-answer : goal.returns-clause-answer
returns-clause-answer c =
    let tree = c.in_ok-known.ensures.tree in
    let found = c.in_ok-named.ensures in (
      (λ h. all_forth c.args.cx.now.nodes c.args.table.now.entries c.args.universe _ (rw tree at found.0 h)),
      (λ h. found.1 (rw tree (all_back c.args.cx.now.nodes c.args.table.now.entries c.args.universe _ h))),
    )
