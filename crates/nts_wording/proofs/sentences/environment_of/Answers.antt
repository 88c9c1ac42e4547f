use Rattle.nts_wording.proofs.Meant.{environment_for}
use Rattle.nts_wording.proofs.sentences.environment_of.Goals as goal

pub returns-clause-says : goal.returns-clause-says
returns-clause-says c =
    let e = c.in_ok-env.ensures in
    environment_for c.conditions.new.cx.nodes c.mk_env.new.self.nodes c.new-variables.result c.args.nodes.now c.in_ok-predicates.predicates.items c.in_ok-env.env
    c.new-variables.ensures.types c.new-variables.ensures.regions c.in_ok-predicates.ensures.conditions (rw c.deref-2.ensures.value at e.tree) e.holds
