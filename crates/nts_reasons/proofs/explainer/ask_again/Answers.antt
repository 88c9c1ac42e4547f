use Rattle.std.proofs.Common.{subst}
use Rattle.nts_terms.specs.Signatures.{Declared, variances_in}
use Rattle.nts_reasons.specs.Running.{HasReasons}
use Rattle.nts_reasons.proofs.explainer.ask_again.Goals as goal

pub returns-clause-reasons : goal.returns-clause-reasons
returns-clause-reasons c =
    let p = c.in_ok-posed.ensures in
    let posed = c.in_ok-posed.posed in
    let rest = p.grows.rest in
    record {
      posed_in = c.pose.new.cx.nodes;
      later = p.grows.extends;
      posed = posed;
      poses = p.posed;
      has = subst (λ (d : Declared). HasReasons c.pose.new.cx.nodes (variances_in d) c.args.program.now.clauses posed.table posed.goal c.in_ok-reasons.reasons.items) rest.declarations c.in_ok-reasons.ensures.reasons;
    }
