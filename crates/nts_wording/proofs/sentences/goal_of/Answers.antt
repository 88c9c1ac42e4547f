use Rattle.std.proofs.Common.{[], ◌∷◌, sym, ap, ◌∙◌}
use Rattle.nts_wording.proofs.Meant.{one_item, goal_for}
use Rattle.nts_wording.proofs.sentences.goal_of.Goals as goal

pub returns-clause-asks : goal.returns-clause-asks
returns-clause-asks c =
    let e = c.in_ok-param_env.ensures in
    goal_for c.bound_clauses.new.cx.nodes c.environment.new.cx.nodes c.predicate_of.new.cx.nodes c.args.env c.args.terms.variables.now c.args.terms.values.now c.args.nodes.now c.in_ok-found.found.items c.bound-item.result _
    c.in_ok-found.ensures.said (sym c.as_slice.ensures.value ∙ one_item c.as_slice.result.now _ c.in-len1.len_at_least c.in-len1.len_below ∙ ap (λ b. b ∷ []) (sym c.bound-item.is))
    e.grows.extends c.in_ok-predicate.ensures.grows.extends c.in_ok-predicate.ensures.states e.is
