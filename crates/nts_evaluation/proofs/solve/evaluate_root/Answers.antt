use Rattle.std.proofs.Common.{◌≡◌, ◌∙◌, suc, arith, Err, rules, refl, true}
use Rattle.nts_store.specs.declared.fault.EvalError.TheVariants as EvalError
use Rattle.nts_unify.specs.Lawful.{content_of-extended}
use Rattle.nts_meaning.proofs.Running.{unread}
use Rattle.nts_meaning.proofs.Evaluating.{Goes-trans, Goes-extends, Runs-trans, Runs-extends, Since-later}
use Rattle.nts_meaning.proofs.AskedGoals.{evaluates_at}
use Rattle.std.proofs.Common.{subst}
use Rattle.nts_certainty.specs.declared.sources.PathKind.TheVariants as path
use Rattle.nts_candidates.specs.Offered.{path_kind_of}
use Rattle.nts_meaning.specs.Meant.{ruling_since, IsProvedFromSince}
use Rattle.nts_meaning.proofs.Rounds.{search_begun, tell_begun, nothing_left, not_cut}
use Rattle.nts_evaluation.proofs.Deciding.{fault_is_decided, decides_error, begun_decides}
use Rattle.nts_evaluation.proofs.FactRoots.{fact_form, never_refused, resolved_fact, begun_facts}
use Rattle.nts_terms.specs.Modes.{mode_of}
use Rattle.nts_asking.proofs.KeptStalled.{MayStall-later}
use Rattle.nts_evaluation.proofs.solve.evaluate_root.Goals as goal

pub evaluate_goal-requires-clause-search : goal.evaluate_goal-requires-clause-search
evaluate_goal-requires-clause-search g c = search_begun c.args.depth c.new-graph.ensures.stack c.new-graph.ensures.empty c.new-graph.ensures.root_depth c.new-graph.ensures.rounds

pub returns-in_err-asked-clause-runs : goal.returns-in_err-asked-clause-runs
returns-in_err-asked-clause-runs g c = Runs-extends c.requires.posed.table c.asked_goal.ensures.grows.extends c.asked_goal.ensures.grows.rest

pub returns-in_err-evaluated-clause-runs : goal.returns-in_err-evaluated-clause-runs
returns-in_err-evaluated-clause-runs g c =
    Runs-trans (Runs-extends c.requires.posed.table c.in_ok-asked.ensures.grows.extends c.in_ok-asked.ensures.grows.rest) c.evaluate_goal.ensures.runs

pub returns-clause-runs : goal.returns-clause-runs
returns-clause-runs g c =
    Runs-trans (Runs-extends c.requires.posed.table c.in_ok-asked.ensures.grows.extends c.in_ok-asked.ensures.grows.rest) c.in_ok-evaluated.ensures.runs

pub returns-clause-evaluates : goal.returns-clause-evaluates
returns-clause-evaluates g c = λ s.
    let k = c.in_ok-asked.ensures in
    let told = c.in_ok-evaluated.ensures.told (Since-later k.grows s) (tell_begun c.new-graph.result (ruling_since (λ ts. g.H.GoalHandler.handler ts c.args.handler.now) s) c.asked_goal.new.cx.nodes c.new-graph.ensures.empty) in
    evaluates_at (content_of-extended k.grows.extends c.requires.posed.table.now) (rw (k.env, k.predicate) at told)

pub returns-clause-proved : goal.returns-clause-proved
returns-clause-proved g c = λ s y.
    let k = c.in_ok-asked.ensures in
    let a = c.in_ok-evaluated.ensures in
    let all = Goes-trans (Goes-extends c.requires.posed.table k.grows.extends) a.runs.goes in
    let env = a.runs.goes.extends.kept _ k.posed.holds.env.within ∙ k.env in
    let predicate = a.runs.goes.extends.kept _ k.posed.holds.predicate.within ∙ k.predicate in
    let none = nothing_left c.evaluate_goal.new.cx.nodes (path_kind_of path.Unknown) c.new-graph.ensures.empty a.searches in
    let proved = subst (λ A. IsProvedFromSince (λ ts. g.H.GoalHandler.handler ts c.args.handler.now) s c.args.table.now.mode A c.evaluate_goal.new.cx.nodes c.evaluate_goal.new.table c.in_ok-asked.asked.goal) none (a.proved (Since-later k.grows s) y) in
    rw (all.extends.kept c.args.goal.param_env.node c.requires.posed.holds.env.within, all.extends.kept c.args.goal.predicate.node c.requires.posed.holds.predicate.within)
    (unread _ _ _ _ all env predicate c.requires.posed.knows.env c.requires.posed.knows.predicate proved)

pub returns-in_err-evaluated-clause-refuted : goal.returns-in_err-evaluated-clause-refuted
returns-in_err-evaluated-clause-refuted g c = λ s q.
    let k = c.in_ok-asked.ensures in
    let here = content_of-extended k.grows.extends c.requires.posed.table.now in
    let refused : c.evaluate_goal.result ≡ Err EvalError.NoSolution = search rules in
    not_cut c.new-graph.result c.new-graph.ensures.empty (rw (here, k.env, k.predicate) at (c.evaluate_goal.ensures.refuted (Since-later k.grows s) (tell_begun c.new-graph.result (ruling_since (λ ts. g.H.GoalHandler.handler ts c.args.handler.now) s) c.asked_goal.new.cx.nodes c.new-graph.ensures.empty) refused))

pub returns-in_err-asked-clause-decided : goal.returns-in_err-asked-clause-decided
returns-in_err-asked-clause-decided g c = λ s b d may. fault_is_decided b c.from_residual.result _ (search rules) (search rules)

pub returns-in_err-evaluated-clause-decided : goal.returns-in_err-evaluated-clause-decided
returns-in_err-evaluated-clause-decided g c = λ s b d may.
    let k = c.in_ok-asked.ensures in
    let x = c.evaluate_goal.ensures.decided (Since-later k.grows s) (suc d.height) b (d.height, (omega arith), rw (k.env, k.predicate) d.decided) (begun_decides d k.grows may c.new-graph.ensures.empty c.new-graph.ensures.overflowed) in
    let y = decides_error c.evaluate_goal.result c.from_residual-in_err-evaluated.result (search rules) (λ no. (search rules)) (λ no. no) x in
    y.answer

pub returns-clause-decided : goal.returns-clause-decided
returns-clause-decided g c = λ s b d may.
    let k = c.in_ok-asked.ensures in
    let x = c.in_ok-evaluated.ensures.decided (Since-later k.grows s) (suc d.height) b (d.height, (omega arith), rw (k.env, k.predicate) d.decided) (begun_decides d k.grows may c.new-graph.ensures.empty c.new-graph.ensures.overflowed) in
    (x.answer.0, x.answer.1.0)

pub returns-in_err-asked-clause-only_fact : goal.returns-in_err-asked-clause-only_fact
returns-in_err-asked-clause-only_fact g c = λ s f may. fault_is_decided true c.from_residual.result _ (search rules) (search rules)

pub returns-in_err-evaluated-clause-only_fact : goal.returns-in_err-evaluated-clause-only_fact
returns-in_err-evaluated-clause-only_fact g c = λ s f may.
    let k = c.in_ok-asked.ensures in
    let h = g.H.GoalHandler.handler s.base c.args.handler.now in
    let law = g.met.H.GoalHandler.lawful s.base c.args.handler.now s.formed s.is_ready in
    let fact = resolved_fact h c.args.table.now.mode c.args.cx.now.nodes c.asked_goal.new.cx.nodes c.args.table.now c.args.goal c.in_ok-asked.asked.goal (content_of-extended k.grows.extends c.requires.posed.table.now) k.env k.predicate f in
    let x = c.evaluate_goal.ensures.facts (Since-later k.grows s) (tell_begun c.new-graph.result (ruling_since (λ ts. g.H.GoalHandler.handler ts c.args.handler.now) s) c.asked_goal.new.cx.nodes c.new-graph.ensures.empty)
    (fact_form h law (mode_of c.args.table.now.mode) c.asked_goal.new.cx.nodes c.args.table.now c.in_ok-asked.asked.goal k.posed fact)
    (never_refused h law (mode_of c.args.table.now.mode) c.asked_goal.new.cx.nodes c.args.table.now c.in_ok-asked.asked.goal k.posed fact may.tight s.variances c.args.table.now.mode refl)
    c.new-graph.ensures.empty (begun_facts c.args.depth k.grows may c.new-graph.ensures.overflowed) in
    let y = decides_error c.evaluate_goal.result c.from_residual-in_err-evaluated.result (search rules) (λ no. (search rules)) (λ no. no) x in
    y.answer

pub returns-clause-only_fact : goal.returns-clause-only_fact
returns-clause-only_fact g c = λ s f may.
    let k = c.in_ok-asked.ensures in
    let h = g.H.GoalHandler.handler s.base c.args.handler.now in
    let law = g.met.H.GoalHandler.lawful s.base c.args.handler.now s.formed s.is_ready in
    let fact = resolved_fact h c.args.table.now.mode c.args.cx.now.nodes c.asked_goal.new.cx.nodes c.args.table.now c.args.goal c.in_ok-asked.asked.goal (content_of-extended k.grows.extends c.requires.posed.table.now) k.env k.predicate f in
    let x = c.in_ok-evaluated.ensures.facts (Since-later k.grows s) (tell_begun c.new-graph.result (ruling_since (λ ts. g.H.GoalHandler.handler ts c.args.handler.now) s) c.asked_goal.new.cx.nodes c.new-graph.ensures.empty)
    (fact_form h law (mode_of c.args.table.now.mode) c.asked_goal.new.cx.nodes c.args.table.now c.in_ok-asked.asked.goal k.posed fact)
    (never_refused h law (mode_of c.args.table.now.mode) c.asked_goal.new.cx.nodes c.args.table.now c.in_ok-asked.asked.goal k.posed fact may.tight s.variances c.args.table.now.mode refl)
    c.new-graph.ensures.empty (begun_facts c.args.depth k.grows may c.new-graph.ensures.overflowed) in
    x.answer

pub returns-clause-kept : goal.returns-clause-kept
returns-clause-kept g c =
    let k = c.in_ok-asked.ensures in
    let a = c.in_ok-evaluated.ensures in
    c.keep_stalled-stalled_on.ensures c.evaluate_goal.new.cx.nodes (MayStall-later a.runs.goes.extends c.args.table.now.entries c.evaluate_goal.new.table.entries c.in_ok-asked.asked k.posed.holds k.stalls)
