use Rattle.std.proofs.Common.{ap, ◌∙◌}
use Rattle.nts_store.specs.Growth.{tree_at}
use Rattle.nts_terms.specs.Modes.{mode_of}
use Rattle.nts_delegate.specs.Keeping.{AreCandidates-kept, AreCandidates-append, HoldsGoal-kept, same_goal, both_offered}
use Rattle.nts_delegate.proofs.both.BothGoalHandler.candidates.Goals as goal

pub returns-clause-candidates : goal.returns-clause-candidates
returns-clause-candidates g c =
    let e = c.candidates-2.ensures.grows.extends in
    let there = HoldsGoal-kept c.requires.goal.holds c.candidates.ensures.grows.extends in
    rw c.in_ok-joined.ensures (AreCandidates-append _ _ _ _ (AreCandidates-kept c.in_ok-found.found.items there e c.in_ok-found.ensures.candidates) c.in_ok-more.ensures.candidates)

pub returns-clause-offered : goal.returns-clause-offered
returns-clause-offered g c =
    let grown = c.candidates.ensures.grows.extends in
    let e = c.candidates-2.ensures.grows.extends in
    let there = HoldsGoal-kept c.requires.goal.holds grown in
    let first = c.args.self.now.first in
    let ready = g.met.A.GoalHandler.ready_kept c.args.cx.now.nodes c.candidates.new.cx.nodes first c.requires.ready.0 grown in
    let means = g.met.A.GoalHandler.handler_kept c.candidates.new.cx.nodes c.candidates-2.new.cx.nodes first ready e in
    let s = same_goal there e in
    let offers = means.offers (mode_of c.args.mode.now) (tree_at c.candidates-2.new.cx.nodes c.args.goal.param_env.node) (tree_at c.candidates-2.new.cx.nodes c.args.goal.predicate.node) in
    let asked = ap (λ x. (g.A.GoalHandler.handler c.candidates.new.cx.nodes first).offers (mode_of c.args.mode.now) x (tree_at c.candidates-2.new.cx.nodes c.args.goal.predicate.node)) s.env in
    let said = ap (λ x. (g.A.GoalHandler.handler c.candidates.new.cx.nodes first).offers (mode_of c.args.mode.now) (tree_at c.candidates.new.cx.nodes c.args.goal.param_env.node) x) s.predicate in
    rw c.in_ok-joined.ensures (both_offered _ _ c.args.goal _ _ _ _ _ e c.in_ok-found.ensures.candidates c.in_ok-found.ensures.offered (offers ∙ asked ∙ said) c.in_ok-more.ensures.offered)
