use Rattle.std.proofs.Common.{rules, ◌≡◌, [], All, IfSome, Some, map, sym, ap, ◌∙◌, subst}
use Rattle.std.specs.Prelude.{option_map}
use Rattle.nts_store.specs.Growth.{tree_at}
use Rattle.nts_store.proofs.Growing.{IsIn-extended}
use Rattle.nts_model.specs.Terms.Trees.{IsClosed, IsFormed}
use Rattle.nts_model.specs.Derivations.Related.{pair}
use Rattle.nts_candidates.specs.Offered.{premise_of}
use Rattle.nts_delegate.specs.Judging.{predicates_read, IsGoalIn}
use Rattle.nts_theory.specs.Affirming.{is_well_formed, by_goals, plain_way, IsOwnWay}
use Rattle.nts_meaning.proofs.Evaluating.{HoldsGoal-extended}
use Rattle.nts_trying.specs.Owning.{IsPlainWay, misc_goal}
use Rattle.nts_trying.proofs.Owning.{states_in, plain_in, way_of, premises_there, term_candidate, no_equations_plain}
use Rattle.nts_trying.proofs.own.judge_term.Goals as goal

pub returns-clause-judged : goal.returns-clause-judged
returns-clause-judged g c =
    let a = c.args.cx.now.nodes in
    let b = c.well_formed_goals.new.cx.nodes in
    let h = g.H.GoalHandler.handler b c.args.handler.now in
    let up = c.in_ok-named.ensures.grows.extends in
    let goal_at = c.args.goal in
    let e = tree_at b goal_at.param_env.node in
    let t = tree_at b c.args.term.node in
    let found = c.in_ok-way.way.value in
    let ps = predicates_read b c.in-Some.named.items in
    let gs = map misc_goal c.in-Some.named.items in
    let all : All (IsGoalIn b goal_at.param_env) c.in-Some.named.items = subst (λ o. IfSome o (λ xs. All (IsGoalIn b goal_at.param_env) xs.items)) c.in-Some.is c.in_ok-named.ensures.goals in
    let q : h.judges.well_formed e t ≡ Some ps = sym c.in_ok-named.ensures.named ∙ ap (option_map (λ xs. predicates_read b xs.items)) c.in-Some.is in
    let plain : IsPlainWay found [] gs = subst (λ z. IsPlainWay found [] z) (let s : c.in_ok-goals.goals.items ≡ gs = first_of (cc, search rules) in s) (subst (λ z. IsPlainWay found z c.in_ok-goals.goals.items) (let s : c.new.result.items ≡ [] = first_of (cc, search rules) in s) c.in_ok-way.ensures.plain) in
    let holds = HoldsGoal-extended up c.requires.holds in
    let states = states_in up c.requires.holds c.requires.own in
    let closed : IsClosed e = subst IsClosed (sym (up.kept goal_at.param_env.node c.requires.holds.env.within)) c.requires.own.environment.closed in
    let law = g.met.H.GoalHandler.lawful b c.args.handler.now c.terms_are_formed.ensures (g.met.H.GoalHandler.ready_kept a b c.args.handler.now c.requires.ready up) in
    let term_in = IsIn-extended up c.args.term.node c.requires.own.fits.within in
    let formed : IsFormed (pair e t) = (c.terms_are_formed.ensures goal_at.param_env.node holds.env.within, (c.terms_are_formed.ensures c.args.term.node term_in, tt)) in
    let way : IsOwnWay h.judges e (is_well_formed t) (plain_way [] (map (premise_of b) gs)) = subst (λ z. IsOwnWay h.judges e (is_well_formed t) (plain_way [] z)) (sym (premises_there b goal_at c.in-Some.named.items all)) (by_goals q) in (
      way_of h.judges b goal_at (is_well_formed t) found [] gs c.terms_are_formed.ensures holds.predicate.within states plain way,
      term_candidate b goal_at c.args.term holds (plain_in up c.requires.holds c.requires.plain) states closed c.in-Some.named.items found all (λ p i. (let x = law.judges.goals e t ps p formed q i in x.0)) plain,
      no_equations_plain b found gs plain,
    )
