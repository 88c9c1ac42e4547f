use Rattle.std.proofs.Common.{◌≡◌, map, ◌∙◌}
use Rattle.nts_model.specs.Terms.Substitutions.{filled}
use Rattle.nts_store.specs.Growth.{tree_at}
use Rattle.nts_store.specs.Kept.{map-kept}
use Rattle.nts_store.proofs.Growing.{AllIn-extended}
use Rattle.nts_applying.proofs.opening.opened_goal.Goals as goal

pub fill-requires-2-clause-values : goal.fill-requires-2-clause-values
fill-requires-2-clause-values c = AllIn-extended c.fill.ensures.extends c.args.chosen.now c.requires.chosen

pub fill-requires-2-clause-positions : goal.fill-requires-2-clause-positions
fill-requires-2-clause-positions c =
    let e = c.fill.ensures.extends in
    let h = c.requires.goal.holds.goal.predicate in
    rw (map-kept c.args.nodes.now c.fill.new.nodes c.args.chosen.now c.requires.chosen e, e.kept c.args.goal.1.predicate.node h.within) c.requires.goal.predicate

pub returns-clause-replaced : goal.returns-clause-replaced
returns-clause-replaced c =
    let a = c.in_ok-param_env.ensures in
    let b = c.in_ok-predicate.ensures in
    let h = c.requires.goal.holds.goal.predicate in
    let env : tree_at c.fill-2.new.nodes c.in_ok-param_env.param_env.node ≡ filled (map (tree_at c.args.nodes.now) c.args.chosen.now) (tree_at c.args.nodes.now c.args.goal.1.param_env.node) =
    b.extends.kept c.in_ok-param_env.param_env.node (let q = a.holds in q.within) ∙ a.tree in
    let predicate : tree_at c.fill-2.new.nodes c.in_ok-predicate.predicate.node ≡ filled (map (tree_at c.args.nodes.now) c.args.chosen.now) (tree_at c.args.nodes.now c.args.goal.1.predicate.node) =
    rw (map-kept c.args.nodes.now c.fill.new.nodes c.args.chosen.now c.requires.chosen c.fill.ensures.extends, c.fill.ensures.extends.kept c.args.goal.1.predicate.node h.within) at b.tree in
    cc (env, predicate)
