use Rattle.std.proofs.Common.{◌≡◌, ◌<◌, ap, arith}
use Rattle.nts_model.specs.Terms.Trees.{children, row_length, IsRow}
use Rattle.nts_store.specs.Growth.{tree_at}
use Rattle.nts_assembly.proofs.ResultOffers.{next_result, all_results}
use Rattle.nts_assembly.proofs.RowOffers.{grows_on}
use Rattle.nts_assembly.proofs.projections.AssumedProjectionsGoalHandler.candidates.Goals as goal

pub loop-i-preserved : goal.loop-i-preserved
loop-i-preserved c =
    let up = c.in_ok-offer.ensures.grows in
    let env = c.loop-i.invariant.grows.extends.kept c.args.goal.param_env.node c.requires.goal.holds.env.within in
    let below : c.loop-i.i < row_length (children (tree_at c.loop-i.cx.nodes c.args.goal.param_env.node)) = omega (arith, c.len-i-end.ensures.count, c.loop-i-test.true, ap (λ t. row_length (children t)) env) in
    record {
      grows = grows_on c.loop-i.invariant.grows up;
      results = next_result c.loop-i.cx.nodes c.result_of_row.new.cx.nodes c.args.goal c.in-Some.asked c.loop-i.i c.loop-i.found.items c.add_offer.new.found.items (tree_at c.loop-i.cx.nodes c.get-row.result.node) c.in_ok-offer.offer
          c.loop-i.invariant.results up.extends below c.get-row.ensures.tree c.in_ok-offer.ensures.offer c.in_ok-add_offer.ensures;
    }

pub returns-clause-offered : goal.returns-clause-offered
returns-clause-offered c =
    let env = c.loop-i.invariant.grows.extends.kept c.args.goal.param_env.node c.requires.goal.holds.env.within in
    let all : c.loop-i.i ≡ row_length (children (tree_at c.loop-i.cx.nodes c.args.goal.param_env.node)) = omega (arith, c.len-i-end.ensures.count, c.loop-i-test.false, c.loop-i.auto.i-end, ap (λ t. row_length (children t)) env) in
    let row : IsRow (children (tree_at c.loop-i.cx.nodes c.args.goal.param_env.node)) = rw env c.len-i-end.ensures.row in
    all_results c.loop-i.cx.nodes c.args.goal c.in-Some.asked c.loop-i.i c.loop-i.found.items c.loop-i.invariant.results row all
