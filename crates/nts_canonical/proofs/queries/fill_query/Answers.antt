use Rattle.std.proofs.Common.{◌≡◌, map, refl, ◌∙◌}
use Rattle.nts_model.specs.Terms.Substitutions.{filled}
use Rattle.nts_store.specs.Growth.{tree_at}
use Rattle.nts_store.specs.Kept.{AllIn-kept}
use Rattle.nts_store.proofs.Growing.{Extends-trans}
use Rattle.nts_canonical.specs.Forms.{hidden_pairs}
use Rattle.nts_canonical.proofs.PairLists.{holds_kept, are_hidden-kept, AreImages-row, AreImages-held}
use Rattle.nts_canonical.proofs.Filled.{has_values-kept, has_values_row-kept, filled-kept, filled_row-kept, three}
use Rattle.nts_canonical.proofs.queries.fill_query.Goals as goal

pub fill-requires-2-clause-values : goal.fill-requires-2-clause-values
fill-requires-2-clause-values c = AllIn-kept _ _ c.args.values.now c.requires.values c.fill.ensures.extends

pub fill-requires-2-clause-positions : goal.fill-requires-2-clause-positions
fill-requires-2-clause-positions c =
    has_values-kept _ _ c.args.values.now c.args.query.now.goal.predicate.node c.requires.values c.requires.holds.predicate.within c.fill.ensures.extends c.requires.positions.1.0

pub fill_hidden-requires-clause-holds : goal.fill_hidden-requires-clause-holds
fill_hidden-requires-clause-holds c =
    rw c.deref.ensures.value (are_hidden-kept c.args.nodes.now c.fill-2.new.nodes c.args.query.now.predefined_opaques_in_body.items c.requires.holds.hidden (Extends-trans c.fill.ensures.extends c.fill-2.ensures.extends))

pub fill_hidden-requires-clause-values : goal.fill_hidden-requires-clause-values
fill_hidden-requires-clause-values c = AllIn-kept _ _ c.args.values.now c.requires.values (Extends-trans c.fill.ensures.extends c.fill-2.ensures.extends)

pub fill_hidden-requires-clause-positions : goal.fill_hidden-requires-clause-positions
fill_hidden-requires-clause-positions c =
    rw c.deref.ensures.value (has_values_row-kept c.args.nodes.now c.fill-2.new.nodes c.args.values.now c.args.query.now.predefined_opaques_in_body.items c.requires.values c.requires.holds.hidden (Extends-trans c.fill.ensures.extends c.fill-2.ensures.extends) c.requires.positions.1.1.0)

pub returns-clause-tree : goal.returns-clause-tree
returns-clause-tree c =
    let a = c.args.nodes.now in
    let b = c.fill-2.new.nodes in
    let d = c.fill_hidden.new.nodes in
    let vs = c.args.values.now in
    let hs = c.args.query.now.predefined_opaques_in_body.items in
    let last = c.fill_hidden.ensures.extends in
    let env = c.in_ok-param_env.ensures in
    let pred = c.in_ok-predicate.ensures in
    let up = Extends-trans c.fill.ensures.extends c.fill-2.ensures.extends in
    let hidden : hidden_pairs d c.in_ok-hidden.hidden.items ≡ filled (map (tree_at b) vs) (hidden_pairs b hs) =
    AreImages-row (filled (map (tree_at b) vs)) (record { of_empty = refl; of_more = λ s t. refl }) b d hs c.in_ok-hidden.hidden.items (rw c.deref.ensures.value at c.in_ok-hidden.ensures.images) in
    three ((Extends-trans c.fill-2.ensures.extends last).kept c.in_ok-param_env.param_env.node env.holds.within ∙ env.tree)
    (last.kept c.in_ok-predicate.predicate.node pred.holds.within ∙ pred.tree ∙ filled-kept a c.fill.new.nodes vs c.args.query.now.goal.predicate.node c.requires.values c.requires.holds.predicate.within c.fill.ensures.extends)
    (hidden ∙ filled_row-kept a b vs hs c.requires.values c.requires.holds.hidden up)

pub returns-clause-holds : goal.returns-clause-holds
returns-clause-holds c =
    let last = c.fill_hidden.ensures.extends in
    record {
      environment = holds_kept _ _ _ _ c.in_ok-param_env.ensures.holds (Extends-trans c.fill-2.ensures.extends last);
      predicate = holds_kept _ _ _ _ c.in_ok-predicate.ensures.holds last;
      hidden = AreImages-held (filled (map (tree_at c.fill-2.new.nodes) c.args.values.now)) c.fill-2.new.nodes c.fill_hidden.new.nodes c.deref.result.now c.in_ok-hidden.hidden.items c.in_ok-hidden.ensures.images;
    }
