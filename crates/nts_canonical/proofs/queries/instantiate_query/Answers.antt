use Rattle.std.proofs.Common.{map, ap, ◌∙◌, subst, sym}
use Rattle.nts_model.specs.Terms.Substitutions.{filled}
use Rattle.nts_store.specs.Growth.{tree_at}
use Rattle.nts_store.specs.Filled.{HasValues}
use Rattle.nts_terms.proofs.Standing.{args_stand}
use Rattle.nts_canonical.specs.Forms.{query_tree}
use Rattle.nts_canonical.proofs.Filled.{trees_of-nodes}
use Rattle.nts_canonical.proofs.queries.instantiate_query.Goals as goal

pub fill_query-requires-clause-values : goal.fill_query-requires-clause-values
fill_query-requires-clause-values c =
    rw (c.deref.ensures.value, c.in_ok-values.ensures) (args_stand c.args.cx.now.nodes c.args.values.now c.requires.values).within

pub fill_query-requires-clause-positions : goal.fill_query-requires-clause-positions
fill_query-requires-clause-positions c =
    let same = ap (map (tree_at c.args.cx.now.nodes)) (c.deref.ensures.value ∙ c.in_ok-values.ensures) ∙ trees_of-nodes c.args.cx.now.nodes c.args.values.now in
    subst (λ z. HasValues z (query_tree c.args.cx.now.nodes c.args.canonical.now.value)) (sym same) c.requires.positions

pub returns-clause-tree : goal.returns-clause-tree
returns-clause-tree c =
    let same = ap (map (tree_at c.args.cx.now.nodes)) (c.deref.ensures.value ∙ c.in_ok-values.ensures) ∙ trees_of-nodes c.args.cx.now.nodes c.args.values.now in
    c.in_ok-query.ensures.tree ∙ ap (λ z. filled z (query_tree c.args.cx.now.nodes c.args.canonical.now.value)) same
