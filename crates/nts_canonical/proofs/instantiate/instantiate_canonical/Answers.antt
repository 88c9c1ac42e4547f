use Rattle.std.proofs.Common.{map, ap, ◌∙◌, subst, sym}
use Rattle.nts_model.specs.Terms.Substitutions.{filled}
use Rattle.nts_store.specs.Growth.{tree_at}
use Rattle.nts_store.specs.Filled.{HasValues}
use Rattle.nts_terms.proofs.Standing.{args_stand}
use Rattle.nts_canonical.proofs.Filled.{trees_of-nodes}
use Rattle.nts_canonical.proofs.instantiate.instantiate_canonical.Goals as goal

pub fill_value-requires-clause-values : goal.fill_value-requires-clause-values
fill_value-requires-clause-values g c =
    rw (c.deref.ensures.value, c.in_ok-values.ensures) (args_stand c.args.cx.now.nodes c.args.values.now c.requires.values).within

pub fill_value-requires-clause-positions : goal.fill_value-requires-clause-positions
fill_value-requires-clause-positions g c =
    let same = ap (map (tree_at c.args.cx.now.nodes)) (c.deref.ensures.value ∙ c.in_ok-values.ensures) ∙ trees_of-nodes c.args.cx.now.nodes c.args.values.now in
    subst (λ z. HasValues z (g.T.TypeFoldable.tree c.args.cx.now.nodes c.args.canonical.value)) (sym same) c.requires.positions

pub returns-clause-tree : goal.returns-clause-tree
returns-clause-tree g c =
    let same = ap (map (tree_at c.args.cx.now.nodes)) (c.deref.ensures.value ∙ c.in_ok-values.ensures) ∙ trees_of-nodes c.args.cx.now.nodes c.args.values.now in
    c.in_ok-value.ensures.tree ∙ ap (λ z. filled z (g.T.TypeFoldable.tree c.args.cx.now.nodes c.args.canonical.value)) same
