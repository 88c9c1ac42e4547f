use Rattle.std.proofs.Common.{◌≡◌, List, [], ◌∷◌, map, refl, ap, ◌∙◌}
use Rattle.nts_store.specs.declared.nodes.NodeId.{NodeId}
use Rattle.nts_terms.specs.declared.handles.GenericArg.{GenericArg}
use Rattle.nts_meaning.proofs.Evaluating.{gave_fresh}
use Rattle.nts_store.specs.Growth.{tree_at}
use Rattle.nts_declaring.proofs.Values.{values-fresh}
use Rattle.nts_wording.proofs.Places.{trees_unwrapped, variables_from}
use Rattle.nts_declaring.proofs.posing.fresh_values.Goals as goal

unwrapped : (ns : List NodeId) → map (λ (v : GenericArg). v.node) (map (λ n. record { node = n }) ns) ≡ ns
unwrapped [] = refl
unwrapped (n ∷ ns) = ap (λ ms. n ∷ ms) (unwrapped ns)

pub returns-clause-values : goal.returns-clause-values
returns-clause-values c =
    let e = c.in_ok-nodes.ensures in
    let nodes = ap (map (λ (v : GenericArg). v.node)) c.in_ok-values.ensures ∙ unwrapped _ ∙ c.deref.ensures.value in
    values-fresh c.args.sorts.now c.in_ok-nodes.nodes.items c.in_ok-values.values.items nodes (gave_fresh c.args.sorts.now _ c.requires.table e.grows.extends e.table e.entries e.changes.saved e.changes.mode e.within e.trees).values

pub returns-clause-sorts : goal.returns-clause-sorts
returns-clause-sorts c =
    let e = c.in_ok-nodes.ensures in
    let nodes = ap (map (λ (v : GenericArg). v.node)) c.in_ok-values.ensures ∙ unwrapped _ ∙ c.deref.ensures.value in
    rw nodes (gave_fresh c.args.sorts.now _ c.requires.table e.grows.extends e.table e.entries e.changes.saved e.changes.mode e.within e.trees).values.sorts

pub returns-clause-variables : goal.returns-clause-variables
returns-clause-variables c = λ ts later.
    let e = c.in_ok-nodes.ensures in
    let nodes = ap (map (λ (v : GenericArg). v.node)) c.in_ok-values.ensures ∙ unwrapped _ ∙ c.deref.ensures.value in
    trees_unwrapped ts c.in_ok-values.values.items ∙ ap (map (tree_at ts)) nodes ∙ variables_from c.fresh_nodes.new.cx.nodes ts _ c.args.sorts.now c.in_ok-nodes.nodes.items later e.within e.trees
