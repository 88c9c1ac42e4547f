use Rattle.std.proofs.Common.{◌≡◌, ◌∙◌, ◌+◌, Err, ap, length, arith}
use Rattle.nts_model.specs.Terms.Trees.{kind_of}
use Rattle.nts_store.specs.Growth.{tree_at}
use Rattle.nts_unify.specs.Entries.{moved}
use Rattle.nts_placeholder.specs.Closing.{mapped}
use Rattle.nts_placeholder.specs.Universes.{open_before, AreFilled, IsReach}
use Rattle.nts_placeholder.specs.OpeningLaws.{opened_by-same_kind}
use Rattle.nts_placeholder.proofs.OpeningLemmas.{low_of, length-filled, reach_for, reach_once, maps_for, filled_for, open_for, same_fault}
use Rattle.nts_store.specs.declared.nodes.NodeId.{NodeId}
use Rattle.nts_placeholder.specs.Escaping.{escapes}
use Rattle.nts_placeholder.specs.Opening.{opened_by}
use Rattle.nts_placeholder.proofs.KnowingLemmas.{opened_known}
use Rattle.nts_placeholder.proofs.opening.BoundVarReplacer.replace_bound_vars.Given.{Over}
use Rattle.nts_placeholder.proofs.opening.BoundVarReplacer.replace_bound_vars.Goals as goal

pub reach_of-end-requires : goal.reach_of-end-requires
reach_of-end-requires g c =
    low_of _ _ c.args.universe_indices.now.items _ (tree_at c.args.cx.now.nodes (g.T.Stored.id c.args.value)) _ c.in_ok-found.ensures.found (ap (tree_at c.args.cx.now.nodes) c.node.ensures) c.deref-2.ensures.value c.requires.levels (ap length c.deref.ensures.value)

pub returns-in-Err-clause-full : goal.returns-in-Err-clause-full
returns-in-Err-clause-full g c =
    λ e.
    let past = c.fill.ensures.full (c.in-Err.is ∙ ap Err (same_fault e)) in
    let opens = ap (open_before c.reach_of-end.result) c.deref-3.ensures.value in
    record {
      reach = c.reach_of-end.result;
      is_reach = reach_for _ _ c.args.universe_indices.now.items _ (tree_at c.args.cx.now.nodes (g.T.Stored.id c.args.value)) _ c.reach_of-end.result c.in_ok-found.ensures.found (ap (tree_at c.args.cx.now.nodes) c.node.ensures) c.deref-2.ensures.value c.deref.ensures.value c.reach_of-end.ensures;
      past = omega (arith, past, opens, c.universe.ensures);
    }

pub maps_of-requires : goal.maps_of-requires
maps_of-requires g c =
    low_of _ _ c.args.universe_indices.now.items _ (tree_at c.args.cx.now.nodes (g.T.Stored.id c.args.value)) _ c.in_ok-found.ensures.found (ap (tree_at c.args.cx.now.nodes) c.node.ensures) c.deref-4.ensures.value c.requires.levels
    (ap length c.deref-5.ensures.value ∙ ap length c.in-Ok.ensures.list ∙ length-filled _ _ _ ∙ ap length c.deref-3.ensures.value)

pub open_nodes-requires-clause-levels : goal.open_nodes-requires-clause-levels
open_nodes-requires-clause-levels g c =
    let long = ap length c.deref-6.ensures.value ∙ ap length c.in-Ok.ensures.list ∙ length-filled c.universe.result c.reach_of-end.result c.deref-3.result.now ∙ ap length c.deref-3.ensures.value in
    rw (long, c.node-2.ensures) c.requires.levels

pub returns-in-Err-create_universes-clause-full : goal.returns-in-Err-create_universes-clause-full
returns-in-Err-create_universes-clause-full g c =
    λ e.
    let past = c.create_universes.ensures.full.0 (c.in-Err-create_universes.is ∙ ap Err (same_fault e)) in
    let opens = open_for c.args.universe_indices.now.items c.deref-3.result.now c.reach_of-end.result _ c.in-Ok.ensures.count c.deref-3.ensures.value in
    record {
      reach = c.reach_of-end.result;
      is_reach = reach_for _ _ c.args.universe_indices.now.items _ (tree_at c.args.cx.now.nodes (g.T.Stored.id c.args.value)) _ c.reach_of-end.result c.in_ok-found.ensures.found (ap (tree_at c.args.cx.now.nodes) c.node.ensures) c.deref-2.ensures.value c.deref.ensures.value c.reach_of-end.ensures;
      past = omega (arith, past, opens);
    }

pub returns-clause-holds : goal.returns-clause-holds
returns-clause-holds g c =
    let x = tree_at c.args.cx.now.nodes (g.T.Stored.id c.args.value) in
    let same : kind_of (tree_at c.open_nodes.new.nodes c.in_ok-node.node) ≡ kind_of x = ap kind_of c.in_ok-node.ensures.tree ∙ opened_by-same_kind c.deref-6.result.now 0 (tree_at c.args.cx.now.nodes c.node-2.result) ∙ ap kind_of (ap (tree_at c.args.cx.now.nodes) c.node-2.ensures) in
    rw c.from_node.ensures (record { within = c.in_ok-node.ensures.within; fits = rw same c.requires.holds.fits })

pub returns-clause-maps : goal.returns-clause-maps
returns-clause-maps g c =
    maps_for _ _ _ _ (tree_at c.args.cx.now.nodes (g.T.Stored.id c.args.value)) _ (mapped c.in_ok-maps.maps) c.in_ok-found.ensures.found (ap (tree_at c.args.cx.now.nodes) c.node.ensures) c.deref-4.ensures.value c.deref-5.ensures.value c.in_ok-maps.ensures

reached : (g : Over) (c : goal.After-drop-found-2 g) → IsReach c.args.universe_indices.now.items (escapes (tree_at c.args.cx.now.nodes (g.T.Stored.id c.args.value))) c.reach_of-end.result
reached g c =
    reach_for _ _ c.args.universe_indices.now.items _ (tree_at c.args.cx.now.nodes (g.T.Stored.id c.args.value)) _ c.reach_of-end.result c.in_ok-found.ensures.found (ap (tree_at c.args.cx.now.nodes) c.node.ensures) c.deref-2.ensures.value c.deref.ensures.value c.reach_of-end.ensures

filling_of : (g : Over) (c : goal.After-drop-found-2 g) → AreFilled (escapes (tree_at c.args.cx.now.nodes (g.T.Stored.id c.args.value))) c.args.universe_indices.now.items c.in-Ok.filled.universes.items c.args.table.now.entries c.create_universes.new.self.entries
filling_of g c =
    let opens = open_for c.args.universe_indices.now.items c.deref-3.result.now c.reach_of-end.result _ c.in-Ok.ensures.count c.deref-3.ensures.value in
    record {
      reach = c.reach_of-end.result;
      is_reach = reached g c;
      list = filled_for c.args.universe_indices.now.items c.deref-3.result.now _ _ _ c.reach_of-end.result c.in-Ok.ensures.list c.universe.ensures c.deref-3.ensures.value;
      entries = c.in-Ok-create_universes.ensures.entries ∙ ap (λ k. moved c.args.table.now.entries (c.args.table.now.entries.universe + k)) opens;
    }

pub returns-clause-universes : goal.returns-clause-universes
returns-clause-universes g c = filling_of g c

pub returns-clause-enough : goal.returns-clause-enough
returns-clause-enough g c =
    λ r.
    let named = escapes (tree_at c.args.cx.now.nodes (g.T.Stored.id c.args.value)) in
    let reach = reach_once c.args.universe_indices.now.items named r.reach c.reach_of-end.result r.is_reach (reached g c) in
    let counted = ap (λ n. open_before n c.args.universe_indices.now.items) reach in
    let opens = open_for c.args.universe_indices.now.items c.deref-3.result.now c.reach_of-end.result _ c.in-Ok.ensures.count c.deref-3.ensures.value in
    let past = c.create_universes.ensures.full.1 (omega (arith, r.past, counted, opens)) in
    cc (past, c.in-Ok-create_universes.is)

pub returns-clause-knows : goal.returns-clause-knows
returns-clause-knows g c =
    λ law named h.
    let x = tree_at c.args.cx.now.nodes (g.T.Stored.id c.args.value) in
    let tree : tree_at c.open_nodes.new.nodes (g.T.Stored.id c.from_node.result) ≡ opened_by c.in-Ok.filled.universes.items 0 x =
    ap (tree_at c.open_nodes.new.nodes) c.from_node.ensures ∙ c.in_ok-node.ensures.tree ∙ ap (λ U. opened_by U 0 (tree_at c.args.cx.now.nodes c.node-2.result)) c.deref-6.ensures.value ∙ ap (λ (n : NodeId). opened_by c.in-Ok.filled.universes.items 0 (tree_at c.args.cx.now.nodes n)) c.node-2.ensures in
    opened_known _ _ _ _ _ _ (escapes x) x _ c.in_ok-node.ensures.extends law.now named (filling_of g c) tree h
