use Rattle.std.proofs.Common.{◌≡◌, rules, Err, map, ap, subst, ◌∙◌}
use Rattle.nts_theory.proofs.Responses.Applied.{FailsToEqual}
use Rattle.nts_store.specs.declared.fault.EvalError.TheVariants.{NoSolution}
use Rattle.nts_unify.specs.Reading.{content_of}
use Rattle.nts_unify.specs.Recording.{is_visible}
use Rattle.nts_response.specs.Forms.{findings_at}
use Rattle.nts_response.specs.Applicable.{IsPut}
use Rattle.nts_store.specs.Growth.{tree_at}
use Rattle.nts_unify.specs.Entries.{Entries}
use Rattle.nts_canonical.specs.Forms.{trees_of}
use Rattle.nts_canonical.proofs.Filled.{trees_of-nodes}
use Rattle.nts_applying.proofs.ApplySteps.{Chose, chose, args_later, nodes_in, chosen_ready, refuses, is_applied, applied_labels}
use Rattle.nts_applying.proofs.applying.apply.Goals as goal

-- what was chosen
chosen_so : (c : goal.After-deref-4) → Chose c.args.cx.now.nodes c.choose_values.new.cx.nodes c.args.table.now c.choose_values.new.table c.args.originals.now c.args.response.now c.in_ok-chosen.chosen.items
chosen_so c =
    let k = c.in_ok-chosen.ensures in
    chose c.args.cx.now.nodes c.choose_values.new.cx.nodes c.args.table.now c.create_universes.new.self c.choose_values.new.table c.args.originals.now c.args.response.now.value.var_values.items c.args.response.now.var_kinds.items c.args.response.now.max_universe c.in_ok-chosen.chosen.items _ c.universe-universe.ensures c.in_ok-create_universes.ensures.entries
    (rw (c.deref.ensures.value, c.deref-2.ensures.value) at k.chosen) (rw c.deref.ensures.value at k.placed) k.args (rw c.deref.ensures.value at k.sorts) k.keeps.grows.extends

-- .. as nodes
nodes_are : (c : goal.After-deref-4) → map (tree_at c.choose_values.new.cx.nodes) c.deref-4.result.now ≡ trees_of c.choose_values.new.cx.nodes c.in_ok-chosen.chosen.items
nodes_are c =
    ap (map (tree_at c.choose_values.new.cx.nodes)) (c.deref-4.ensures.value ∙ (rw c.deref-3.ensures.value at c.in_ok-chosen-2.ensures)) ∙ trees_of-nodes c.choose_values.new.cx.nodes c.in_ok-chosen.chosen.items

pub put-requires-clause-originals : goal.put-requires-clause-originals
put-requires-clause-originals c =
    args_later c.args.cx.now c.choose_values.new.cx c.args.table.now c.create_universes.new.self c.choose_values.new.table c.args.originals.now c.args.response.now.max_universe c.in_ok-create_universes.ensures.entries c.choose_values.ensures.keeps c.requires.originals

pub put-requires-clause-chosen : goal.put-requires-clause-chosen
put-requires-clause-chosen c =
    rw (c.deref-4.ensures.value ∙ (rw c.deref-3.ensures.value at c.in_ok-chosen-2.ensures)) (nodes_in c.choose_values.new.cx.nodes c.choose_values.new.table.entries c.in_ok-chosen.chosen.items c.in_ok-chosen.ensures.args)

pub put-requires-clause-ready : goal.put-requires-clause-ready
put-requires-clause-ready c =
    let k = chosen_ready c.args.cx.now.nodes c.choose_values.new.cx.nodes c.args.table.now c.choose_values.new.table c.args.originals.now c.args.response.now c.in_ok-chosen.chosen.items c.terms_are_formed.ensures c.requires.table c.requires.originals c.requires.closed c.requires.fits (chosen_so c) in
    rw (nodes_are c) k.ready

pub returns-in_err-goals-clause-no : goal.returns-in_err-goals-clause-no
returns-in_err-goals-clause-no c = λ e.
    let k = c.in_ok-chosen.ensures in
    let b = c.choose_values.new.cx.nodes in
    let same : c.put.result ≡ Err NoSolution = search rules in
    let nodes : map (tree_at b) c.deref-4.result.now ≡ trees_of b c.in_ok-chosen.chosen.items = ap (map (tree_at b)) (c.deref-4.ensures.value ∙ (rw c.deref-3.ensures.value at c.in_ok-chosen-2.ensures)) ∙ trees_of-nodes b c.in_ok-chosen.chosen.items in
    refuses c.args.cx.now.nodes b c.args.table.now c.choose_values.new.table c.args.originals.now c.args.response.now c.in_ok-chosen.chosen.items c.terms_are_formed.ensures c.requires.table c.requires.originals c.requires.closed c.requires.fits
    (chose c.args.cx.now.nodes c.choose_values.new.cx.nodes c.args.table.now c.create_universes.new.self c.choose_values.new.table c.args.originals.now c.args.response.now.value.var_values.items c.args.response.now.var_kinds.items c.args.response.now.max_universe c.in_ok-chosen.chosen.items _ c.universe-universe.ensures c.in_ok-create_universes.ensures.entries
    (rw (c.deref.ensures.value, c.deref-2.ensures.value) at k.chosen) (rw c.deref.ensures.value at k.placed) k.args (rw c.deref.ensures.value at k.sorts) k.keeps.grows.extends)
    (subst (λ z. FailsToEqual z (trees_of b c.args.response.now.value.var_values.items) (trees_of b c.args.originals.now) (content_of b c.choose_values.new.table.entries)) nodes (c.put.ensures.no same))

pub returns-clause-applied : goal.returns-clause-applied
returns-clause-applied c =
    let k = c.in_ok-chosen.ensures in
    let b = c.choose_values.new.cx.nodes in
    let nodes : map (tree_at b) c.deref-4.result.now ≡ trees_of b c.in_ok-chosen.chosen.items = ap (map (tree_at b)) (c.deref-4.ensures.value ∙ (rw c.deref-3.ensures.value at c.in_ok-chosen-2.ensures)) ∙ trees_of-nodes b c.in_ok-chosen.chosen.items in
    let hidden : c.choose_values.new.table.entries.hidden ≡ c.args.table.now.entries.hidden = k.keeps.hidden ∙ ap (λ (z : Entries). z.hidden) c.in_ok-create_universes.ensures.entries in
    is_applied c.args.cx.now.nodes b c.args.table.now c.choose_values.new.table c.args.originals.now c.args.response.now c.in_ok-chosen.chosen.items c.terms_are_formed.ensures c.requires.table c.requires.originals c.requires.closed c.requires.fits
    (chose c.args.cx.now.nodes c.choose_values.new.cx.nodes c.args.table.now c.create_universes.new.self c.choose_values.new.table c.args.originals.now c.args.response.now.value.var_values.items c.args.response.now.var_kinds.items c.args.response.now.max_universe c.in_ok-chosen.chosen.items _ c.universe-universe.ensures c.in_ok-create_universes.ensures.entries
    (rw (c.deref.ensures.value, c.deref-2.ensures.value) at k.chosen) (rw c.deref.ensures.value at k.placed) k.args (rw c.deref.ensures.value at k.sorts) k.keeps.grows.extends)
    c.put.new.cx.nodes c.put.new.table (is_visible c.args.visible) c.in_ok-goals.goals.items c.terms_are_formed-2.ensures c.put.ensures.table hidden
    (subst (λ z. IsPut b c.put.new.cx.nodes c.choose_values.new.table.entries c.put.new.table.entries (trees_of b c.args.originals.now) z (findings_at b c.args.response.now.value) (is_visible c.args.visible) c.in_ok-goals.goals.items) nodes c.in_ok-goals.ensures.put)

pub returns-clause-labels : goal.returns-clause-labels
returns-clause-labels c =
    let k = c.in_ok-chosen.ensures in
    let b = c.choose_values.new.cx.nodes in
    let nodes : map (tree_at b) c.deref-4.result.now ≡ trees_of b c.in_ok-chosen.chosen.items = ap (map (tree_at b)) (c.deref-4.ensures.value ∙ (rw c.deref-3.ensures.value at c.in_ok-chosen-2.ensures)) ∙ trees_of-nodes b c.in_ok-chosen.chosen.items in
    applied_labels c.args.cx.now.nodes b c.args.table.now c.choose_values.new.table c.args.originals.now c.args.response.now c.in_ok-chosen.chosen.items c.terms_are_formed.ensures c.requires.table c.requires.originals c.requires.closed c.requires.fits
    (chose c.args.cx.now.nodes c.choose_values.new.cx.nodes c.args.table.now c.create_universes.new.self c.choose_values.new.table c.args.originals.now c.args.response.now.value.var_values.items c.args.response.now.var_kinds.items c.args.response.now.max_universe c.in_ok-chosen.chosen.items _ c.universe-universe.ensures c.in_ok-create_universes.ensures.entries
    (rw (c.deref.ensures.value, c.deref-2.ensures.value) at k.chosen) (rw c.deref.ensures.value at k.placed) k.args (rw c.deref.ensures.value at k.sorts) k.keeps.grows.extends)
    c.put.new.cx.nodes c.put.new.table (is_visible c.args.visible) c.in_ok-goals.goals.items
    (subst (λ z. IsPut b c.put.new.cx.nodes c.choose_values.new.table.entries c.put.new.table.entries (trees_of b c.args.originals.now) z (findings_at b c.args.response.now.value) (is_visible c.args.visible) c.in_ok-goals.goals.items) nodes c.in_ok-goals.ensures.put)
