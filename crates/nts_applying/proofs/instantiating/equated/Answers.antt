use Rattle.std.proofs.Common.{◌≡◌, Err, map, rules, ap, sym, subst, ◌∙◌}
use Rattle.std.specs.Prelude.{All}
use Rattle.nts_model.specs.Answers.Applying.{MakesEqual}
use Rattle.nts_theory.proofs.Responses.Applied.{FailsToEqual}
use Rattle.nts_store.specs.declared.fault.EvalError.TheVariants.{NoSolution}
use Rattle.nts_store.specs.Growth.{tree_at, AllIn}
use Rattle.nts_terms.specs.Handles.{HoldsArg}
use Rattle.nts_unify.specs.Reading.{content_of}
use Rattle.nts_canonical.specs.Forms.{kind_of_var, trees_of}
use Rattle.nts_canonical.proofs.Filled.{trees_of-nodes}
use Rattle.nts_response.specs.Applied.{IsFillable, PositionsHaveSorts}
use Rattle.nts_response.specs.Instantiated.{values_alone, AreValuesEquated}
use Rattle.nts_response.specs.Replacing.{argument_value}
use Rattle.nts_response.proofs.Each.{same_views, values_kept}
use Rattle.nts_applying.proofs.Stepping.{arg_later}
use Rattle.nts_applying.proofs.ApplySteps.{ChoseFor, chose, args_later, nodes_in}
use Rattle.nts_applying.proofs.EquatedSteps.{values_ready, values_refused, values_applied}
use Rattle.nts_applying.proofs.instantiating.equated.Goals as goal

-- what was chosen
chosen_so : (c : goal.After-deref-2) → ChoseFor c.args.cx.now.nodes c.choose_values.new.cx.nodes c.args.table.now c.choose_values.new.table c.args.originals.now c.args.values.now c.args.kinds.now c.args.max_universe c.in_ok-chosen.chosen.items
chosen_so c =
    let k = c.in_ok-chosen.ensures in
    chose c.args.cx.now.nodes c.choose_values.new.cx.nodes c.args.table.now c.create_universes.new.self c.choose_values.new.table c.args.originals.now c.args.values.now c.args.kinds.now c.args.max_universe c.in_ok-chosen.chosen.items _ c.universe-universe.ensures c.in_ok-create_universes.ensures.entries
    k.chosen k.placed k.args k.sorts k.keeps.grows.extends

-- .. as nodes
nodes_are : (c : goal.After-deref-2) → map (tree_at c.choose_values.new.cx.nodes) c.deref-2.result.now ≡ trees_of c.choose_values.new.cx.nodes c.in_ok-chosen.chosen.items
nodes_are c =
    ap (map (tree_at c.choose_values.new.cx.nodes)) (c.deref-2.ensures.value ∙ (rw c.deref.ensures.value at c.in_ok-nodes.ensures)) ∙ trees_of-nodes c.choose_values.new.cx.nodes c.in_ok-chosen.chosen.items

pub equate_values-requires-clause-chosen : goal.equate_values-requires-clause-chosen
equate_values-requires-clause-chosen c =
    subst (AllIn c.choose_values.new.cx.nodes) (sym (c.deref-2.ensures.value ∙ (rw c.deref.ensures.value at c.in_ok-nodes.ensures))) (nodes_in c.choose_values.new.cx.nodes c.choose_values.new.table.entries c.in_ok-chosen.chosen.items c.in_ok-chosen.ensures.args)

pub equate_values-requires-clause-values : goal.equate_values-requires-clause-values
equate_values-requires-clause-values c =
    let b = c.choose_values.new.cx.nodes in
    subst (λ z. All (λ v. IsFillable b (content_of b c.choose_values.new.table.entries) z v.node) c.args.values.now) (sym (nodes_are c))
    (values_ready c.args.cx.now.nodes b c.args.table.now c.choose_values.new.table c.args.originals.now c.args.values.now c.args.kinds.now c.args.max_universe c.in_ok-chosen.chosen.items c.terms_are_formed.ensures c.requires.table c.requires.originals c.requires.closed c.requires.fits (chosen_so c))

pub equate_values-requires-clause-originals : goal.equate_values-requires-clause-originals
equate_values-requires-clause-originals c =
    args_later c.args.cx.now c.choose_values.new.cx c.args.table.now c.create_universes.new.self c.choose_values.new.table c.args.originals.now c.args.max_universe c.in_ok-create_universes.ensures.entries c.choose_values.ensures.keeps c.requires.originals

pub returns-in_err-equate_values-clause-no : goal.returns-in_err-equate_values-clause-no
returns-in_err-equate_values-clause-no c = λ e.
    let k = c.in_ok-chosen.ensures in
    let b = c.choose_values.new.cx.nodes in
    let same : c.equate_values.result ≡ Err NoSolution = search rules in
    let nodes : map (tree_at b) c.deref-2.result.now ≡ trees_of b c.in_ok-chosen.chosen.items = ap (map (tree_at b)) (c.deref-2.ensures.value ∙ (rw c.deref.ensures.value at c.in_ok-nodes.ensures)) ∙ trees_of-nodes b c.in_ok-chosen.chosen.items in
    values_refused c.args.cx.now.nodes b c.args.table.now c.choose_values.new.table c.args.originals.now c.args.values.now c.args.kinds.now c.args.max_universe c.in_ok-chosen.chosen.items c.terms_are_formed.ensures c.requires.table c.requires.originals c.requires.closed c.requires.fits
    (chose c.args.cx.now.nodes b c.args.table.now c.create_universes.new.self c.choose_values.new.table c.args.originals.now c.args.values.now c.args.kinds.now c.args.max_universe c.in_ok-chosen.chosen.items _ c.universe-universe.ensures c.in_ok-create_universes.ensures.entries
    k.chosen k.placed k.args k.sorts k.keeps.grows.extends)
    (subst (λ z. FailsToEqual z (trees_of b c.args.values.now) (trees_of b c.args.originals.now) (content_of b c.choose_values.new.table.entries)) nodes (c.equate_values.ensures.no same))

pub returns-clause-equated : goal.returns-clause-equated
returns-clause-equated c =
    let k = c.in_ok-chosen.ensures in
    let b = c.choose_values.new.cx.nodes in
    let d = c.equate_values.new.cx.nodes in
    let u = c.choose_values.new.table in
    let w = c.equate_values.new.table in
    let nodes : map (tree_at b) c.deref-2.result.now ≡ trees_of b c.in_ok-chosen.chosen.items = ap (map (tree_at b)) (c.deref-2.ensures.value ∙ (rw c.deref.ensures.value at c.in_ok-nodes.ensures)) ∙ trees_of-nodes b c.in_ok-chosen.chosen.items in
    let grew = c.equate_values.ensures.keeps.grows in
    let same : trees_of d c.in_ok-chosen.chosen.items ≡ trees_of b c.in_ok-chosen.chosen.items = same_views HoldsArg argument_value values_kept b d c.in_ok-chosen.chosen.items (λ i j l. (let x = k.args i j l in x.holds)) grew.extends in
    subst (AreValuesEquated (content_of c.args.cx.now.nodes c.args.table.now.entries) (content_of d w.entries) (trees_of c.args.cx.now.nodes c.args.originals.now) (values_alone (trees_of c.args.cx.now.nodes c.args.values.now) (map kind_of_var c.args.kinds.now) c.args.max_universe)) (sym same)
    (values_applied c.args.cx.now.nodes b c.args.table.now u c.args.originals.now c.args.values.now c.args.kinds.now c.args.max_universe c.in_ok-chosen.chosen.items c.terms_are_formed.ensures c.requires.table c.requires.originals c.requires.closed c.requires.fits
    (chose c.args.cx.now.nodes b c.args.table.now c.create_universes.new.self u c.args.originals.now c.args.values.now c.args.kinds.now c.args.max_universe c.in_ok-chosen.chosen.items _ c.universe-universe.ensures c.in_ok-create_universes.ensures.entries
    k.chosen k.placed k.args k.sorts k.keeps.grows.extends)
    d w c.terms_are_formed-2.ensures c.equate_values.ensures.keeps.table c.equate_values.ensures.later
    (subst (λ z. MakesEqual z (trees_of b c.args.values.now) (trees_of b c.args.originals.now) (content_of b u.entries) (content_of d w.entries)) nodes c.in_ok-equate_values.ensures.equal))

pub returns-clause-args : goal.returns-clause-args
returns-clause-args c = λ k d l. arg_later c.equate_values.ensures.keeps (c.in_ok-chosen.ensures.args k d l)

pub returns-clause-sorts : goal.returns-clause-sorts
returns-clause-sorts c =
    let k = c.in_ok-chosen.ensures in
    let grew = c.equate_values.ensures.keeps.grows in
    subst (PositionsHaveSorts (map kind_of_var c.args.kinds.now)) (sym (same_views HoldsArg argument_value values_kept c.choose_values.new.cx.nodes c.equate_values.new.cx.nodes c.in_ok-chosen.chosen.items (λ i j l. (let x = k.args i j l in x.holds)) grew.extends)) k.sorts

pub returns-clause-originals : goal.returns-clause-originals
returns-clause-originals c = λ k d l.
    arg_later c.equate_values.ensures.keeps
    (args_later c.args.cx.now c.choose_values.new.cx c.args.table.now c.create_universes.new.self c.choose_values.new.table c.args.originals.now c.args.max_universe c.in_ok-create_universes.ensures.entries c.choose_values.ensures.keeps c.requires.originals k d l)
