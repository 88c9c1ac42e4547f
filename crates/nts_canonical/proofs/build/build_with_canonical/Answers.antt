use Rattle.std.proofs.Common.{◌≡◌, [], refl, ap, ◌∙◌, map}
use Rattle.nts_store.proofs.Growing.{Extends-refl, Extends-trans}
use Rattle.nts_table.specs.TableLaws.{IsTable-extended}
use Rattle.nts_unify.specs.Reading.{content_of}
use Rattle.nts_canonical.specs.Forms.{kind_of_var, form_of, query_tree, trees_of}
use Rattle.nts_canonical.specs.Kinds.{value_leaves, made_variables}
use Rattle.nts_canonical.specs.Building.{kinds_of, values_of}
use Rattle.nts_canonical.specs.Replaced.{AreLeafArgs}
use Rattle.nts_canonical.proofs.PairLists.{AreLeafArgs-kept, AreLeafArgs-hold}
use Rattle.nts_canonical.proofs.Kinded.{have_kinds}
use Rattle.nts_canonical.proofs.Valued.{args-known, root_kinds}
use Rattle.nts_canonical.proofs.Registered.{hidden-of-row}
use Rattle.nts_canonical.proofs.Built.{holds-kept, query_tree-kept, value-trees, values-fit, query-made, query-known}
use Rattle.nts_canonical.proofs.build.build_with_canonical.Goals as goal

pub make_values-requires-clause-kinds : goal.make_values-requires-clause-kinds
make_values-requires-clause-kinds c = rw c.deref.ensures.value c.requires.kinds

pub instantiate_query-requires-clause-holds : goal.instantiate_query-requires-clause-holds
instantiate_query-requires-clause-holds c =
    holds-kept c.args.cx.now.nodes c.make_values.new.cx.nodes c.args.input.now.canonical.value c.requires.holds c.make_values.ensures.grows.extends

pub instantiate_query-requires-clause-values : goal.instantiate_query-requires-clause-values
instantiate_query-requires-clause-values c =
    rw c.as_slice.ensures.value (AreLeafArgs-hold c.make_values.new.cx.nodes c.in_ok-values.values.items _ c.in_ok-values.ensures.values)

pub instantiate_query-requires-clause-positions : goal.instantiate_query-requires-clause-positions
instantiate_query-requires-clause-positions c =
    let b = c.make_values.new.cx.nodes in
    let ks = kinds_of c.args.input.now in
    let given : AreLeafArgs b c.in_ok-values.values.items (value_leaves 0 ks) = rw c.deref.ensures.value at c.in_ok-values.ensures.values in
    let are = value-trees b b c.in_ok-values.values.items c.as_slice.result.now ks given (Extends-refl b) c.as_slice.ensures.value in
    values-fit c.args.cx.now.nodes b c.args.input.now.canonical.value (trees_of b c.as_slice.result.now) (values_of c.args.input.now) c.requires.holds c.make_values.ensures.grows.extends are c.requires.positions

pub register_hidden-requires-clause-table : goal.register_hidden-requires-clause-table
register_hidden-requires-clause-table c = IsTable-extended c.instantiate_query.ensures.grows.extends c.make_values.ensures.table

pub register_hidden-requires-clause-hidden : goal.register_hidden-requires-clause-hidden
register_hidden-requires-clause-hidden c =
    let a = c.args.cx.now.nodes in
    let b = c.make_values.new.cx.nodes in
    let d = c.instantiate_query.new.cx.nodes in
    let q = c.args.input.now.canonical.value in
    let ks = kinds_of c.args.input.now in
    let f = c.make_values.new.table.entries in
    let given : AreLeafArgs b c.in_ok-values.values.items (value_leaves 0 ks) = rw c.deref.ensures.value at c.in_ok-values.ensures.values in
    let are = value-trees b b c.in_ok-values.values.items c.as_slice.result.now ks given (Extends-refl b) c.as_slice.ensures.value in
    let made = query-made a b q (trees_of b c.as_slice.result.now) (values_of c.args.input.now) (query_tree d c.in_ok-query.query) c.requires.holds c.make_values.ensures.grows.extends are c.in_ok-query.ensures.tree in
    let variables : f.variables ≡ made_variables [] ks = ap (λ e. e.variables) c.in_ok-values.ensures.entries ∙ ap (λ us. made_variables [] (map kind_of_var us)) c.deref.ensures.value in
    let known = query-known d f ks (query_tree d c.in_ok-query.query) (query_tree a q) variables (root_kinds ks c.requires.kinds) c.requires.no_name c.requires.well_bound made in
    rw c.deref-2.ensures.value (hidden-of-row d (content_of d f) c.in_ok-query.query.predefined_opaques_in_body.items c.in_ok-query.ensures.holds.hidden known.1.1.0)

pub returns-clause-values : goal.returns-clause-values
returns-clause-values c =
    let b = c.make_values.new.cx.nodes in
    let given : AreLeafArgs b c.in_ok-values.values.items (value_leaves 0 (kinds_of c.args.input.now)) = rw c.deref.ensures.value at c.in_ok-values.ensures.values in
    value-trees b c.register_hidden.new.cx.nodes c.in_ok-values.values.items c.in_ok-values.values.items (kinds_of c.args.input.now) given (Extends-trans c.instantiate_query.ensures.grows.extends c.register_hidden.ensures.grows.extends) refl

pub returns-clause-query : goal.returns-clause-query
returns-clause-query c =
    let b = c.make_values.new.cx.nodes in
    let d = c.instantiate_query.new.cx.nodes in
    let ks = kinds_of c.args.input.now in
    let given : AreLeafArgs b c.in_ok-values.values.items (value_leaves 0 ks) = rw c.deref.ensures.value at c.in_ok-values.ensures.values in
    let are = value-trees b b c.in_ok-values.values.items c.as_slice.result.now ks given (Extends-refl b) c.as_slice.ensures.value in
    query_tree-kept d c.register_hidden.new.cx.nodes c.in_ok-query.query c.in_ok-query.ensures.holds c.register_hidden.ensures.grows.extends
    ∙ query-made c.args.cx.now.nodes b c.args.input.now.canonical.value (trees_of b c.as_slice.result.now) (values_of c.args.input.now) (query_tree d c.in_ok-query.query) c.requires.holds c.make_values.ensures.grows.extends are c.in_ok-query.ensures.tree

pub returns-clause-kinds : goal.returns-clause-kinds
returns-clause-kinds c =
    let t = c.register_hidden.new.table in
    let ks = kinds_of c.args.input.now in
    let variables : t.entries.variables ≡ made_variables [] ks = ap (λ e. e.variables) (c.in_ok-register_hidden.ensures.entries ∙ (λ i. record (c.in_ok-values.ensures.entries i) { hidden = record ((c.in_ok-values.ensures.entries i).hidden) { lookup = t.entries.hidden.lookup } })) ∙ ap (λ us. made_variables [] (map kind_of_var us)) c.deref.ensures.value in
    have_kinds (form_of c.args.cx.now.nodes c.args.input.now) t.entries c.in_ok-register_hidden.ensures.table.now.descends variables c.requires.kinds

pub returns-clause-args : goal.returns-clause-args
returns-clause-args c =
    let b = c.make_values.new.cx.nodes in
    let e = c.register_hidden.new.cx.nodes in
    let t = c.register_hidden.new.table in
    let ks = kinds_of c.args.input.now in
    let xs = c.in_ok-values.values.items in
    let given : AreLeafArgs b xs (value_leaves 0 ks) = rw c.deref.ensures.value at c.in_ok-values.ensures.values in
    let variables : t.entries.variables ≡ made_variables [] ks = ap (λ e. e.variables) (c.in_ok-register_hidden.ensures.entries ∙ (λ i. record (c.in_ok-values.ensures.entries i) { hidden = record ((c.in_ok-values.ensures.entries i).hidden) { lookup = t.entries.hidden.lookup } })) ∙ ap (λ us. made_variables [] (map kind_of_var us)) c.deref.ensures.value in
    args-known e t.entries xs ks (AreLeafArgs-kept b e xs (value_leaves 0 ks) given (Extends-trans c.instantiate_query.ensures.grows.extends c.register_hidden.ensures.grows.extends)) variables (root_kinds ks c.requires.kinds)

pub returns-clause-holds : goal.returns-clause-holds
returns-clause-holds c =
    holds-kept c.instantiate_query.new.cx.nodes c.register_hidden.new.cx.nodes c.in_ok-query.query c.in_ok-query.ensures.holds c.register_hidden.ensures.grows.extends

pub returns-clause-knows : goal.returns-clause-knows
returns-clause-knows c =
    let t = c.register_hidden.new.table in
    let ks = kinds_of c.args.input.now in
    let variables : t.entries.variables ≡ made_variables [] ks = ap (λ e. e.variables) (c.in_ok-register_hidden.ensures.entries ∙ (λ i. record (c.in_ok-values.ensures.entries i) { hidden = record ((c.in_ok-values.ensures.entries i).hidden) { lookup = t.entries.hidden.lookup } })) ∙ ap (λ us. made_variables [] (map kind_of_var us)) c.deref.ensures.value in
    query-known c.register_hidden.new.cx.nodes t.entries ks _ (query_tree c.args.cx.now.nodes c.args.input.now.canonical.value) variables (root_kinds ks c.requires.kinds) c.requires.no_name c.requires.well_bound (returns-clause-query c)
