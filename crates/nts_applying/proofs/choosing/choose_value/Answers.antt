use Rattle.std.proofs.Common.{rules, arith, refl}
use Rattle.nts_model.proofs.Tables.Slots.{Knows-kept}
use Rattle.nts_unify.specs.Reading.{content_of}
use Rattle.nts_canonical.specs.Forms.{kind_of_var, trees_of}
use Rattle.nts_applying.proofs.MadeValues.{made_value, made_known, made_sort, value_keeps, known_originals, original_sort, original_within}
use Rattle.nts_applying.proofs.Stepping.{step_grows}
use Rattle.nts_applying.proofs.Placed.{named_placed, value_placed}
use Rattle.nts_store.proofs.Growing.{Extends-refl}
use Rattle.nts_applying.proofs.choosing.choose_value.Goals as goal

pub returns-in-Some-clause-sort : goal.returns-in-Some-clause-sort
returns-in-Some-clause-sort c =
    original_sort c.args.cx.now.nodes c.args.originals.now (kind_of_var c.args.kind) c.in-Some.n _ (original_within c.args.cx.now.nodes c.args.originals.now (kind_of_var c.args.kind) c.in-Some.n c.requires.kind.original (search rules)) c.requires.kind.original (search rules)

pub overflow_add-universe : goal.overflow_add-universe
overflow_add-universe c = (let l = c.requires.kind.universe in omega (arith, l, c.universe_of.ensures, c.universe-current.ensures))

pub returns-clause-made : goal.returns-clause-made
returns-clause-made c =
    let e = c.in_ok-value.ensures in
    made_value c.args.cx.now.nodes c.value_in.new.cx.nodes c.args.table.now c.value_in.new.table c.args.universe _ (trees_of c.args.cx.now.nodes c.args.originals.now) _ (kind_of_var c.args.kind) _ c.requires.table e.table e.grows.extends (search rules) (search rules) (search rules) e.value

pub returns-clause-keeps : goal.returns-clause-keeps
returns-clause-keeps c =
    let e = c.in_ok-value.ensures in
    value_keeps c.args.cx.now c.value_in.new.cx c.args.table.now c.value_in.new.table (kind_of_var c.args.kind) _ _ c.requires.table e.table e.grows e.changes e.value.adds

pub returns-clause-sort : goal.returns-clause-sort
returns-clause-sort c =
    made_sort c.args.universe (trees_of c.args.cx.now.nodes c.args.originals.now) (kind_of_var c.args.kind) _ (content_of c.args.cx.now.nodes c.args.table.now.entries) (content_of c.value_in.new.cx.nodes c.value_in.new.table.entries) c.requires.kind.original (returns-clause-made c)

pub returns-clause-arg : goal.returns-clause-arg
returns-clause-arg c =
    let e = c.in_ok-value.ensures in
    let k = returns-clause-keeps c in
    let old = content_of c.args.cx.now.nodes c.args.table.now.entries in
    let new = content_of c.value_in.new.cx.nodes c.value_in.new.table.entries in
    record {
      holds = e.holds;
      known = made_known c.args.universe (trees_of c.args.cx.now.nodes c.args.originals.now) (kind_of_var c.args.kind) _ old new
          (λ n. known_originals c.args.cx.now.nodes c.args.table.now.entries new c.args.originals.now n (λ t. Knows-kept old new t k.kinds) c.requires.originals) (let i = k.kinds in i.grows) (returns-clause-made c);
    }

pub returns-in_err-value-clause-keeps : goal.returns-in_err-value-clause-keeps
returns-in_err-value-clause-keeps c = step_grows c.args.cx.now c.value_in.new.cx c.args.table.now c.value_in.new.table c.requires.table c.value_in.ensures.grows (search rules)

pub returns-in-Some-clause-placed : goal.returns-in-Some-clause-placed
returns-in-Some-clause-placed c =
    let e = content_of c.args.cx.now.nodes c.args.table.now.entries in
    named_placed c.args.cx.now.nodes c.args.cx.now.nodes c.args.table.now.entries c.args.table.now.entries c.requires.table.now (Extends-refl c.args.cx.now.nodes) (kind_of_var c.args.kind) _ _ c.in-Some.n (search rules) refl

pub returns-clause-placed : goal.returns-clause-placed
returns-clause-placed c =
    let e = c.in_ok-value.ensures in
    value_placed c.args.cx.now.nodes c.value_in.new.cx.nodes c.args.table.now.entries c.value_in.new.table.entries c.requires.table.now e.grows.extends (kind_of_var c.args.kind) _ _ _ e.value
