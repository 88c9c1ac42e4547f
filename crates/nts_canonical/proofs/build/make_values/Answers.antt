use Rattle.std.proofs.Common.{ap, ◌∙◌, arith, map, take}
use Rattle.std.proofs.lemmas.Option.{slice_get-get_or}
use Rattle.nts_store.proofs.Growing.{Extends-trans}
use Rattle.nts_terms.proofs.Moved.{KeepsRest-trans}
use Rattle.nts_unify.proofs.Changes.{slice_get-map}
use Rattle.nts_canonical.specs.Forms.{kind_of_var}
use Rattle.nts_canonical.proofs.Valued.{args-known, made_more, root_kinds, root_taken, root_universe}
use Rattle.nts_canonical.proofs.build.make_values.Goals as goal

pub value_in-requires-clause-values : goal.value_in-requires-clause-values
value_in-requires-clause-values c =
    let m = c.loop-i.invariant.made in
    rw c.as_slice.ensures.value (args-known c.loop-i.cx.nodes c.loop-i.table.entries c.loop-i.values.items (take c.loop-i.i (map kind_of_var c.args.kinds.now)) m.args (ap (λ e. e.variables) m.entries) (root_taken (map kind_of_var c.args.kinds.now) c.loop-i.i (root_kinds (map kind_of_var c.args.kinds.now) c.requires.kinds)))

pub value_in-requires-clause-named : goal.value_in-requires-clause-named
value_in-requires-clause-named c =
    let root = root_universe c.args.kinds.now c.loop-i.i _ _ c.requires.kinds (omega (arith, c.loop-i-test.true)) c.universe_of.ensures in
    omega (arith, root)

pub loop-i-preserved : goal.loop-i-preserved
loop-i-preserved c =
    let i = c.loop-i.invariant in
    let r = c.in_ok-value.ensures in
    let a = c.loop-i.cx.nodes in
    let b = c.value_in.new.cx.nodes in
    let at = slice_get-map kind_of_var c.args.kinds.now c.loop-i.i _ (slice_get-get_or c.args.kinds.now c.loop-i.i _ (omega (arith, c.loop-i-test.true))) in
    record {
      made = made_more a b c.loop-i.values.items c.push.new.self.items c.in_ok-value.value c.args.table.now.entries c.loop-i.table.entries c.value_in.new.table.entries (map kind_of_var c.args.kinds.now) c.loop-i.i _ _ _ i.made c.requires.kinds at i.table.now.descends r.grows.extends r.holds r.value c.universe_of.ensures c.as_slice.ensures.value c.in_ok-push.ensures.items;
      saved = r.changes.saved ∙ i.saved;
      mode = r.changes.mode ∙ i.mode;
      table = r.table;
      extends = Extends-trans i.extends r.grows.extends;
      rest = KeepsRest-trans i.rest r.grows.rest;
    }
