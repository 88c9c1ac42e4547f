use Rattle.std.proofs.Common.{◌-◌, ◌<◌, length, take, drop, get_or, arith, rules}
use Rattle.std.specs.Prelude.{All}
use Rattle.std.proofs.lemmas.List.Elements.{All-take, All-drop}
use Rattle.nts_store.specs.Growth.{tree_at}
use Rattle.nts_terms.specs.declared.handles.GenericArg.{GenericArg}
use Rattle.nts_terms.specs.Handles.{HoldsArg}
use Rattle.nts_applying.proofs.MissingSteps.{fresh_new, fresh_keeps, missing_more}
use Rattle.nts_applying.proofs.Stepping.{step_grows, step_then}
use Rattle.nts_applying.proofs.instantiating.with_missing.Goals as goal

pub returns-in_err-value-clause-keeps : goal.returns-in_err-value-clause-keeps
returns-in_err-value-clause-keeps c =
    let e = c.fresh_var_for_kind_with_span.ensures in
    let k = c.loop-i.invariant.keeps in
    step_then k (step_grows c.loop-i.cx c.fresh_var_for_kind_with_span.new.cx c.loop-i.table c.fresh_var_for_kind_with_span.new.self k.table e.grows (search rules))

pub returns-in_err-push-clause-keeps : goal.returns-in_err-push-clause-keeps
returns-in_err-push-clause-keeps c =
    let e = c.fresh_var_for_kind_with_span.ensures in
    let k = c.loop-i.invariant.keeps in
    step_then k (fresh_keeps c.loop-i.cx c.fresh_var_for_kind_with_span.new.cx c.loop-i.table c.fresh_var_for_kind_with_span.new.self _ _ k.table e.table e.grows e.changes c.in_ok-value.ensures.fresh)

pub loop-i-preserved : goal.loop-i-preserved
loop-i-preserved c =
    let e = c.fresh_var_for_kind_with_span.ensures in
    let k = c.loop-i.invariant.keeps in
    let a = c.loop-i.cx in
    let b = c.fresh_var_for_kind_with_span.new.cx in
    let t = c.loop-i.table in
    let u = c.fresh_var_for_kind_with_span.new.self in
    let missing = take (length c.args.values.now - length c.args.orig_values.now) (drop (length c.args.orig_values.now) c.args.values.now) in
    let d : GenericArg = record { node = record { number = 0 } } in
    let below : c.loop-i.i < length missing = omega (arith, c.loop-i-test.true) in
    let held : All (HoldsArg c.args.cx.now.nodes) missing = All-take (HoldsArg c.args.cx.now.nodes) _ _ (All-drop (HoldsArg c.args.cx.now.nodes) _ c.args.values.now c.requires.values) in
    let step = fresh_keeps a b t u _ _ k.table e.table e.grows e.changes c.in_ok-value.ensures.fresh in
    record {
      added = missing_more c.args.cx.now a b c.args.table.now t u c.args.orig_values.now missing c.loop-i.originals.items c.push.new.self.items c.loop-i.i d c.in_ok-value.value below held k step c.loop-i.invariant.added
          (fresh_new a b t u (tree_at a.nodes (get_or missing c.loop-i.i d).node) (tree_at b.nodes c.in_ok-value.value.node) k.table e.table e.grows c.in_ok-value.ensures.fresh) c.in_ok-value.ensures.holds c.in_ok-push.ensures.items;
      keeps = step_then k step;
    }
