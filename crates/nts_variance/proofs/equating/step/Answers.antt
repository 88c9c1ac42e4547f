use Rattle.std.proofs.Common.{◌≡◌, inl, [], ◌∷◌, ◌++◌, ◌∙◌, ap, sym}
use Rattle.std.proofs.lemmas.List.{append-nil}
use Rattle.nts_model.proofs.Tables.Held.{Continues-refl}
use Rattle.nts_store.proofs.Growing.{Extends-refl}
use Rattle.nts_unify.specs.Reading.{content_of}
use Rattle.nts_variance.proofs.Calls.{pair_known}
use Rattle.nts_variance.proofs.DueCalls.{due_on}
use Rattle.nts_variance.proofs.Dues.{aliases_due}
use Rattle.nts_variance.specs.Terms.{pairs_at}
use Rattle.nts_variance.proofs.Growing.{grown_refl}
use Rattle.nts_terms.specs.Signatures.{variances_in}
use Rattle.nts_unify.proofs.Tests.{is_true, is_false}
use Rattle.nts_variance.proofs.Equalled.{ready_front, heads_one, heads_standing, heads_ready, step_done, step_owed, step_passed, step_bound, step_parts, step_stands}
use Rattle.nts_variance.proofs.MetGoals.{met_among, met_keys, new_keys}
use Rattle.nts_variance.proofs.equating.step.Goals as goal

pub at_heads-heads-requires-clause-pair : goal.at_heads-heads-requires-clause-pair
at_heads-heads-requires-clause-pair c = (ready_front (variances_in c.args.declarations.now) c.args.nodes.now c.args.table.now.entries c.args.call.now.pairs.items c.args.pair c.requires.ready).1

pub returns-in-Ok-Done-clause-step : goal.returns-in-Ok-Done-clause-step
returns-in-Ok-Done-clause-step c =
    let declared = variances_in c.args.declarations.now in
    let ts = c.args.nodes.now in
    let us = c.take_equal.new.nodes in
    let e = c.args.table.now.entries in
    let f = c.take_equal.new.table.entries in
    let call = c.args.call.now in
    let h = c.at_heads-heads.result in
    let are = c.at_heads-heads.ensures in
    let t = rw c.in-Ok-Done.field-0-is at c.in-Ok-Done.ensures.taken in
    let paid = rw c.in-Ok-Done.field-0-is at c.in-Ok-Done.ensures.paid in
    step_stands declared ts us e f call.pairs.items c.args.pair h.pair call.pairs.items call.met.keys call.met.keys call.goals.items call.goals.items _ (heads_standing declared ts e call.pairs.items c.args.pair h c.requires.ready are)
    (step_done declared ts us e f call.pairs.items h.pair call.met.keys call.goals.items (heads_ready declared ts e call.pairs.items c.args.pair h c.requires.ready are) c.in-Ok-Done.ensures.extends t.0 t.1 paid)

pub returns-in_ok-push-in-Ok-Owed-clause-step : goal.returns-in_ok-push-in-Ok-Owed-clause-step
returns-in_ok-push-in-Ok-Owed-clause-step c =
    let declared = variances_in c.args.declarations.now in
    let ts = c.args.nodes.now in
    let e = c.args.table.now.entries in
    let call = c.args.call.now in
    let h = c.at_heads-heads.result in
    let are = c.at_heads-heads.ensures in
    let t = rw c.in-Ok-Owed.field-0-is at c.in-Ok-Owed.ensures.taken in
    let s = c.in_ok-insert-in-Ok-Owed.ensures in
    let lacks = is_false _ _ s.added c.if-not-branch.false in
    rw (t.0, t.1) (step_stands declared ts ts e e call.pairs.items c.args.pair h.pair call.pairs.items call.met.keys c.insert.new.self.keys call.goals.items c.push.new.self.items _ (heads_standing declared ts e call.pairs.items c.args.pair h c.requires.ready are)
    (step_owed declared ts e call.pairs.items h.pair call.met.keys c.insert.new.self.keys call.goals.items c.push.new.self.items (heads_ready declared ts e call.pairs.items c.args.pair h c.requires.ready are) t.2 c.in_ok-push-in-Ok-Owed.ensures.items (s.keys ∙ new_keys call.met.keys h.pair lacks)))

pub returns-in_ok-extend_from_slice-in-Ok-Bound-clause-step : goal.returns-in_ok-extend_from_slice-in-Ok-Bound-clause-step
returns-in_ok-extend_from_slice-in-Ok-Bound-clause-step c =
    let declared = variances_in c.args.declarations.now in
    let ts = c.args.nodes.now in
    let us = c.take_equal.new.nodes in
    let e = c.args.table.now.entries in
    let f = c.take_equal.new.table.entries in
    let call = c.args.call.now in
    let h = c.at_heads-heads.result in
    let are = c.at_heads-heads.ensures in
    let t = rw c.in-Ok-Bound.field-0-is at c.in-Ok-Bound.ensures.taken in
    let paid = rw c.in-Ok-Bound.field-0-is at c.in-Ok-Bound.ensures.paid in
    let items : c.extend_from_slice.new.self.items ≡ call.goals.items ++ c.in-Ok-Bound.goals.items = c.in_ok-extend_from_slice-in-Ok-Bound.ensures.items ∙ ap (λ x. call.goals.items ++ x) c.deref.ensures.value in
    step_stands declared ts us e f call.pairs.items c.args.pair h.pair call.pairs.items call.met.keys call.met.keys call.goals.items c.extend_from_slice.new.self.items _ (heads_standing declared ts e call.pairs.items c.args.pair h c.requires.ready are)
    (step_bound declared ts us e f call.pairs.items h.pair call.met.keys call.goals.items c.in-Ok-Bound.goals.items c.extend_from_slice.new.self.items (heads_ready declared ts e call.pairs.items c.args.pair h c.requires.ready are) c.in-Ok-Bound.ensures.extends t.0 t.1 t.3 t.2 paid items)

pub returns-then-not-branch-clause-step : goal.returns-then-not-branch-clause-step
returns-then-not-branch-clause-step c =
    let declared = variances_in c.args.declarations.now in
    let ts = c.args.nodes.now in
    let e = c.args.table.now.entries in
    let call = c.args.call.now in
    let h = c.at_heads-heads.result in
    let are = c.at_heads-heads.ensures in
    let t = rw c.in-Ok-Owed.field-0-is at c.in-Ok-Owed.ensures.taken in
    let s = c.in_ok-insert-in-Ok-Owed.ensures in
    let found = is_true _ _ s.added c.if-not-branch.true in
    rw (t.0, t.1) (step_stands declared ts ts e e call.pairs.items c.args.pair h.pair call.pairs.items call.met.keys c.insert.new.self.keys call.goals.items call.goals.items _ (heads_standing declared ts e call.pairs.items c.args.pair h c.requires.ready are)
    (step_passed declared ts e call.pairs.items h.pair call.met.keys c.insert.new.self.keys call.goals.items (heads_ready declared ts e call.pairs.items c.args.pair h c.requires.ready are) (met_among ts call.met.keys h.pair found) (s.keys ∙ met_keys call.met.keys h.pair found)))

pub returns-then-not-branch-2-clause-step : goal.returns-then-not-branch-2-clause-step
returns-then-not-branch-2-clause-step c =
    let declared = variances_in c.args.declarations.now in
    let ts = c.args.nodes.now in
    let e = c.args.table.now.entries in
    let call = c.args.call.now in
    let h = c.at_heads-heads.result in
    let are = c.at_heads-heads.ensures in
    let t = rw c.in-Ok-Parts.field-0-is at c.in-Ok-Parts.ensures.taken in
    let s = c.in_ok-insert-in-Ok-Parts.ensures in
    let found = is_true _ _ s.added c.if-not-branch-2.true in
    rw (t.0, t.1) (step_stands declared ts ts e e call.pairs.items c.args.pair h.pair call.pairs.items call.met.keys c.insert-in-Ok-Parts.new.self.keys call.goals.items call.goals.items _ (heads_standing declared ts e call.pairs.items c.args.pair h c.requires.ready are)
    (step_passed declared ts e call.pairs.items h.pair call.met.keys c.insert-in-Ok-Parts.new.self.keys call.goals.items (heads_ready declared ts e call.pairs.items c.args.pair h c.requires.ready are) (met_among ts call.met.keys h.pair found) (s.keys ∙ met_keys call.met.keys h.pair found)))

pub returns-in_ok-push_pairs-in-Ok-Parts-clause-step : goal.returns-in_ok-push_pairs-in-Ok-Parts-clause-step
returns-in_ok-push_pairs-in-Ok-Parts-clause-step c =
    let declared = variances_in c.args.declarations.now in
    let ts = c.args.nodes.now in
    let e = c.args.table.now.entries in
    let call = c.args.call.now in
    let h = c.at_heads-heads.result in
    let are = c.at_heads-heads.ensures in
    let t = rw c.in-Ok-Parts.field-0-is at c.in-Ok-Parts.ensures.taken in
    let s = c.in_ok-insert-in-Ok-Parts.ensures in
    let lacks = is_false _ _ s.added c.if-not-branch-2.false in
    let pushed = rw t.0 at c.in_ok-push_pairs-in-Ok-Parts.ensures.pushed in
    rw (t.0, t.1) (step_stands declared ts ts e e call.pairs.items c.args.pair h.pair c.push_pairs.new.pairs.items call.met.keys c.insert-in-Ok-Parts.new.self.keys call.goals.items call.goals.items _ (heads_standing declared ts e call.pairs.items c.args.pair h c.requires.ready are)
    (step_parts declared ts e call.pairs.items h.pair c.push_pairs.new.pairs.items call.met.keys c.insert-in-Ok-Parts.new.self.keys call.goals.items (heads_one ts e c.args.pair h are c.requires.one) (heads_ready declared ts e call.pairs.items c.args.pair h c.requires.ready are) t.2 pushed (s.keys ∙ new_keys call.met.keys h.pair lacks)))

pub take_equal-requires-clause-one : goal.take_equal-requires-clause-one
take_equal-requires-clause-one c = heads_one c.args.nodes.now c.args.table.now.entries c.args.pair c.at_heads-heads.result c.at_heads-heads.ensures c.requires.one

pub returns-in-Ok-Done-clause-due : goal.returns-in-Ok-Done-clause-due
returns-in-Ok-Done-clause-due c = λ b h.
    let t = rw c.in-Ok-Done.field-0-is at c.in-Ok-Done.ensures.taken in
    let call = c.args.call.now in
    due_on b c.args.nodes.now c.take_equal.new.nodes c.args.table.now.entries c.take_equal.new.table.entries [] call.goals.items [] call.goals.items tt c.in-Ok-Done.ensures.extends t.1.later t.1.continues h tt tt (sym (append-nil call.goals.items))

pub returns-in_ok-push-in-Ok-Owed-clause-due : goal.returns-in_ok-push-in-Ok-Owed-clause-due
returns-in_ok-push-in-Ok-Owed-clause-due c = λ b g.
    let ts = c.args.nodes.now in
    let e = c.args.table.now.entries in
    let call = c.args.call.now in
    let h = c.at_heads-heads.result in
    let are = c.at_heads-heads.ensures in
    let t = rw c.in-Ok-Owed.field-0-is at c.in-Ok-Owed.ensures.taken in
    let d = rw c.in-Ok-Owed.field-0-is at c.in-Ok-Owed.ensures.due in
    let lawful = c.requires.ready.lawful in
    rw (t.0, t.1) (due_on b ts ts e e [] call.goals.items (h.pair ∷ []) c.push.new.self.items tt (Extends-refl ts) (grown_refl (content_of ts e)) (Continues-refl (content_of ts e) lawful.sound) g (pair_known ts (content_of ts e) h.pair are.heads.known) (inl d, tt) c.in_ok-push-in-Ok-Owed.ensures.items)

pub returns-in_ok-extend_from_slice-in-Ok-Bound-clause-due : goal.returns-in_ok-extend_from_slice-in-Ok-Bound-clause-due
returns-in_ok-extend_from_slice-in-Ok-Bound-clause-due c = λ b g.
    let call = c.args.call.now in
    let t = rw c.in-Ok-Bound.field-0-is at c.in-Ok-Bound.ensures.taken in
    let d = rw c.in-Ok-Bound.field-0-is at c.in-Ok-Bound.ensures.due in
    let items : c.extend_from_slice.new.self.items ≡ call.goals.items ++ c.in-Ok-Bound.goals.items = c.in_ok-extend_from_slice-in-Ok-Bound.ensures.items ∙ ap (λ x. call.goals.items ++ x) c.deref.ensures.value in
    due_on b c.args.nodes.now c.take_equal.new.nodes c.args.table.now.entries c.take_equal.new.table.entries [] call.goals.items c.in-Ok-Bound.goals.items c.extend_from_slice.new.self.items tt c.in-Ok-Bound.ensures.extends t.2.later t.2.continues g t.1 (aliases_due b (content_of c.take_equal.new.nodes c.take_equal.new.table.entries) (pairs_at c.take_equal.new.nodes c.in-Ok-Bound.goals.items) d) items

pub returns-then-not-branch-clause-due : goal.returns-then-not-branch-clause-due
returns-then-not-branch-clause-due c = λ b g. (let t = rw c.in-Ok-Owed.field-0-is at c.in-Ok-Owed.ensures.taken in rw (t.0, t.1) g)

pub returns-then-not-branch-2-clause-due : goal.returns-then-not-branch-2-clause-due
returns-then-not-branch-2-clause-due c = λ b g. (let t = rw c.in-Ok-Parts.field-0-is at c.in-Ok-Parts.ensures.taken in rw (t.0, t.1) g)

pub returns-in_ok-push_pairs-in-Ok-Parts-clause-due : goal.returns-in_ok-push_pairs-in-Ok-Parts-clause-due
returns-in_ok-push_pairs-in-Ok-Parts-clause-due c = λ b g. (let t = rw c.in-Ok-Parts.field-0-is at c.in-Ok-Parts.ensures.taken in rw (t.0, t.1) g)
