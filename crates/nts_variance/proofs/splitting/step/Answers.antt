use Rattle.std.proofs.Common.{◌≡◌, List, [], ◌∷◌, ◌++◌, sym, ap, ◌∙◌}
use Rattle.std.proofs.lemmas.List.{append-nil}
use Rattle.nts_model.specs.Terms.Trees.{Tree}
use Rattle.nts_model.specs.Tables.Contents.{Content}
use Rattle.nts_model.proofs.Tables.Held.{Continues-refl}
use Rattle.nts_store.proofs.Growing.{Extends-refl}
use Rattle.nts_terms.specs.Signatures.{variances_in}
use Rattle.nts_unify.specs.Entries.{Entries}
use Rattle.nts_unify.specs.Reading.{content_of}
use Rattle.nts_unify.proofs.Tests.{is_true, is_false}
use Rattle.nts_variance.specs.Terms.{pair_at}
use Rattle.nts_variance.specs.declared.along.Relating.{Relating}
use Rattle.nts_variance.specs.Taking.{ArePartsPaired, AreDueSince}
use Rattle.nts_variance.proofs.Growing.{grown_refl}
use Rattle.nts_variance.proofs.DueCalls.{due_front, due_on, due_parts}
use Rattle.nts_variance.proofs.Calls.{pairs_front, pair_known, call_taken, call_left, call_parts, call_passed, taken_less, parts_less}
use Rattle.nts_variance.proofs.MetGoals.{met_among, met_keys, new_keys, map_ok}
use Rattle.nts_variance.proofs.Underway.{takes_left, takes_owed}
use Rattle.nts_variance.proofs.splitting.step.Goals as goal

pub take-requires-clause-pair : goal.take-requires-clause-pair
take-requires-clause-pair c = (pairs_front c.args.nodes.now (content_of c.args.nodes.now c.args.table.now.entries) c.args.call.now.pairs.items c.args.pair c.requires.pairs).1

pub returns-in-Ok-Done-clause-call : goal.returns-in-Ok-Done-clause-call
returns-in-Ok-Done-clause-call c = λ ts e p u.
    let t = rw c.in-Ok-Done.field-0-is at c.in-Ok-Done.ensures.taken in
    let call = c.args.call.now in
    call_taken (variances_in c.args.declarations.now) ts c.args.nodes.now c.take.new.nodes e c.args.table.now.entries c.take.new.table.entries p c.args.pair call.pairs.items call.met.keys call.equal.items call.goals.items [] [] call.equal.items call.goals.items u c.in-Ok-Done.ensures.extends t.0 tt tt tt tt t.1 (sym (append-nil call.equal.items)) (sym (append-nil call.goals.items))

pub returns-in-Ok-Done-clause-less : goal.returns-in-Ok-Done-clause-less
returns-in-Ok-Done-clause-less c = taken_less (variances_in c.args.declarations.now) c.args.nodes.now c.take.new.nodes (content_of c.args.nodes.now c.args.table.now.entries) c.args.call.now.pairs.items c.args.pair c.in-Ok-Done.ensures.extends c.requires.pairs

pub returns-in_ok-push-in-Ok-Equal-clause-call : goal.returns-in_ok-push-in-Ok-Equal-clause-call
returns-in_ok-push-in-Ok-Equal-clause-call c = λ ts e p u.
    let t = rw c.in-Ok-Equal.field-0-is at c.in-Ok-Equal.ensures.taken in
    let us = c.args.nodes.now in
    let f = c.args.table.now.entries in
    let q = c.args.pair in
    let call = c.args.call.now in
    let s = c.in_ok-insert-in-Ok-Equal.ensures in
    let lacks = is_false _ _ s.added c.if-not-branch.false in
    rw (t.0, t.1) (call_left (variances_in c.args.declarations.now) ts us e f p q call.pairs.items call.met.keys c.insert.new.self.keys call.equal.items call.goals.items (q ∷ []) [] c.push.new.self.items call.goals.items u ((pairs_front us (content_of us f) call.pairs.items q c.requires.pairs).1, tt) (t.2, tt) tt tt (takes_left (variances_in c.args.declarations.now) (content_of us f) (pair_at us q) c.requires.lawful.sound) c.in_ok-push-in-Ok-Equal.ensures.items (sym (append-nil call.goals.items)) (s.keys ∙ new_keys call.met.keys q lacks))

pub returns-in_ok-push-in-Ok-Equal-clause-less : goal.returns-in_ok-push-in-Ok-Equal-clause-less
returns-in_ok-push-in-Ok-Equal-clause-less c = taken_less (variances_in c.args.declarations.now) c.args.nodes.now c.take.new.nodes (content_of c.args.nodes.now c.args.table.now.entries) c.args.call.now.pairs.items c.args.pair c.in-Ok-Equal.ensures.extends c.requires.pairs

pub returns-in_ok-push-in-Ok-Owed-clause-call : goal.returns-in_ok-push-in-Ok-Owed-clause-call
returns-in_ok-push-in-Ok-Owed-clause-call c = λ ts e p u.
    let t = rw c.in-Ok-Owed.field-0-is at c.in-Ok-Owed.ensures.taken in
    let us = c.args.nodes.now in
    let f = c.args.table.now.entries in
    let q = c.args.pair in
    let call = c.args.call.now in
    let known = pair_known us (content_of us f) q (pairs_front us (content_of us f) call.pairs.items q c.requires.pairs).1 in
    let s = c.in_ok-insert-in-Ok-Owed.ensures in
    let lacks = is_false _ _ s.added c.if-not-branch-2.false in
    rw (t.0, t.1) (call_left (variances_in c.args.declarations.now) ts us e f p q call.pairs.items call.met.keys c.insert-in-Ok-Owed.new.self.keys call.equal.items call.goals.items [] (q ∷ []) call.equal.items c.push-in-Ok-Owed.new.self.items u tt tt known (t.2, tt) (takes_owed (variances_in c.args.declarations.now) (content_of us f) (pair_at us q) c.requires.lawful.sound) (sym (append-nil call.equal.items)) c.in_ok-push-in-Ok-Owed.ensures.items (s.keys ∙ new_keys call.met.keys q lacks))

pub returns-in_ok-push-in-Ok-Owed-clause-less : goal.returns-in_ok-push-in-Ok-Owed-clause-less
returns-in_ok-push-in-Ok-Owed-clause-less c = taken_less (variances_in c.args.declarations.now) c.args.nodes.now c.take.new.nodes (content_of c.args.nodes.now c.args.table.now.entries) c.args.call.now.pairs.items c.args.pair c.in-Ok-Owed.ensures.extends c.requires.pairs

pub returns-in_ok-extend_from_slice-in-Ok-Bound-clause-call : goal.returns-in_ok-extend_from_slice-in-Ok-Bound-clause-call
returns-in_ok-extend_from_slice-in-Ok-Bound-clause-call c = λ ts e p u.
    let t = rw c.in-Ok-Bound.field-0-is at c.in-Ok-Bound.ensures.taken in
    let call = c.args.call.now in
    let items : c.extend_from_slice.new.self.items ≡ call.goals.items ++ c.in-Ok-Bound.goals.items = c.in_ok-extend_from_slice-in-Ok-Bound.ensures.items ∙ ap (λ x. call.goals.items ++ x) c.deref.ensures.value in
    call_taken (variances_in c.args.declarations.now) ts c.args.nodes.now c.take.new.nodes e c.args.table.now.entries c.take.new.table.entries p c.args.pair call.pairs.items call.met.keys call.equal.items call.goals.items [] c.in-Ok-Bound.goals.items call.equal.items c.extend_from_slice.new.self.items u c.in-Ok-Bound.ensures.extends t.0 tt tt t.1 t.3 t.2 (sym (append-nil call.equal.items)) items

pub returns-in_ok-extend_from_slice-in-Ok-Bound-clause-less : goal.returns-in_ok-extend_from_slice-in-Ok-Bound-clause-less
returns-in_ok-extend_from_slice-in-Ok-Bound-clause-less c = taken_less (variances_in c.args.declarations.now) c.args.nodes.now c.take.new.nodes (content_of c.args.nodes.now c.args.table.now.entries) c.args.call.now.pairs.items c.args.pair c.in-Ok-Bound.ensures.extends c.requires.pairs

pub returns-then-not-branch-clause-call : goal.returns-then-not-branch-clause-call
returns-then-not-branch-clause-call c = λ ts e p u.
    let t = rw c.in-Ok-Equal.field-0-is at c.in-Ok-Equal.ensures.taken in
    let us = c.args.nodes.now in
    let call = c.args.call.now in
    let s = c.in_ok-insert-in-Ok-Equal.ensures in
    let found = is_true _ _ s.added c.if-not-branch.true in
    rw (t.0, t.1) (call_passed (variances_in c.args.declarations.now) ts us e c.args.table.now.entries p c.args.pair call.pairs.items call.met.keys c.insert.new.self.keys call.equal.items call.goals.items u (met_among us call.met.keys c.args.pair found) (s.keys ∙ met_keys call.met.keys c.args.pair found))

pub returns-then-not-branch-clause-less : goal.returns-then-not-branch-clause-less
returns-then-not-branch-clause-less c = taken_less (variances_in c.args.declarations.now) c.args.nodes.now c.take.new.nodes (content_of c.args.nodes.now c.args.table.now.entries) c.args.call.now.pairs.items c.args.pair c.in-Ok-Equal.ensures.extends c.requires.pairs

pub returns-then-not-branch-2-clause-call : goal.returns-then-not-branch-2-clause-call
returns-then-not-branch-2-clause-call c = λ ts e p u.
    let t = rw c.in-Ok-Owed.field-0-is at c.in-Ok-Owed.ensures.taken in
    let us = c.args.nodes.now in
    let call = c.args.call.now in
    let s = c.in_ok-insert-in-Ok-Owed.ensures in
    let found = is_true _ _ s.added c.if-not-branch-2.true in
    rw (t.0, t.1) (call_passed (variances_in c.args.declarations.now) ts us e c.args.table.now.entries p c.args.pair call.pairs.items call.met.keys c.insert-in-Ok-Owed.new.self.keys call.equal.items call.goals.items u (met_among us call.met.keys c.args.pair found) (s.keys ∙ met_keys call.met.keys c.args.pair found))

pub returns-then-not-branch-2-clause-less : goal.returns-then-not-branch-2-clause-less
returns-then-not-branch-2-clause-less c = taken_less (variances_in c.args.declarations.now) c.args.nodes.now c.take.new.nodes (content_of c.args.nodes.now c.args.table.now.entries) c.args.call.now.pairs.items c.args.pair c.in-Ok-Owed.ensures.extends c.requires.pairs

pub returns-then-not-branch-3-clause-call : goal.returns-then-not-branch-3-clause-call
returns-then-not-branch-3-clause-call c = λ ts e p u.
    let t = rw c.in-Ok-Parts.field-0-is at c.in-Ok-Parts.ensures.taken in
    let us = c.args.nodes.now in
    let call = c.args.call.now in
    let s = c.in_ok-insert-in-Ok-Parts.ensures in
    let found = is_true _ _ s.added c.if-not-branch-3.true in
    rw (t.0, t.1) (call_passed (variances_in c.args.declarations.now) ts us e c.args.table.now.entries p c.args.pair call.pairs.items call.met.keys c.insert-in-Ok-Parts.new.self.keys call.equal.items call.goals.items u (met_among us call.met.keys c.args.pair found) (s.keys ∙ met_keys call.met.keys c.args.pair found))

pub returns-then-not-branch-3-clause-less : goal.returns-then-not-branch-3-clause-less
returns-then-not-branch-3-clause-less c = taken_less (variances_in c.args.declarations.now) c.args.nodes.now c.take.new.nodes (content_of c.args.nodes.now c.args.table.now.entries) c.args.call.now.pairs.items c.args.pair c.in-Ok-Parts.ensures.extends c.requires.pairs

pub returns-else-not-branch-3-clause-call : goal.returns-else-not-branch-3-clause-call
returns-else-not-branch-3-clause-call c = λ ts e p u.
    let t = rw c.in-Ok-Parts.field-0-is at c.in-Ok-Parts.ensures.taken in
    let us = c.args.nodes.now in
    let call = c.args.call.now in
    let s = c.in_ok-insert-in-Ok-Parts.ensures in
    let lacks = is_false _ _ s.added c.if-not-branch-3.false in
    map_ok c.push_pairs.result
    (λ (pushed : ArePartsPaired (variances_in c.args.declarations.now) c.take.new.nodes c.args.pair c.args.call.now.pairs.items c.push_pairs.new.pairs.items). rw (t.0, t.1) (call_parts (variances_in c.args.declarations.now) ts us e c.args.table.now.entries p c.args.pair call.pairs.items c.push_pairs.new.pairs.items call.met.keys c.insert-in-Ok-Parts.new.self.keys call.equal.items call.goals.items u t.2 (rw t.0 at pushed) (s.keys ∙ new_keys call.met.keys c.args.pair lacks)))
    c.push_pairs.ensures.pushed

pub returns-else-not-branch-3-clause-less : goal.returns-else-not-branch-3-clause-less
returns-else-not-branch-3-clause-less c =
    let t = rw c.in-Ok-Parts.field-0-is at c.in-Ok-Parts.ensures.taken in
    let us = c.args.nodes.now in
    map_ok c.push_pairs.result
    (λ (pushed : ArePartsPaired (variances_in c.args.declarations.now) c.take.new.nodes c.args.pair c.args.call.now.pairs.items c.push_pairs.new.pairs.items). rw t.0 (parts_less (variances_in c.args.declarations.now) us c.args.call.now.pairs.items c.push_pairs.new.pairs.items c.args.pair t.2 (rw t.0 at pushed)))
    c.push_pairs.ensures.pushed

pub returns-in-Ok-Done-clause-due : goal.returns-in-Ok-Done-clause-due
returns-in-Ok-Done-clause-due c = λ b h.
    let t = rw c.in-Ok-Done.field-0-is at c.in-Ok-Done.ensures.taken in
    let ts = c.args.nodes.now in
    let e = c.args.table.now.entries in
    let call = c.args.call.now in
    let left = (pairs_front ts (content_of ts e) call.pairs.items c.args.pair c.requires.pairs).0 in
    let front = due_front b ts e call.pairs.items c.args.pair call.goals.items h in
    due_on b ts c.take.new.nodes e c.take.new.table.entries call.pairs.items call.goals.items [] call.goals.items left c.in-Ok-Done.ensures.extends t.1.later t.1.continues front.1 tt tt (sym (append-nil call.goals.items))

-- where the store and the table are as they were
same_due : (b : Content) (ts : List Tree) (e : Entries) (ps : List Relating) (q : Relating) (gs : List Relating) → AreDueSince b ts e (ps ++ q ∷ []) gs → AreDueSince b ts e ps gs
same_due b ts e ps q gs h = (due_front b ts e ps q gs h).1

pub returns-in_ok-push-in-Ok-Equal-clause-due : goal.returns-in_ok-push-in-Ok-Equal-clause-due
returns-in_ok-push-in-Ok-Equal-clause-due c = λ b h.
    let t = rw c.in-Ok-Equal.field-0-is at c.in-Ok-Equal.ensures.taken in
    let call = c.args.call.now in
    rw (t.0, t.1) (same_due b c.args.nodes.now c.args.table.now.entries call.pairs.items c.args.pair call.goals.items h)

pub returns-in_ok-push-in-Ok-Owed-clause-due : goal.returns-in_ok-push-in-Ok-Owed-clause-due
returns-in_ok-push-in-Ok-Owed-clause-due c = λ b h.
    let t = rw c.in-Ok-Owed.field-0-is at c.in-Ok-Owed.ensures.taken in
    let ts = c.args.nodes.now in
    let e = c.args.table.now.entries in
    let q = c.args.pair in
    let call = c.args.call.now in
    let pairs = pairs_front ts (content_of ts e) call.pairs.items q c.requires.pairs in
    let front = due_front b ts e call.pairs.items q call.goals.items h in
    rw (t.0, t.1) (due_on b ts ts e e call.pairs.items call.goals.items (q ∷ []) c.push-in-Ok-Owed.new.self.items pairs.0 (Extends-refl ts) (grown_refl (content_of ts e)) (Continues-refl (content_of ts e) c.requires.lawful.sound) front.1 (pair_known ts (content_of ts e) q pairs.1) (t.3 b h.before front.0) c.in_ok-push-in-Ok-Owed.ensures.items)

pub returns-in_ok-extend_from_slice-in-Ok-Bound-clause-due : goal.returns-in_ok-extend_from_slice-in-Ok-Bound-clause-due
returns-in_ok-extend_from_slice-in-Ok-Bound-clause-due c = λ b h.
    let t = rw c.in-Ok-Bound.field-0-is at c.in-Ok-Bound.ensures.taken in
    let ts = c.args.nodes.now in
    let e = c.args.table.now.entries in
    let call = c.args.call.now in
    let items : c.extend_from_slice.new.self.items ≡ call.goals.items ++ c.in-Ok-Bound.goals.items = c.in_ok-extend_from_slice-in-Ok-Bound.ensures.items ∙ ap (λ x. call.goals.items ++ x) c.deref.ensures.value in
    let left = (pairs_front ts (content_of ts e) call.pairs.items c.args.pair c.requires.pairs).0 in
    let front = due_front b ts e call.pairs.items c.args.pair call.goals.items h in
    due_on b ts c.take.new.nodes e c.take.new.table.entries call.pairs.items call.goals.items c.in-Ok-Bound.goals.items c.extend_from_slice.new.self.items left c.in-Ok-Bound.ensures.extends t.2.later t.2.continues front.1 t.1 (t.4 b h.before front.0) items

pub returns-then-not-branch-clause-due : goal.returns-then-not-branch-clause-due
returns-then-not-branch-clause-due c = λ b h.
    let t = rw c.in-Ok-Equal.field-0-is at c.in-Ok-Equal.ensures.taken in
    let call = c.args.call.now in
    rw (t.0, t.1) (same_due b c.args.nodes.now c.args.table.now.entries call.pairs.items c.args.pair call.goals.items h)

pub returns-then-not-branch-2-clause-due : goal.returns-then-not-branch-2-clause-due
returns-then-not-branch-2-clause-due c = λ b h.
    let t = rw c.in-Ok-Owed.field-0-is at c.in-Ok-Owed.ensures.taken in
    let call = c.args.call.now in
    rw (t.0, t.1) (same_due b c.args.nodes.now c.args.table.now.entries call.pairs.items c.args.pair call.goals.items h)

pub returns-then-not-branch-3-clause-due : goal.returns-then-not-branch-3-clause-due
returns-then-not-branch-3-clause-due c = λ b h.
    let t = rw c.in-Ok-Parts.field-0-is at c.in-Ok-Parts.ensures.taken in
    let call = c.args.call.now in
    rw (t.0, t.1) (same_due b c.args.nodes.now c.args.table.now.entries call.pairs.items c.args.pair call.goals.items h)

pub returns-else-not-branch-3-clause-due : goal.returns-else-not-branch-3-clause-due
returns-else-not-branch-3-clause-due c = λ b h.
    let t = rw c.in-Ok-Parts.field-0-is at c.in-Ok-Parts.ensures.taken in
    let call = c.args.call.now in
    map_ok c.push_pairs.result
    (λ (pushed : ArePartsPaired (variances_in c.args.declarations.now) c.take.new.nodes c.args.pair c.args.call.now.pairs.items c.push_pairs.new.pairs.items). rw (t.0, t.1) (due_parts b (variances_in c.args.declarations.now) c.args.nodes.now c.args.table.now.entries call.pairs.items c.push_pairs.new.pairs.items c.args.pair call.goals.items t.2 (rw t.0 at pushed) h))
    c.push_pairs.ensures.pushed
