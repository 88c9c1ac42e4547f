use Rattle.std.proofs.Common.{rules, ◌≡◌, ◌++◌, ◌∷◌, [], refl, arith}
use Rattle.nts_store.proofs.Growing.{Extends-trans}
use Rattle.nts_terms.specs.Signatures.{variances_in}
use Rattle.nts_unify.specs.Reading.{content_of}
use Rattle.nts_unify.proofs.Keeping.{KeepsHidden-trans}
use Rattle.nts_relating.proofs.PairLemmas.{err_of}
use Rattle.nts_variance.specs.Terms.{pair_at, pairs_at}
use Rattle.nts_variance.specs.Due.{LeavesDue}
use Rattle.nts_variance.proofs.Calls.{call_again, call_back, call_end, call_forgets, call_refuses, pairs_front, waits_front}
use Rattle.nts_variance.proofs.Exact.{waits_one}
use Rattle.nts_variance.proofs.equating.relate_pair.Goals as goal

pub loop-pair-init : goal.loop-pair-init
loop-pair-init c =
    let left = c.in-Ok.left in
    let s = c.in-Ok.ensures in
    rw (c.new.ensures.items, c.new-2.ensures.empty) (record {
      extends = s.extends;
      changes = s.changes;
      met = refl;
      invariant = tt;
      due = λ b le h. (let l = s.left in let more = l.takes.later.more in record { before = omega (arith, le, more); pairs = tt; known = l.goals; due = l.due b le h });
      going = call_again (variances_in c.args.declarations.now) c.args.nodes.now c.relate_along.new.nodes c.args.table.now.entries c.relate_along.new.table.entries c.args.root left.equal.items left.goals.items c.requires.lawful.sound s.lawful s.left;
    })

pub step-requires-clause-ready : goal.step-requires-clause-ready
step-requires-clause-ready c =
    let i = c.loop-pair.invariant in
    let is : c.loop-pair.equal.items ≡ c.pop.new.self.items ++ c.in-Some.pair ∷ [] = search rules in
    let on = call_back (variances_in c.args.declarations.now) c.args.nodes.now c.loop-pair.nodes c.args.table.now.entries c.loop-pair.table.entries c.args.root c.in-Some.pair c.loop-pair.call.pairs.items c.pop.new.self.items c.loop-pair.call.goals.items (rw is at i.going) in
    record { lawful = on.lawful; pairs = on.pairs }

pub step-requires-clause-one : goal.step-requires-clause-one
step-requires-clause-one c =
    let i = c.loop-pair.invariant in
    let ts = c.loop-pair.nodes in
    let e = c.loop-pair.table.entries in
    let is : c.loop-pair.equal.items ≡ c.pop.new.self.items ++ c.in-Some.pair ∷ [] = search rules in
    let going = rw is at i.going in
    waits_one ts e c.in-Some.pair going.lawful (pairs_front ts (content_of ts e) c.pop.new.self.items c.in-Some.pair going.equal).1 (waits_front ts c.pop.new.self.items c.in-Some.pair going.waits).1

pub returns-in-Err-step-clause-no : goal.returns-in-Err-step-clause-no
returns-in-Err-step-clause-no c = λ q.
    let i = c.loop-pair.invariant in
    let is : c.loop-pair.equal.items ≡ c.pop.new.self.items ++ c.in-Some.pair ∷ [] = search rules in
    let on = call_back (variances_in c.args.declarations.now) c.args.nodes.now c.loop-pair.nodes c.args.table.now.entries c.loop-pair.table.entries c.args.root c.in-Some.pair c.loop-pair.call.pairs.items c.pop.new.self.items c.loop-pair.call.goals.items (rw is at i.going) in
    call_refuses (variances_in c.args.declarations.now) c.args.nodes.now c.loop-pair.nodes c.args.table.now.entries c.loop-pair.table.entries c.args.root c.in-Some.pair c.loop-pair.call.pairs.items [] c.pop.new.self.items c.loop-pair.call.goals.items on (c.in-Err-step.ensures.no (err_of _ _ q))

pub loop-pair-preserved : goal.loop-pair-preserved
loop-pair-preserved c =
    let declared = variances_in c.args.declarations.now in
    let i = c.loop-pair.invariant in
    let s = c.in-Ok-step.ensures in
    let is : c.loop-pair.equal.items ≡ c.pop.new.self.items ++ c.in-Some.pair ∷ [] = search rules in
    let on = call_back declared c.args.nodes.now c.loop-pair.nodes c.args.table.now.entries c.loop-pair.table.entries c.args.root c.in-Some.pair c.loop-pair.call.pairs.items c.pop.new.self.items c.loop-pair.call.goals.items (rw is at i.going) in
    let there = s.step.on.call c.args.nodes.now c.args.table.now.entries c.args.root c.pop.new.self.items (rw i.met on) in
    record {
      extends = Extends-trans i.extends s.extends;
      changes = KeepsHidden-trans i.changes s.changes;
      met = c.clear.ensures.empty;
      invariant = s.step.invariant i.invariant;
      due = λ b le h. s.due b (i.due b le h);
      going = call_forgets declared c.args.nodes.now c.step.new.nodes c.args.table.now.entries c.step.new.table.entries c.args.root _ _ _ _ there;
    }

pub returns-clause-related : goal.returns-clause-related
returns-clause-related c =
    let declared = variances_in c.args.declarations.now in
    let i = c.loop-pair.invariant in
    let none : c.pop.new.self.items ≡ [] = search rules in
    let same : c.loop-pair.equal.items ≡ c.pop.new.self.items = search rules in
    let going = rw none at (rw same at i.going) in
    let all = c.in-Ok-run_all.ensures in
    let last = all.all.call c.args.nodes.now c.args.table.now.entries c.args.root [] (rw i.met going) in
    let due : LeavesDue (content_of c.args.nodes.now c.args.table.now.entries) (content_of c.run_all.new.nodes c.run_all.new.table.entries) (pair_at c.args.nodes.now c.args.root) (pairs_at c.run_all.new.nodes c.run_all.new.call.goals.items) = λ b le h. (let d = all.due b (i.due b le h) in d.due) in
    let end = call_end declared c.args.nodes.now c.run_all.new.nodes c.args.table.now.entries c.run_all.new.table.entries c.args.root [] _ [] _ last (λ j. []) due in
    record { known = end.goals; are_goals = end.are_goals; takes = end.takes; due = end.due }
