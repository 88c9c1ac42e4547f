use Rattle.std.proofs.Common.{rules, ◌≡◌, ap, [], ◌∷◌, ◌++◌}
use Rattle.nts_store.proofs.Growing.{Extends-refl, Extends-trans}
use Rattle.nts_unify.specs.Reading.{content_of}
use Rattle.nts_relating.specs.Relating.{all_sides_at}
use Rattle.nts_relating.proofs.PairLemmas.{running_start, running_step, running_bound, running_end}
use Rattle.nts_relating.proofs.RefusalLemmas.{Refuses-before}
use Rattle.nts_relating.proofs.relate.run.Goals as goal
use Rattle.nts_unify.proofs.Keeping.{KeepsHidden-refl, KeepsHidden-trans}

pub loop-pair-init : goal.loop-pair-init
loop-pair-init c =
    record { extends = Extends-refl c.args.nodes.now; changes = KeepsHidden-refl _; valid = c.requires.valid; memo = c.requires.memo; running = running_start (content_of c.args.nodes.now c.args.table.now.entries) _ c.requires.valid.lawful.sound }

pub loop-pair-preserved : goal.loop-pair-preserved
loop-pair-preserved c =
    let i = c.loop-pair.invariant in
    let is : c.loop-pair.pairs.items ≡ c.pop.new.self.items ++ c.in-Some.pair ∷ [] = search rules in
    record {
      extends = Extends-trans i.extends c.in-Ok.ensures.extends;
      changes = KeepsHidden-trans i.changes c.in-Ok.ensures.changes;
      valid = c.in-Ok.ensures.valid;
      memo = c.in-Ok.ensures.memo;
      running = running_step c.requires.valid.lawful.sound i.valid.lawful.sound (rw is at i.running) c.in-Ok.ensures.step c.if-bound.false;
    }

pub returns-then-bound-clause-run : goal.returns-then-bound-clause-run
returns-then-bound-clause-run c =
    let i = c.loop-pair.invariant in
    let is : c.loop-pair.pairs.items ≡ c.pop.new.self.items ++ c.in-Some.pair ∷ [] = search rules in
    running_bound c.requires.valid.lawful.sound i.valid.lawful.sound (rw is at i.running) c.in-Ok.ensures.step c.if-bound.true

pub returns-clause-run : goal.returns-clause-run
returns-clause-run c =
    let none : c.pop.new.self.items ≡ [] = search rules in
    let same : c.loop-pair.pairs.items ≡ c.pop.new.self.items = search rules in
    running_end (rw same at c.loop-pair.invariant.running) (ap (all_sides_at c.loop-pair.nodes) none)

pub returns-in-Err-clause-no : goal.returns-in-Err-clause-no
returns-in-Err-clause-no c = λ q.
    let i = c.loop-pair.invariant in
    let is : c.loop-pair.pairs.items ≡ c.pop.new.self.items ++ c.in-Some.pair ∷ [] = search rules in
    let before = rw is at i.running in
    Refuses-before before.reduces (c.in-Err.ensures.no q)

pub step-requires-clause-memo : goal.step-requires-clause-memo
step-requires-clause-memo c =
    let is : c.loop-pair.pairs.items ≡ c.pop.new.self.items ++ c.in-Some.pair ∷ [] = search rules in
    rw is at c.loop-pair.invariant.memo

pub returns-clause-memo : goal.returns-clause-memo
returns-clause-memo c =
    let same : c.loop-pair.pairs.items ≡ c.pop.new.self.items = search rules in
    rw same at c.loop-pair.invariant.memo
