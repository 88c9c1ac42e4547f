use Rattle.std.proofs.Common.{rules, ◌≡◌, ◌++◌, ◌∷◌, []}
use Rattle.nts_store.specs.Growth.{tree_at}
use Rattle.nts_store.proofs.Growing.{Extends-refl, Extends-trans}
use Rattle.nts_terms.specs.Signatures.{variances_in}
use Rattle.nts_unify.specs.Reading.{content_of}
use Rattle.nts_unify.proofs.Keeping.{KeepsHidden-refl, KeepsHidden-trans}
use Rattle.nts_relating.proofs.PairLemmas.{err_of}
use Rattle.nts_variance.proofs.Exact.{invariant_one}
use Rattle.nts_variance.proofs.Onward.{invariant_front, equating_start, equating_step, equating_bound, equating_end, refused_pair}
use Rattle.nts_variance.proofs.equating.run.Goals as goal

pub loop-pair-init : goal.loop-pair-init
loop-pair-init c =
    let call = c.args.call.now in
    record {
      extends = Extends-refl c.args.nodes.now;
      changes = KeepsHidden-refl _;
      due = λ b h. h;
      going = equating_start (variances_in c.args.declarations.now) c.args.nodes.now c.args.table.now.entries call.pairs.items call.met.keys call.goals.items c.requires.ready c.requires.invariant;
    }

pub loop-pair-preserved : goal.loop-pair-preserved
loop-pair-preserved c =
    let i = c.loop-pair.invariant in
    let s = c.in-Ok.ensures in
    let is : c.loop-pair.call.pairs.items ≡ c.pop.new.self.items ++ c.in-Some.pair ∷ [] = search rules in
    record {
      extends = Extends-trans i.extends s.extends;
      changes = KeepsHidden-trans i.changes s.changes;
      due = λ b h. s.due b (i.due b h);
      going = equating_step (variances_in c.args.declarations.now) c.args.nodes.now c.loop-pair.nodes _ c.args.table.now.entries c.loop-pair.table.entries _ _ c.pop.new.self.items c.in-Some.pair _ _ _ _ _ _ _ _ (rw is at i.going) s.step c.if-bound.false;
    }

pub returns-then-bound-clause-run : goal.returns-then-bound-clause-run
returns-then-bound-clause-run c =
    let i = c.loop-pair.invariant in
    let s = c.in-Ok.ensures in
    let is : c.loop-pair.call.pairs.items ≡ c.pop.new.self.items ++ c.in-Some.pair ∷ [] = search rules in
    equating_bound (variances_in c.args.declarations.now) c.args.nodes.now c.loop-pair.nodes _ c.args.table.now.entries c.loop-pair.table.entries _ _ c.pop.new.self.items c.in-Some.pair _ _ _ _ _ _ _ _ (rw is at i.going) s.step c.if-bound.true

pub returns-in-Err-clause-no : goal.returns-in-Err-clause-no
returns-in-Err-clause-no c = λ q.
    let i = c.loop-pair.invariant in
    let is : c.loop-pair.call.pairs.items ≡ c.pop.new.self.items ++ c.in-Some.pair ∷ [] = search rules in
    refused_pair (variances_in c.args.declarations.now) c.args.nodes.now c.loop-pair.nodes c.args.table.now.entries c.loop-pair.table.entries _ c.pop.new.self.items c.in-Some.pair _ _ _ _ (rw is at i.going) (c.in-Err.ensures.no (err_of _ _ q))

pub returns-clause-run : goal.returns-clause-run
returns-clause-run c =
    let i = c.loop-pair.invariant in
    let none : c.pop.new.self.items ≡ [] = search rules in
    let same : c.loop-pair.call.pairs.items ≡ c.pop.new.self.items = search rules in
    equating_end (variances_in c.args.declarations.now) _ _ _ _ _ _ _ _ _ _ (rw same at i.going) none

pub step-requires-clause-one : goal.step-requires-clause-one
step-requires-clause-one c =
    let i = c.loop-pair.invariant in
    let is : c.loop-pair.call.pairs.items ≡ c.pop.new.self.items ++ c.in-Some.pair ∷ [] = search rules in
    let going = rw is at i.going in
    invariant_one (content_of c.loop-pair.nodes c.loop-pair.table.entries) c.in-Some.pair.variance (tree_at c.loop-pair.nodes c.in-Some.pair.left) (tree_at c.loop-pair.nodes c.in-Some.pair.right) (invariant_front c.pop.new.self.items c.in-Some.pair going.invariant).1

pub returns-then-bound-clause-due : goal.returns-then-bound-clause-due
returns-then-bound-clause-due c = λ b h. (let s = c.in-Ok.ensures in let i = c.loop-pair.invariant in s.due b (i.due b h))
