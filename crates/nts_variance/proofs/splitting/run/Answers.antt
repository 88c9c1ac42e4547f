use Rattle.std.proofs.Common.{rules, ◌≡◌, ◌++◌, ◌∷◌, []}
use Rattle.nts_store.proofs.Growing.{Extends-refl, Extends-trans}
use Rattle.nts_terms.specs.Signatures.{variances_in}
use Rattle.nts_unify.proofs.Keeping.{KeepsHidden-refl, KeepsHidden-trans}
use Rattle.nts_relating.proofs.PairLemmas.{err_of}
use Rattle.nts_variance.proofs.Calls.{call_start, call_end, call_refuses}
use Rattle.nts_variance.proofs.splitting.run.Goals as goal

pub loop-pair-init : goal.loop-pair-init
loop-pair-init c =
    let items : c.push.new.self.items ≡ c.args.root ∷ [] = search rules in
    let start = call_start (variances_in c.args.declarations.now) c.args.nodes.now c.args.table.now.entries c.args.root c.push.new.self.items c.requires.lawful c.requires.pair items in
    record {
      extends = Extends-refl c.args.nodes.now;
      changes = KeepsHidden-refl _;
      due = λ b le f. rw (items, c.new-4.ensures.items) (record { before = le; pairs = (f, tt); known = tt; due = tt });
      going = rw (c.new-2.ensures.empty, c.new-3.ensures.items, c.new-4.ensures.items) start;
    }

pub loop-pair-preserved : goal.loop-pair-preserved
loop-pair-preserved c =
    let i = c.loop-pair.invariant in
    let s = c.in-Ok.ensures in
    let is : c.loop-pair.call.pairs.items ≡ c.pop.new.self.items ++ c.in-Some.pair ∷ [] = search rules in
    record {
      extends = Extends-trans i.extends s.extends;
      changes = KeepsHidden-trans i.changes s.changes;
      due = λ b le f. s.due b (rw is at (i.due b le f));
      going = s.call c.args.nodes.now c.args.table.now.entries c.args.root (rw is at i.going);
    }

pub returns-in-Err-clause-no : goal.returns-in-Err-clause-no
returns-in-Err-clause-no c = λ q.
    let i = c.loop-pair.invariant in
    let is : c.loop-pair.call.pairs.items ≡ c.pop.new.self.items ++ c.in-Some.pair ∷ [] = search rules in
    call_refuses (variances_in c.args.declarations.now) c.args.nodes.now c.loop-pair.nodes c.args.table.now.entries c.loop-pair.table.entries c.args.root c.in-Some.pair c.pop.new.self.items _ _ _ (rw is at i.going) (c.in-Err.ensures.no (err_of _ _ q))

pub returns-clause-left : goal.returns-clause-left
returns-clause-left c =
    let i = c.loop-pair.invariant in
    let none : c.loop-pair.call.pairs.items ≡ [] = search rules in
    call_end (variances_in c.args.declarations.now) c.args.nodes.now c.loop-pair.nodes c.args.table.now.entries c.loop-pair.table.entries c.args.root _ _ _ _ i.going none (λ b le f. (let h = i.due b le f in h.due))
