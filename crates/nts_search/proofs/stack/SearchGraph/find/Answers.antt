use Rattle.std.proofs.Common.{IsTrue, false, sym, subst, refl, ap, ◌∙◌, arith}
use Rattle.std.specs.Prelude.{reverse}
use Rattle.std.proofs.lemmas.List.{get_or_default}
use Rattle.nts_response.specs.nts_canonical.specs.Alike.{AreOneInput}
use Rattle.nts_response.specs.nts_canonical.specs.Forms.{HoldsQuery}
use Rattle.nts_search.proofs.LookedUp.{Ahead, Stands, stands, stands_nowhere, fewer_left}
use Rattle.nts_search.proofs.stack.SearchGraph.find.Goals as goal
use Rattle.nts_search.proofs.stack.SearchGraph.find.Goals.{In-Some}

standing : (c : In-Some) → Stands c.args.cx.now.nodes c.args.self.now.stack.items c.args.input.now c.in-Some.i
standing c =
    let ts = c.args.cx.now.nodes in
    let xs = c.args.self.now.stack.items in
    stands ts xs c.args.input.now c.in-Some.i c.terms_are_formed.ensures.apart c.requires.input c.requires.holds.held (subst (Ahead ts (reverse xs) c.args.input.now) c.in-Some.is c.loop-at.invariant)

pub index-entry-requires : goal.index-entry-requires
index-entry-requires c =
    let below = (standing (goal.at.index-entry-requires c).In-Some).below in
    let long = c.args.self.now.stack.ok.0 in
    omega (arith, below, long)

pub same_input-requires-clause-left : goal.same_input-requires-clause-left
same_input-requires-clause-left c =
    let below = (standing (goal.at.same_input-requires-clause-left c).In-Some).below in
    let held = c.requires.holds.held c.in-Some.i c.index-entry.result.now below in
    subst (λ x. HoldsQuery c.args.cx.now.nodes x.input.canonical.value) (sym c.index-entry.ensures) held.input

pub returns-then-same_input : goal.returns-then-same_input
returns-then-same_input c =
    let xs = c.args.self.now.stack.items in
    let i = c.in-Some.i in
    let x = c.index-entry.result.now in
    let below = (standing (goal.at.returns-then-same_input c).In-Some).below in
    record {
      found = record {
        below = below;
        same = λ d. subst (λ y. AreOneInput c.args.cx.now.nodes y.input c.args.input.now) (c.index-entry.ensures ∙ get_or_default xs i x d below) (c.if-same_input.ensures.0 refl);
      };
    }

pub loop-at-smaller : goal.loop-at-smaller
loop-at-smaller c =
    let x = c.index-entry.result.now in
    let falls = (standing (goal.at.loop-at-smaller c).In-Some).falls x in
    fewer_left x.earlier c.loop-at.at c.in-Some.i c.in-Some.is (λ m e. falls m (ap (λ y. y.earlier) (sym c.index-entry.ensures) ∙ e))

pub loop-at-preserved : goal.loop-at-preserved
loop-at-preserved c =
    let ts = c.args.cx.now.nodes in
    let zs = reverse c.args.self.now.stack.items in
    let i = c.args.input.now in
    let x = c.index-entry.result.now in
    let next = (standing (goal.at.loop-at-preserved c).In-Some).next x in
    subst (λ y. Ahead ts zs i y.earlier) (sym c.index-entry.ensures)
    (next (λ one. let no : IsTrue false = c.if-same_input.ensures.1 (subst (λ y. AreOneInput ts y.input i) (sym c.index-entry.ensures) one) in cc))

pub returns : goal.returns
returns c =
    let ts = c.args.cx.now.nodes in
    let g = c.args.self.now in
    let i = c.args.input.now in
    record { found = stands_nowhere ts g i c.terms_are_formed.ensures.apart c.requires.input c.requires.holds.held (subst (Ahead ts (reverse g.stack.items) i) c.in_default.is c.loop-at.invariant) }
