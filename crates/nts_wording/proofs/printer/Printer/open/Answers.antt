use Rattle.std.proofs.Common.{◌≡◌, ◌-◌, ◌<◌, suc, ◌∷◌, [], reverse, sym, ap, subst, ◌∙◌, arith}
use Rattle.std.specs.Prelude.{codes}
use Rattle.nts_model.specs.Terms.Trees.{children, row_length}
use Rattle.nts_store.specs.Growth.{tree_at}
use Rattle.nts_wording.specs.declared.printer.Piece.TheVariants as pieces
use Rattle.nts_wording.specs.Pieces.{lexicon_of, seen_by}
use Rattle.nts_wording.proofs.Printed.{PrintsFrom, prints_none, prints_first, prints_next, opens_none, opens_some, reverse_pushed}
use Rattle.nts_wording.proofs.Writing.{Writes-refl}
use Rattle.nts_wording.proofs.printer.Printer.open.Goals as goal

pub returns-then-count-eq0 : goal.returns-then-count-eq0
returns-then-count-eq0 c = (
  [],
  Writes-refl c.args.self.now,
  opens_none (lexicon_of c.args.self.now) (seen_by c.args.self.now) (children (tree_at c.args.self.now.nodes.now c.args.list)) (reverse c.args.pieces.now.items)
      c.child_count-count.ensures.row (sym c.child_count-count.ensures.count ∙ c.if-count-eq0.true),
)

pub loop-i-init : goal.loop-i-init
loop-i-init c =
    let n = lexicon_of c.args.self.now in
    let row = children (tree_at c.args.self.now.nodes.now c.args.list) in
    let ps = pieces.Close ∷ reverse c.args.pieces.now.items in
    record {
      bound = omega arith;
      prints = subst (λ qs. PrintsFrom n row ps c.child_count-count.result qs) (sym (reverse_pushed _ _ _ c.in_ok-push.ensures.items))
          (subst (λ k. PrintsFrom n row ps k ps) (sym c.child_count-count.ensures.count) (prints_none n row ps c.child_count-count.ensures.row));
    }

pub loop-i-preserved-in-Continue-branch-4 : goal.loop-i-preserved-in-Continue-branch-4
loop-i-preserved-in-Continue-branch-4 c =
    let n = lexicon_of c.args.self.now in
    let row = children (tree_at c.args.self.now.nodes.now c.args.list) in
    let ps = pieces.Close ∷ reverse c.args.pieces.now.items in
    let within : c.loop-i.i - 1 < row_length row = omega (arith, c.loop-i.invariant.bound, c.child_count-count.ensures.count, c.loop-i-test.true) in
    let next : c.loop-i.i ≡ suc (c.loop-i.i - 1) = omega (arith, c.loop-i-test.true) in
    let two = reverse_pushed _ _ _ c.in_ok-push-3.ensures.items ∙ ap (λ qs. pieces.Comma ∷ qs) (reverse_pushed _ _ _ c.in_ok-push-2.ensures.items) in
    record {
      bound = omega (arith, c.loop-i.invariant.bound);
      prints = subst (λ qs. PrintsFrom n row ps (c.loop-i.i - 1) qs) (sym two)
          (prints_next n row ps (c.loop-i.i - 1) _ (reverse c.loop-i.pieces.items) within c.if-i-gt0.true c.child.ensures.tree
          (subst (λ k. PrintsFrom n row ps k (reverse c.loop-i.pieces.items)) next c.loop-i.invariant.prints));
    }

pub loop-i-preserved : goal.loop-i-preserved
loop-i-preserved c =
    let n = lexicon_of c.args.self.now in
    let row = children (tree_at c.args.self.now.nodes.now c.args.list) in
    let ps = pieces.Close ∷ reverse c.args.pieces.now.items in
    let last : c.loop-i.i - 1 ≡ 0 = omega (arith, c.if-i-gt0.false) in
    let first : c.loop-i.i ≡ 1 = omega (arith, c.loop-i-test.true, c.if-i-gt0.false) in
    let some : 0 < row_length row = omega (arith, c.loop-i.invariant.bound, c.child_count-count.ensures.count, c.loop-i-test.true) in
    record {
      bound = omega (arith, c.loop-i.invariant.bound);
      prints = subst (λ k. PrintsFrom n row ps k (reverse c.push-in-loop-i.new.self.items)) (sym last)
          (subst (λ qs. PrintsFrom n row ps 0 qs) (sym (reverse_pushed _ _ _ c.in_ok-push-2.ensures.items))
          (prints_first n row ps _ (reverse c.loop-i.pieces.items) some (rw last at c.child.ensures.tree)
          (subst (λ k. PrintsFrom n row ps k (reverse c.loop-i.pieces.items)) first c.loop-i.invariant.prints)));
    }

pub returns : goal.returns
returns c =
    let n = lexicon_of c.args.self.now in
    let row = children (tree_at c.args.self.now.nodes.now c.args.list) in
    let ps = pieces.Close ∷ reverse c.args.pieces.now.items in
    let some : 0 < row_length row = omega (arith, c.child_count-count.ensures.count, c.if-count-eq0.false) in
    let first : c.loop-i.i ≡ 0 = omega (arith, c.loop-i-test.false) in (
      codes "(",
      c.in_ok-write.ensures.writes,
      rw c.in_ok-write.ensures.seen (opens_some n (seen_by c.args.self.now) row (reverse c.args.pieces.now.items) (reverse c.loop-i.pieces.items) some
          (subst (λ k. PrintsFrom n row ps k (reverse c.loop-i.pieces.items)) first c.loop-i.invariant.prints)),
    )
