use Rattle.std.proofs.Common.{◌≡◌, ◌<◌, length, ap, sym, ◌∙◌, arith, eq-eqb}
use Rattle.nts_model.specs.Terms.Trees.{children, row_length}
use Rattle.nts_store.specs.Growth.{tree_at}
use Rattle.nts_delegate.specs.Clauses.{AreClauses}
use Rattle.nts_delegate.specs.Offers.{trait_of}
use Rattle.nts_delegate.proofs.Offering.{clause_at, is_part, goal_arguments, taken, found_more, found_same, not_equal}
use Rattle.nts_delegate.proofs.clauses.Clauses.offers.Goals.{then-len+in_ok-offer_of+in_ok-push, else-len}
use Rattle.nts_delegate.proofs.clauses.Clauses.offers.Goals as goal

pub len-requires-in-loop-clause : goal.len-requires-in-loop-clause
len-requires-in-loop-clause c =
    let all : AreClauses c.args.cx.now.nodes c.of_trait-clause-items.result.now = rw c.of_trait-clause-items.ensures (c.requires.ready.clauses c.in-Some.trait_ref.def_id.number) in
    (clause_at c.args.cx.now.nodes c.of_trait-clause-items.result.now c.loop-clause.clause-index c.clause-item.result all (omega (arith, c.loop-clause-test.true)) c.clause-item.is).head_holds

pub offer_of-requires-clause-head : goal.offer_of-requires-clause-head
offer_of-requires-clause-head c =
    let all : AreClauses c.args.cx.now.nodes c.of_trait-clause-items.result.now = rw c.of_trait-clause-items.ensures (c.requires.ready.clauses c.in-Some.trait_ref.def_id.number) in
    (clause_at c.args.cx.now.nodes c.of_trait-clause-items.result.now c.loop-clause.clause-index c.clause-item.result all (omega (arith, c.loop-clause-test.true)) c.clause-item.is).head_holds

pub loop-clause-preserved : goal.loop-clause-preserved
loop-clause-preserved c =
    let ts = c.args.cx.now.nodes in
    let args = tree_at c.args.cx.now.nodes c.in-Some.trait_ref.args.node in
    let clauses = c.of_trait-clause-items.result.now in
    let clause = c.clause-item.result in
    let inside : c.loop-clause.clause-index < length c.of_trait-clause-items.result.now = omega (arith, c.loop-clause-test.true) in
    let all : AreClauses c.args.cx.now.nodes c.of_trait-clause-items.result.now = rw c.of_trait-clause-items.ensures (c.requires.ready.clauses c.in-Some.trait_ref.def_id.number) in
    let is_clause = clause_at ts clauses c.loop-clause.clause-index clause all inside c.clause-item.is in
    let one_more = taken clauses c.loop-clause.clause-index clause inside c.clause-item.is in
    let part = is_part (tree_at ts c.args.goal.predicate.node) _ (ap trait_of c.kind.ensures.tree ∙ c.in-Some.ensures.is ts) in
    let closed = goal_arguments _ c.requires.goal (ap trait_of c.kind.ensures.tree ∙ c.in-Some.ensures.is ts) in
    elim c.if-len.branch [
      | then-len+in_ok-offer_of+in_ok-push w ↦
          let long : row_length (children (tree_at c.args.cx.now.nodes c.in-Some.trait_ref.args.node)) ≡ row_length (children (tree_at c.args.cx.now.nodes c.clause-item.result.head.node)) = sym c.len.ensures.count ∙ w.if-len.true ∙ c.len-in-loop-clause.ensures.count in
          found_more ts c.args.goal args _ _ _ _ clause _ c.loop-clause.invariant (eq-eqb _ _ long) c.requires.goal is_clause part closed w.in_ok-offer_of.ensures.offer one_more (ap (λ v. v.items) w.found-is ∙ w.in_ok-push.ensures.items)
      | else-len w ↦
          found_same ts c.args.goal args _ _ _ _ clause c.loop-clause.invariant (not_equal _ _ (λ e. w.if-len.false (c.len.ensures.count ∙ e ∙ sym c.len-in-loop-clause.ensures.count))) one_more (ap (λ v. v.items) w.found-is)
    ]
