use Rattle.std.proofs.Common.{◌≡◌, drop, ap, sym, ◌∙◌, arith, eq-eqb}
use Rattle.nts_model.specs.Terms.Trees.{children, row_length}
use Rattle.nts_store.specs.Growth.{tree_at}
use Rattle.nts_delegate.proofs.Found.{found_offer, found_untaken, next_at, clause_there, held_there, goes_on_by, begins_at, all_found}
use Rattle.nts_delegate.proofs.Merging.{none_at}
use Rattle.nts_delegate.proofs.Offering.{is_part, goal_arguments, not_equal}
use Rattle.nts_delegate.proofs.clauses.offers_from.Goals.{then-len+in_ok-offer_of+in_ok-push, else-len}
use Rattle.nts_delegate.proofs.clauses.offers_from.Goals as goal

pub loop-place-init : goal.loop-place-init
loop-place-init c =
    let clauses = c.args.of_trait.now.clauses.items in
    begins_at c.args.cx.now.nodes c.args.goal (tree_at c.args.cx.now.nodes c.args.trait_ref.args.node) c.args.head clauses c.in_ok-found.found.items c.args.places.now
    c.requires.places c.in_ok-found.ensures.items

pub index-clause-requires : goal.index-clause-requires
index-clause-requires c =
    let args = tree_at c.args.cx.now.nodes c.args.trait_ref.args.node in
    let next = next_at c.args.cx.now.nodes c.args.goal args c.args.head c.requires.first c.args.of_trait.now.clauses.items c.loop-place.found.items c.args.places.now c.loop-place.place-index c.loop-place-test.true c.loop-place.invariant in
    let below = (clause_there c.args.cx.now.nodes c.args.goal args next).0 in
    let long = c.args.of_trait.now.clauses.ok.0 in
    omega (arith, below, long)

pub len-requires-in-loop-place : goal.len-requires-in-loop-place
len-requires-in-loop-place c =
    let args = tree_at c.args.cx.now.nodes c.args.trait_ref.args.node in
    let next = next_at c.args.cx.now.nodes c.args.goal args c.args.head c.requires.first c.args.of_trait.now.clauses.items c.loop-place.found.items c.args.places.now c.loop-place.place-index c.loop-place-test.true c.loop-place.invariant in
    (held_there c.args.cx.now.nodes c.args.goal args next c.index-clause.result.now c.requires.clauses c.index-clause.ensures).head_holds

pub offer_of-requires-clause-head : goal.offer_of-requires-clause-head
offer_of-requires-clause-head c =
    let args = tree_at c.args.cx.now.nodes c.args.trait_ref.args.node in
    let next = next_at c.args.cx.now.nodes c.args.goal args c.args.head c.requires.first c.args.of_trait.now.clauses.items c.loop-place.found.items c.args.places.now c.loop-place.place-index c.loop-place-test.true c.loop-place.invariant in
    (held_there c.args.cx.now.nodes c.args.goal args next c.index-clause.result.now c.requires.clauses c.index-clause.ensures).head_holds

pub loop-place-preserved : goal.loop-place-preserved
loop-place-preserved c =
    let ts = c.args.cx.now.nodes in
    let args = tree_at c.args.cx.now.nodes c.args.trait_ref.args.node in
    let next = next_at ts c.args.goal args c.args.head c.requires.first c.args.of_trait.now.clauses.items c.loop-place.found.items c.args.places.now c.loop-place.place-index c.loop-place-test.true c.loop-place.invariant in
    let clause = c.index-clause.result.now in
    let there = c.index-clause.ensures in
    let holds = held_there ts c.args.goal args next clause c.requires.clauses there in
    let part = is_part (tree_at ts c.args.goal.predicate.node) _ c.requires.asked in
    let closed = goal_arguments _ c.requires.goal c.requires.asked in
    elim c.if-len.branch [
      | then-len+in_ok-offer_of+in_ok-push w ↦
          let long : row_length (children (tree_at c.args.cx.now.nodes c.args.trait_ref.args.node)) ≡ row_length (children (tree_at c.args.cx.now.nodes c.index-clause.result.now.head.node)) = sym c.len.ensures.count ∙ w.if-len.true ∙ c.len-in-loop-place.ensures.count in
          goes_on_by ts c.args.goal args next clause c.if-len.found.items there
          (found_offer ts c.args.goal args next.done clause c.loop-place.found.items c.if-len.found.items w.in_ok-offer_of.field-0 next.found (eq-eqb _ _ long) c.requires.goal holds part closed w.in_ok-offer_of.ensures.offer (ap (λ v. v.items) w.found-is ∙ w.in_ok-push.ensures.items))
      | else-len w ↦
          goes_on_by ts c.args.goal args next clause c.if-len.found.items there
          (found_untaken ts c.args.goal args next.done clause c.if-len.found.items (rw (ap (λ v. v.items) w.found-is) next.found) (not_equal _ _ (λ e. w.if-len.false (c.len.ensures.count ∙ e ∙ sym c.len-in-loop-place.ensures.count))))
    ]

pub returns-clause-offered : goal.returns-clause-offered
returns-clause-offered c =
    let end = c.loop-place-test.false in
    (all_found c.args.cx.now.nodes c.args.goal (tree_at c.args.cx.now.nodes c.args.trait_ref.args.node) c.args.head c.requires.first c.args.of_trait.now.clauses.items c.loop-place.found.items (drop c.loop-place.place-index c.args.places.now) c.loop-place.invariant (none_at c.args.places.now c.loop-place.place-index (omega (arith, end)))).leaves_out

pub returns-clause-candidates : goal.returns-clause-candidates
returns-clause-candidates c =
    let end = c.loop-place-test.false in
    (all_found c.args.cx.now.nodes c.args.goal (tree_at c.args.cx.now.nodes c.args.trait_ref.args.node) c.args.head c.requires.first c.args.of_trait.now.clauses.items c.loop-place.found.items (drop c.loop-place.place-index c.args.places.now) c.loop-place.invariant (none_at c.args.places.now c.loop-place.place-index (omega (arith, end)))).candidates
