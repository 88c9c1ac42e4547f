use Rattle.std.proofs.Common.{◌≡◌, ◌<◌, length, ap, sym, ◌∙◌, arith}
use Rattle.nts_model.specs.Terms.Trees.{children, row_length}
use Rattle.nts_store.specs.Growth.{tree_at}
use Rattle.nts_terms.specs.Handles.{alias_head}
use Rattle.nts_delegate.specs.Clauses.{AreNormClauses}
use Rattle.nts_delegate.specs.ClauseHandlers.{alias_asked}
use Rattle.nts_delegate.proofs.AliasFound.{normal_read, normal_is_candidate, takes_clause, leaves_clause, normal_more, normal_same, norm_taken, norm_clause_at}
use Rattle.nts_delegate.proofs.clauses.Clauses.clause_offers.Goals.{then-len+in_ok-normal_offer+in_ok-push, else-len}
use Rattle.nts_delegate.proofs.clauses.Clauses.clause_offers.Goals as goal

pub len-requires-in-loop-clause : goal.len-requires-in-loop-clause
len-requires-in-loop-clause c =
    let all : AreNormClauses c.args.cx.now.nodes c.of_alias-clause-items.result.now = rw c.of_alias-clause-items.ensures (c.requires.ready.aliases (alias_head c.args.alias.def_id)) in
    (norm_clause_at c.args.cx.now.nodes c.of_alias-clause-items.result.now c.loop-clause.clause-index c.clause-item.result all (omega (arith, c.loop-clause-test.true)) c.clause-item.is).head_holds

pub normal_offer-requires-clause-clause : goal.normal_offer-requires-clause-clause
normal_offer-requires-clause-clause c =
    let all : AreNormClauses c.args.cx.now.nodes c.of_alias-clause-items.result.now = rw c.of_alias-clause-items.ensures (c.requires.ready.aliases (alias_head c.args.alias.def_id)) in
    norm_clause_at c.args.cx.now.nodes c.of_alias-clause-items.result.now c.loop-clause.clause-index c.clause-item.result all (omega (arith, c.loop-clause-test.true)) c.clause-item.is

pub loop-clause-preserved : goal.loop-clause-preserved
loop-clause-preserved c =
    let ts = c.args.cx.now.nodes in
    let clauses = c.of_alias-clause-items.result.now in
    let clause = c.clause-item.result in
    let asked = alias_asked ts c.args.alias c.args.term in
    let inside : c.loop-clause.clause-index < length c.of_alias-clause-items.result.now = omega (arith, c.loop-clause-test.true) in
    let all : AreNormClauses c.args.cx.now.nodes c.of_alias-clause-items.result.now = rw c.of_alias-clause-items.ensures (c.requires.ready.aliases (alias_head c.args.alias.def_id)) in
    let holds = norm_clause_at ts clauses c.loop-clause.clause-index clause all inside c.clause-item.is in
    let one_more = norm_taken clauses c.loop-clause.clause-index clause inside c.clause-item.is in
    elim c.if-len.branch [
      | then-len+in_ok-normal_offer+in_ok-push w ↦
          let long : row_length (children (tree_at c.args.cx.now.nodes c.args.alias.args.node)) ≡ row_length (children (tree_at c.args.cx.now.nodes c.clause-item.result.head.node)) = sym c.len.ensures.count ∙ w.if-len.true ∙ c.len-in-loop-clause.ensures.count in
          normal_more ts c.args.goal asked _ _ _ _ clause _ c.loop-clause.invariant (takes_clause ts asked clause c.len.ensures.row c.len-in-loop-clause.ensures.row long)
          (normal_read ts c.args.goal asked clause _ w.in_ok-normal_offer.ensures.offer) (normal_is_candidate ts c.args.goal asked clause _ c.requires.goal c.requires.asked holds c.len-in-loop-clause.ensures.row w.in_ok-normal_offer.ensures.offer) one_more (ap (λ v. v.items) w.found-is ∙ w.in_ok-push.ensures.items)
      | else-len w ↦
          normal_same ts c.args.goal asked _ _ _ _ clause c.loop-clause.invariant (leaves_clause ts asked clause c.len.ensures.row c.len-in-loop-clause.ensures.row (λ e. w.if-len.false (c.len.ensures.count ∙ e ∙ sym c.len-in-loop-clause.ensures.count))) one_more (ap (λ v. v.items) w.found-is)
    ]
