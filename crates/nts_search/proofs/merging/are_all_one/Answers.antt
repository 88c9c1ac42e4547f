use Rattle.std.proofs.Common.{sym, subst, arith}
use Rattle.nts_response.specs.Forms.{HoldsResponse}
use Rattle.nts_search.proofs.merging.are_all_one.Goals as goal

pub same_response-requires-clause-left : goal.same_response-requires-clause-left
same_response-requires-clause-left c =
    subst (λ z. HoldsResponse c.args.cx.now.nodes z.value) (sym c.index-candidates-0.is) (c.requires 0 c.index-candidates-0.result (omega (arith, c.loop-i-test.true)))

pub same_response-requires-clause-right : goal.same_response-requires-clause-right
same_response-requires-clause-right c =
    subst (λ z. HoldsResponse c.args.cx.now.nodes z.value) (sym c.index-candidates-i.is) (c.requires c.loop-i.i c.index-candidates-i.result c.loop-i-test.true)
