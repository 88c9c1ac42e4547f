use Rattle.std.proofs.Common.{rules, ◌≡◌, true, false}
use Rattle.nts_trying.proofs.MergedResponses.{over_more, label_over}
use Rattle.nts_trying.proofs.merged.is_over_terms.Goals as goal

pub returns-then-not-is_of_kind : goal.returns-then-not-is_of_kind
returns-then-not-is_of_kind c = (
  λ no. (let z : false ≡ true = no in cc z),
  λ over.
      let yes = c.is_of_kind.ensures.1 (label_over c.args.cx.now.nodes c.args.values.now c.args.response.now.var_kinds.items c.loop-i.i _ c.index.result.now c.label.result over.many c.loop-i-test.true c.index.ensures c.label.ensures.is over.each) in
      search rules,
)

pub loop-i-preserved : goal.loop-i-preserved
loop-i-preserved c =
    over_more c.args.cx.now.nodes c.args.values.now c.args.response.now.var_kinds.items c.loop-i.i _ c.index.result.now c.label.result (search rules) c.loop-i-test.true c.index.ensures c.label.ensures.is (c.is_of_kind.ensures.0 (search rules)) c.loop-i.invariant
