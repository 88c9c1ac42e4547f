use Rattle.std.proofs.Common.{inl, rules, sym, subst}
use Rattle.nts_trying.specs.Found.{IsMerged}
use Rattle.nts_trying.proofs.MergedResponses.{merged_kept, merged_doubt}
use Rattle.nts_trying.proofs.merged.merge_responses.Goals as goal

pub returns-in-Some-clause-merged : goal.returns-in-Some-clause-merged
returns-in-Some-clause-merged c =
    subst (IsMerged c.args.cx.now.nodes c.args.cx.now.nodes c.args.table.now c.args.values.now c.args.responses.items) (sym c.in_ok-response.ensures.ok)
    (inl (merged_kept c.args.cx.now.nodes c.args.values.now c.args.responses.items _ c.in-Some.i c.swap_remove.result c.deref.ensures.value (c.in-Some.ensures.some.1 c.swap_remove.result) c.swap_remove.ensures.value))

pub returns-clause-merged : goal.returns-clause-merged
returns-clause-merged c =
    let e = c.in_ok-response-2.ensures in
    merged_doubt c.args.cx.now.nodes c.boxed_response.new.cx.nodes c.args.table.now c.args.values.now c.args.responses.items c.deref.result.now c.deref-2.result.now c.in_ok-response-2.response.value c.join_doubts.result c.deref.ensures.value c.deref-2.ensures.value (c.in_default.ensures.none (search rules)) c.join_doubts.ensures e.certainty e.says e.holds e.nothing
