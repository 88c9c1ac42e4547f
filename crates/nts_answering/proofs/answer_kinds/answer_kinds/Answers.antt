use Rattle.std.proofs.Common.{arith, ap, ◌∙◌}
use Rattle.std.specs.List.{position_or_len}
use Rattle.nts_model.specs.Canonical.Inputs.{are_one}
use Rattle.nts_unify.specs.Reading.{content_of}
use Rattle.nts_response.specs.nts_canonical.specs.SubRoots.{sub_root_in}
use Rattle.nts_response.specs.nts_canonical.proofs.VarLists.{owned-at}
use Rattle.nts_answering.proofs.KindLists.{one_answer, all_answered}
use Rattle.nts_answering.proofs.answer_kinds.answer_kinds.Goals as goal

pub sub_root_of-requires-clause-owned : goal.sub_root_of-requires-clause-owned
sub_root_of-requires-clause-owned c = owned-at c.args.table.now.entries c.args.leaves.now c.loop-i.i _ c.requires.owned (omega (arith, c.loop-i-test.true))

pub answer_kind-requires : goal.answer_kind-requires
answer_kind-requires c = owned-at c.args.table.now.entries c.args.leaves.now c.loop-i.i _ c.requires.owned (omega (arith, c.loop-i-test.true))

pub loop-i-preserved : goal.loop-i-preserved
loop-i-preserved c = λ ts.
    (let first = c.first_of-first.ensures ∙ ap (λ o. position_or_len (are_one o) c.deref.result.now) c.sub_root_of.ensures in
    one_answer (content_of ts c.args.table.now.entries) (sub_root_in c.args.table.now.entries) c.args.max_input_universe c.args.leaves.now c.deref.result.now c.loop-i.kinds.items c.push.new.self.items _ c.loop-i.i c.first_of-first.result _ (omega (arith, c.loop-i-test.true)) (c.deref.ensures.value ∙ c.in_ok-roots.ensures) (c.loop-i.invariant ts) first (c.answer_kind.ensures ts) c.in_ok-push.ensures.items)

pub returns : goal.returns
returns c = λ ts. all_answered (content_of ts c.args.table.now.entries) (sub_root_in c.args.table.now.entries) c.args.max_input_universe c.args.leaves.now c.loop-i.kinds.items c.loop-i.i (omega (arith, c.loop-i-test.false)) (c.loop-i.invariant ts)
