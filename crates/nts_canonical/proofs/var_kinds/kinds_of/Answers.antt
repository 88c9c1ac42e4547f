use Rattle.std.proofs.Common.{arith, ap, ◌∙◌}
use Rattle.std.specs.List.{position_or_len}
use Rattle.nts_model.specs.Canonical.Inputs.{are_one}
use Rattle.nts_canonical.specs.SubRoots.{sub_root_in}
use Rattle.nts_canonical.proofs.VarLists.{owned-at, one_kind}
use Rattle.nts_canonical.proofs.var_kinds.kinds_of.Goals as goal

pub sub_root_of-requires-clause-owned : goal.sub_root_of-requires-clause-owned
sub_root_of-requires-clause-owned c = owned-at c.args.table.now.entries c.args.leaves.now c.loop-i.i _ c.requires.owned (omega (arith, c.loop-i-test.true))

pub loop-i-preserved : goal.loop-i-preserved
loop-i-preserved c =
    let first = c.first_of-first.ensures ∙ ap (λ o. position_or_len (are_one o) c.deref.result.now) c.sub_root_of.ensures in
    one_kind (sub_root_in c.args.table.now.entries) c.args.leaves.now c.deref.result.now c.loop-i.kinds.items c.push.new.self.items _ c.loop-i.i c.first_of-first.result _ c.requires.distinct (omega (arith, c.loop-i-test.true)) (c.deref.ensures.value ∙ c.in_ok-roots.ensures) c.loop-i.invariant first c.kind_at.ensures c.in_ok-push.ensures.items
