use Rattle.nts_store.proofs.Growing.{Extends-trans}
use Rattle.nts_table.specs.TableLaws.{IsTable-extended}
use Rattle.nts_delegate.specs.ClausesKept.{AreClausesReady-kept}
use Rattle.nts_context_uses.proofs.Asked.{plain_kept}
use Rattle.nts_context_uses.proofs.errors.try_errors.Goals as goal

pub is_plain-requires : goal.is_plain-requires
is_plain-requires c = record { table = IsTable-extended c.in_ok-env.ensures.grows.extends c.requires.table }

pub is_plain-requires-else-not-branch : goal.is_plain-requires-else-not-branch
is_plain-requires-else-not-branch c = record { table = IsTable-extended (Extends-trans c.in_ok-env.ensures.grows.extends c.in_ok-is_plain.ensures.grows.extends) c.requires.table }

pub is_plain-requires-else-not-branch-2 : goal.is_plain-requires-else-not-branch-2
is_plain-requires-else-not-branch-2 c =
    record { table = IsTable-extended (Extends-trans (Extends-trans c.in_ok-env.ensures.grows.extends c.in_ok-is_plain.ensures.grows.extends) c.in_ok-is_plain-2.ensures.grows.extends) c.requires.table }

pub err_in_probes-answer-requires-clause-table : goal.err_in_probes-answer-requires-clause-table
err_in_probes-answer-requires-clause-table c =
    let before = Extends-trans (Extends-trans c.in_ok-env.ensures.grows.extends c.in_ok-is_plain.ensures.grows.extends) c.in_ok-is_plain-2.ensures.grows.extends in
    IsTable-extended (Extends-trans before c.in_ok-is_plain-3.ensures.grows.extends) c.requires.table

pub err_in_probes-answer-requires-clause-ready : goal.err_in_probes-answer-requires-clause-ready
err_in_probes-answer-requires-clause-ready c =
    let before = Extends-trans (Extends-trans c.in_ok-env.ensures.grows.extends c.in_ok-is_plain.ensures.grows.extends) c.in_ok-is_plain-2.ensures.grows.extends in
    AreClausesReady-kept _ _ c.args.rules.now c.requires.ready (Extends-trans before c.in_ok-is_plain-3.ensures.grows.extends)

pub err_in_probes-answer-requires-clause-left : goal.err_in_probes-answer-requires-clause-left
err_in_probes-answer-requires-clause-left c =
    let first = Extends-trans c.in_ok-env.ensures.grows.extends c.in_ok-is_plain.ensures.grows.extends in
    plain_kept (Extends-trans c.in_ok-is_plain-2.ensures.grows.extends c.in_ok-is_plain-3.ensures.grows.extends) (IsTable-extended first c.requires.table) (c.in_ok-is_plain.ensures.plain c.if-not-branch.false)

pub err_in_probes-answer-requires-clause-tried : goal.err_in_probes-answer-requires-clause-tried
err_in_probes-answer-requires-clause-tried c =
    let before = Extends-trans (Extends-trans c.in_ok-env.ensures.grows.extends c.in_ok-is_plain.ensures.grows.extends) c.in_ok-is_plain-2.ensures.grows.extends in
    plain_kept c.in_ok-is_plain-3.ensures.grows.extends (IsTable-extended before c.requires.table) (c.in_ok-is_plain-2.ensures.plain c.if-not-branch-2.false)
