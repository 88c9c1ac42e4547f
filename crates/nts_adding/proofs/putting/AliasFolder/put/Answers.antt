use Rattle.std.proofs.Common.{sym, ap, ◌∙◌}
use Rattle.nts_store.specs.declared.type_flags.TypeFlags.{TypeFlags}
use Rattle.nts_store.proofs.Growing.{IsIn-extended}
use Rattle.nts_adding.specs.Putting.{plain, goes_on}
use Rattle.nts_adding.specs.Walking.{within_later, within_more}
use Rattle.nts_adding.proofs.Loose.{not_so}
use Rattle.nts_adding.proofs.Known.{put_step}
use Rattle.nts_adding.proofs.putting.AliasFolder.put.Goals as goal

pub returns-then-not-flags-clause-puts : goal.returns-then-not-flags-clause-puts
returns-then-not-flags-clause-puts c = plain (sym (ap (λ (f : TypeFlags). f.has_alias) c.flags.ensures) ∙ not_so c.flags.result.has_alias c.if-not-flags.true)

pub returns-then-not-is_closed_alias-clause-puts : goal.returns-then-not-is_closed_alias-clause-puts
returns-then-not-is_closed_alias-clause-puts c = goes_on (c.is_closed_alias.ensures.no c.if-not-is_closed_alias.true)

pub returns-in_err-variable-clause-ready : goal.returns-in_err-variable-clause-ready
returns-in_err-variable-clause-ready c =
    let f = c.fresh_var_for_kind_with_span.ensures in
    record { table = f.table; within = within_later f.grows.extends _ c.requires.ready.within }

pub returns-in_err-push-clause-ready : goal.returns-in_err-push-clause-ready
returns-in_err-push-clause-ready c =
    let f = c.fresh_var_for_kind_with_span.ensures in
    record { table = f.table; within = rw c.in_err-push.ensures.items (within_later f.grows.extends _ c.requires.ready.within) }

pub returns-clause-ready : goal.returns-clause-ready
returns-clause-ready c =
    let f = c.fresh_var_for_kind_with_span.ensures in
    let old = within_later f.grows.extends _ c.requires.ready.within in
    record {
      table = f.table;
      within = rw c.in_ok-push.ensures.items (within_more _ _ _ old (IsIn-extended f.grows.extends c.args.t.node c.requires.holds.within) c.in_ok-variable.ensures.holds.within);
    }

pub returns-clause-puts : goal.returns-clause-puts
returns-clause-puts c =
    let f = c.fresh_var_for_kind_with_span.ensures in
    put_step c.args.self.now (record { table = c.fresh_var_for_kind_with_span.new.self; puts = c.push.new.self }) c.args.t.node c.in_ok-variable.variable.node c.requires.ready f.grows.extends c.requires.holds.within
    (c.is_closed_alias.ensures.yes c.if-not-is_closed_alias.false) c.in_ok-variable.ensures.fresh c.in_ok-push.ensures.items
