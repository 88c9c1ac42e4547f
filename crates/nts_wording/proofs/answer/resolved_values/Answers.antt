use Rattle.std.proofs.Common.{take, sym, ap, subst, ◌∙◌}
use Rattle.nts_model.specs.Tables.Resolving.{deeply_resolved}
use Rattle.nts_store.proofs.Growing.{Extends-trans}
use Rattle.nts_terms.proofs.Moved.{KeepsRest-trans}
use Rattle.nts_unify.specs.Reading.{content_of}
use Rattle.nts_unify.specs.Lawful.{content_of-extended}
use Rattle.nts_table.specs.TableLaws.{IsTable-extended}
use Rattle.nts_wording.proofs.Telling.{resolved_more, values-extended}
use Rattle.nts_wording.proofs.Lines.{take_one}
use Rattle.nts_wording.specs.Found.{AreResolved}
use Rattle.nts_wording.proofs.answer.resolved_values.Goals as goal

pub eager_resolve_vars-requires-clause-table : goal.eager_resolve_vars-requires-clause-table
eager_resolve_vars-requires-clause-table c = IsTable-extended c.loop-value.invariant.extends c.requires.table

pub eager_resolve_vars-requires-clause-holds : goal.eager_resolve_vars-requires-clause-holds
eager_resolve_vars-requires-clause-holds c =
    (values-extended c.args.values.now c.requires.table c.loop-value.invariant.extends c.requires.values c.loop-value.value-index (record { node = record { number = 0 } }) c.loop-value-test.true).holds

pub eager_resolve_vars-requires-clause-knows : goal.eager_resolve_vars-requires-clause-knows
eager_resolve_vars-requires-clause-knows c =
    (values-extended c.args.values.now c.requires.table c.loop-value.invariant.extends c.requires.values c.loop-value.value-index (record { node = record { number = 0 } }) c.loop-value-test.true).knows

pub loop-value-preserved : goal.loop-value-preserved
loop-value-preserved c =
    let i = c.loop-value.invariant in
    let e = c.in_ok-eager_resolve_vars.ensures in
    let here = content_of c.args.cx.now.nodes c.args.table.now.entries in
    record {
      extends = Extends-trans i.extends e.grows.extends;
      rest = KeepsRest-trans i.rest e.grows.rest;
      resolved =
          subst (λ vs. AreResolved c.args.cx.now.nodes c.eager_resolve_vars.new.cx.nodes here vs c.push.new.self.items)
          (sym (take_one c.args.values.now c.loop-value.value-index (record { node = record { number = 0 } }) c.loop-value-test.true)) (rw c.in_ok-push.ensures.items (resolved_more c.args.cx.now.nodes c.loop-value.cx.nodes c.eager_resolve_vars.new.cx.nodes here (take c.loop-value.value-index c.args.values.now) c.loop-value.found.items _ _
          e.grows.extends i.resolved e.holds.within
          ((rw (content_of-extended i.extends c.requires.table.now) at e.tree)
          ∙ ap (deeply_resolved here) (i.extends.kept _ (c.requires.values c.loop-value.value-index (record { node = record { number = 0 } }) c.loop-value-test.true).holds.within))));
    }
