use Rattle.std.proofs.Common.{ap, arith, get_or, subst, ◌∙◌}
use Rattle.std.proofs.lemmas.List.{take_all}
use Rattle.nts_model.specs.Tables.Resolving.{deeply_resolved}
use Rattle.nts_store.specs.Growth.{tree_at}
use Rattle.nts_store.proofs.Growing.{Extends-trans}
use Rattle.nts_terms.specs.Handles.{HoldsArg}
use Rattle.nts_terms.proofs.Moved.{KeepsRest-trans}
use Rattle.nts_unify.specs.Reading.{content_of}
use Rattle.nts_unify.specs.Lawful.{content_of-extended}
use Rattle.nts_table.specs.TableLaws.{IsTable-extended}
use Rattle.nts_response.specs.Replacing.{ReplacesEach, argument_value}
use Rattle.nts_response.proofs.Each.{replaced_more, values_kept}
use Rattle.nts_meaning.proofs.Told.{term_of_arg, holds_resolved, args_resolved}
use Rattle.nts_meaning.proofs.response.resolved_values.Goals as goal

pub resolve_term-requires-clause-table : goal.resolve_term-requires-clause-table
resolve_term-requires-clause-table c = IsTable-extended c.loop-i.invariant.grows.extends c.requires.table

pub resolve_term-requires-clause-term : goal.resolve_term-requires-clause-term
resolve_term-requires-clause-term c = term_of_arg c.requires.table c.loop-i.invariant.grows.extends (c.requires.values c.loop-i.i _ (omega (arith, c.loop-i-test.true)))

pub loop-i-preserved : goal.loop-i-preserved
loop-i-preserved c =
    let up = c.loop-i.invariant.grows.extends in
    let r = c.in_ok-node.ensures in
    let l = c.requires.values c.loop-i.i (record { node = record { number = 0 } }) (omega (arith, c.loop-i-test.true)) in
    let same = content_of-extended up c.requires.table.now in
    let t = c.args.cx.now.nodes in
    record {
      each = replaced_more HoldsArg argument_value (deeply_resolved (content_of t c.args.table.now.entries)) values_kept t c.loop-i.cx.nodes c.resolve_term.new.cx.nodes c.args.values.now c.loop-i.resolved.items c.push.new.self.items c.loop-i.i (record { node = record { number = 0 } }) (record { node = c.in_ok-node.node })
          up r.grows.extends (λ k d q. (c.requires.values k d q).holds) (omega (arith, c.loop-i-test.true)) c.loop-i.invariant.each (holds_resolved up l r.term r.kind) (r.tree ∙ ap (λ x. deeply_resolved x (tree_at c.loop-i.cx.nodes (get_or c.args.values.now c.loop-i.i (record { node = record { number = 0 } })).node)) same) c.in_ok-push.ensures.items;
      grows = record { extends = Extends-trans up r.grows.extends; rest = KeepsRest-trans c.loop-i.invariant.grows.rest r.grows.rest };
    }

pub returns-clause-args : goal.returns-clause-args
returns-clause-args c =
    let t = c.args.cx.now.nodes in
    let e = c.args.table.now.entries in
    let all = subst (λ xs. ReplacesEach HoldsArg argument_value (deeply_resolved (content_of t e)) t c.loop-i.cx.nodes xs c.loop-i.resolved.items) (take_all c.loop-i.i c.args.values.now (omega (arith, c.loop-i-test.false))) c.loop-i.invariant.each in
    args_resolved t c.loop-i.cx.nodes e (content_of t e) c.args.values.now c.loop-i.resolved.items (content_of-extended c.loop-i.invariant.grows.extends c.requires.table.now) c.requires.table.now.sound (λ k d q. (c.requires.values k d q).known) all
