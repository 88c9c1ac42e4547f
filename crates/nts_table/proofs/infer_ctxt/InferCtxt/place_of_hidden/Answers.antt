use Rattle.std.proofs.Common.{sym, ◌∙◌}
use Rattle.nts_store.proofs.Growing.{Extends-trans, IsIn-extended}
use Rattle.nts_unify.specs.Reading.{content_of}
use Rattle.nts_table.specs.TableLaws.{IsTable-extended}
use Rattle.nts_table.specs.Registering.{HasAliasOf}
use Rattle.nts_table.proofs.HiddenLemmas.{hidden_at, known_later, compared, none_more}
use Rattle.nts_table.proofs.infer_ctxt.InferCtxt.place_of_hidden.Goals as goal

pub resolve_nodes-requires-in-loop-i-clause-within : goal.resolve_nodes-requires-in-loop-i-clause-within
resolve_nodes-requires-in-loop-i-clause-within c =
    IsIn-extended c.loop-i.invariant.extends _ (hidden_at c.args.nodes.now c.args.self.now.entries c.loop-i.i _ c.requires.table.now c.hidden_type-old.ensures).args.within

pub resolve_nodes-requires-in-loop-i-clause-table : goal.resolve_nodes-requires-in-loop-i-clause-table
resolve_nodes-requires-in-loop-i-clause-table c = IsTable-extended c.loop-i.invariant.extends c.requires.table

pub resolve_nodes-requires-in-loop-i-clause-knows : goal.resolve_nodes-requires-in-loop-i-clause-knows
resolve_nodes-requires-in-loop-i-clause-knows c =
    known_later c.args.nodes.now c.loop-i.nodes c.args.self.now.entries c.hidden_type-old.result c.requires.table.now c.loop-i.invariant.extends (hidden_at c.args.nodes.now c.args.self.now.entries c.loop-i.i _ c.requires.table.now c.hidden_type-old.ensures)

pub returns-then-is_one_alias-clause-place : goal.returns-then-is_one_alias-clause-place
returns-then-is_one_alias-clause-place c =
    let ts = c.args.nodes.now in
    let vs = c.resolve_nodes-in-loop-i.new.nodes in
    let e = c.args.self.now.entries in
    let i = c.loop-i.invariant in
    let old = c.hidden_type-old.result in
    let one = compared ts c.loop-i.nodes vs e old c.in_ok-old_args.old_args c.requires.table.now i.extends (hidden_at ts e c.loop-i.i _ c.requires.table.now c.hidden_type-old.ensures) c.in_ok-old_args.ensures.tree in
    let kept = c.in_ok-old_args.ensures.extends.kept c.in_ok-args.args i.within in
    let yes = c.is_one_alias.ensures.yes c.if-is_one_alias.true in (
      old,
      record {
        at = c.hidden_type-old.ensures;
        has = record { alias = yes.0; args = sym one ∙ c.same.ensures.tree.0 yes.1 ∙ kept ∙ i.args };
        first = i.none;
      },
    )

pub loop-i-preserved : goal.loop-i-preserved
loop-i-preserved c =
    let ts = c.args.nodes.now in
    let vs = c.resolve_nodes-in-loop-i.new.nodes in
    let e = c.args.self.now.entries in
    let i = c.loop-i.invariant in
    let old = c.hidden_type-old.result in
    let one = compared ts c.loop-i.nodes vs e old c.in_ok-old_args.old_args c.requires.table.now i.extends (hidden_at ts e c.loop-i.i _ c.requires.table.now c.hidden_type-old.ensures) c.in_ok-old_args.ensures.tree in
    let kept = c.in_ok-old_args.ensures.extends.kept c.in_ok-args.args i.within in
    record {
      extends = Extends-trans i.extends c.in_ok-old_args.ensures.extends;
      within = IsIn-extended c.in_ok-old_args.ensures.extends _ i.within;
      args = kept ∙ i.args;
      none = none_more ts (content_of ts e) c.loop-i.i e.hidden.lookup c.args.hidden old i.none c.hidden_type-old.ensures
          (λ (h : HasAliasOf ts (content_of ts e) old c.args.hidden). c.is_one_alias.ensures.no c.if-is_one_alias.false h.alias (c.same.ensures.tree.1 (one ∙ h.args ∙ sym i.args ∙ sym kept)));
    }
