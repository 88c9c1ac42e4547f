use Rattle.std.proofs.Common.{inl, ap, ◌∙◌, rules}
use Rattle.nts_store.specs.Growth.{tree_at}
use Rattle.nts_store.proofs.Growing.{Extends-trans}
use Rattle.nts_terms.specs.Signatures.{variances_in}
use Rattle.nts_table.specs.Tables.{Table}
use Rattle.nts_table.specs.TableLaws.{IsTable-extended, IsTable-run}
use Rattle.nts_unify.specs.Lawful.{IsLawful-extended}
use Rattle.nts_unify.specs.Reading.{content_of}
use Rattle.nts_solver_relating.proofs.GoalsLeft.{if_ok, no_list, terms_of, side_later, resolved_side, resolved_later, resolved_sides, resolved_refused}
use Rattle.nts_solver_relating.proofs.nodes.relate_resolved.Goals as goal

pub resolve_nodes-requires-2-clause-table : goal.resolve_nodes-requires-2-clause-table
resolve_nodes-requires-2-clause-table c = IsTable-extended c.in_ok-left.ensures.extends c.requires.table

pub resolve_nodes-requires-2-clause-knows : goal.resolve_nodes-requires-2-clause-knows
resolve_nodes-requires-2-clause-knows c =
    let ts = c.args.nodes.now in
    let e = c.args.table.now.entries in
    let sides = terms_of ts (content_of ts e) c.args.left c.args.right c.requires.sides (no_list (tree_at ts c.args.left) c.requires.kind) in
    (side_later ts c.resolve_nodes.new.nodes e c.args.right c.requires.table.now c.in_ok-left.ensures.extends sides.1).knows

pub relate_or_leave-requires-clause-lawful : goal.relate_or_leave-requires-clause-lawful
relate_or_leave-requires-clause-lawful c =
    let same = ap (λ (t : Table). t.entries) c.table.view_is in
    rw same (IsLawful-extended (Extends-trans c.in_ok-left.ensures.extends c.in_ok-right.ensures.extends) c.requires.table.now)

pub relate_or_leave-requires-clause-sides : goal.relate_or_leave-requires-clause-sides
relate_or_leave-requires-clause-sides c =
    let ts = c.args.nodes.now in
    let us = c.resolve_nodes.new.nodes in
    let vs = c.resolve_nodes-2.new.nodes in
    let e = c.args.table.now.entries in
    let lawful = c.requires.table.now in
    let one = c.in_ok-left.ensures in
    let two = c.in_ok-right.ensures in
    let later = IsLawful-extended one.extends lawful in
    let sides = terms_of ts (content_of ts e) c.args.left c.args.right c.requires.sides (no_list (tree_at ts c.args.left) c.requires.kind) in
    let left = side_later us vs e c.in_ok-left.left later two.extends (resolved_side ts us e c.args.left c.in_ok-left.left lawful one.extends sides.0 one.within one.tree) in
    let right = resolved_side us vs e c.args.right c.in_ok-right.right later two.extends (side_later ts us e c.args.right lawful one.extends sides.1) two.within two.tree in
    let same = ap (λ (t : Table). t.entries) c.table.view_is in
    rw same (inl (left, right))

pub returns-in_err-left : goal.returns-in_err-left
returns-in_err-left c =
    record {
      extends = c.in_err-left.ensures.extends;
      table = IsTable-extended c.in_err-left.ensures.extends c.requires.table;
      changes = search rules;
      related = search rules;
      err = search rules;
      full = search rules;
      no = search rules;
    }

pub returns-in_err-right : goal.returns-in_err-right
returns-in_err-right c =
    let grown = Extends-trans c.in_ok-left.ensures.extends c.in_err-right.ensures.extends in
    record {
      extends = grown;
      table = IsTable-extended grown c.requires.table;
      changes = search rules;
      related = search rules;
      err = search rules;
      full = search rules;
      no = search rules;
    }

pub returns : goal.returns
returns c =
    let ts = c.args.nodes.now in
    let us = c.resolve_nodes.new.nodes in
    let vs = c.resolve_nodes-2.new.nodes in
    let e = c.args.table.now.entries in
    let lawful = c.requires.table.now in
    let one = c.in_ok-left.ensures in
    let two = c.in_ok-right.ensures in
    let k = c.relate_or_leave.ensures in
    let before = Extends-trans one.extends two.extends in
    let grown = Extends-trans before k.extends in
    let sides = terms_of ts (content_of ts e) c.args.left c.args.right c.requires.sides (no_list (tree_at ts c.args.left) c.requires.kind) in
    let left = two.extends.kept c.in_ok-left.left one.within ∙ one.tree in
    let right = resolved_later ts us vs e c.args.right c.in_ok-right.right lawful one.extends sides.1.within two.tree in
    let same = ap (λ (t : Table). t.entries) c.table.view_is in
    let saved = k.changes.saved ∙ ap (λ (t : Table). t.saved) c.table.view_is in
    record {
      extends = grown;
      table = IsTable-run c.requires.table grown k.lawful saved;
      changes = search rules;
      related = if_ok c.relate_or_leave.result _ _
          (λ gs r. resolved_sides (variances_in c.args.declarations.now) ts vs c.relate_or_leave.new.nodes e c.relate_or_leave.new.table.entries c.args.env c.args.variance (tree_at ts c.args.left) (tree_at ts c.args.right) gs.items lawful before sides.0.knows sides.1.knows c.requires.kind r)
          (rw (same, left, right) at k.related);
      err = search rules;
      full = k.full;
      no = λ q. resolved_refused (variances_in c.args.declarations.now) ts vs e c.args.variance (tree_at ts c.args.left) (tree_at ts c.args.right) lawful before sides.0.knows c.requires.kind (rw (same, left, right) at (k.no q));
    }
