use Rattle.std.proofs.Common.{ap, ◌∙◌, sym, rules}
use Rattle.nts_store.specs.Growth.{tree_at}
use Rattle.nts_store.proofs.Growing.{Extends-trans}
use Rattle.nts_terms.specs.Signatures.{variances_in}
use Rattle.nts_table.specs.Tables.{Table}
use Rattle.nts_table.specs.TableLaws.{IsTable-extended, IsTable-run}
use Rattle.nts_unify.specs.Lawful.{IsLawful-extended}
use Rattle.nts_unify.specs.Reading.{content_of}
use Rattle.nts_solver_relating.specs.Sides.{ArePlain}
use Rattle.nts_solver_relating.proofs.GoalsLeft.{if_ok, AreKept, sides_kept, can_relate_later, related_earlier, refused_earlier}
use Rattle.nts_solver_relating.proofs.nodes.relate_by.Goals as goal

pub returns-in_err-are_plain-clause-table : goal.returns-in_err-are_plain-clause-table
returns-in_err-are_plain-clause-table c = IsTable-extended c.in_err-are_plain.ensures.extends c.requires.table

pub equate_plain-requires-clause-lawful : goal.equate_plain-requires-clause-lawful
equate_plain-requires-clause-lawful c =
    let same = ap (λ (t : Table). t.entries) c.table.view_is in
    rw same (IsLawful-extended c.in_ok-are_plain.ensures.extends c.requires.table.now)

pub equate_plain-requires-clause-sides : goal.equate_plain-requires-clause-sides
equate_plain-requires-clause-sides c =
    let same = ap (λ (t : Table). t.entries) c.table.view_is in
    rw same (can_relate_later c.args.nodes.now c.are_plain.new.nodes c.args.table.now.entries c.args.left c.args.right c.requires.table.now c.in_ok-are_plain.ensures.extends c.requires.sides)

pub equate_plain-requires-clause-left : goal.equate_plain-requires-clause-left
equate_plain-requires-clause-left c =
    let same = ap (λ (t : Table). t.entries) c.table.view_is in
    let k = sides_kept c.args.nodes.now c.are_plain.new.nodes c.args.table.now.entries c.args.left c.args.right c.requires.table.now c.in_ok-are_plain.ensures.extends c.requires.sides in
    rw (same, k.content, k.left) (c.in_ok-are_plain.ensures.yes c.if-branch.true).1

pub equate_plain-requires-clause-right : goal.equate_plain-requires-clause-right
equate_plain-requires-clause-right c =
    let same = ap (λ (t : Table). t.entries) c.table.view_is in
    let k = sides_kept c.args.nodes.now c.are_plain.new.nodes c.args.table.now.entries c.args.left c.args.right c.requires.table.now c.in_ok-are_plain.ensures.extends c.requires.sides in
    rw (same, k.content, k.right) (c.in_ok-are_plain.ensures.yes c.if-branch.true).2

pub returns-then-branch-clause-table : goal.returns-then-branch-clause-table
returns-then-branch-clause-table c =
    let saved = c.equate_plain.ensures.changes.saved ∙ ap (λ (t : Table). t.saved) c.table.view_is in
    IsTable-run c.requires.table (Extends-trans c.in_ok-are_plain.ensures.extends c.equate_plain.ensures.extends) c.equate_plain.ensures.lawful saved

-- the store after the look
plainly_kept : (c : goal.After-equate_plain) → AreKept c.args.nodes.now c.are_plain.new.nodes c.args.table.now.entries c.args.left c.args.right
plainly_kept c =
    sides_kept c.args.nodes.now c.are_plain.new.nodes c.args.table.now.entries c.args.left c.args.right c.requires.table.now c.in_ok-are_plain.ensures.extends c.requires.sides

pub returns-then-branch-clause-related : goal.returns-then-branch-clause-related
returns-then-branch-clause-related c =
    let same = ap (λ (t : Table). t.entries) c.table.view_is in
    let is = (c.in_ok-are_plain.ensures.yes c.if-branch.true).0 in
    let related = rw same at c.equate_plain.ensures.related in
    rw is (if_ok c.equate_plain.result _ _
    (λ gs r. related_earlier (variances_in c.args.declarations.now) c.args.nodes.now c.are_plain.new.nodes c.equate_plain.new.nodes c.args.table.now.entries c.equate_plain.new.table.entries c.args.env _ c.args.left c.args.right gs.items (plainly_kept c) r) related)

pub returns-then-branch-clause-equal : goal.returns-then-branch-clause-equal
returns-then-branch-clause-equal c = λ q.
    let k = plainly_kept c in
    let same = ap (λ (t : Table). t.entries) c.table.view_is in
    rw (same, k.content, k.left, k.right) at c.equate_plain.ensures.equal

pub returns-then-branch-clause-no : goal.returns-then-branch-clause-no
returns-then-branch-clause-no c = λ q.
    let same = ap (λ (t : Table). t.entries) c.table.view_is in
    let is = (c.in_ok-are_plain.ensures.yes c.if-branch.true).0 in
    let refused = rw same at (c.equate_plain.ensures.no q) in
    rw is (refused_earlier (variances_in c.args.declarations.now) c.args.nodes.now c.are_plain.new.nodes c.args.table.now.entries _ c.args.left c.args.right (plainly_kept c) refused)

pub returns-then-branch-clause-unequal : goal.returns-then-branch-clause-unequal
returns-then-branch-clause-unequal c = λ p q.
    let k = plainly_kept c in
    let same = ap (λ (t : Table). t.entries) c.table.view_is in
    rw (same, k.content, k.left, k.right) at (c.equate_plain.ensures.unequal q)

pub relate_any-requires-clause-table : goal.relate_any-requires-clause-table
relate_any-requires-clause-table c = IsTable-extended c.in_ok-are_plain.ensures.extends c.requires.table

pub relate_any-requires-clause-sides : goal.relate_any-requires-clause-sides
relate_any-requires-clause-sides c =
    can_relate_later c.args.nodes.now c.are_plain.new.nodes c.args.table.now.entries c.args.left c.args.right c.requires.table.now c.in_ok-are_plain.ensures.extends c.requires.sides

kept : (c : goal.After-relate_any) → AreKept c.args.nodes.now c.are_plain.new.nodes c.args.table.now.entries c.args.left c.args.right
kept c =
    sides_kept c.args.nodes.now c.are_plain.new.nodes c.args.table.now.entries c.args.left c.args.right c.requires.table.now c.in_ok-are_plain.ensures.extends c.requires.sides

pub returns-clause-related : goal.returns-clause-related
returns-clause-related c =
    if_ok c.relate_any.result _ _
    (λ gs r. related_earlier (variances_in c.args.declarations.now) c.args.nodes.now c.are_plain.new.nodes c.relate_any.new.nodes c.args.table.now.entries c.relate_any.new.table.entries c.args.env c.args.variance c.args.left c.args.right gs.items (kept c) r) c.relate_any.ensures.related

pub returns-clause-equal : goal.returns-clause-equal
returns-clause-equal c = λ q. absurd (c.in_ok-are_plain.ensures.no c.if-branch.false q)

pub returns-clause-no : goal.returns-clause-no
returns-clause-no c = λ q.
    refused_earlier (variances_in c.args.declarations.now) c.args.nodes.now c.are_plain.new.nodes c.args.table.now.entries c.args.variance c.args.left c.args.right (kept c) (c.relate_any.ensures.no q)

pub returns-clause-unequal : goal.returns-clause-unequal
returns-clause-unequal c = λ p q. absurd (c.in_ok-are_plain.ensures.no c.if-branch.false p)
