use Rattle.std.proofs.Common.{◌≡◌, Bool, true, false, sym, ◌∙◌, rules, refl}
use mathlib.Core.Bool.{not}
use Rattle.nts_model.specs.declared.labels.Variance.TheVariants as variances
use Rattle.nts_model.specs.Terms.Trees.{any_label, is_alias}
use Rattle.nts_model.specs.Tables.Resolving.{resolved}
use Rattle.nts_store.specs.Growth.{tree_at}
use Rattle.nts_table.specs.TableLaws.{IsTable-extended}
use Rattle.nts_unify.specs.Reading.{content_of}
use Rattle.nts_solver_relating.proofs.GoalsLeft.{right_of, sides_kept}
use Rattle.nts_solver_relating.proofs.nodes.are_plain.Goals as goal

not_true : (b : Bool) → not b ≡ true → b ≡ false
not_true true h = cc
not_true false h = refl

not_false : (b : Bool) → not b ≡ false → b ≡ true
not_false true h = refl
not_false false h = cc

pub has_alias-requires-2-clause-table : goal.has_alias-requires-2-clause-table
has_alias-requires-2-clause-table c = IsTable-extended c.in_ok-has_alias.ensures.extends c.requires.table

pub has_alias-requires-2-clause-knows : goal.has_alias-requires-2-clause-knows
has_alias-requires-2-clause-knows c =
    let ts = c.args.nodes.now in
    let e = c.args.table.now.entries in
    let k = sides_kept ts c.has_alias.new.nodes e c.args.left c.args.right c.requires.table.now c.in_ok-has_alias.ensures.extends c.requires.sides in
    rw (k.content, k.right) (right_of ts (content_of ts e) c.args.left c.args.right c.requires.sides).1

-- whether an alias stands in the right side
right_answer : (c : goal.In_ok-found) → c.in_ok-found.found ≡ any_label is_alias (resolved (content_of c.args.nodes.now c.args.table.now.entries) (tree_at c.args.nodes.now c.args.right))
right_answer c =
    let ts = c.args.nodes.now in
    let k = sides_kept ts c.has_alias.new.nodes c.args.table.now.entries c.args.left c.args.right c.requires.table.now c.in_ok-has_alias.ensures.extends c.requires.sides in
    rw (k.content, k.right) at c.in_ok-found.ensures.answer

pub returns-clause-yes : goal.returns-clause-yes
returns-clause-yes c = λ q.
    let invariant : c.args.variance ≡ variances.Invariant = search rules in
    (invariant, sym c.in_ok-has_alias.ensures.answer ∙ c.if-branch.false, sym (right_answer c) ∙ not_true c.in_ok-found.found q)

pub returns-clause-no : goal.returns-clause-no
returns-clause-no c = λ q h.
    let one : true ≡ false = sym (not_false c.in_ok-found.found q) ∙ right_answer c ∙ h.2 in
    cc one
