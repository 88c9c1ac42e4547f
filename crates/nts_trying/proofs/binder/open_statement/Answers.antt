use Rattle.std.proofs.Common.{rules, ◌≡◌, ◌+◌, [], ◌∷◌, Some}
use Rattle.nts_store.specs.Growth.{tree_at}
use Rattle.nts_store.proofs.Growing.{Extends-refl}
use Rattle.nts_table.specs.TableLaws.{IsTable-extended}
use Rattle.nts_meaning.proofs.Evaluating.{Goes-extends}
use Rattle.nts_trying.proofs.Entering.{HaveEntered, have_entered, goes_entered}
use Rattle.nts_trying.proofs.binder.open_statement.Goals as goal

entered : (c : goal.After-drop-universes-2) → HaveEntered c.args.cx.now.nodes c.replace_bound_vars.new.cx.nodes c.args.table.now c.replace_bound_vars.new.table (tree_at c.args.cx.now.nodes c.args.statement.node) (tree_at c.replace_bound_vars.new.cx.nodes c.in_ok-opened.opened.node)
entered c =
    let k = c.in_ok-universe.ensures in
    let r = c.in_ok-opened.ensures in
    let list : c.push.new.self.items ≡ Some (c.args.table.now.entries.universe + 1) ∷ [] = first_of (cc, search rules) in
    have_entered (c.terms_are_formed.ensures c.args.statement.node c.requires.holds.within) c.requires.table c.requires.levels c.requires.knows k.entries (k.table _ c.requires.table) k.changes list r.universes r.changes r.grows.extends (IsTable-extended r.grows.extends (r.table _ (k.table _ c.requires.table))) r.tree r.knows

pub returns-clause-goes : goal.returns-clause-goes
returns-clause-goes c = (entered c).goes

pub returns-clause-entries : goal.returns-clause-entries
returns-clause-entries c = (entered c).entries

pub returns-clause-tree : goal.returns-clause-tree
returns-clause-tree c = (entered c).tree

pub returns-clause-knows : goal.returns-clause-knows
returns-clause-knows c = (entered c).knows

-- no universe was entered
pub returns-in_err-universe-clause-goes : goal.returns-in_err-universe-clause-goes
returns-in_err-universe-clause-goes c = rw c.in_err-universe.ensures.err (Goes-extends c.requires.table (Extends-refl _))

-- a universe was entered, and no more
pub returns-in_err-push-clause-goes : goal.returns-in_err-push-clause-goes
returns-in_err-push-clause-goes c =
    let k = c.in_ok-universe.ensures in
    goes_entered c.requires.table (Extends-refl _) (k.table _ c.requires.table) k.changes k.entries

pub returns-in_err-opened-clause-goes : goal.returns-in_err-opened-clause-goes
returns-in_err-opened-clause-goes c =
    let k = c.in_ok-universe.ensures in
    let r = c.in_err-opened.ensures in
    rw r.table_err (goes_entered c.requires.table r.grows.extends (IsTable-extended r.grows.extends (k.table _ c.requires.table)) k.changes k.entries)
