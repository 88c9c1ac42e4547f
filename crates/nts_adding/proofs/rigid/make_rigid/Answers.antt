use Rattle.std.proofs.Common.{◌∙◌, length}
use Rattle.nts_model.specs.Tables.Resolving.{Knows}
use Rattle.nts_store.specs.Growth.{tree_at}
use Rattle.nts_store.proofs.Growing.{Extends-trans}
use Rattle.nts_terms.specs.Handles.{alias_head}
use Rattle.nts_terms.proofs.Moved.{Holds-extended}
use Rattle.nts_unify.specs.Reading.{content_of}
use Rattle.nts_table.specs.TableLaws.{IsTable-extended}
use Rattle.nts_relating.proofs.PairLemmas.{err_of}
use Rattle.nts_meaning.proofs.Evaluating.{Goes-trans, Goes-extends, IsTermIn-later, Knows-goes, Runs-trans, runs-back}
use Rattle.nts_adding.proofs.NewVariables.{knows_new, knows_alias, declared_new, content-new, alias-new, runs_new}
use Rattle.nts_adding.proofs.rigid.make_rigid.Goals as goal

pub returns-in_err-args-clause-runs : goal.returns-in_err-args-clause-runs
returns-in_err-args-clause-runs c = (let r = c.in_err-args.ensures in runs-back c.requires.table r.grows.extends r.grows.rest r.err)

pub alias_node-requires-clause-declared : goal.alias_node-requires-clause-declared
alias_node-requires-clause-declared c = (let r = c.in_ok-args.ensures in declared_new c.args.cx.now.declarations _ c.args.def_id _ _ _ r.grows.rest.declarations c.requires.takes r.tree)

pub returns-in_err-made-clause-runs : goal.returns-in_err-made-clause-runs
returns-in_err-made-clause-runs c = (let r = c.in_ok-args.ensures in runs_new c.args.sorts.now c.requires.table r.grows r.table r.entries r.changes c.in_err-made.ensures.grows)

pub equate-requires-clause-table : goal.equate-requires-clause-table
equate-requires-clause-table c = IsTable-extended c.alias_node.ensures.grows.extends c.in_ok-args.ensures.table

pub equate-requires-clause-left : goal.equate-requires-clause-left
equate-requires-clause-left c =
    let r = c.in_ok-args.ensures in
    let w = runs_new c.args.sorts.now c.requires.table r.grows r.table r.entries r.changes c.alias_node.ensures.grows in
    IsTermIn-later w.goes c.requires.term

pub equate-requires-clause-right : goal.equate-requires-clause-right
equate-requires-clause-right c =
    let r = c.in_ok-args.ensures in
    let m = c.in_ok-made.ensures in
    let content = content-new c.args.table.now.entries c.fresh_args_for_item.new.self.entries c.args.sorts.now c.requires.table.now r.grows.extends m.grows.extends r.entries in
    let tree = alias-new c.fresh_args_for_item.new.cx.nodes c.alias_node.new.cx.nodes (alias_head c.args.def_id) (length c.args.table.now.entries.variables) c.args.sorts.now c.in_ok-args.args.node c.in_ok-made.made m.tree r.tree in
    record { within = m.within; knows = rw (content, tree) (knows_alias c.args.cx.now.nodes c.args.table.now.entries (alias_head c.args.def_id) c.args.sorts.now) }

pub returns-in-Err-clause-runs : goal.returns-in-Err-clause-runs
returns-in-Err-clause-runs c =
    let r = c.in_ok-args.ensures in
    Runs-trans (runs_new c.args.sorts.now c.requires.table r.grows r.table r.entries r.changes c.alias_node.ensures.grows) c.equate.ensures.runs

pub returns-in-Ok-clause-runs : goal.returns-in-Ok-clause-runs
returns-in-Ok-clause-runs c =
    let r = c.in_ok-args.ensures in
    Runs-trans (runs_new c.args.sorts.now c.requires.table r.grows r.table r.entries r.changes c.alias_node.ensures.grows) c.equate.ensures.runs

pub returns-in-Err-clause-no : goal.returns-in-Err-clause-no
returns-in-Err-clause-no c = λ q.
    let r = c.in_ok-args.ensures in
    let m = c.in_ok-made.ensures in
    let content = content-new c.args.table.now.entries c.fresh_args_for_item.new.self.entries c.args.sorts.now c.requires.table.now r.grows.extends m.grows.extends r.entries in
    let left = (Extends-trans r.grows.extends m.grows.extends).kept c.args.term.node c.requires.term.within in
    let right = alias-new c.fresh_args_for_item.new.cx.nodes c.alias_node.new.cx.nodes (alias_head c.args.def_id) (length c.args.table.now.entries.variables) c.args.sorts.now c.in_ok-args.args.node c.in_ok-made.made m.tree r.tree in
    rw (content, left, right) at (c.in-Err.ensures.no (err_of _ _ q))

pub returns-in-Ok-clause-becomes : goal.returns-in-Ok-clause-becomes
returns-in-Ok-clause-becomes c =
    let r = c.in_ok-args.ensures in
    let m = c.in_ok-made.ensures in
    let content = content-new c.args.table.now.entries c.fresh_args_for_item.new.self.entries c.args.sorts.now c.requires.table.now r.grows.extends m.grows.extends r.entries in
    let left = (Extends-trans r.grows.extends m.grows.extends).kept c.args.term.node c.requires.term.within in
    let right = alias-new c.fresh_args_for_item.new.cx.nodes c.alias_node.new.cx.nodes (alias_head c.args.def_id) (length c.args.table.now.entries.variables) c.args.sorts.now c.in_ok-args.args.node c.in_ok-made.made m.tree r.tree in
    let e = c.in-Ok.ensures in
    record {
      made = rw (content, left, right) at e.related;
      ties = rw (content) at e.ties;
      labels = rw (content, left, right) at e.labels;
    }

pub returns-in-Ok-clause-tree : goal.returns-in-Ok-clause-tree
returns-in-Ok-clause-tree c =
    let r = c.in_ok-args.ensures in
    let later = Extends-trans c.alias_node.ensures.grows.extends c.equate.ensures.runs.goes.extends in
    later.kept c.in_ok-args.args.node r.holds.within ∙ r.tree

pub returns-in-Ok-clause-side : goal.returns-in-Ok-clause-side
returns-in-Ok-clause-side c =
    let r = c.in_ok-args.ensures in
    let us = c.fresh_args_for_item.new.cx.nodes in
    let g = Goes-trans (Goes-extends r.table c.alias_node.ensures.grows.extends) c.equate.ensures.runs.goes in
    let there : Knows (content_of us c.fresh_args_for_item.new.self.entries) (tree_at us c.in_ok-args.args.node) = rw (r.entries, r.tree) (knows_new us c.args.table.now.entries c.args.sorts.now) in
    record {
      holds = Holds-extended _ c.in_ok-args.args.node g.extends r.holds;
      known = rw (g.extends.kept c.in_ok-args.args.node r.holds.within) (Knows-goes _ g there);
    }
