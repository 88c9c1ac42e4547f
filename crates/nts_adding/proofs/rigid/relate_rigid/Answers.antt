use Rattle.std.proofs.Common.{inr}
use Rattle.nts_table.specs.TableLaws.{IsTable-extended}
use Rattle.nts_solver_relating.proofs.GoalsLeft.{if_ok}
use Rattle.nts_meaning.proofs.Evaluating.{Goes-extends, IsTermIn-later, Runs-extends, Runs-trans}
use Rattle.nts_adding.specs.Rigid.{RelatesRigidly}
use Rattle.nts_adding.proofs.Rigidly.{side_goes, related_before, refuses_before}
use Rattle.nts_adding.proofs.rigid.relate_rigid.Goals as goal

pub returns-in_err-may_become-clause-runs : goal.returns-in_err-may_become-clause-runs
returns-in_err-may_become-clause-runs c = (let g = c.in_err-may_become.ensures.grows in Runs-extends c.requires.table g.extends g.rest)

pub returns-then-not-branch-clause-runs : goal.returns-then-not-branch-clause-runs
returns-then-not-branch-clause-runs c = (let g = c.may_become.ensures.grows in Runs-extends c.requires.table g.extends g.rest)

pub returns-in_err-sorts-clause-runs : goal.returns-in_err-sorts-clause-runs
returns-in_err-sorts-clause-runs c = (let g = c.may_become.ensures.grows in Runs-extends c.requires.table g.extends g.rest)

pub returns-in-None-clause-runs : goal.returns-in-None-clause-runs
returns-in-None-clause-runs c = (let g = c.may_become.ensures.grows in Runs-extends c.requires.table g.extends g.rest)

pub relate_with_new-requires-clause-table : goal.relate_with_new-requires-clause-table
relate_with_new-requires-clause-table c = IsTable-extended c.may_become.ensures.grows.extends c.requires.table

pub relate_with_new-requires-clause-alias : goal.relate_with_new-requires-clause-alias
relate_with_new-requires-clause-alias c = side_goes (Goes-extends c.requires.table c.may_become.ensures.grows.extends) c.requires.alias

pub relate_with_new-requires-clause-term : goal.relate_with_new-requires-clause-term
relate_with_new-requires-clause-term c =
    let t = c.requires.term in
    IsTermIn-later (Goes-extends c.requires.table c.may_become.ensures.grows.extends) (record { within = t.holds.within; knows = t.known })

pub returns-in-Some-clause-runs : goal.returns-in-Some-clause-runs
returns-in-Some-clause-runs c =
    let g = c.may_become.ensures.grows in
    Runs-trans (Runs-extends c.requires.table g.extends g.rest) c.relate_with_new.ensures.runs

pub returns-in-Some-clause-related : goal.returns-in-Some-clause-related
returns-in-Some-clause-related c =
    let g = c.may_become.ensures.grows in
    let d = c.may_become.new.cx.declarations in
    let us = c.may_become.new.cx.nodes in
    let e = c.args.table.now.entries in
    let ws = c.relate_with_new.new.cx.nodes in
    let f = c.relate_with_new.new.table.entries in
    if_ok c.relate_with_new.result (λ gs. RelatesRigidly d us ws e f c.args.env c.args.variance c.args.alias c.args.term.node gs.items) (λ gs. RelatesRigidly c.args.cx.now.declarations c.args.cx.now.nodes ws e f c.args.env c.args.variance c.args.alias c.args.term.node gs.items)
    (λ gs h. related_before c.args.cx.now.nodes us e c.args.alias c.args.term.node g.extends c.requires.table.now c.requires.term.holds.within c.requires.alias.holds.within c.args.cx.now.declarations d ws f c.args.env c.args.variance gs.items g.rest.declarations h) c.relate_with_new.ensures.related

pub returns-in-Some-clause-no : goal.returns-in-Some-clause-no
returns-in-Some-clause-no c = λ q.
    let g = c.may_become.ensures.grows in
    inr (inr (refuses_before c.args.cx.now.nodes c.may_become.new.cx.nodes c.args.table.now.entries c.args.alias c.args.term.node g.extends c.requires.table.now c.requires.term.holds.within c.requires.alias.holds.within c.args.cx.now.declarations c.may_become.new.cx.declarations g.rest.declarations (c.relate_with_new.ensures.no q)))
