use Rattle.std.proofs.Common.{ap, sym, Some}
use Rattle.nts_terms.specs.declared.handles.DefId.TheVariants as defs
use Rattle.nts_relating.proofs.PairLemmas.{err_of}
use Rattle.nts_solver_relating.proofs.GoalsLeft.{if_ok, on_ok}
use Rattle.nts_meaning.proofs.Evaluating.{Knows-goes, Runs-trans}
use Rattle.nts_adding.specs.Rigid.{RelatesRigidly}
use Rattle.nts_adding.proofs.Relating.{relate_runs}
use Rattle.nts_adding.proofs.Rigidly.{refused_equal, refused_related, becomes_new, side_goes}
use Rattle.nts_adding.proofs.rigid.relate_with_new.Goals as goal

pub returns-in-Err-clause-no : goal.returns-in-Err-clause-no
returns-in-Err-clause-no c = λ q. refused_equal c.args.cx.now.declarations c.args.cx.now.nodes c.args.table.now.entries c.args.alias c.args.term.node c.args.sorts.now c.requires.takes (c.in-Err.ensures.no (err_of _ _ q))

pub relate-requires-clause-left : goal.relate-requires-clause-left
relate-requires-clause-left c = side_goes c.make_rigid.ensures.runs.goes c.requires.alias

pub returns-in-Ok-clause-runs : goal.returns-in-Ok-clause-runs
returns-in-Ok-clause-runs c =
    let m = c.make_rigid.ensures.runs in
    let r = c.relate.ensures in
    Runs-trans m (relate_runs _ _ _ _ (λ gs. gs.items) _ _ _ _ _ c.relate.result m.goes.table r.keeps r.related r.err)

pub returns-in-Ok-clause-is : goal.returns-in-Ok-clause-is
returns-in-Ok-clause-is c =
    let m = c.make_rigid.ensures.runs in
    let r = c.relate.ensures in
    let runs = relate_runs _ _ _ _ (λ gs. gs.items) _ _ _ _ _ c.relate.result m.goes.table r.keeps r.related r.err in
    on_ok c.relate.result (becomes_new c.args.cx.now.declarations c.args.cx.now.nodes c.args.table.now.entries c.args.alias.def_id c.args.sorts.now _ c.requires.takes m.goes.table runs.goes (Knows-goes _ m.goes c.requires.term.knows) c.in-Ok.ensures.becomes)

pub returns-in-Ok-clause-related : goal.returns-in-Ok-clause-related
returns-in-Ok-clause-related c =
    let m = c.make_rigid.ensures.runs in
    let r = rw (m.rest.declarations, m.goes.extends.kept c.args.alias.args.node c.requires.alias.holds.within, c.in-Ok.ensures.tree) at c.relate.ensures.related in
    if_ok c.relate.result _ (λ gs. RelatesRigidly c.args.cx.now.declarations c.args.cx.now.nodes c.relate.new.cx.nodes c.args.table.now.entries c.relate.new.self.entries c.args.env c.args.variance c.args.alias c.args.term.node gs.items)
    (λ gs h. record { sorts = c.args.sorts.now; takes = c.requires.takes; store = c.make_rigid.new.cx.nodes; entries = c.make_rigid.new.table.entries; becomes = c.in-Ok.ensures.becomes; related = h }) r

pub returns-in-Ok-clause-no : goal.returns-in-Ok-clause-no
returns-in-Ok-clause-no c = λ q.
    let m = c.make_rigid.ensures.runs in
    let heads = ap (λ x. Some (defs.Alias x)) c.in-Ok.ensures.id in
    let refused = rw (m.rest.declarations, m.goes.extends.kept c.args.alias.args.node c.requires.alias.holds.within, c.in-Ok.ensures.tree) at (c.relate.ensures.no q (sym heads)) in
    refused_related c.args.cx.now.declarations c.args.cx.now.nodes c.args.table.now.entries c.args.alias c.args.term.node c.args.sorts.now c.requires.takes
    c.make_rigid.new.cx.nodes c.make_rigid.new.table.entries c.args.variance c.requires.alias.holds.fits c.requires.declared c.requires.alias.known m.goes.table.now c.in-Ok.ensures.becomes refused
