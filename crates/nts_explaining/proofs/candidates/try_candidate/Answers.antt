use Rattle.std.proofs.Common.{length, ap, ◌∙◌}
use Rattle.nts_store.proofs.Growing.{Extends-trans}
use Rattle.nts_table.specs.TableLaws.{IsTable-extended}
use Rattle.nts_evaluation.specs.nts_meaning.proofs.Evaluating.{Runs-trans, Runs-extends, IsPosed-later, AreValues-later, IsCandidate-extended}
use Rattle.nts_evaluation.specs.nts_trying.proofs.Trying.{some_meets}
use Rattle.nts_evaluation.specs.nts_trying.proofs.Stepping.{posed_later}
use Rattle.nts_explaining.proofs.Tried.{as_many, explained}
use Rattle.nts_explaining.proofs.candidates.try_candidate.Goals as goal

pub record_constraints-requires-clause-posed : goal.record_constraints-requires-clause-posed
record_constraints-requires-clause-posed g c = IsPosed-later c.in-Ok.ensures.runs.goes c.requires.posed

pub record_constraints-requires-clause-constraints : goal.record_constraints-requires-clause-constraints
record_constraints-requires-clause-constraints g c =
    let k = IsCandidate-extended c.in-Ok.ensures.runs.goes.extends c.requires.posed.holds c.requires.candidate in
    rw (c.deref.ensures.value, c.deref-3.ensures.value) k.constraints

pub returns-in_err-record_constraints-clause-runs : goal.returns-in_err-record_constraints-clause-runs
returns-in_err-record_constraints-clause-runs g c = Runs-trans c.in-Ok.ensures.runs c.record_constraints.ensures.runs

pub added_goals-requires-clause-posed : goal.added_goals-requires-clause-posed
added_goals-requires-clause-posed g c =
    let there = Runs-trans c.in-Ok.ensures.runs c.record_constraints.ensures.runs in
    IsPosed-later there.goes c.requires.posed

pub added_goals-requires-clause-nested : goal.added_goals-requires-clause-nested
added_goals-requires-clause-nested g c =
    let there = Runs-trans c.in-Ok.ensures.runs c.record_constraints.ensures.runs in
    let n = IsCandidate-extended there.goes.extends c.requires.posed.holds c.requires.candidate in
    rw (c.deref.ensures.value, c.deref-4.ensures.value) n.goals

pub added_goals-requires-clause-values : goal.added_goals-requires-clause-values
added_goals-requires-clause-values g c = rw (c.deref.ensures.value, c.deref-2.ensures.value) (AreValues-later c.record_constraints.ensures.runs.goes c.in-Ok.ensures.values)

pub returns-in_err-goals-clause-runs : goal.returns-in_err-goals-clause-runs
returns-in_err-goals-clause-runs g c =
    let k = c.record_constraints.ensures in
    let n = c.added_goals.ensures in
    Runs-trans (Runs-trans c.in-Ok.ensures.runs k.runs) (Runs-extends k.runs.goes.table n.grows.extends n.grows.rest)

pub ask_conditions-requires-clause-table : goal.ask_conditions-requires-clause-table
ask_conditions-requires-clause-table g c = IsTable-extended c.added_goals.ensures.grows.extends c.record_constraints.ensures.runs.goes.table

pub ask_conditions-requires-clause-ready : goal.ask_conditions-requires-clause-ready
ask_conditions-requires-clause-ready g c =
    let there = Runs-trans c.in-Ok.ensures.runs c.record_constraints.ensures.runs in
    g.met.H.GoalHandler.ready_kept _ _ _ c.requires.ready (Extends-trans there.goes.extends c.added_goals.ensures.grows.extends)

pub returns-in_err-outcome-clause-runs : goal.returns-in_err-outcome-clause-runs
returns-in_err-outcome-clause-runs g c =
    let k = c.record_constraints.ensures in
    let n = c.added_goals.ensures in
    Runs-trans (Runs-trans (Runs-trans c.in-Ok.ensures.runs k.runs) (Runs-extends k.runs.goes.table n.grows.extends n.grows.rest)) c.ask_conditions.ensures.runs

pub checked-requires-clause-posed : goal.checked-requires-clause-posed
checked-requires-clause-posed g c = rw c.deref-6.ensures.value (posed_later c.in_ok-goals.goals.items c.ask_conditions.ensures.runs.goes c.in_ok-goals.ensures.added.posed)

pub checked-requires-clause-ready : goal.checked-requires-clause-ready
checked-requires-clause-ready g c =
    let there = Runs-trans c.in-Ok.ensures.runs c.record_constraints.ensures.runs in
    g.met.H.GoalHandler.ready_kept _ _ _ c.requires.ready (Extends-trans (Extends-trans there.goes.extends c.added_goals.ensures.grows.extends) c.ask_conditions.ensures.runs.goes.extends)

pub returns-in_err-reason-clause-runs : goal.returns-in_err-reason-clause-runs
returns-in_err-reason-clause-runs g c =
    let k = c.record_constraints.ensures in
    let n = c.added_goals.ensures in
    let a = c.ask_conditions.ensures in
    let e = c.checked.ensures in
    Runs-trans (Runs-trans (Runs-trans (Runs-trans c.in-Ok.ensures.runs k.runs) (Runs-extends k.runs.goes.table n.grows.extends n.grows.rest)) a.runs) (Runs-extends a.runs.goes.table e.grows.extends e.grows.rest)

pub returns-clause-runs : goal.returns-clause-runs
returns-clause-runs g c =
    let k = c.record_constraints.ensures in
    let n = c.added_goals.ensures in
    let a = c.ask_conditions.ensures in
    let e = c.checked.ensures in
    Runs-trans (Runs-trans (Runs-trans (Runs-trans c.in-Ok.ensures.runs k.runs) (Runs-extends k.runs.goes.table n.grows.extends n.grows.rest)) a.runs) (Runs-extends a.runs.goes.table e.grows.extends e.grows.rest)

pub returns-clause-explains : goal.returns-clause-explains
returns-clause-explains g c =
    let v = c.in-Ok.ensures in
    let x = c.args.candidate.now in
    let met = some_meets x.fresh.items c.in-Ok.values.items x.equations.items c.terms_are_formed.ensures c.requires.posed c.requires.candidate.equations v.runs.goes.table v.equated in
    let many = ap length c.deref-5.ensures.value ∙ as_many c.deref-4.result.now c.in_ok-goals.goals.items c.in_ok-goals.ensures.added ∙ ap length c.deref-4.ensures.value in
    explained c.args.cx.now.nodes _ x (length c.deref-5.result.now) c.in_ok-outcome.outcome c.in_ok-reason.reason met many c.in_ok-outcome.ensures.within c.in_ok-reason.ensures.is
