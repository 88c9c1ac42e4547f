use Rattle.std.proofs.Common.{rules, ◌≡◌, inl, inr, Err}
use Rattle.nts_store.specs.declared.fault.EvalError.TheVariants as error
use Rattle.nts_meaning.proofs.Evaluating.{Runs-refl, Runs-trans, Runs-extends, IsPosed-later, AreValues-later, IsCandidate-extended}
use Rattle.nts_meaning.proofs.Running.{constraints-kept}
use Rattle.nts_trying.proofs.BegunRelating.{begun_by, is_unrelated, equations_there, values_known, plain_unmet, fits_there, related_hold}
use Rattle.nts_trying.proofs.relating.begin_relating.Goals as goal

pub returns-in_err-aliased-clause-runs : goal.returns-in_err-aliased-clause-runs
returns-in_err-aliased-clause-runs c = Runs-refl c.requires.posed.table

pub returns-in_err-plain-clause-runs : goal.returns-in_err-plain-clause-runs
returns-in_err-plain-clause-runs c = Runs-refl c.requires.posed.table

pub returns-in_err-values-clause-no : goal.returns-in_err-values-clause-no
returns-in_err-values-clause-no c = λ q.
    let no : c.equate.result ≡ Err error.NoSolution = search rules in
    inl (plain_unmet c.args.goal c.args.candidate.now c.in_ok-plain.plain c.in_ok-plain.ensures (c.equate.ensures.unmet no))

pub record_constraints-requires-clause-posed : goal.record_constraints-requires-clause-posed
record_constraints-requires-clause-posed c = IsPosed-later c.in_ok-values.ensures.runs.goes c.requires.posed

pub record_constraints-requires-clause-constraints : goal.record_constraints-requires-clause-constraints
record_constraints-requires-clause-constraints c =
    let k = IsCandidate-extended c.in_ok-values.ensures.runs.goes.extends c.requires.posed.holds c.requires.candidate in
    rw (c.deref.ensures.value, c.deref-3.ensures.value) k.constraints

pub record_constraints-requires-clause-values : goal.record_constraints-requires-clause-values
record_constraints-requires-clause-values c =
    let part = c.in_ok-plain.ensures in
    rw (c.deref.ensures.value, c.deref-2.ensures.value, ← part.fresh) c.in_ok-values.ensures.values

pub returns-in_err-record_constraints-clause-runs : goal.returns-in_err-record_constraints-clause-runs
returns-in_err-record_constraints-clause-runs c = Runs-trans c.in_ok-values.ensures.runs c.record_constraints.ensures.runs

pub relate_equations-requires-clause-posed : goal.relate_equations-requires-clause-posed
relate_equations-requires-clause-posed c = IsPosed-later c.in_ok-record_constraints.ensures.runs.goes (IsPosed-later c.in_ok-values.ensures.runs.goes c.requires.posed)

pub relate_equations-requires-clause-equations : goal.relate_equations-requires-clause-equations
relate_equations-requires-clause-equations c =
    let v = c.in_ok-values.ensures in
    let k = c.in_ok-record_constraints.ensures in
    rw (c.deref.ensures.value, c.deref-4.ensures.value, c.in_ok-aliased.ensures)
    (equations_there c.args.goal c.args.candidate.now c.in_ok-plain.plain c.in_ok-values.values.items c.requires.posed c.requires.candidate c.in_ok-plain.ensures v.runs k.runs v.values v.equated (rw (c.deref-2.ensures.value, c.deref-3.ensures.value) at k.added))

pub relate_equations-requires-clause-fits : goal.relate_equations-requires-clause-fits
relate_equations-requires-clause-fits c =
    let v = c.in_ok-values.ensures in
    let k = c.in_ok-record_constraints.ensures in
    rw (c.deref-4.ensures.value, c.in_ok-aliased.ensures)
    (fits_there c.args.goal c.args.candidate.now c.in_ok-plain.plain c.in_ok-values.values.items c.requires.posed c.requires.candidate c.in_ok-plain.ensures v.runs k.runs v.values v.equated (rw (c.deref-2.ensures.value, c.deref-3.ensures.value) at k.added))

pub relate_equations-requires-clause-values : goal.relate_equations-requires-clause-values
relate_equations-requires-clause-values c =
    let v = c.in_ok-values.ensures in
    let k = c.in_ok-record_constraints.ensures in
    rw (c.deref.ensures.value, c.deref-2.ensures.value)
    (values_known c.args.goal c.args.candidate.now c.in_ok-plain.plain c.in_ok-values.values.items c.requires.posed c.requires.candidate c.in_ok-plain.ensures v.runs k.runs v.values v.equated (rw (c.deref-2.ensures.value, c.deref-3.ensures.value) at k.added))

pub returns-in_err-goals-clause-runs : goal.returns-in_err-goals-clause-runs
returns-in_err-goals-clause-runs c = Runs-trans c.in_ok-values.ensures.runs (Runs-trans c.in_ok-record_constraints.ensures.runs c.relate_equations.ensures.runs)

pub returns-in_err-goals-clause-no : goal.returns-in_err-goals-clause-no
returns-in_err-goals-clause-no c = λ q.
    let v = c.in_ok-values.ensures in
    let k = c.in_ok-record_constraints.ensures in
    let no : c.relate_equations.result ≡ Err error.NoSolution = search rules in
    inr (is_unrelated c.args.goal c.args.candidate.now c.in_ok-plain.plain c.in_ok-values.values.items c.requires.posed c.requires.candidate c.in_ok-plain.ensures v.runs k.runs v.values v.equated (rw (c.deref-2.ensures.value, c.deref-3.ensures.value) at k.added) c.requires.some
    (rw (c.deref-2.ensures.value, c.deref-4.ensures.value, c.in_ok-aliased.ensures) at (c.relate_equations.ensures.no no)))

pub are_equalities-equalities-requires : goal.are_equalities-equalities-requires
are_equalities-equalities-requires c =
    let v = c.in_ok-values.ensures in
    let k = c.in_ok-record_constraints.ensures in
    let r = c.in_ok-goals.ensures in
    rw c.deref-5.ensures.value (related_hold r.relates (IsPosed-later r.runs.goes (IsPosed-later k.runs.goes (IsPosed-later v.runs.goes c.requires.posed))))

pub added_goals-requires-clause-posed : goal.added_goals-requires-clause-posed
added_goals-requires-clause-posed c =
    IsPosed-later c.in_ok-goals.ensures.runs.goes (IsPosed-later c.in_ok-record_constraints.ensures.runs.goes (IsPosed-later c.in_ok-values.ensures.runs.goes c.requires.posed))

pub added_goals-requires-clause-nested : goal.added_goals-requires-clause-nested
added_goals-requires-clause-nested c =
    let all = Runs-trans c.in_ok-values.ensures.runs (Runs-trans c.in_ok-record_constraints.ensures.runs c.in_ok-goals.ensures.runs) in
    let k = IsCandidate-extended all.goes.extends c.requires.posed.holds c.requires.candidate in
    rw (c.deref.ensures.value, c.deref-6.ensures.value) k.goals

pub added_goals-requires-clause-values : goal.added_goals-requires-clause-values
added_goals-requires-clause-values c =
    let v = c.in_ok-values.ensures in
    let k = c.in_ok-record_constraints.ensures in
    rw (c.deref.ensures.value, c.deref-2.ensures.value)
    (AreValues-later c.in_ok-goals.ensures.runs.goes (values_known c.args.goal c.args.candidate.now c.in_ok-plain.plain c.in_ok-values.values.items c.requires.posed c.requires.candidate c.in_ok-plain.ensures v.runs k.runs v.values v.equated (rw (c.deref-2.ensures.value, c.deref-3.ensures.value) at k.added)))

pub returns-in_err-own-clause-runs : goal.returns-in_err-own-clause-runs
returns-in_err-own-clause-runs c =
    let r = c.in_ok-goals.ensures.runs in
    let n = c.added_goals.ensures.grows in
    Runs-trans c.in_ok-values.ensures.runs (Runs-trans c.in_ok-record_constraints.ensures.runs (Runs-trans r (Runs-extends r.goes.table n.extends n.rest)))

pub returns-in_err-append-clause-runs : goal.returns-in_err-append-clause-runs
returns-in_err-append-clause-runs c =
    let r = c.in_ok-goals.ensures.runs in
    let n = c.in_ok-own.ensures.grows in
    Runs-trans c.in_ok-values.ensures.runs (Runs-trans c.in_ok-record_constraints.ensures.runs (Runs-trans r (Runs-extends r.goes.table n.extends n.rest)))

pub returns-clause-runs : goal.returns-clause-runs
returns-clause-runs c =
    let r = c.in_ok-goals.ensures.runs in
    let n = c.in_ok-own.ensures.grows in
    Runs-trans c.in_ok-values.ensures.runs (Runs-trans c.in_ok-record_constraints.ensures.runs (Runs-trans r (Runs-extends r.goes.table n.extends n.rest)))

pub returns-clause-begins : goal.returns-clause-begins
returns-clause-begins c =
    let v = c.in_ok-values.ensures in
    let k = c.in_ok-record_constraints.ensures in
    let r = c.in_ok-goals.ensures in
    let x = c.args.candidate.now in
    let constraints = constraints-kept c.args.cx.now.nodes c.equate.new.cx.nodes x.fresh.items c.args.goal x.region_constraints.items v.runs.goes.extends c.requires.candidate.constraints in
    rw c.in_ok-append.ensures.items
    (begun_by c.args.goal x c.in_ok-plain.plain c.in_ok-values.values.items c.requires.posed c.requires.candidate c.in_ok-plain.ensures v.runs k.runs v.values v.equated (rw (c.deref-2.ensures.value, c.deref-3.ensures.value) at k.added)
    c.in_ok-goals.goals.items c.in_ok-own.own.items c.requires.some r.runs c.in_ok-own.ensures.grows v.equal v.labels (rw (c.deref-2.ensures.value, c.deref-3.ensures.value, constraints) at k.held) k.labels
    (rw (c.deref-2.ensures.value, c.deref-4.ensures.value, c.in_ok-aliased.ensures) at r.relates) (rw (c.deref-2.ensures.value, c.deref-6.ensures.value) at c.in_ok-own.ensures.added)
    c.are_equalities-equalities.result (rw c.deref-5.ensures.value at c.are_equalities-equalities.ensures.yes) (rw c.deref-5.ensures.value at c.are_equalities-equalities.ensures.no))
