use Rattle.std.proofs.Common.{arith, refl, get_or}
use Rattle.std.proofs.lemmas.List.{take_all}
use Rattle.nts_meaning.proofs.Running.{Constrains-step}
use Rattle.nts_trying.proofs.Constraining.{adds_more}
use Rattle.nts_delegate.specs.Candidates.{IsRegionConstraint}
use Rattle.nts_candidates.specs.declared.data.RegionConstraint.{RegionConstraint}
use Rattle.nts_meaning.proofs.Evaluating.{Runs-refl, Runs-trans, AreValues-later, IsRegionConstraint-extended, constraint_at, IsPosed-later}
use Rattle.nts_trying.proofs.candidate.record_constraints.Goals as goal
use Rattle.nts_model.proofs.Tables.Bringing.{only-refl, only-trans}
use Rattle.nts_trying.proofs.Labels.{only_earlier}

pub record_one-requires-clause-constraint : goal.record_one-requires-clause-constraint
record_one-requires-clause-constraint c =
    IsRegionConstraint-extended c.loop-constraint.invariant.runs.goes.extends c.requires.posed.holds (constraint_at c.args.cx.now.nodes c.args.trial.fresh.now c.args.trial.goal c.args.constraints.now c.loop-constraint.constraint-index _ c.requires.constraints c.loop-constraint-test.true)

pub record_one-requires-clause-values : goal.record_one-requires-clause-values
record_one-requires-clause-values c = AreValues-later c.loop-constraint.invariant.runs.goes c.requires.values

over : (c : goal.In_ok-record_one) (d : RegionConstraint) → IsRegionConstraint c.args.cx.now.nodes c.args.trial.fresh.now c.args.trial.goal (get_or c.args.constraints.now c.loop-constraint.constraint-index d)
over c d =
    constraint_at c.args.cx.now.nodes c.args.trial.fresh.now c.args.trial.goal c.args.constraints.now c.loop-constraint.constraint-index d c.requires.constraints c.loop-constraint-test.true

pub loop-constraint-init : goal.loop-constraint-init
loop-constraint-init c = record { runs = Runs-refl c.requires.posed.table; labels = only-refl _ _; held = tt; added = refl }

pub returns-in_err-record_one-clause-runs : goal.returns-in_err-record_one-clause-runs
returns-in_err-record_one-clause-runs c = Runs-trans c.loop-constraint.invariant.runs c.record_one.ensures.runs

pub loop-constraint-preserved : goal.loop-constraint-preserved
loop-constraint-preserved c =
    let i = c.loop-constraint.invariant in
    let e = c.in_ok-record_one.ensures in
    record {
      runs = Runs-trans i.runs e.runs;
      labels = only-trans i.labels (only_earlier i.runs.goes.extends c.requires.posed.holds e.labels);
      added = adds_more _ _ _ c.args.trial.values.now c.args.constraints.now c.loop-constraint.constraint-index _ _ _ c.loop-constraint-test.true i.runs.goes.extends c.requires.values.within (over c _).left.within (over c _).right.within i.added e.added;
      held = Constrains-step _ c.args.cx.now.nodes c.args.trial.values.now c.args.constraints.now c.loop-constraint.constraint-index refl refl c.loop-constraint-test.true e.runs.goes (AreValues-later i.runs.goes c.requires.values).within i.held i.runs.goes.extends (λ d. ((over c d).left.within, (over c d).right.within)) e.held;
    }

pub returns-clause-held : goal.returns-clause-held
returns-clause-held c =
    rw (take_all c.loop-constraint.constraint-index c.args.constraints.now (omega (arith, c.loop-constraint-test.false))) at c.loop-constraint.invariant.held

pub record_one-requires-clause-posed : goal.record_one-requires-clause-posed
record_one-requires-clause-posed c = IsPosed-later c.loop-constraint.invariant.runs.goes c.requires.posed

pub returns-clause-added : goal.returns-clause-added
returns-clause-added c =
    rw (take_all c.loop-constraint.constraint-index c.args.constraints.now (omega (arith, c.loop-constraint-test.false))) at c.loop-constraint.invariant.added
