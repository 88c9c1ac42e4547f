use Rattle.std.proofs.Common.{refl}
use Rattle.nts_model.specs.declared.labels.Relation.TheVariants as relation
use Rattle.nts_model.proofs.Tables.Bringing.{only-refl}
use Rattle.nts_model.proofs.Tables.SubUnified.{JoinsSubRoots-refl}
use Rattle.nts_store.specs.Kept.{AllIn-kept}
use Rattle.nts_terms.specs.declared.modes.VisibleForLeakCheck.{VisibleForLeakCheck}
use Rattle.nts_terms.specs.declared.modes.VisibleForLeakCheck.TheVariants.{Yes}
use Rattle.nts_candidates.specs.declared.data.RegionConstraint.{RegionConstraint}
use Rattle.nts_unify.specs.Reading.{content_of}
use Rattle.nts_unify.specs.Recording.{is_visible}
use Rattle.nts_applying.proofs.Stepping.{step_none, step_then, joins_next}
use Rattle.nts_applying.proofs.LabelSteps.{recorded_brings}
use Rattle.nts_applying.proofs.RecordSteps.{recordable_later, records_next, seen_next}
use Rattle.nts_applying.proofs.recording.record_constraints.Goals as goal

-- what stands beyond the end
abbrev beyond : RegionConstraint × VisibleForLeakCheck
beyond = (record { relation = relation.Equal; left = record { node = record { number = 0 } }; right = record { node = record { number = 0 } } }, Yes)

pub record_one-requires-clause-chosen : goal.record_one-requires-clause-chosen
record_one-requires-clause-chosen c = AllIn-kept c.args.cx.now.nodes c.loop-i.cx.nodes c.args.chosen.now c.requires.chosen c.loop-i.invariant.keeps.grows.extends

pub record_one-requires-clause-constraint : goal.record_one-requires-clause-constraint
record_one-requires-clause-constraint c =
    recordable_later c.args.cx.now c.loop-i.cx c.args.table.now c.loop-i.table c.args.chosen.now c.loop-i.invariant.keeps c.requires.chosen _ (c.requires.constraints c.loop-i.i beyond c.loop-i-test.true)

pub loop-i-init : goal.loop-i-init
loop-i-init c = record {
  recorded = refl;
  seen = refl;
  labels = only-refl _ (content_of c.args.cx.now.nodes c.args.table.now.entries);
  joins = JoinsSubRoots-refl (content_of c.args.cx.now.nodes c.args.table.now.entries);
  keeps = step_none c.args.cx.now c.args.table.now c.requires.table;
}

pub loop-i-preserved : goal.loop-i-preserved
loop-i-preserved c =
    let e = c.in_ok-record_one.ensures in
    let s = c.loop-i.invariant.keeps in
    record {
      recorded = records_next c.args.cx.now c.loop-i.cx c.args.table.now c.loop-i.table c.args.chosen.now s c.requires.chosen c.args.constraints.now c.loop-i.i beyond (content_of c.record_one.new.cx.nodes c.record_one.new.table.entries) c.loop-i-test.true c.requires.constraints c.loop-i.invariant.recorded e.recorded;
      seen = seen_next c.args.cx.now c.loop-i.cx c.args.table.now c.loop-i.table c.args.chosen.now s c.requires.chosen (is_visible c.args.visible) c.args.constraints.now c.loop-i.i beyond (content_of c.args.cx.now.nodes c.args.table.now.entries).constraints (content_of c.loop-i.cx.nodes c.loop-i.table.entries).constraints (content_of c.record_one.new.cx.nodes c.record_one.new.table.entries).constraints c.loop-i-test.true c.loop-i.invariant.seen e.seen;
      labels = recorded_brings c.args.cx.now c.loop-i.cx c.args.table.now c.loop-i.table c.args.chosen.now s c.requires.chosen c.args.constraints.now c.loop-i.i beyond (content_of c.record_one.new.cx.nodes c.record_one.new.table.entries) c.loop-i-test.true c.requires.constraints c.loop-i.invariant.labels e.labels;
      joins = joins_next s c.loop-i.invariant.joins e.keeps e.joins;
      keeps = step_then s e.keeps;
    }
