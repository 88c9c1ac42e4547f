use Rattle.std.proofs.Common.{arith, rules, refl, ◌≡◌, Err}
use Rattle.nts_model.proofs.Tables.Bringing.{only-refl}
use Rattle.nts_unify.proofs.Keeping.{IsLater-refl, IsLater-trans}
use Rattle.nts_store.specs.declared.fault.EvalError.TheVariants as EvalError
use Rattle.nts_store.specs.Kept.{AllIn-kept}
use Rattle.nts_unify.specs.Reading.{content_of}
use Rattle.nts_table.proofs.TermTables.{proper_content}
use Rattle.nts_applying.proofs.Stepping.{step_none, step_then, arg_later}
use Rattle.nts_applying.proofs.LabelSteps.{equal_brings}
use Rattle.nts_response.proofs.EqualLemmas.{equal_all, equal_next, equal_fault, fillable_later}
use Rattle.nts_applying.proofs.equating.equate_values.Goals as goal

pub equate_one-requires-clause-chosen : goal.equate_one-requires-clause-chosen
equate_one-requires-clause-chosen c = AllIn-kept c.args.cx.now.nodes c.loop-i.cx.nodes c.args.chosen.now c.requires.chosen c.loop-i.invariant.keeps.grows.extends

pub equate_one-requires-clause-value : goal.equate_one-requires-clause-value
equate_one-requires-clause-value c =
    fillable_later c.args.cx.now c.loop-i.cx c.args.table.now c.loop-i.table c.args.chosen.now _ c.loop-i.invariant.keeps c.requires.chosen (c.requires.values c.loop-i.i (record { node = record { number = 0 } }) c.loop-i-test.true)

pub equate_one-requires-clause-original : goal.equate_one-requires-clause-original
equate_one-requires-clause-original c =
    let x = arg_later c.loop-i.invariant.keeps (c.requires.originals c.loop-i.i (record { node = record { number = 0 } }) (omega (arith, c.loop-i-test.true, c.requires.long))) in
    let h = x.holds in
    record { within = h.within; knows = x.known }

pub loop-i-init : goal.loop-i-init
loop-i-init c = record {
  equal = refl;
  labels = only-refl _ (content_of c.args.cx.now.nodes c.args.table.now.entries);
  later = IsLater-refl (content_of c.args.cx.now.nodes c.args.table.now.entries);
  keeps = step_none c.args.cx.now c.args.table.now c.requires.table;
}

pub loop-i-preserved : goal.loop-i-preserved
loop-i-preserved c =
    let e = c.in_ok-equate_one.ensures in
    let keeps = step_then c.loop-i.invariant.keeps e.keeps in
    record {
      equal = equal_next c.args.cx.now c.loop-i.cx c.args.table.now c.loop-i.table c.args.chosen.now c.args.values.now c.args.originals.now c.loop-i.i (record { node = record { number = 0 } }) (record { node = record { number = 0 } }) (content_of c.equate_one.new.cx.nodes c.equate_one.new.table.entries) c.loop-i-test.true c.requires.long c.loop-i.invariant.keeps c.requires.chosen c.requires.values c.requires.originals c.loop-i.invariant.equal e.related (proper_content keeps.table);
      labels = equal_brings c.args.cx.now c.loop-i.cx c.args.table.now c.loop-i.table c.args.chosen.now c.loop-i.invariant.keeps c.requires.chosen c.args.values.now c.args.originals.now c.loop-i.i (record { node = record { number = 0 } }) (record { node = record { number = 0 } }) (content_of c.equate_one.new.cx.nodes c.equate_one.new.table.entries) c.loop-i-test.true c.requires.long c.requires.values c.requires.originals c.loop-i.invariant.labels e.labels;
      later = IsLater-trans c.loop-i.invariant.later e.later;
      keeps = keeps;
    }

pub returns-clause-equal : goal.returns-clause-equal
returns-clause-equal c =
    equal_all c.args.cx.now.nodes c.args.chosen.now c.args.values.now c.args.originals.now c.loop-i.i _ _ (omega (arith, c.loop-i-test.false)) c.requires.long c.loop-i.invariant.equal

pub returns-in_err-equate_one-clause-no : goal.returns-in_err-equate_one-clause-no
returns-in_err-equate_one-clause-no c = λ q.
    let no : c.equate_one.result ≡ Err EvalError.NoSolution = search rules in
    equal_fault c.args.cx.now c.loop-i.cx c.args.table.now c.loop-i.table c.args.chosen.now c.args.values.now c.args.originals.now c.loop-i.i (record { node = record { number = 0 } }) (record { node = record { number = 0 } }) c.loop-i-test.true c.requires.long c.loop-i.invariant.keeps c.requires.chosen c.requires.values c.requires.originals c.loop-i.invariant.equal (c.equate_one.ensures.no no)

pub returns-in_err-equate_one-clause-later : goal.returns-in_err-equate_one-clause-later
returns-in_err-equate_one-clause-later c = IsLater-trans c.loop-i.invariant.later c.equate_one.ensures.later
