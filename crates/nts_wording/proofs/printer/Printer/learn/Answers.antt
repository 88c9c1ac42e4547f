use Rattle.std.proofs.Common.{◌<◌, ◌∷◌, [], ◌++◌, Some, None, get_or, length, take, refl, sym, ap, subst, ◌∙◌, append_assoc}
use Rattle.std.specs.Prelude.{slice_get}
use Rattle.std.specs.List.{zip}
use Rattle.std.proofs.lemmas.List.{append-nil}
use Rattle.nts_text.specs.Spelled.{type_names, region_names}
use Rattle.nts_wording.specs.Answers.{node_of, bound_by, bound_types, AreNames}
use Rattle.nts_wording.specs.Pieces.{names_in}
use Rattle.nts_wording.proofs.Lines.{learned, rest_trans, bound_one, bound_none, bound_end}
use Rattle.nts_wording.proofs.printer.Printer.learn.Goals as goal
use Rattle.nts_wording.proofs.printer.Printer.learn.Goals.{in-Some+in-Some-value_at+in_ok-learn_one, in-Some+in_default-value_at, in_default, in-Some-spelling+in-Some-value_at-2+in_ok-learn_one-2, in-Some-spelling+in_default-value_at-2, in_default-spelling}

pub loop-i-preserved : goal.loop-i-preserved
loop-i-preserved c =
    let p = c.args.self.now in
    let values = c.args.found.now.values.items in
    let names = type_names p.scope.now.variables in
    let places = c.args.found.now.variables.types.items in
    let lt : c.loop-i.i < length places = rw c.deref-place-items.ensures.value at c.loop-i-test.true in
    let before = bound_by values (zip (take c.loop-i.i names) (take c.loop-i.i places)) in
    elim c.match-spelling.branch [
      | in-Some+in-Some-value_at+in_ok-learn_one w ↦
          let step = bound_one values names places c.loop-i.i (Some w.in-Some.name.now) (Some w.in-Some-value_at.value) lt (sym w.in-Some.ensures)
          (sym (rw (c.deref-place-items.ensures.value, w.deref.ensures.value) at w.in-Some-value_at.ensures)) in
          record {
            names = rw w.self-is (subst (AreNames p.nodes.now (names_in w.learn_one.new.self.known.entries)) (sym step)
                (learned p c.loop-i.self w.learn_one.new.self before w.in-Some.name.now w.in-Some-value_at.value c.loop-i.invariant.names c.loop-i.invariant.rest w.in_ok-learn_one.ensures.names));
            rest = rw w.self-is (rest_trans p c.loop-i.self w.learn_one.new.self c.loop-i.invariant.rest w.in_ok-learn_one.ensures.rest);
          }
      | in-Some+in_default-value_at w ↦
          let step = bound_none values names places c.loop-i.i (Some w.in-Some.name.now) None lt (sym w.in-Some.ensures)
          (sym (rw (c.deref-place-items.ensures.value, w.deref.ensures.value) at w.in_default-value_at.ensures)) refl in
          record {
            names = rw w.self-is (subst (AreNames p.nodes.now (names_in c.loop-i.self.known.entries)) (sym step) c.loop-i.invariant.names);
            rest = rw w.self-is c.loop-i.invariant.rest;
          }
      | in_default w ↦
          let step = bound_none values names places c.loop-i.i None (node_of (slice_get values (get_or places c.loop-i.i 0))) lt (sym w.in_default.ensures) refl refl in
          record {
            names = rw w.self-is (subst (AreNames p.nodes.now (names_in c.loop-i.self.known.entries)) (sym step) c.loop-i.invariant.names);
            rest = rw w.self-is c.loop-i.invariant.rest;
          }
    ]

pub loop-j-init : goal.loop-j-init
loop-j-init c =
    let p = c.args.self.now in
    let all = bound_end c.args.found.now.values.items (type_names p.scope.now.variables) c.args.found.now.variables.types.items c.loop-i.i
    (rw c.deref-place-items.ensures.value at c.loop-i-test.false) (rw c.deref-place-items.ensures.value at c.loop-i.auto.i-end) in
    record {
      names = subst (AreNames p.nodes.now (names_in c.loop-i.self.known.entries)) (all ∙ sym (append-nil (bound_types p.scope.now c.args.found.now))) c.loop-i.invariant.names;
      rest = c.loop-i.invariant.rest;
    }

pub loop-j-preserved : goal.loop-j-preserved
loop-j-preserved c =
    let p = c.args.self.now in
    let values = c.args.found.now.values.items in
    let names = region_names p.scope.now.variables in
    let places = c.args.found.now.variables.regions.items in
    let lt : c.loop-j.j < length places = rw c.deref-place-items-2.ensures.value at c.loop-j-test.true in
    let types = bound_types p.scope.now c.args.found.now in
    let before = bound_by values (zip (take c.loop-j.j names) (take c.loop-j.j places)) in
    elim c.match-spelling-2.branch [
      | in-Some-spelling+in-Some-value_at-2+in_ok-learn_one-2 w ↦
          let next = (w.in-Some-spelling.name.now, w.in-Some-value_at-2.value) ∷ [] in
          let step = bound_one values names places c.loop-j.j (Some w.in-Some-spelling.name.now) (Some w.in-Some-value_at-2.value) lt (sym w.in-Some-spelling.ensures)
          (sym (rw (c.deref-place-items-2.ensures.value, w.deref-in-Some-spelling.ensures.value) at w.in-Some-value_at-2.ensures)) in
          let r = w.learn_one-in-Some-value_at-2.new.self in
          record {
            names = rw w.self-is (subst (AreNames p.nodes.now (names_in r.known.entries)) (append_assoc types before next ∙ ap (λ bs. types ++ bs) (sym step))
                (learned p c.loop-j.self r (types ++ before) w.in-Some-spelling.name.now w.in-Some-value_at-2.value c.loop-j.invariant.names c.loop-j.invariant.rest w.in_ok-learn_one-2.ensures.names));
            rest = rw w.self-is (rest_trans p c.loop-j.self r c.loop-j.invariant.rest w.in_ok-learn_one-2.ensures.rest);
          }
      | in-Some-spelling+in_default-value_at-2 w ↦
          let step = bound_none values names places c.loop-j.j (Some w.in-Some-spelling.name.now) None lt (sym w.in-Some-spelling.ensures)
          (sym (rw (c.deref-place-items-2.ensures.value, w.deref-in-Some-spelling.ensures.value) at w.in_default-value_at-2.ensures)) refl in
          record {
            names = rw w.self-is (subst (AreNames p.nodes.now (names_in c.loop-j.self.known.entries)) (ap (λ bs. types ++ bs) (sym step)) c.loop-j.invariant.names);
            rest = rw w.self-is c.loop-j.invariant.rest;
          }
      | in_default-spelling w ↦
          let step = bound_none values names places c.loop-j.j None (node_of (slice_get values (get_or places c.loop-j.j 0))) lt (sym w.in_default-spelling.ensures) refl refl in
          record {
            names = rw w.self-is (subst (AreNames p.nodes.now (names_in c.loop-j.self.known.entries)) (ap (λ bs. types ++ bs) (sym step)) c.loop-j.invariant.names);
            rest = rw w.self-is c.loop-j.invariant.rest;
          }
    ]

pub returns-clause-names : goal.returns-clause-names
returns-clause-names c =
    let p = c.args.self.now in
    let all = bound_end c.args.found.now.values.items (region_names p.scope.now.variables) c.args.found.now.variables.regions.items c.loop-j.j
    (rw c.deref-place-items-2.ensures.value at c.loop-j-test.false) (rw c.deref-place-items-2.ensures.value at c.loop-j.auto.j-end) in
    subst (AreNames p.nodes.now (names_in c.loop-j.self.known.entries)) (ap (λ bs. bound_types p.scope.now c.args.found.now ++ bs) all) c.loop-j.invariant.names
