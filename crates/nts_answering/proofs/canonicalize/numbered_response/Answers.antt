use Rattle.nts_model.specs.Answers.Responses.{positioned}
use Rattle.nts_store.proofs.Growing.{Extends-refl, Extends-trans}
use Rattle.nts_answering.proofs.Found.{all_replaced}
use Rattle.nts_answering.proofs.canonicalize.numbered_response.Goals as goal

pub returns-clause-findings : goal.returns-clause-findings
returns-clause-findings c =
    let f = positioned c.args.leaves.now in
    let a = c.args.nodes.now in
    let b = c.numbered_values.new.nodes in
    let d = c.numbered_constraints.new.nodes in
    let e = c.numbered_hidden.new.nodes in
    let g = c.numbered_goals.new.nodes in
    let one = c.numbered_values.ensures.extends in
    let two = c.numbered_constraints.ensures.extends in
    let three = c.numbered_hidden.ensures.extends in
    let four = c.numbered_goals.ensures.extends in
    all_replaced f a b d e g c.args.value (record {
      certainty = c.args.value.certainty;
      var_values = c.in_ok-var_values.var_values;
      external_constraints = record {
        region_constraints = c.in_ok-region_constraints.region_constraints;
        opaque_types = c.in_ok-opaque_types.opaque_types;
        normalization_nested_goals = c.in_ok-normalization_nested_goals.normalization_nested_goals;
      };
    }) c.requires (Extends-refl a) (record {
      values = rw c.deref.ensures.value at c.in_ok-var_values.ensures.each;
      constraints = rw c.deref-2.ensures.value at c.in_ok-region_constraints.ensures.each;
      hidden = rw c.deref-3.ensures.value at c.in_ok-opaque_types.ensures.each;
      open_goals = rw c.deref-4.ensures.value at c.in_ok-normalization_nested_goals.ensures.each;
      first = one;
      second = Extends-trans one two;
      third = Extends-trans one (Extends-trans two three);
      after_values = Extends-trans two (Extends-trans three four);
      after_constraints = Extends-trans three four;
      after_hidden = four;
      all = Extends-refl g;
    })
