use Rattle.std.proofs.Common.{arith, subst}
use Rattle.std.proofs.lemmas.List.{take_all}
use Rattle.nts_model.specs.Answers.Responses.{positioned}
use Rattle.nts_terms.specs.Handles.{HoldsArg}
use Rattle.nts_store.proofs.Growing.{Extends-trans}
use Rattle.nts_response.specs.Replacing.{ReplacesEach, argument_value}
use Rattle.nts_response.proofs.Each.{replaced_more, values_kept}
use Rattle.nts_answering.proofs.numbered.numbered_values.Goals as goal

pub position-requires : goal.position-requires
position-requires c =
    (let k = values_kept in k.held c.args.nodes.now c.loop-i.nodes _ (c.requires c.loop-i.i _ (omega (arith, c.loop-i-test.true))) c.loop-i.invariant.extends)

pub loop-i-preserved : goal.loop-i-preserved
loop-i-preserved c =
    let up = c.position.ensures.extends in
    record {
      each = replaced_more HoldsArg argument_value (positioned c.args.leaves.now) values_kept c.args.nodes.now c.loop-i.nodes c.position.new.nodes c.args.values.now c.loop-i.numbered.items c.push.new.self.items c.loop-i.i _ c.in_ok-value.value
          c.loop-i.invariant.extends up c.requires (omega (arith, c.loop-i-test.true)) c.loop-i.invariant.each c.in_ok-value.ensures.holds c.in_ok-value.ensures.tree c.in_ok-push.ensures.items;
      extends = Extends-trans c.loop-i.invariant.extends up;
    }

pub returns-clause-each : goal.returns-clause-each
returns-clause-each c =
    subst (λ xs. ReplacesEach HoldsArg argument_value (positioned c.args.leaves.now) c.args.nodes.now c.loop-i.nodes xs c.loop-i.numbered.items) (take_all c.loop-i.i c.args.values.now (omega (arith, c.loop-i-test.false))) c.loop-i.invariant.each
