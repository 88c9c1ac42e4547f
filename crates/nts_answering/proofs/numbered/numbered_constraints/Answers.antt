use Rattle.std.proofs.Common.{arith, subst}
use Rattle.std.proofs.lemmas.List.{take_all}
use Rattle.nts_model.specs.Answers.Responses.{positioned, recorded_by}
use Rattle.nts_store.proofs.Growing.{Extends-trans}
use Rattle.nts_response.specs.Forms.{StoreHoldsConstraint, recorded_at}
use Rattle.nts_response.specs.Replacing.{ReplacesEach}
use Rattle.nts_response.proofs.Each.{replaced_more, constraints_kept}
use Rattle.nts_answering.proofs.numbered.numbered_constraints.Goals as goal

pub numbered_constraint-requires : goal.numbered_constraint-requires
numbered_constraint-requires c =
    (let k = constraints_kept in k.held c.args.nodes.now c.loop-i.nodes _ (c.requires c.loop-i.i _ (omega (arith, c.loop-i-test.true))) c.loop-i.invariant.extends)

pub loop-i-preserved : goal.loop-i-preserved
loop-i-preserved c =
    let up = c.numbered_constraint.ensures.extends in
    record {
      each = replaced_more StoreHoldsConstraint recorded_at (recorded_by (positioned c.args.leaves.now)) constraints_kept c.args.nodes.now c.loop-i.nodes c.numbered_constraint.new.nodes c.args.constraints.now c.loop-i.numbered.items c.push.new.self.items c.loop-i.i _ c.in_ok-constraint.constraint
          c.loop-i.invariant.extends up c.requires (omega (arith, c.loop-i-test.true)) c.loop-i.invariant.each c.in_ok-constraint.ensures.holds c.in_ok-constraint.ensures.replaced c.in_ok-push.ensures.items;
      extends = Extends-trans c.loop-i.invariant.extends up;
    }

pub returns-clause-each : goal.returns-clause-each
returns-clause-each c =
    subst (λ xs. ReplacesEach StoreHoldsConstraint recorded_at (recorded_by (positioned c.args.leaves.now)) c.args.nodes.now c.loop-i.nodes xs c.loop-i.numbered.items) (take_all c.loop-i.i c.args.constraints.now (omega (arith, c.loop-i-test.false))) c.loop-i.invariant.each
