use Rattle.std.proofs.Common.{arith, subst}
use Rattle.std.proofs.lemmas.List.{take_all}
use Rattle.nts_model.specs.Answers.Responses.{positioned}
use Rattle.nts_model.specs.Derivations.Handlers.{premise_by}
use Rattle.nts_store.proofs.Growing.{Extends-trans}
use Rattle.nts_response.specs.Forms.{HoldsOpen, premise_at}
use Rattle.nts_response.specs.Replacing.{ReplacesEach}
use Rattle.nts_response.proofs.Each.{replaced_more, goals_kept}
use Rattle.nts_answering.proofs.numbered.numbered_goals.Goals as goal

pub numbered_goal-requires : goal.numbered_goal-requires
numbered_goal-requires c =
    (let k = goals_kept in k.held c.args.nodes.now c.loop-i.nodes _ (c.requires c.loop-i.i _ (omega (arith, c.loop-i-test.true))) c.loop-i.invariant.extends)

pub loop-i-preserved : goal.loop-i-preserved
loop-i-preserved c =
    let up = c.numbered_goal.ensures.extends in
    record {
      each = replaced_more HoldsOpen premise_at (premise_by (positioned c.args.leaves.now)) goals_kept c.args.nodes.now c.loop-i.nodes c.numbered_goal.new.nodes c.args.goals.now c.loop-i.numbered.items c.push.new.self.items c.loop-i.i _ c.in_ok-goal.goal
          c.loop-i.invariant.extends up c.requires (omega (arith, c.loop-i-test.true)) c.loop-i.invariant.each c.in_ok-goal.ensures.holds c.in_ok-goal.ensures.replaced c.in_ok-push.ensures.items;
      extends = Extends-trans c.loop-i.invariant.extends up;
    }

pub returns-clause-each : goal.returns-clause-each
returns-clause-each c =
    subst (λ xs. ReplacesEach HoldsOpen premise_at (premise_by (positioned c.args.leaves.now)) c.args.nodes.now c.loop-i.nodes xs c.loop-i.numbered.items) (take_all c.loop-i.i c.args.goals.now (omega (arith, c.loop-i-test.false))) c.loop-i.invariant.each
