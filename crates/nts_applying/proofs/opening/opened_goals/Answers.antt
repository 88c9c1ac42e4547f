use Rattle.std.proofs.Common.{map, arith, subst}
use Rattle.std.proofs.lemmas.List.{take_all}
use Rattle.nts_model.specs.Terms.Substitutions.{filled}
use Rattle.nts_model.specs.Derivations.Handlers.{premise_by}
use Rattle.nts_store.specs.Growth.{tree_at}
use Rattle.nts_store.specs.Kept.{map-kept}
use Rattle.nts_store.proofs.Growing.{AllIn-extended, Extends-trans}
use Rattle.nts_terms.specs.declared.handles.Goal.{Goal}
use Rattle.nts_candidates.specs.nts_certainty.specs.declared.sources.GoalSource.{GoalSource}
use Rattle.nts_candidates.specs.nts_certainty.specs.declared.sources.GoalSource.TheVariants.{Misc}
use Rattle.nts_response.specs.Forms.{HoldsOpen, premise_at}
use Rattle.nts_response.specs.Replacing.{ReplacesEach}
use Rattle.nts_response.proofs.Each.{replaced_more, goals_kept}
use Rattle.nts_applying.proofs.OpenSteps.{openable_later}
use Rattle.nts_applying.proofs.opening.opened_goals.Goals as goal

-- what stands beyond the end
abbrev beyond : GoalSource × Goal
beyond = (Misc, record { param_env = record { node = record { number = 0 } }; predicate = record { node = record { number = 0 } } })

pub opened_goal-requires-clause-chosen : goal.opened_goal-requires-clause-chosen
opened_goal-requires-clause-chosen c = AllIn-extended c.loop-i.invariant.extends c.args.chosen.now c.requires.chosen

pub opened_goal-requires-clause-goal : goal.opened_goal-requires-clause-goal
opened_goal-requires-clause-goal c =
    openable_later c.args.nodes.now c.loop-i.nodes c.args.chosen.now _ c.loop-i.invariant.extends c.requires.chosen (c.requires.goals c.loop-i.i beyond c.loop-i-test.true)

pub loop-i-preserved : goal.loop-i-preserved
loop-i-preserved c =
    let up = c.opened_goal.ensures.extends in
    let xs = map-kept c.args.nodes.now c.loop-i.nodes c.args.chosen.now c.requires.chosen c.loop-i.invariant.extends in
    record {
      each = replaced_more HoldsOpen premise_at (premise_by (filled (map (tree_at c.args.nodes.now) c.args.chosen.now))) goals_kept c.args.nodes.now c.loop-i.nodes c.opened_goal.new.nodes c.args.goals.now c.loop-i.opened.items c.push.new.self.items c.loop-i.i beyond c.in_ok-goal.goal
          c.loop-i.invariant.extends up (λ j d l. (let g = c.requires.goals j d l in g.holds)) c.loop-i-test.true c.loop-i.invariant.each c.in_ok-goal.ensures.holds (rw xs at c.in_ok-goal.ensures.replaced) c.in_ok-push.ensures.items;
      extends = Extends-trans c.loop-i.invariant.extends up;
    }

pub returns-clause-each : goal.returns-clause-each
returns-clause-each c =
    subst (λ xs. ReplacesEach HoldsOpen premise_at (premise_by (filled (map (tree_at c.args.nodes.now) c.args.chosen.now))) c.args.nodes.now c.loop-i.nodes xs c.loop-i.opened.items) (take_all c.loop-i.i c.args.goals.now (omega (arith, c.loop-i-test.false))) c.loop-i.invariant.each
