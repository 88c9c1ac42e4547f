use Rattle.std.proofs.Common.{arith, take, get_or, subst, sym}
use Rattle.std.specs.Prelude.{All}
use Rattle.std.proofs.lemmas.List.{take_all, take_more}
use Rattle.std.proofs.lemmas.List.Elements.{All-nil, All-push}
use Rattle.nts_certainty.specs.declared.sources.GoalSource.{GoalSource}
use Rattle.nts_terms.specs.declared.handles.Goal.{Goal}
use Rattle.nts_store.specs.Growth.{tree_at}
use Rattle.nts_theory.specs.Aliasing.{SaysEqual}
use Rattle.nts_trying.proofs.BegunInMode.{get_or-any}
use Rattle.nts_trying.proofs.equalities.are_equalities.Goals as goal

pub loop-added-init : goal.loop-added-init
loop-added-init c = All-nil (λ (z : GoalSource × Goal). SaysEqual (tree_at c.args.cx.now.nodes z.1.predicate.node))

pub loop-added-preserved : goal.loop-added-preserved
loop-added-preserved c = λ k d l.
    let P : GoalSource × Goal → Type 0 = λ z. SaysEqual (tree_at c.args.cx.now.nodes z.1.predicate.node) in
    let e = take_more c.args.goals.now c.loop-added.added-index d c.loop-added-test.true in
    let all = subst (All P) (sym e) (All-push P (take c.loop-added.added-index c.args.goals.now) (get_or c.args.goals.now c.loop-added.added-index d) c.loop-added.invariant (subst P (get_or-any c.args.goals.now c.loop-added.added-index _ d c.loop-added-test.true) (c.says_equality.ensures.yes c.if-not-says_equality.false))) in
    all k d l

pub returns-clause-yes : goal.returns-clause-yes
returns-clause-yes c = λ yes. rw (take_all c.loop-added.added-index c.args.goals.now (omega (arith, c.loop-added-test.false))) at c.loop-added.invariant
