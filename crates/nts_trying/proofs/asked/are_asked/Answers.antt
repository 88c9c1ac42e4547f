use Rattle.std.proofs.Common.{◌≡◌, ◌∙◌, arith, take, get_or, subst, sym, false}
use Rattle.std.specs.Prelude.{All}
use Rattle.std.proofs.lemmas.List.{take_all, take_more}
use Rattle.std.proofs.lemmas.List.Elements.{All-nil, All-push}
use Rattle.nts_certainty.specs.declared.sources.GoalSource.{GoalSource}
use Rattle.nts_terms.specs.declared.handles.Goal.{Goal}
use Rattle.nts_store.specs.Growth.{tree_at}
use Rattle.nts_theory.specs.AskedGoals.{is_asked}
use Rattle.nts_trying.specs.Asking.{IsAskedIn}
use Rattle.nts_trying.proofs.BegunInMode.{get_or-any}
use Rattle.nts_trying.proofs.AskedData.{asked_not, some_item}
use Rattle.nts_trying.proofs.asked.are_asked.Goals as goal

pub loop-added-init : goal.loop-added-init
loop-added-init c = All-nil (IsAskedIn c.args.cx.now.nodes)

pub loop-added-preserved : goal.loop-added-preserved
loop-added-preserved c = λ k d l.
    let P : GoalSource × Goal → Type 0 = IsAskedIn c.args.cx.now.nodes in
    let e = take_more c.args.goals.now c.loop-added.added-index d c.loop-added-test.true in
    let all = subst (All P) (sym e) (All-push P (take c.loop-added.added-index c.args.goals.now) (get_or c.args.goals.now c.loop-added.added-index d) c.loop-added.invariant (subst P (get_or-any c.args.goals.now c.loop-added.added-index _ d c.loop-added-test.true) (sym c.is_asked.ensures ∙ c.if-not-is_asked.false))) in
    all k d l

pub returns-then-not-is_asked-clause-no : goal.returns-then-not-is_asked-clause-no
returns-then-not-is_asked-clause-no c = λ no all.
    let ts = c.args.cx.now.nodes in
    let Q : GoalSource × Goal → Type 0 = λ z. is_asked (tree_at ts z.1.predicate.node) ≡ false in
    some_item c.args.goals.now c.loop-added.added-index c.loop-added-test.true
    (λ d. asked_not ts (get_or c.args.goals.now c.loop-added.added-index d) (all c.loop-added.added-index d c.loop-added-test.true) (subst Q (get_or-any c.args.goals.now c.loop-added.added-index _ d c.loop-added-test.true) (sym c.is_asked.ensures ∙ c.if-not-is_asked.true)))

pub returns-clause-yes : goal.returns-clause-yes
returns-clause-yes c = λ yes. rw (take_all c.loop-added.added-index c.args.goals.now (omega (arith, c.loop-added-test.false))) at c.loop-added.invariant
