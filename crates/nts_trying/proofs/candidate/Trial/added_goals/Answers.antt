use Rattle.std.proofs.Common.{arith, subst, sym, []}
use Rattle.std.proofs.lemmas.List.{take_all}
use Rattle.nts_store.proofs.Growing.{Extends-refl}
use Rattle.nts_terms.proofs.Moved.{KeepsRest-refl}
use Rattle.nts_trying.specs.Adding.{AreAdded}
use Rattle.nts_meaning.proofs.Evaluating.{Goes-extends, IsPosed-later, AreValues-later, IsNestedIn-extended, nested_at}
use Rattle.nts_trying.proofs.Adding.{grown_more, added_none, added_more}
use Rattle.nts_trying.proofs.candidate.Trial.added_goals.Goals as goal

pub loop-asked-init : goal.loop-asked-init
loop-asked-init c =
    record {
      grows = record { extends = Extends-refl _; rest = KeepsRest-refl _ };
      added = subst (AreAdded c.args.cx.now.nodes c.args.cx.now.nodes c.args.table.now c.args.self.goal c.args.self.values.now []) (sym c.in_ok-added.ensures.items) (added_none _ _ _ _ _);
    }

pub added_goal-requires-clause-posed : goal.added_goal-requires-clause-posed
added_goal-requires-clause-posed c = IsPosed-later (Goes-extends c.requires.posed.table c.loop-asked.invariant.grows.extends) c.requires.posed

pub added_goal-requires-clause-nested : goal.added_goal-requires-clause-nested
added_goal-requires-clause-nested c =
    IsNestedIn-extended c.loop-asked.invariant.grows.extends c.requires.posed.holds (nested_at c.args.cx.now.nodes c.args.self.fresh.now c.args.self.goal c.args.nested.now c.loop-asked.asked-index _ c.requires.nested c.loop-asked-test.true)

pub added_goal-requires-clause-values : goal.added_goal-requires-clause-values
added_goal-requires-clause-values c = AreValues-later (Goes-extends c.requires.posed.table c.loop-asked.invariant.grows.extends) c.requires.values

pub returns-in_err-goal-clause-grows : goal.returns-in_err-goal-clause-grows
returns-in_err-goal-clause-grows c = grown_more c.loop-asked.invariant.grows c.added_goal.ensures.grows

pub returns-in_err-push-clause-grows : goal.returns-in_err-push-clause-grows
returns-in_err-push-clause-grows c = grown_more c.loop-asked.invariant.grows c.added_goal.ensures.grows

pub loop-asked-preserved : goal.loop-asked-preserved
loop-asked-preserved c =
    let i = c.loop-asked.invariant in
    let e = c.in_ok-goal.ensures in
    record {
      grows = grown_more i.grows e.grows;
      added = added_more c.args.self.goal c.args.self.fresh.now c.args.self.values.now c.args.nested.now c.loop-asked.asked-index _ c.loop-asked.added.items c.push.new.self.items c.in_ok-goal.goal c.loop-asked-test.true c.requires.posed c.requires.nested c.requires.values i.grows.extends e.grows.extends i.added e.posed e.goal e.labels c.in_ok-push.ensures.items;
    }

pub returns-clause-grows : goal.returns-clause-grows
returns-clause-grows c = c.loop-asked.invariant.grows

pub returns-clause-added : goal.returns-clause-added
returns-clause-added c =
    let i = c.loop-asked.invariant in
    subst (λ hs. AreAdded c.args.cx.now.nodes c.loop-asked.cx.nodes c.args.table.now c.args.self.goal c.args.self.values.now hs c.loop-asked.added.items) (take_all c.loop-asked.asked-index c.args.nested.now (omega (arith, c.loop-asked-test.false))) i.added
