use Rattle.std.proofs.Common.{sym, refl, ◌++◌, subst, get_or, take}
use Rattle.std.proofs.lemmas.List.{take_more}
use Rattle.std.proofs.lemmas.List.Elements.{All-nil}
use Rattle.nts_terms.specs.declared.handles.Goal.{Goal}
use Rattle.nts_certainty.specs.declared.sources.GoalSource.{GoalSource}
use Rattle.nts_meaning.specs.Evaluation.{IsPosed}
use Rattle.nts_meaning.proofs.Evaluating.{Runs-refl, Runs-trans, IsPosed-later}
use Rattle.nts_adding.specs.Adding.{AddsEach}
use Rattle.nts_adding.proofs.Added.{adds_more, posed_more}
use Rattle.nts_adding.proofs.goals.goals_to_add.Goals as goal

pub loop-goal-init : goal.loop-goal-init
loop-goal-init c =
    let P : GoalSource × Goal → Type 0 = λ z. IsPosed c.args.cx.now.nodes c.args.table.now z.1 in
    let none = c.new-added.ensures.items in
    record { runs = Runs-refl c.requires.table; adds = (refl, refl, none); posed = rw none (All-nil P) }

pub add_goal-requires : goal.add_goal-requires
add_goal-requires c = record { posed = IsPosed-later c.loop-goal.invariant.runs.goes (c.requires.posed c.loop-goal.goal-index _ c.loop-goal-test.true) }

pub loop-goal-preserved : goal.loop-goal-preserved
loop-goal-preserved c =
    let i = c.loop-goal.invariant in
    let a = c.in_ok-add_goal.ensures.adds in
    let runs = c.add_goal.ensures.runs in
    let gs = c.args.goals.now in
    let n = c.loop-goal.goal-index in
    let g : Goal = get_or gs n _ in
    let more = adds_more c.args.cx.now.nodes c.loop-goal.cx.nodes c.add_goal.new.cx.nodes c.args.table.now.entries c.loop-goal.table.entries c.add_goal.new.table.entries c.args.kind c.args.source (take n gs) g c.loop-goal.added.items a.more i.adds a.adds in
    record {
      runs = Runs-trans i.runs runs;
      adds = rw a.behind (subst (λ hs. AddsEach c.args.cx.now.nodes c.add_goal.new.cx.nodes c.args.table.now.entries c.add_goal.new.table.entries c.args.kind c.args.source hs (c.loop-goal.added.items ++ a.more)) (sym (take_more gs n _ c.loop-goal-test.true)) more);
      posed = rw a.behind (posed_more c.loop-goal.added.items a.more runs.goes i.posed a.posed);
    }

pub returns-in_err-add_goal-clause-runs : goal.returns-in_err-add_goal-clause-runs
returns-in_err-add_goal-clause-runs c = Runs-trans c.loop-goal.invariant.runs c.add_goal.ensures.runs
