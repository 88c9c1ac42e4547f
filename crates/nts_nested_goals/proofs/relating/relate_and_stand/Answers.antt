use Rattle.nts_certainty.specs.declared.sources.GoalSource.TheVariants as source
use Rattle.nts_search.specs.declared.kinds.CurrentGoalKind.TheVariants as kind
use Rattle.nts_meaning.proofs.Evaluating.{Runs-trans}
use Rattle.nts_solver_relating.proofs.GoalsLeft.{if_ok}
use Rattle.nts_adding.specs.Adding.{AddsEach}
use Rattle.nts_adding.proofs.Known.{goals_posed}
use Rattle.nts_nested_goals.specs.Related.{RelatesAdding, LeavesNothing}
use Rattle.nts_adding.proofs.Relating.{relate_runs}
use Rattle.nts_nested_goals.proofs.Relates.{env_later, leaves_nothing}
use Rattle.nts_nested_goals.proofs.relating.relate_and_stand.Goals as goal

pub returns-in_err-goals-clause-runs : goal.returns-in_err-goals-clause-runs
returns-in_err-goals-clause-runs g c =
    let r = c.relate.ensures in
    relate_runs _ _ _ _ (λ gs. gs.items) _ _ _ _ _ c.relate.result c.requires.table r.keeps r.related r.err

pub goals_to_add-requires-clause-posed : goal.goals_to_add-requires-clause-posed
goals_to_add-requires-clause-posed g c =
    let r = c.relate.ensures in
    let runs = relate_runs _ _ _ _ (λ gs. gs.items) _ _ _ _ _ c.relate.result c.requires.table r.keeps r.related r.err in
    let later = env_later runs c.requires.env in
    let s = c.in_ok-goals.ensures.related in
    rw c.deref.ensures.value (goals_posed c.relate.new.cx.nodes c.relate.new.self c.args.env s.pairs c.in_ok-goals.goals.items runs.goes.table later.holds later.knows s.goals)

pub returns-clause-runs : goal.returns-clause-runs
returns-clause-runs g c =
    let r = c.relate.ensures in
    Runs-trans (relate_runs _ _ _ _ (λ gs. gs.items) _ _ _ _ _ c.relate.result c.requires.table r.keeps r.related r.err) c.goals_to_add.ensures.runs

pub returns-clause-related : goal.returns-clause-related
returns-clause-related g c =
    let gs = c.in_ok-goals.goals.items in
    let s = c.in_ok-goals.ensures.related in
    let adds = rw c.deref.ensures.value at c.goals_to_add.ensures.adds in
    if_ok c.goals_to_add.result (λ v. AddsEach c.relate.new.cx.nodes c.goals_to_add.new.cx.nodes c.relate.new.self.entries c.goals_to_add.new.table.entries kind.Misc source.TypeRelating gs v.items)
    (λ v. RelatesAdding c.args.cx.now c.goals_to_add.new.cx c.args.table.now.entries c.goals_to_add.new.table.entries c.args.env c.args.variance _ _ v.items)
    (λ v h. record { goals = gs; store = c.relate.new.cx.nodes; entries = c.relate.new.self.entries; related = s; adds = h }) adds

pub returns-clause-equal : goal.returns-clause-equal
returns-clause-equal g c = λ p.
    let gs = c.in_ok-goals.goals.items in
    let adds = rw c.deref.ensures.value at c.goals_to_add.ensures.adds in
    if_ok c.goals_to_add.result (λ v. AddsEach c.relate.new.cx.nodes c.goals_to_add.new.cx.nodes c.relate.new.self.entries c.goals_to_add.new.table.entries kind.Misc source.TypeRelating gs v.items)
    (λ v. LeavesNothing c.args.cx.now c.goals_to_add.new.cx c.args.table.now.entries c.goals_to_add.new.table.entries _ _ v.items)
    (λ v h. leaves_nothing c.args.cx.now c.relate.new.cx c.goals_to_add.new.cx c.args.table.now.entries c.relate.new.self.entries c.goals_to_add.new.table.entries _ _ gs v.items (c.in_ok-goals.ensures.equal p) h) adds
