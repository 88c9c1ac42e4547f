use Rattle.std.proofs.Common.{rules, ◌≡◌, ◌++◌, ◌∷◌, [], false}
use Rattle.nts_store.proofs.Growing.{Extends-refl, Extends-trans}
use Rattle.nts_terms.specs.Signatures.{variances_in}
use Rattle.nts_unify.proofs.Keeping.{KeepsHidden-refl, KeepsHidden-trans}
use Rattle.nts_relating.proofs.PairLemmas.{err_of}
use Rattle.nts_variance.specs.declared.vary_walk.Task.TheVariants as task
use Rattle.nts_variance.proofs.Pushing.{one_of}
use Rattle.nts_variance.proofs.VaryTurns.{run_start, run_turn, ends_one, run_end, run_refuses}
use Rattle.nts_variance.proofs.vary_walk.vary.Goals as goal

pub loop-task-init : goal.loop-task-init
loop-task-init c =
    let items : c.push.new.self.items ≡ task.Enter (record { term = c.args.term; binders = 0; variance = c.args.variance; is_quiet = false; is_searched = false }) ∷ [] = search rules in
    let start = run_start (variances_in c.args.declarations.now) c.args.target.is_turned c.args.target.universe c.args.target.variable c.args.nodes.now c.args.table.now.entries c.args.variance c.args.term c.push.new.self.items c.requires.lawful c.requires.part c.requires.node c.requires.named c.requires.known c.requires.no_region items in
    record {
      extends = Extends-refl c.args.nodes.now;
      changes = KeepsHidden-refl _;
      run = rw (c.new-2.ensures.items, c.new-3.ensures.items) start;
    }

pub loop-task-preserved : goal.loop-task-preserved
loop-task-preserved c =
    let i = c.loop-task.invariant in
    let s = c.in-Ok.ensures in
    let is : c.loop-task.walk.tasks.items ≡ c.pop.new.self.items ++ c.in-Some.task ∷ [] = search rules in
    record {
      extends = Extends-trans i.extends s.extends;
      changes = KeepsHidden-trans i.changes s.changes;
      run = run_turn (variances_in c.args.declarations.now) c.args.target.is_turned c.args.target.universe c.args.target.variable c.args.nodes.now c.args.table.now.entries c.loop-task.nodes c.step.new.nodes c.loop-task.table.entries c.step.new.table.entries c.args.variance c.args.term _ _ _ _ _ _ (rw is at i.run) s.turn s.extends;
    }

pub returns-in-Err-clause-no : goal.returns-in-Err-clause-no
returns-in-Err-clause-no c = λ q.
    let i = c.loop-task.invariant in
    let is : c.loop-task.walk.tasks.items ≡ c.pop.new.self.items ++ c.in-Some.task ∷ [] = search rules in
    run_refuses (variances_in c.args.declarations.now) c.args.target.is_turned c.args.target.universe c.args.target.variable c.args.nodes.now c.args.table.now.entries c.loop-task.nodes c.loop-task.table.entries c.args.variance c.args.term _ _ _ (rw is at i.run) (c.in-Err.ensures.no (err_of _ _ q))

pub returns-clause-varied : goal.returns-clause-varied
returns-clause-varied c =
    let i = c.loop-task.invariant in
    let none : c.loop-task.walk.tasks.items ≡ [] = search rules in
    let one = ends_one (variances_in c.args.declarations.now) c.args.target.is_turned c.args.target.universe c.args.target.variable c.args.nodes.now c.args.table.now.entries c.loop-task.nodes c.loop-task.table.entries c.args.variance c.args.term _ _ _ i.run none in
    run_end (variances_in c.args.declarations.now) c.args.target.is_turned c.args.target.universe c.args.target.variable c.args.nodes.now c.args.table.now.entries c.loop-task.nodes c.loop-task.table.entries c.args.variance c.args.term _ _ c.index-made.result.now _ i.run none (one_of c.loop-task.walk.made.items c.index-made.result.now one c.index-made.ensures)
