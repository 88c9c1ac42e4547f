use Rattle.std.proofs.Common.{◌≡◌, ◌++◌, ◌∷◌, [], refl, ◌∙◌, rules}
use Rattle.nts_store.proofs.Growing.{Extends-refl, Extends-trans}
use Rattle.nts_relating.specs.declared.value_walk.Task.TheVariants as task
use Rattle.nts_store.specs.Growth.{tree_at}
use Rattle.nts_unify.specs.Reading.{content_of}
use Rattle.nts_relating.specs.Parts.{made_at}
use Rattle.nts_relating.proofs.Naming.{settled_value}
use Rattle.nts_relating.proofs.PairLemmas.{err_of}
use Rattle.nts_relating.proofs.ValueParts.{WalkGrows-refl}
use Rattle.nts_relating.proofs.ValueTurns.{walk_start, walk_end, walk_grows, walk_blocks}
use Rattle.nts_relating.proofs.value_walk.generalize.Goals as goal
use Rattle.nts_unify.proofs.Keeping.{KeepsHidden-refl, KeepsHidden-trans}

pub returns-then-is_settled-clause-generalized : goal.returns-then-is_settled-clause-generalized
returns-then-is_settled-clause-generalized c =
    settled_value (content_of c.args.nodes.now c.args.table.now.entries) c.args.target.variable c.args.target.universe c.args.target.binders (tree_at c.args.nodes.now c.args.t) _ c.requires.lawful.sound c.requires.knows c.flags.ensures (c.is_settled.ensures c.if-is_settled.true)

pub loop-task-init : goal.loop-task-init
loop-task-init c =
    let items : c.push.new.self.items ≡ task.Enter (record { term = c.args.t; binders = c.args.target.binders }) ∷ [] = search rules in
    record {
      extends = Extends-refl c.args.nodes.now;
      changes = KeepsHidden-refl _;
      root = refl;
      walk = walk_start c.args.nodes.now c.args.table.now.entries c.args.target.variable c.args.target.universe (record { term = c.args.t; binders = c.args.target.binders }) c.push.new.self.items _ c.requires.lawful c.requires.known c.requires.named c.requires.no_region c.requires.within c.requires.knows c.requires.room (λ p. rw c.new-2.ensures.empty refl) items;
      grows = WalkGrows-refl _ _ _ _ c.requires.lawful.sound;
    }

pub loop-task-preserved : goal.loop-task-preserved
loop-task-preserved c =
    let i = c.loop-task.invariant in
    let s = c.in-Ok.ensures in
    let is : c.loop-task.walk.tasks.items ≡ c.pop.new.self.items ++ c.in-Some.task ∷ [] = search rules in
    let turn = rw i.root at s.turn in
    record {
      extends = Extends-trans i.extends s.extends;
      changes = KeepsHidden-trans i.changes s.changes;
      root = s.root ∙ i.root;
      walk = turn.walk;
      grows = walk_grows c.args.nodes.now c.loop-task.nodes c.step.new.nodes c.args.table.now.entries c.loop-task.table.entries c.step.new.table.entries c.args.target.variable c.args.target.universe (record { term = c.args.t; binders = c.args.target.binders }) c.requires.lawful.sound c.requires.knows i.extends c.requires.within i.grows turn.grows;
    }

pub returns-in-Err-clause-no : goal.returns-in-Err-clause-no
returns-in-Err-clause-no c = λ q.
    let i = c.loop-task.invariant in
    let blocked = rw i.root at (c.in-Err.ensures.no (err_of _ _ q)) in
    walk_blocks c.args.nodes.now c.loop-task.nodes c.args.table.now.entries c.loop-task.table.entries c.args.target.variable c.args.target.universe (record { term = c.args.t; binders = c.args.target.binders }) c.requires.known c.requires.knows i.extends c.requires.within i.grows blocked

pub returns-clause-within : goal.returns-clause-within
returns-clause-within c =
    let i = c.loop-task.invariant in
    (i.walk.made (record { term = c.args.t; binders = c.args.target.binders }) c.made_for.result c.made_for.ensures).made_in

pub returns-clause-generalized : goal.returns-clause-generalized
returns-clause-generalized c =
    let i = c.loop-task.invariant in
    walk_end c.args.nodes.now c.loop-task.nodes c.args.table.now.entries c.loop-task.table.entries c.args.target.variable c.args.target.universe (record { term = c.args.t; binders = c.args.target.binders }) c.loop-task.walk.tasks.items (made_at c.loop-task.walk.made) c.made_for.result i.extends c.requires.within c.requires.knows i.grows i.walk c.made_for.ensures
