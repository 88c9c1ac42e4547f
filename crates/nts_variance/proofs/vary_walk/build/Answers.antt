use Rattle.std.proofs.Common.{rules, ℕ, List, false, ◌-◌, ◌≤◌, ◌++◌, ◌∷◌, [], length, ap, ◌∙◌, arith}
use Rattle.nts_model.specs.Terms.Trees.{Tree, row_length}
use Rattle.nts_store.specs.declared.nodes.NodeId.{NodeId}
use Rattle.nts_unify.specs.Entries.{Entries}
use Rattle.nts_variance.specs.declared.along.Relating.{Relating}
use Rattle.nts_variance.specs.declared.vary_walk.Task.{Task}
use Rattle.nts_variance.specs.Varying.{IsWalk}
use Rattle.nts_store.specs.Growth.{tree_at}
use Rattle.nts_variance.specs.declared.vary_walk.Task.TheVariants as task
use Rattle.nts_variance.specs.Parts.{parts_of}
use Rattle.nts_variance.specs.Terms.{IsNodeOfTable}
use Rattle.nts_unify.specs.Reading.{content_of}
use Rattle.nts_variance.proofs.Pushing.{node_with_parts, rows_long, split_at, parts_long}
use Rattle.nts_variance.proofs.VaryTurns.{task_last, parts_few, parts_in, parts_fit, turn_built}
use Rattle.nts_variance.proofs.vary_walk.build.Goals as goal

own : {ts : List Tree} {e : Entries} {u x : ℕ} (xs : List Task) (t : NodeId) {ms : List NodeId} {gs : List Relating} → IsWalk ts e u x (xs ++ task.Build t ∷ []) ms gs → IsNodeOfTable ts (content_of ts e) t
own {ts} {e} {u} {x} xs t {ms} {gs} w = task_last (λ n. []) false u x ts e xs (task.Build t) ms gs w

pub label-label-requires : goal.label-label-requires
label-label-requires c = (own c.args.walk.now.tasks.items c.args.term c.requires.walk).within

pub holder-row-requires-clause-parts : goal.holder-row-requires-clause-parts
holder-row-requires-clause-parts c =
    node_with_parts (tree_at c.args.nodes.now c.args.term) c.label-label.result c.label-label.ensures.is (own c.args.walk.now.tasks.items c.args.term c.requires.walk).is (c.terms_are_formed.ensures.formed c.args.term (own c.args.walk.now.tasks.items c.args.term c.requires.walk).within)

few_at : {ts : List Tree} {e : Entries} {u x : ℕ} (xs : List Task) (t : NodeId) {ms : List NodeId} {gs : List Relating} → IsWalk ts e u x (xs ++ task.Build t ∷ []) ms gs → row_length (parts_of (tree_at ts t)) ≤ length ms
few_at {ts} {e} {u} {x} xs t {ms} {gs} w = parts_few (λ n. []) false u x ts e xs t ms gs w

pub overflow_sub-first : goal.overflow_sub-first
overflow_sub-first c = omega (arith, few_at c.args.walk.now.tasks.items c.args.term c.requires.walk, c.child_count.ensures.count, ap row_length c.holder-row.ensures.parts, c.len.ensures)

pub build_over-requires-clause-parts_within : goal.build_over-requires-clause-parts_within
build_over-requires-clause-parts_within c =
    parts_in (λ n. []) false c.args.target.universe c.args.target.variable c.args.nodes.now c.args.table.now.entries _ c.args.walk.now.made.items c.split_off.new.self.items c.deref.result.now c.args.walk.now.goals.items c.requires.walk (split_at c.args.walk.now.made.items c.split_off.new.self.items c.in_ok-parts.parts.items c.deref.result.now (c.len.result - c.child_count.result) c.in_ok-parts.ensures.items c.in_ok-parts.ensures.tail c.deref.ensures.value)

pub build_over-requires-clause-is : goal.build_over-requires-clause-is
build_over-requires-clause-is c = (own c.args.walk.now.tasks.items c.args.term c.requires.walk).is

pub build_over-requires-clause-fit : goal.build_over-requires-clause-fit
build_over-requires-clause-fit c =
    parts_fit (λ n. []) false c.args.target.universe c.args.target.variable c.args.nodes.now c.args.table.now.entries c.args.walk.now.tasks.items c.args.term c.args.walk.now.made.items c.split_off.new.self.items c.deref.result.now c.args.walk.now.goals.items c.requires.walk (split_at c.args.walk.now.made.items c.split_off.new.self.items c.in_ok-parts.parts.items c.deref.result.now (c.len.result - c.child_count.result) c.in_ok-parts.ensures.items c.in_ok-parts.ensures.tail c.deref.ensures.value) (parts_long (length c.deref.result.now) _ c.len.result c.child_count.result (row_length (parts_of (tree_at c.args.nodes.now c.args.term))) _ (length c.args.walk.now.made.items) c.deref.ensures.len c.in_ok-parts.ensures.tail_len c.len.ensures (c.child_count.ensures.count ∙ ap row_length c.holder-row.ensures.parts) (few_at c.args.walk.now.tasks.items c.args.term c.requires.walk) (search rules))

pub build_over-requires-clause-long : goal.build_over-requires-clause-long
build_over-requires-clause-long c = rows_long c.args.nodes.now c.deref.result.now ∙ (parts_long (length c.deref.result.now) _ c.len.result c.child_count.result (row_length (parts_of (tree_at c.args.nodes.now c.args.term))) _ (length c.args.walk.now.made.items) c.deref.ensures.len c.in_ok-parts.ensures.tail_len c.len.ensures (c.child_count.ensures.count ∙ ap row_length c.holder-row.ensures.parts) (few_at c.args.walk.now.tasks.items c.args.term c.requires.walk) (search rules))

pub returns-clause-turn : goal.returns-clause-turn
returns-clause-turn c = λ declared.
    turn_built declared c.args.target.is_turned c.args.target.universe c.args.target.variable c.args.nodes.now c.build_over.new.nodes c.args.table.now.entries c.args.walk.now.tasks.items c.args.term c.args.walk.now.made.items c.split_off.new.self.items c.deref.result.now c.push.new.self.items c.in_ok-whole.whole c.args.walk.now.goals.items c.requires.walk (split_at c.args.walk.now.made.items c.split_off.new.self.items c.in_ok-parts.parts.items c.deref.result.now (c.len.result - c.child_count.result) c.in_ok-parts.ensures.items c.in_ok-parts.ensures.tail c.deref.ensures.value) (parts_long (length c.deref.result.now) _ c.len.result c.child_count.result (row_length (parts_of (tree_at c.args.nodes.now c.args.term))) _ (length c.args.walk.now.made.items) c.deref.ensures.len c.in_ok-parts.ensures.tail_len c.len.ensures (c.child_count.ensures.count ∙ ap row_length c.holder-row.ensures.parts) (few_at c.args.walk.now.tasks.items c.args.term c.requires.walk) (search rules)) c.in_ok-whole.ensures.extends c.in_ok-whole.ensures.within c.in_ok-whole.ensures.tree c.in_ok-push.ensures.items
