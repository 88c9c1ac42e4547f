use Rattle.std.proofs.Common.{◌≡◌, ◌<◌, ◌++◌, ◌∷◌, [], refl, sym, ◌∙◌, rules}
use Rattle.nts_relating.specs.declared.value_walk.Task.TheVariants as task
use Rattle.nts_unify.specs.Reading.{content_of}
use Rattle.nts_relating.specs.Parts.{IsGeneralizingPart, made_at}
use Rattle.nts_relating.proofs.PairLemmas.{err_of}
use Rattle.nts_relating.proofs.ValueParts.{blocks_whole}
use Rattle.nts_relating.proofs.ValueTasks.{AreGeneralizingTasks-front, more_found, some_of}
use Rattle.nts_relating.proofs.ValueTurns.{on_ok, turn_found, turn_done, turn_value_left, turn_node_left}
use Rattle.nts_relating.proofs.value_walk.enter.Goals as goal

pub returns-then-contains_key-clause-turn : goal.returns-then-contains_key-clause-turn
returns-then-contains_key-clause-turn c =
    let found = some_of (made_at c.args.walk.now.made c.args.part) (sym c.contains_key.ensures ∙ c.if-contains_key.true) in
    turn_found c.args.nodes.now c.args.table.now.entries c.args.target.variable c.args.target.universe c.args.walk.now.root c.args.part c.args.walk.now.tasks.items (made_at c.args.walk.now.made) found.0 c.requires.walk found.1

part : (c : goal.After-look_at-arg-4-1) → IsGeneralizingPart c.args.nodes.now (content_of c.args.nodes.now c.args.table.now.entries) c.args.target.universe c.args.walk.now.root c.args.part
part c =
    (AreGeneralizingTasks-front c.args.nodes.now (content_of c.args.nodes.now c.args.table.now.entries) c.args.target.universe c.args.walk.now.root c.args.walk.now.tasks.items (task.Enter c.args.part) c.requires.walk.tasks).1

pub look_at-requires-clause-within : goal.look_at-requires-clause-within
look_at-requires-clause-within c = (part c).within

pub look_at-requires-clause-knows : goal.look_at-requires-clause-knows
look_at-requires-clause-knows c = (part c).part.knows

pub push_node-requires-clause-room : goal.push_node-requires-clause-room
push_node-requires-clause-room c =
    (AreGeneralizingTasks-front c.args.nodes.now (content_of c.args.nodes.now c.args.table.now.entries) c.args.target.universe c.args.walk.now.root c.args.walk.now.tasks.items (task.Enter c.args.part) c.requires.walk.tasks).1.room

pub returns-in-Err-clause-no : goal.returns-in-Err-clause-no
returns-in-Err-clause-no c = λ q.
    let here : IsGeneralizingPart c.args.nodes.now (content_of c.args.nodes.now c.args.table.now.entries) c.args.target.universe c.args.walk.now.root c.args.part =
    (AreGeneralizingTasks-front c.args.nodes.now (content_of c.args.nodes.now c.args.table.now.entries) c.args.target.universe c.args.walk.now.root c.args.walk.now.tasks.items (task.Enter c.args.part) c.requires.walk.tasks).1 in
    blocks_whole here.part (c.in-Err.ensures.no (err_of _ _ q))

pub returns-in_ok-insert-in-Ok-Made-clause-turn : goal.returns-in_ok-insert-in-Ok-Made-clause-turn
returns-in_ok-insert-in-Ok-Made-clause-turn c =
    let look = rw c.in-Ok-Made.field-0-is at c.in-Ok-Made.ensures.look in
    turn_done c.args.nodes.now c.look_at.new.nodes c.args.table.now.entries c.look_at.new.table.entries c.args.target.variable c.args.target.universe c.args.walk.now.root c.args.part c.args.walk.now.tasks.items (task.Enter c.args.part) (made_at c.args.walk.now.made) (made_at c.insert.new.self) c.in-Ok-Made.made c.requires.walk refl c.in-Ok-Made.ensures.extends c.in-Ok-Made.ensures.lawful look.0 look.1
    (more_found (made_at c.args.walk.now.made) (made_at c.insert.new.self) c.args.part c.in-Ok-Made.made c.in_ok-insert-in-Ok-Made.ensures.updates.0)

pub returns-in_ok-push-in-Ok-Value-2-clause-turn : goal.returns-in_ok-push-in-Ok-Value-2-clause-turn
returns-in_ok-push-in-Ok-Value-2-clause-turn c =
    let look = rw c.in-Ok-Value.field-0-is at c.in-Ok-Value.ensures.look in
    let room : c.in-Ok-Value.value.number < 18446744073709551616 = search rules in
    let items : c.push-in-Ok-Value.new.self.items ≡ (c.args.walk.now.tasks.items ++ task.Pass c.args.part c.in-Ok-Value.value ∷ []) ++ task.Enter (record { term = c.in-Ok-Value.value; binders = 0 }) ∷ [] = rw c.in_ok-push-in-Ok-Value.ensures.items at c.in_ok-push-in-Ok-Value-2.ensures.items in
    turn_value_left c.args.nodes.now c.look_at.new.nodes c.args.table.now.entries c.look_at.new.table.entries c.args.target.variable c.args.target.universe c.args.walk.now.root c.args.part c.args.walk.now.tasks.items c.push-in-Ok-Value.new.self.items (made_at c.args.walk.now.made) c.in-Ok-Value.value c.requires.walk look.0 look.1 look.2 look.3 room items

pub returns-in-Ok-Node-clause-turn : goal.returns-in-Ok-Node-clause-turn
returns-in-Ok-Node-clause-turn c =
    let look = rw c.in-Ok-Node.field-0-is at c.in-Ok-Node.ensures.look in
    on_ok c.push_node.result (λ entered. turn_node_left c.args.nodes.now c.look_at.new.nodes c.args.table.now.entries c.look_at.new.table.entries c.args.target.variable c.args.target.universe c.args.walk.now.root c.args.part c.args.walk.now.tasks.items c.push_node.new.tasks.items (made_at c.args.walk.now.made) c.requires.walk look.0 look.1 look.2 entered) c.push_node.ensures.entered
