use Rattle.nts_relating.proofs.PairLemmas.{err_of}
use Rattle.std.proofs.Common.{rules, inr, ℕ, List, ◌++◌, ◌∷◌, [], ◌<◌, false, refl}
use Rattle.nts_model.specs.Terms.Trees.{Tree}
use Rattle.nts_store.specs.declared.nodes.NodeId.{NodeId}
use Rattle.nts_terms.specs.Signatures.{variances_in}
use Rattle.nts_unify.specs.Entries.{Entries}
use Rattle.nts_unify.specs.Reading.{content_of}
use Rattle.nts_relating.proofs.ValueTurns.{on_ok}
use Rattle.nts_variance.specs.declared.along.Relating.{Relating}
use Rattle.nts_variance.specs.declared.vary_walk.Spot.{Spot}
use Rattle.nts_variance.specs.declared.vary_walk.Task.{Task}
use Rattle.nts_variance.specs.declared.vary_walk.Task.TheVariants as task
use Rattle.nts_variance.specs.Terms.{IsPart}
use Rattle.nts_variance.specs.Varying.{IsWalk}
use Rattle.nts_variance.proofs.VaryTurns.{task_last, turn_made, turn_value, turn_value_on, turn_value_quietly, turn_node}
use Rattle.nts_variance.proofs.Pieces.{look_refuses}
use Rattle.nts_variance.proofs.vary_walk.enter.Goals as goal

part : {ts : List Tree} {e : Entries} {u x : ℕ} (xs : List Task) (s : Spot) {ms : List NodeId} {gs : List Relating} → IsWalk ts e u x (xs ++ task.Enter s ∷ []) ms gs → IsPart ts (content_of ts e) s
part {ts} {e} {u} {x} xs s {ms} {gs} w = task_last (λ n. []) false u x ts e xs (task.Enter s) ms gs w

pub look_at-requires-clause-part : goal.look_at-requires-clause-part
look_at-requires-clause-part c = part c.args.walk.now.tasks.items c.args.spot c.requires.walk

pub returns-then-spot-clause-turn : goal.returns-then-spot-clause-turn
returns-then-spot-clause-turn c =
    let look = rw c.in-Ok-Value.field-0-is at (c.in-Ok-Value.ensures.look (variances_in c.args.declarations.now)) in
    let room : c.in-Ok-Value.term.number < 18446744073709551616 = search rules in
    turn_value_quietly (variances_in c.args.declarations.now) c.args.target.is_turned c.args.target.universe c.args.target.variable c.args.nodes.now c.look_at.new.nodes c.args.table.now.entries c.look_at.new.table.entries c.args.walk.now.tasks.items c.push-then-spot.new.self.items c.args.spot c.in-Ok-Value.term c.args.walk.now.made.items c.args.walk.now.goals.items c.look_at.new.goals.items c.requires.walk look.0 look.1 look.2 c.if-spot.true look.3 room look.4 c.in_ok-push-in-Ok-Value.ensures.items

pub returns-in_ok-push-in-Ok-Value-3-clause-turn : goal.returns-in_ok-push-in-Ok-Value-3-clause-turn
returns-in_ok-push-in-Ok-Value-3-clause-turn c =
    let look = rw c.in-Ok-Value.field-0-is at (c.in-Ok-Value.ensures.look (variances_in c.args.declarations.now)) in
    let room : c.in-Ok-Value.term.number < 18446744073709551616 = search rules in
    let items = rw c.in_ok-push-in-Ok-Value-2.ensures.items at c.in_ok-push-in-Ok-Value-3.ensures.items in
    turn_value (variances_in c.args.declarations.now) c.args.target.is_turned c.args.target.universe c.args.target.variable c.args.nodes.now c.look_at.new.nodes c.args.table.now.entries c.look_at.new.table.entries c.args.walk.now.tasks.items c.push-in-Ok-Value-2.new.self.items c.args.spot c.in-Ok-Value.term c.args.walk.now.made.items c.args.walk.now.goals.items c.look_at.new.goals.items c.requires.walk look.0 look.1 look.2 c.if-spot.false look.3 room look.4 look.5 items

pub returns-in_ok-push-in-Ok-Through-clause-turn : goal.returns-in_ok-push-in-Ok-Through-clause-turn
returns-in_ok-push-in-Ok-Through-clause-turn c =
    let look = rw c.in-Ok-Through.field-0-is at (c.in-Ok-Through.ensures.look (variances_in c.args.declarations.now)) in
    let room : c.in-Ok-Through.term.number < 18446744073709551616 = search rules in
    turn_value_on (variances_in c.args.declarations.now) c.args.target.is_turned c.args.target.universe c.args.target.variable c.args.nodes.now c.look_at.new.nodes c.args.table.now.entries c.look_at.new.table.entries c.args.walk.now.tasks.items c.push-in-Ok-Through.new.self.items c.args.spot c.in-Ok-Through.term c.args.spot.is_quiet c.args.walk.now.made.items c.args.walk.now.goals.items c.look_at.new.goals.items c.requires.walk look.0 look.1 look.2 refl look.3 room look.4 (inr look.5) c.in_ok-push-in-Ok-Through.ensures.items

pub push_parts-requires-clause-within : goal.push_parts-requires-clause-within
push_parts-requires-clause-within c =
    let look = rw c.in-Ok-Node.field-0-is at (c.in-Ok-Node.ensures.look (variances_in c.args.declarations.now)) in
    rw look.0 (part c.args.walk.now.tasks.items c.args.spot c.requires.walk).within

pub push_parts-requires-clause-again : goal.push_parts-requires-clause-again
push_parts-requires-clause-again c =
    let look = rw c.in-Ok-Node.field-0-is at (c.in-Ok-Node.ensures.look (variances_in c.args.declarations.now)) in
    rw look.0 look.3

pub push_parts-requires-clause-closed : goal.push_parts-requires-clause-closed
push_parts-requires-clause-closed c =
    let look = rw c.in-Ok-Node.field-0-is at (c.in-Ok-Node.ensures.look (variances_in c.args.declarations.now)) in
    rw look.0 (part c.args.walk.now.tasks.items c.args.spot c.requires.walk).closed

pub push_parts-requires-clause-room : goal.push_parts-requires-clause-room
push_parts-requires-clause-room c = (part c.args.walk.now.tasks.items c.args.spot c.requires.walk).room

pub returns-in-Err-clause-no : goal.returns-in-Err-clause-no
returns-in-Err-clause-no c = λ q.
    look_refuses (variances_in c.args.declarations.now) c.args.target.is_turned c.args.target.universe c.args.target.variable c.args.nodes.now c.args.table.now.entries c.args.walk.now.tasks.items c.args.spot c.args.walk.now.made.items c.args.walk.now.goals.items c.requires.walk (c.in-Err.ensures.no (err_of _ _ q))

pub returns-in_ok-push-in-Ok-Made-clause-turn : goal.returns-in_ok-push-in-Ok-Made-clause-turn
returns-in_ok-push-in-Ok-Made-clause-turn c =
    let look = rw c.in-Ok-Made.field-0-is at (c.in-Ok-Made.ensures.look (variances_in c.args.declarations.now)) in
    turn_made (variances_in c.args.declarations.now) c.args.target.is_turned c.args.target.universe c.args.target.variable c.args.nodes.now c.look_at.new.nodes c.args.table.now.entries c.look_at.new.table.entries c.args.walk.now.tasks.items c.args.spot c.args.walk.now.made.items c.push.new.self.items c.in-Ok-Made.made c.args.walk.now.goals.items c.look_at.new.goals.items c.requires.walk c.in-Ok-Made.ensures.extends look c.in_ok-push-in-Ok-Made.ensures.items

pub returns-in-Ok-Node-clause-turn : goal.returns-in-Ok-Node-clause-turn
returns-in-Ok-Node-clause-turn c =
    let look = rw c.in-Ok-Node.field-0-is at (c.in-Ok-Node.ensures.look (variances_in c.args.declarations.now)) in
    on_ok c.push_parts.result (λ pushed. turn_node (variances_in c.args.declarations.now) c.args.target.is_turned c.args.target.universe c.args.target.variable c.args.nodes.now c.look_at.new.nodes c.args.table.now.entries c.look_at.new.table.entries c.args.walk.now.tasks.items c.push_parts.new.tasks.items c.args.spot c.args.walk.now.made.items c.args.walk.now.goals.items c.look_at.new.goals.items c.requires.walk look.0 look.1 look.2 look.3 pushed) c.push_parts.ensures.pushed
