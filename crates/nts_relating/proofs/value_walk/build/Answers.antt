use Rattle.std.proofs.Common.{◌≡◌, ◌+◌, ◌<◌, sym, ap, ◌∙◌, arith}
use Rattle.nts_model.specs.Terms.Trees.{empty, children, row_length, row_take}
use Rattle.nts_store.specs.Growth.{tree_at, trees_at}
use Rattle.nts_store.proofs.Growing.{AllIn-push, Extends-refl, row_take-all}
use Rattle.nts_relating.specs.declared.value_walk.Task.TheVariants as task
use Rattle.nts_unify.specs.Reading.{content_of}
use Rattle.nts_relating.specs.Relating.{Generalized, IsLike}
use Rattle.nts_relating.specs.Parts.{inner, made_at}
use Rattle.nts_relating.proofs.Naming.{lawful_sides}
use Rattle.nts_relating.proofs.GenLemmas.{gen_start, gen_push, Meets-like, binders_le}
use Rattle.nts_relating.proofs.PairLemmas.{Knows-children}
use Rattle.nts_relating.proofs.ValueTasks.{AreGeneralizingTasks-front, more_found}
use Rattle.nts_relating.proofs.ValueTurns.{child_found, turn_built}
use Rattle.nts_relating.proofs.value_walk.build.Goals as goal

pub label-label-requires : goal.label-label-requires
label-label-requires c =
    (AreGeneralizingTasks-front c.args.nodes.now (content_of c.args.nodes.now c.args.table.now.entries) c.args.target.universe c.args.walk.now.root c.args.walk.now.tasks.items (task.Build c.args.part) c.requires.walk.tasks).1.0.within

pub overflow_add-binders : goal.overflow_add-binders
overflow_add-binders c =
    let room = (AreGeneralizingTasks-front c.args.nodes.now (content_of c.args.nodes.now c.args.table.now.entries) c.args.target.universe c.args.walk.now.root c.args.walk.now.tasks.items (task.Build c.args.part) c.requires.walk.tasks).1.0.room in
    omega (arith, c.binders_of.ensures, binders_le c.label-label.result, c.child-term.ensures.before, room)

pub loop-i-init : goal.loop-i-init
loop-i-init c = record {
  all = rw c.new-children.ensures.items tt;
  so_far = rw c.new-children.ensures.items (gen_start (content_of c.args.nodes.now c.args.table.now.entries) c.args.target.variable c.args.target.universe _ empty c.requires.walk.lawful.sound);
}

less : (c : goal.In_ok-push) → c.loop-i.i < row_length (children (tree_at c.args.nodes.now c.args.part.term))
less c = omega (arith, c.child_count-i-end.ensures.count, c.loop-i-test.true)

under : (c : goal.In_ok-push) → c.args.part.binders + c.binders_of.result ≡ inner c.args.part.binders (tree_at c.args.nodes.now c.args.part.term)
under c = ap (λ n. c.args.part.binders + n) c.binders_of.ensures ∙ sym (ap (inner c.args.part.binders) c.label-label.ensures.is)

pub made_for-requires : goal.made_for-requires
made_for-requires c =
    child_found c.args.nodes.now c.args.table.now.entries c.args.target.variable c.args.target.universe c.args.walk.now.root c.args.part c.args.walk.now.tasks.items (made_at c.args.walk.now.made) c.label-label.result c.child-term.result c.loop-i.i (c.args.part.binders + c.binders_of.result) c.requires.walk c.terms_are_formed.ensures.apart c.label-label.ensures.is (ap (λ n. c.args.part.binders + n) c.binders_of.ensures) (omega (arith, c.child_count-i-end.ensures.count, c.loop-i-test.true)) c.child-term.ensures.within c.child-term.ensures.tree

pub loop-i-preserved : goal.loop-i-preserved
loop-i-preserved c =
    let i = c.loop-i.invariant in
    let ts = c.args.nodes.now in
    let e = c.args.table.now.entries in
    let w = c.requires.walk in
    let d = content_of ts e in
    let t = tree_at ts c.args.part.term in
    let front = (AreGeneralizingTasks-front ts d c.args.target.universe c.args.walk.now.root c.args.walk.now.tasks.items (task.Build c.args.part) w.tasks).1.0 in
    let old = w.made (record { term = c.child-term.result; binders = c.args.part.binders + c.binders_of.result }) c.made_for.result c.made_for.ensures in
    let stands : Generalized d d c.args.target.variable c.args.target.universe (inner c.args.part.binders t) (tree_at ts c.child-term.result) (tree_at ts c.made_for.result) = rw (under c) at old.stands in
    let items = c.in_ok-push.ensures.items in
    record {
      all = rw items (AllIn-push _ _ _ i.all old.made_in);
      so_far = gen_push ts ts d d d c.args.target.variable c.args.target.universe _ c.loop-i.i _ _ c.loop-i.children.items _ c.made_for.result w.lawful.sound (record { sound = w.lawful.sound; sides = lawful_sides ts e w.lawful }) w.lawful.sound (Knows-children d t front.part.knows) i.so_far (Extends-refl ts) i.all (less c) c.child-term.ensures.tree stands items;
    }

pub make-requires-clause-within : goal.make-requires-clause-within
make-requires-clause-within c = rw c.deref.ensures.value c.loop-i.invariant.all

pub make-requires-clause-formed : goal.make-requires-clause-formed
make-requires-clause-formed c =
    let i = c.loop-i.invariant in
    let t = tree_at c.args.nodes.now c.args.part.term in
    let all : c.loop-i.i ≡ row_length (children t) = omega (arith, c.child_count-i-end.ensures.count, c.loop-i-test.false) in
    let whole : row_take c.loop-i.i (children t) ≡ children t = rw all (row_take-all _ c.child_count-i-end.ensures.row) in
    let like : IsLike (trees_at c.args.nodes.now c.loop-i.children.items) (children t) = rw whole at i.so_far.like in
    rw c.deref.ensures.value (Meets-like _ _ _ like c.label-label.ensures.formed)

pub returns-clause-turn : goal.returns-clause-turn
returns-clause-turn c =
    let all : c.loop-i.i ≡ row_length (children (tree_at c.args.nodes.now c.args.part.term)) = omega (arith, c.child_count-i-end.ensures.count, c.loop-i-test.false) in
    let made = rw c.deref.ensures.value at c.in_ok-made.ensures.tree in
    turn_built c.args.nodes.now c.make.new.self c.args.table.now.entries c.args.target.variable c.args.target.universe c.loop-i.i c.args.walk.now.root c.args.part c.args.walk.now.tasks.items (made_at c.args.walk.now.made) (made_at c.insert.new.self) c.label-label.result c.loop-i.children.items c.in_ok-made.made c.requires.walk c.label-label.ensures.is c.child_count-i-end.ensures.row all c.loop-i.invariant.so_far c.in_ok-made.ensures.extends c.in_ok-made.ensures.within made
    (more_found (made_at c.args.walk.now.made) (made_at c.insert.new.self) c.args.part c.in_ok-made.made c.in_ok-insert.ensures.updates.0)
