use Rattle.std.proofs.Common.{◌∙◌, refl}
use Rattle.nts_store.specs.Growth.{tree_at}
use Rattle.nts_unify.specs.Reading.{content_of}
use Rattle.nts_unify.specs.Lawful.{content_of-extended}
use Rattle.nts_model.proofs.Tables.Bringing.{brings-trans}
use Rattle.nts_meaning.proofs.Evaluating.{Knows-goes, Goes-extends, Goes-trans, Runs-trans, Runs-extends, IsPosed-later}
use Rattle.nts_trying.proofs.LesserGoals.{sides_known_here, result_later, type_later, begins_lesser}
use Rattle.nts_trying.proofs.lesser.lesser_goals.Goals as goal

pub side_of-requires-clause-holds : goal.side_of-requires-clause-holds
side_of-requires-clause-holds c = (let t = c.requires.types.types in t.sub)

pub side_of-requires-clause-knows : goal.side_of-requires-clause-knows
side_of-requires-clause-knows c = (let k = sides_known_here c.requires.types c.requires.posed in k.0)

pub side_of-requires-clause-closed : goal.side_of-requires-clause-closed
side_of-requires-clause-closed c = (let t = c.requires.types in t.sub_closed)

pub side_of-requires-2-clause-posed : goal.side_of-requires-2-clause-posed
side_of-requires-2-clause-posed c = IsPosed-later c.in_ok-sub.ensures.runs.goes c.requires.posed

pub side_of-requires-2-clause-holds : goal.side_of-requires-2-clause-holds
side_of-requires-2-clause-holds c = (let t = c.requires.types.types in type_later c.in_ok-sub.ensures.runs.goes t.sup)

pub side_of-requires-2-clause-knows : goal.side_of-requires-2-clause-knows
side_of-requires-2-clause-knows c =
    let t = c.requires.types.types in
    let goes = c.in_ok-sub.ensures.runs.goes in
    let up = goes.extends in
    let h = t.sup in
    let k = sides_known_here c.requires.types c.requires.posed in
    rw (up.kept c.args.types.sup.node h.within) (Knows-goes (tree_at c.args.cx.now.nodes c.args.types.sup.node) goes k.1)

pub side_of-requires-2-clause-closed : goal.side_of-requires-2-clause-closed
side_of-requires-2-clause-closed c =
    let t = c.requires.types in
    let types = t.types in
    let h = types.sup in
    let goes = c.in_ok-sub.ensures.runs.goes in
    let up = goes.extends in
    rw (up.kept c.args.types.sup.node h.within) t.sup_closed

pub lesser_goal-requires-clause-sub : goal.lesser_goal-requires-clause-sub
lesser_goal-requires-clause-sub c = (let r = c.in_ok-sub.ensures.result in type_later c.in_ok-sup.ensures.runs.goes r.result)

pub lesser_goal-requires-clause-sup : goal.lesser_goal-requires-clause-sup
lesser_goal-requires-clause-sup c = (let r = c.in_ok-sup.ensures.result in r.result)

pub returns-in_err-sup-clause-runs : goal.returns-in_err-sup-clause-runs
returns-in_err-sup-clause-runs c = Runs-trans c.in_ok-sub.ensures.runs c.side_of-2.ensures.runs

pub returns-in_err-lesser-clause-runs : goal.returns-in_err-lesser-clause-runs
returns-in_err-lesser-clause-runs c =
    let both = Runs-trans c.in_ok-sub.ensures.runs c.in_ok-sup.ensures.runs in
    let n = c.lesser_goal.ensures.grows in
    Runs-trans both (Runs-extends both.goes.table n.extends n.rest)

pub returns-in_err-goals-clause-runs : goal.returns-in_err-goals-clause-runs
returns-in_err-goals-clause-runs c =
    let both = Runs-trans c.in_ok-sub.ensures.runs c.in_ok-sup.ensures.runs in
    let n = c.in_ok-lesser.ensures.grows in
    Runs-trans both (Runs-extends both.goes.table n.extends n.rest)

pub returns-clause-runs : goal.returns-clause-runs
returns-clause-runs c =
    let both = Runs-trans c.in_ok-sub.ensures.runs c.in_ok-sup.ensures.runs in
    let n = c.in_ok-lesser.ensures.grows in
    Runs-trans both (Runs-extends both.goes.table n.extends n.rest)

pub returns-clause-begins : goal.returns-clause-begins
returns-clause-begins c =
    let a = c.args.cx.now in
    let first = c.in_ok-sub.ensures in
    let second = c.in_ok-sup.ensures in
    let n = c.in_ok-lesser.ensures in
    let m = c.side_of.new.cx in
    let k = c.side_of-2.new.cx in
    let b = c.lesser_goal.new.cx in
    let u = c.side_of-2.new.table in
    let up = n.grows.extends in
    let last = Goes-extends second.runs.goes.table up in
    let both = Goes-trans second.runs.goes last in
    let all = Goes-trans first.runs.goes both in
    let one = first.result in
    let two = second.result in
    let sub = c.in_ok-sub.sub.result in
    let sup = c.in_ok-sup.sup.result in
    let types = c.requires.types.types in
    let sup_held = types.sup in
    let one_holds = one.result in
    let two_holds = two.result in
    let kept_first = both.extends.kept sub.node one_holds.within in
    let kept_second = up.kept sup.node two_holds.within in
    let same = content_of-extended up second.runs.goes.table.now in
    let sup_kept = first.runs.goes.extends.kept c.args.types.sup.node sup_held.within in
    begins_lesser a b c.args.table.now u c.args.goal c.args.types (content_of m.nodes c.side_of.new.table.entries) c.in_ok-sub.sub c.in_ok-sup.sup c.in_ok-lesser.lesser c.in_ok-goals.goals.items c.requires.types c.requires.posed all (result_later both one) (rw sup_kept at (result_later {o = a.nodes} last two)) (rw kept_first first.makes) (rw (kept_second, same) second.makes)
    (rw same (brings-trans first.labels second.labels)) n.environment n.holds (n.tree ∙ rw (kept_first, kept_second, second.runs.goes.extends.kept sub.node one_holds.within) refl) c.in_ok-goals.ensures
