use Rattle.std.proofs.Common.{◌∙◌, refl}
use Rattle.nts_store.proofs.Growing.{Extends-refl}
use Rattle.nts_trying.proofs.NormalGoals.{begins_one, normal_of}
use Rattle.nts_trying.proofs.normal.normalize_one.Goals as goal

pub returns-clause-begins : goal.returns-clause-begins
returns-clause-begins c =
    let a = c.args.cx.now in
    let n = c.in_ok-normal.ensures in
    let r = c.args.equated in
    let e = c.requires.equated in
    let alias = e.alias in
    let term = e.term in
    let up = n.grows.extends in
    let kept = up.kept r.term.node term.within in
    begins_one a c.normal_goal.new.cx c.args.table.now c.args.goal c.in_ok-normal.normal r _ e c.requires.plain (c.in_ok-push.ensures.items ∙ rw c.in_ok-goals.ensures.items refl)
    (rw kept at (normal_of a.nodes a.nodes c.normal_goal.new.cx.nodes c.normal_goal.new.cx.nodes r.alias.node r.term.node c.args.goal c.in_ok-normal.normal alias.within term.within (Extends-refl _) up (Extends-refl _) n.environment n.holds n.tree)) c.requires.posed up
