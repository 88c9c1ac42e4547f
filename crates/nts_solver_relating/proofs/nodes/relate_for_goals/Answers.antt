use Rattle.nts_store.specs.Growth.{tree_at}
use Rattle.nts_terms.specs.Signatures.{variances_in}
use Rattle.nts_unify.specs.Lawful.{IsLawful-extended}
use Rattle.nts_unify.specs.Reading.{content_of}
use Rattle.nts_relating.proofs.PairLemmas.{err_of}
use Rattle.nts_solver_relating.proofs.GoalsLeft.{if_ok, pairs_within, related_by}
use Rattle.nts_solver_relating.proofs.nodes.relate_for_goals.Goals as goal

pub returns-in-Err-clause-no : goal.returns-in-Err-clause-no
returns-in-Err-clause-no c = λ q. c.in-Err.ensures.no (err_of _ _ q)

pub goals_of-requires-clause-within : goal.goals_of-requires-clause-within
goals_of-requires-clause-within c =
    let us = c.relate_sides.new.nodes in
    rw c.deref.ensures.value (pairs_within us (content_of us c.relate_sides.new.table.entries) c.in-Ok.pairs.items (let r = c.in-Ok.ensures.related.related in r.known))

pub goals_of-requires-clause-goals : goal.goals_of-requires-clause-goals
goals_of-requires-clause-goals c = rw c.deref.ensures.value (let r = c.in-Ok.ensures.related.related in r.are_goals)

pub returns-in-Ok-clause-lawful : goal.returns-in-Ok-clause-lawful
returns-in-Ok-clause-lawful c = IsLawful-extended c.goals_of.ensures.extends c.in-Ok.ensures.lawful

pub returns-in-Ok-clause-related : goal.returns-in-Ok-clause-related
returns-in-Ok-clause-related c =
    let ts = c.args.nodes.now in
    let us = c.relate_sides.new.nodes in
    let s = c.in-Ok.ensures in
    let made = rw c.deref.ensures.value at c.goals_of.ensures.made in
    if_ok c.goals_of.result _ _ (λ gs h. related_by (variances_in c.args.declarations.now) ts us c.goals_of.new.nodes c.args.table.now.entries c.relate_sides.new.table.entries c.args.env c.args.variance (tree_at ts c.args.left) (tree_at ts c.args.right) c.in-Ok.pairs.items gs.items s.related c.goals_of.ensures.extends s.lawful h) made

pub returns-in-Ok-clause-no : goal.returns-in-Ok-clause-no
returns-in-Ok-clause-no c = λ q. absurd (c.goals_of.ensures.no q)
