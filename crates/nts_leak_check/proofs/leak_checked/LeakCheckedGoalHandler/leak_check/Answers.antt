use Rattle.std.proofs.Common.{inr, subst}
use Rattle.nts_model.specs.Lists.{Among}
use Rattle.nts_model.specs.Tables.Recording.{resolved_constraints}
use Rattle.nts_unify.specs.Lawful.{content_of-extended}
use Rattle.nts_table.specs.TableLaws.{IsTable-extended}
use Rattle.nts_leak_check.proofs.News.{news_among, sides_in}
use Rattle.nts_leak_check.proofs.leak_checked.LeakCheckedGoalHandler.leak_check.Goals as goal

pub make_deduplicated_region_constraints-requires : goal.make_deduplicated_region_constraints-requires
make_deduplicated_region_constraints-requires g c =
    record { table = IsTable-extended c.leak_check.ensures.grows.extends c.requires.table }

pub one_equates_rigid-requires : goal.one_equates_rigid-requires
one_equates_rigid-requires g c = rw c.deref.ensures.value (sides_in _ _ _ c.in_ok-constraints.ensures.sides)

pub returns-then-one_equates_rigid-clause-leaks : goal.returns-then-one_equates_rigid-clause-leaks
returns-then-one_equates_rigid-clause-leaks g c = λ no.
    let here = c.requires.table.now in
    let one = rw c.deref.ensures.value at (c.one_equates_rigid.ensures c.if-one_equates_rigid.true) in
    inr (record {
      sound = here.sound;
      one = record { constraint = one.constraint; among = subst (λ k. Among (resolved_constraints k) one.constraint) (content_of-extended c.leak_check.ensures.grows.extends here) (news_among c.in_ok-constraints.ensures.news one.constraint one.among); equates = one.equates };
    })
