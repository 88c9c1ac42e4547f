use Rattle.std.proofs.Common.{refl}
use Rattle.nts_unify.specs.Lawful.{IsLawful-constrained}
use Rattle.nts_relating.proofs.Naming.{region_constraint}
use Rattle.nts_variance.proofs.Owing.{pair_constraint}
use Rattle.nts_variance.proofs.vary_walk.make_region.Goals as goal

pub returns-clause-lawful : goal.returns-clause-lawful
returns-clause-lawful c =
    let f = c.add_variable.new.table.entries in
    let us = c.add_variable.new.nodes in
    let equated = region_constraint c.args.nodes.now us c.args.table.now.entries f c.args.spot.term c.in_ok-made.made _ c.requires.lawful c.in_ok-made.ensures.extends c.requires.region (record { state = refl; universe = c.requires.named; sub_link = λ m q. cc }) refl refl c.in_ok-made.ensures.entries c.in_ok-made.ensures.within c.in_ok-made.ensures.tree in
    let owed = pair_constraint us f c.args.target.is_turned c.args.spot.variance c.in_ok-made.made c.args.spot.term equated in
    rw (c.in_ok-record_regions.ensures.entries, c.pair_of-pair.ensures) (IsLawful-constrained us f _ (c.in_ok-made.ensures.lawful c.requires.lawful) owed)
