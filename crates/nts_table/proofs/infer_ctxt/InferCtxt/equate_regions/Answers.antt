use Rattle.std.proofs.Common.{sym}
use Rattle.nts_store.specs.Growth.{tree_at}
use Rattle.nts_unify.specs.Reading.{content_of}
use Rattle.nts_table.proofs.RegionLinks.{known_region, IsTable-regions_joined}
use Rattle.nts_model.proofs.Tables.Bringing.{brings-of}
use Rattle.nts_unify.proofs.Labelled.{joined_bring}
use Rattle.nts_table.proofs.infer_ctxt.InferCtxt.equate_regions.Goals as goal

pub returns-in_ok-join_regions_of-in-Some-Some-clause-table : goal.returns-in_ok-join_regions_of-in-Some-Some-clause-table
returns-in_ok-join_regions_of-in-Some-Some-clause-table c =
    let ts = c.args.cx.now.nodes in
    let content = content_of ts c.args.self.now.entries in
    let left = known_region content (tree_at ts c.args.a.node) c.in-Some-Some.x c.requires.left_known (sym c.in-Some-Some.ensures) in
    let right = known_region content (tree_at ts c.args.b.node) c.in-Some-Some.y c.requires.right_known (sym c.in-Some-Some.ensures') in
    IsTable-regions_joined ts c.args.self.now c.join_regions_of.new.self c.in-Some-Some.x c.in-Some-Some.y c.in_ok-join_regions_of-in-Some-Some.ensures.joined c.join_regions_of.ensures.changes.saved c.requires.table left right

pub returns-in_ok-join_regions_of-in-Some-Some-clause-labels : goal.returns-in_ok-join_regions_of-in-Some-Some-clause-labels
returns-in_ok-join_regions_of-in-Some-Some-clause-labels c =
    brings-of _ _ (joined_bring c.args.cx.now.nodes c.args.self.now.entries c.join_regions_of.new.self.entries c.in-Some-Some.x c.in-Some-Some.y c.in_ok-join_regions_of-in-Some-Some.ensures.joined)
