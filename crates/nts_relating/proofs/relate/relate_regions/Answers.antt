use Rattle.std.proofs.Common.{sym, refl}
use Rattle.nts_unify.specs.Lawful.{IsLawful-constrained}
use Rattle.nts_relating.proofs.HeadLemmas.{region_root}
use Rattle.nts_relating.proofs.RegionLemmas.{region_variable_at, regions_same, regions_joined, regions_recorded}
use Rattle.nts_relating.proofs.relate.relate_regions.Goals as goal

pub join_regions-requires : goal.join_regions-requires
join_regions-requires c =
    let e = c.args.table.now.entries in
    record {
      first = region_root _ e _ _ _ _ c.requires.lawful c.requires.left.knows c.label.ensures.is (sym c.in-Some.ensures) c.root-x.ensures;
      second = region_root _ e _ _ _ _ c.requires.lawful c.requires.right.knows c.label-in-Some.ensures.is (sym c.in-Some-region_number.ensures) c.root-y.ensures;
      apart = c.if-x-y.true;
    }

pub returns-clause-related : goal.returns-clause-related
returns-clause-related c =
    regions_recorded c.args.nodes.now c.args.table.now.entries _ _ c.requires.lawful c.requires.left c.requires.right refl refl c.in_ok-constrain.ensures.entries

pub returns-clause-lawful : goal.returns-clause-lawful
returns-clause-lawful c =
    rw c.in_ok-constrain.ensures.entries (IsLawful-constrained _ c.args.table.now.entries _ c.requires.lawful (record {
      left_in = c.requires.left.within;
      right_in = c.requires.right.within;
      left_known = c.requires.left.knows;
      right_known = c.requires.right.knows;
      left_sort = c.requires.left.sort;
      right_sort = c.requires.right.sort;
      regions = (c.requires.left.free, c.requires.right.free);
    }))

pub returns-in_ok-join_regions-clause-related : goal.returns-in_ok-join_regions-clause-related
returns-in_ok-join_regions-clause-related c =
    let ts = c.args.nodes.now in
    let e = c.args.table.now.entries in
    regions_joined ts e _ _ _ c.in-Some.x c.in-Some-region_number.y c.root-x.result c.root-y.result c.requires.lawful
    (region_variable_at ts e _ c.label.result c.in-Some.x c.root-x.result c.requires.lawful c.requires.left.knows c.label.ensures.is c.label.ensures.formed (sym c.in-Some.ensures) c.root-x.ensures)
    (region_variable_at ts e _ c.label-in-Some.result c.in-Some-region_number.y c.root-y.result c.requires.lawful c.requires.right.knows c.label-in-Some.ensures.is c.label-in-Some.ensures.formed (sym c.in-Some-region_number.ensures) c.root-y.ensures)
    (c.in_ok-join_regions.ensures.joined ts c.requires.lawful)

pub returns-else-x-y-clause-related : goal.returns-else-x-y-clause-related
returns-else-x-y-clause-related c =
    let ts = c.args.nodes.now in
    let e = c.args.table.now.entries in
    regions_same _ _ _ c.in-Some.x c.in-Some-region_number.y c.root-x.result c.root-y.result c.requires.lawful.sound
    (region_variable_at ts e _ c.label.result c.in-Some.x c.root-x.result c.requires.lawful c.requires.left.knows c.label.ensures.is c.label.ensures.formed (sym c.in-Some.ensures) c.root-x.ensures)
    (region_variable_at ts e _ c.label-in-Some.result c.in-Some-region_number.y c.root-y.result c.requires.lawful c.requires.right.knows c.label-in-Some.ensures.is c.label-in-Some.ensures.formed (sym c.in-Some-region_number.ensures) c.root-y.ensures)
    c.if-x-y.false
