use Rattle.std.proofs.Common.{◌<◌, length, arith, map}
use Rattle.nts_model.specs.Terms.Substitutions.{filled}
use Rattle.nts_store.specs.Growth.{tree_at}
use Rattle.nts_store.specs.Kept.{AllIn-kept, map-kept}
use Rattle.nts_store.proofs.Growing.{Extends-trans}
use Rattle.nts_canonical.proofs.PairLists.{are_hidden-at, is_hidden-kept, IsImage-later, AreImages-kept, image_more}
use Rattle.nts_canonical.proofs.Filled.{has_values-kept, pair-at, image-filled}
use Rattle.nts_canonical.proofs.queries.fill_hidden.Goals as goal

pub fill_pair-requires : goal.fill_pair-requires
fill_pair-requires c =
    let a = c.args.nodes.now in
    let b = c.loop-i.nodes in
    let vs = c.args.values.now in
    let inside : c.loop-i.i < length c.args.opaque_types.now = omega (arith, c.loop-i-test.true) in
    let held = are_hidden-at a c.args.opaque_types.now c.loop-i.i _ c.requires.holds inside in
    let has = pair-at (map (tree_at a) vs) a c.args.opaque_types.now c.loop-i.i _ c.requires.positions inside in
    record {
      holds = is_hidden-kept a b _ held c.loop-i.invariant.extends;
      values = AllIn-kept a b vs c.requires.values c.loop-i.invariant.extends;
      alias_positions = has_values-kept a b vs _ c.requires.values held.args.within c.loop-i.invariant.extends has.alias;
      positions = has_values-kept a b vs _ c.requires.values held.hidden_type.within c.loop-i.invariant.extends has.hidden_type;
    }

pub loop-i-preserved : goal.loop-i-preserved
loop-i-preserved c =
    let a = c.args.nodes.now in
    let b = c.loop-i.nodes in
    let d = c.fill_pair.new.nodes in
    let f = filled (map (tree_at a) c.args.values.now) in
    let up = c.fill_pair.ensures.extends in
    let inside : c.loop-i.i < length c.args.opaque_types.now = omega (arith, c.loop-i-test.true) in
    let held = are_hidden-at a c.args.opaque_types.now c.loop-i.i _ c.requires.holds inside in
    let same = map-kept a b c.args.values.now c.requires.values c.loop-i.invariant.extends in
    let one = IsImage-later f a b d _ c.in_ok-one.one held c.loop-i.invariant.extends (image-filled _ _ b d _ c.in_ok-one.one same c.in_ok-one.ensures.image) in
    let old = AreImages-kept f a b d _ c.loop-i.hidden.items c.loop-i.invariant.images up in
    record {
      images = image_more f a d c.args.opaque_types.now c.loop-i.hidden.items c.push.new.self.items c.loop-i.i _ c.in_ok-one.one old inside one c.in_ok-push.ensures.items;
      extends = Extends-trans c.loop-i.invariant.extends up;
    }
