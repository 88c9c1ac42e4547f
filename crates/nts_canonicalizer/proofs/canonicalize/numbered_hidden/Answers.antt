use Rattle.std.proofs.Common.{arith}
use Rattle.nts_model.specs.Terms.Substitutions.{replace}
use Rattle.nts_model.specs.Canonical.Numbered.{numbered_leaf, no_leaf}
use Rattle.nts_store.proofs.Growing.{Extends-trans}
use Rattle.nts_canonical.proofs.PairLists.{are_hidden-at, is_hidden-kept, IsImage-later, AreImages-kept, image_more}
use Rattle.nts_canonicalizer.proofs.canonicalize.numbered_hidden.Goals as goal

pub numbered_pair-requires : goal.numbered_pair-requires
numbered_pair-requires c =
    is_hidden-kept c.args.nodes.now c.loop-i.nodes _ (are_hidden-at c.args.nodes.now c.args.opaque_types.now c.loop-i.i _ c.requires (omega (arith, c.loop-i-test.true))) c.loop-i.invariant.extends

pub loop-i-preserved : goal.loop-i-preserved
loop-i-preserved c =
    let f = replace (numbered_leaf no_leaf c.args.leaves.now) in
    let a = c.args.nodes.now in
    let b = c.loop-i.nodes in
    let d = c.numbered_pair.new.nodes in
    let up = c.numbered_pair.ensures.extends in
    let held = are_hidden-at a c.args.opaque_types.now c.loop-i.i _ c.requires (omega (arith, c.loop-i-test.true)) in
    let one = IsImage-later f a b d _ c.in_ok-one.one held c.loop-i.invariant.extends c.in_ok-one.ensures.image in
    let old = AreImages-kept f a b d _ c.loop-i.hidden.items c.loop-i.invariant.images up in
    record {
      images = image_more f a d c.args.opaque_types.now c.loop-i.hidden.items c.push.new.self.items c.loop-i.i _ c.in_ok-one.one old (omega (arith, c.loop-i-test.true)) one c.in_ok-push.ensures.items;
      extends = Extends-trans c.loop-i.invariant.extends up;
    }
