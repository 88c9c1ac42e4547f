use Rattle.std.proofs.Common.{◌≡◌, true, false, sym, ap, ◌∙◌}
use Rattle.nts_model.specs.declared.labels.Relation.TheVariants as relation
use Rattle.nts_model.specs.Tables.Contents.{with_constraint}
use Rattle.nts_model.proofs.Tables.AliasLabels.{region_closed}
use Rattle.nts_variance_model.proofs.Variances.Generalizing.{owed}
use Rattle.nts_store.specs.Growth.{tree_at}
use Rattle.nts_unify.specs.Lawful.{IsLawful-constrained, content_of-constrained}
use Rattle.nts_unify.specs.Reading.{content_of, IsConstraint}
use Rattle.nts_unify.proofs.Keeping.{KeepsKnowing-refl, KeepsKnowing-with_constraint}
use Rattle.nts_relating.proofs.RegionLemmas.{region_variable_at}
use Rattle.nts_variance.specs.Varying.{constraint_of_pair}
use Rattle.nts_variance.proofs.Leaves.{owed_seen}
use Rattle.nts_variance.proofs.Looks.{recorded_by}
use Rattle.nts_variance.proofs.Owing.{pair_constraint}
use Rattle.nts_variance.proofs.Sides.{one_region_class}
use Rattle.nts_variance.proofs.Takes.{takes_class, takes_regions}
use Rattle.nts_variance.proofs.taking.take_regions.Goals as goal

pub returns-then-root-clause-taken : goal.returns-then-root-clause-taken
returns-then-root-clause-taken c = λ declared.
    let ts = c.args.nodes.now in
    let e = c.args.table.now.entries in
    let p = c.args.pair in
    let a = tree_at ts p.left in
    let b = tree_at ts p.right in
    let va = region_variable_at ts e a c.label.result c.in-Some.x c.root.result c.requires.lawful c.requires.left.knows c.label.ensures.is c.label.ensures.formed (sym c.in-Some.ensures) c.root.ensures in
    let vb = region_variable_at ts e b c.label-in-Some.result c.in-Some-region_number.y c.root-in-Some-region_number.result c.requires.lawful c.requires.right.knows c.label-in-Some.ensures.is c.label-in-Some.ensures.formed (sym c.in-Some-region_number.ensures) c.root-in-Some-region_number.ensures in
    let one = one_region_class (content_of ts e) a b c.in-Some.x c.in-Some-region_number.y c.root.result c.root-in-Some-region_number.result va vb c.if-root.true in
    (c.requires.lawful, takes_class declared (content_of ts e) p.variance a b c.requires.lawful.sound c.requires.left.knows c.requires.right.knows one)

pub returns-clause-taken : goal.returns-clause-taken
returns-clause-taken c = λ declared.
    let ts = c.args.nodes.now in
    let e = c.args.table.now.entries in
    let p = c.args.pair in
    let a = tree_at ts p.left in
    let b = tree_at ts p.right in
    let left = c.requires.left in
    let right = c.requires.right in
    let equated : IsConstraint ts (content_of ts e) (record { relation = relation.Equal; left = p.left; right = p.right; is_visible = true }) = record { left_in = left.within; right_in = right.within; left_known = left.knows; right_known = right.knows; left_sort = left.sort; right_sort = right.sort; regions = (left.free, right.free) } in
    let lawful = IsLawful-constrained ts e (constraint_of_pair p) c.requires.lawful (pair_constraint ts e false p.variance p.left p.right equated) in
    let entries = c.in_ok-record_regions.ensures.entries in
    let content : content_of ts c.record_regions.new.table.entries ≡ with_constraint (content_of ts e) (owed p.variance a b) = ap (content_of ts) entries ∙ content_of-constrained ts e (constraint_of_pair p) ∙ ap (with_constraint (content_of ts e)) (recorded_by ts false p.variance p.left p.right) in
    (rw entries lawful, rw content (takes_regions declared (content_of ts e) p.variance a b c.requires.lawful.sound left.knows right.knows left.free right.free))

pub returns-then-root-clause-kept : goal.returns-then-root-clause-kept
returns-then-root-clause-kept c = KeepsKnowing-refl (content_of c.args.nodes.now c.args.table.now.entries)

pub returns-clause-kept : goal.returns-clause-kept
returns-clause-kept c =
    let ts = c.args.nodes.now in
    let e = c.args.table.now.entries in
    let p = c.args.pair in
    let a = tree_at ts p.left in
    let b = tree_at ts p.right in
    let entries = c.in_ok-record_regions.ensures.entries in
    let content : content_of ts c.record_regions.new.table.entries ≡ with_constraint (content_of ts e) (owed p.variance a b) = ap (content_of ts) entries ∙ content_of-constrained ts e (constraint_of_pair p) ∙ ap (with_constraint (content_of ts e)) (recorded_by ts false p.variance p.left p.right) in
    rw content (KeepsKnowing-with_constraint (content_of ts e) (owed p.variance a b) (owed_seen p.variance a b (region_closed 0 a c.requires.left.free) (region_closed 0 b c.requires.right.free)))
