use Rattle.std.proofs.Common.{refl, sym}
use Rattle.nts_unify.specs.Lawful.{IsLawful-extended, IsLawful-constrained}
use Rattle.nts_relating.proofs.HeadLemmas.{region_root}
use Rattle.nts_relating.proofs.Naming.{is_fresh, root_value, region_value, can_join_fresh_region, fresh_joined, fresh_recorded, region_constraint}
use Rattle.nts_relating.proofs.value_leaves.name_region.Goals as goal

pub returns-then-not-contains-clause-lawful : goal.returns-then-not-contains-clause-lawful
returns-then-not-contains-clause-lawful c = IsLawful-extended c.in_ok-make.ensures.extends c.requires.lawful

pub returns-then-not-contains-clause-generalized : goal.returns-then-not-contains-clause-generalized
returns-then-not-contains-clause-generalized c =
    root_value c.args.nodes.now _ c.args.table.now.entries c.args.target.variable c.args.target.universe c.args.target.binders c.in-Some.n c.root-root.result _ _ c.label-label.result c.variable.result c.requires.lawful c.requires.region.knows c.label-label.ensures.is c.label-label.ensures.formed (sym c.in-Some.ensures) c.root-root.ensures c.variable.ensures c.if-variable-target.true c.in_ok-make.ensures.extends c.in_ok-make.ensures.tree

pub join_regions-requires : goal.join_regions-requires
join_regions-requires c =
    can_join_fresh_region c.args.table.now.entries _ c.root-root.result c.variable_count-number.result _ (region_root c.args.nodes.now c.args.table.now.entries _ _ _ _ c.requires.lawful c.requires.region.knows c.label-label.ensures.is (sym c.in-Some.ensures) c.root-root.ensures) refl (record { state = refl; universe = c.requires.named; sub_link = λ m q. cc }) c.in_ok-fresh.ensures.entries c.variable_count-number.ensures

pub returns-in-Some-clause-generalized : goal.returns-in-Some-clause-generalized
returns-in-Some-clause-generalized c =
    let fresh = is_fresh c.args.nodes.now c.add_variable.new.nodes c.args.table.now.entries c.add_variable.new.table.entries c.args.target.universe _ c.args.t c.label-label.result c.requires.lawful c.in_ok-fresh.ensures.extends c.requires.region c.label-label.ensures.is c.label-label.ensures.formed (record { state = refl; universe = c.requires.named; sub_link = λ m q. cc }) refl refl refl c.in_ok-fresh.ensures.entries in
    fresh_joined c.args.nodes.now c.add_variable.new.nodes c.args.table.now.entries c.add_variable.new.table.entries c.join_regions.new.table.entries c.args.target.variable c.args.target.universe c.args.target.binders c.in-Some.n c.root-root.result c.args.t c.in_ok-fresh.fresh c.label-label.result _ fresh c.requires.known c.requires.no_region (sym c.in-Some.ensures) c.root-root.ensures (c.in_ok-fresh.ensures.lawful c.requires.lawful) c.in_ok-fresh.ensures.tree (rw c.variable_count-number.ensures at (c.in_ok-join_regions.ensures.joined c.add_variable.new.nodes (c.in_ok-fresh.ensures.lawful c.requires.lawful)))

pub returns-then-not-is_beyond-clause-generalized : goal.returns-then-not-is_beyond-clause-generalized
returns-then-not-is_beyond-clause-generalized c =
    region_value c.args.nodes.now c.args.table.now.entries c.args.target.variable c.args.target.universe c.args.target.binders c.args.t c.label-label.result c.requires.lawful c.requires.region c.label-label.ensures.is c.label-label.ensures.formed (sym c.in_default.ensures) (c.is_beyond.ensures.named c.if-not-is_beyond.true)

pub returns-clause-lawful : goal.returns-clause-lawful
returns-clause-lawful c =
    rw c.in_ok-constrain.ensures.entries (IsLawful-constrained c.add_variable-2.new.nodes c.add_variable-2.new.table.entries _ (c.in_ok-fresh-2.ensures.lawful c.requires.lawful)
    (region_constraint c.args.nodes.now c.add_variable-2.new.nodes c.args.table.now.entries c.add_variable-2.new.table.entries c.args.t _ _ c.requires.lawful c.in_ok-fresh-2.ensures.extends c.requires.region (record { state = refl; universe = c.requires.named; sub_link = λ m q. cc }) refl refl c.in_ok-fresh-2.ensures.entries c.in_ok-fresh-2.ensures.within c.in_ok-fresh-2.ensures.tree))

pub returns-clause-generalized : goal.returns-clause-generalized
returns-clause-generalized c =
    let fresh = is_fresh c.args.nodes.now c.add_variable-2.new.nodes c.args.table.now.entries c.add_variable-2.new.table.entries c.args.target.universe _ c.args.t c.label-label.result c.requires.lawful c.in_ok-fresh-2.ensures.extends c.requires.region c.label-label.ensures.is c.label-label.ensures.formed (record { state = refl; universe = c.requires.named; sub_link = λ m q. cc }) refl refl refl c.in_ok-fresh-2.ensures.entries in
    fresh_recorded c.args.nodes.now c.add_variable-2.new.nodes c.args.table.now.entries c.add_variable-2.new.table.entries c.constrain.new.self.entries c.args.target.variable c.args.target.universe c.args.target.binders c.args.t c.in_ok-fresh-2.fresh c.label-label.result _ fresh c.requires.known (c.in_ok-fresh-2.ensures.lawful c.requires.lawful) c.in_ok-fresh-2.ensures.within c.in_ok-fresh-2.ensures.tree c.in_ok-constrain.ensures.entries (c.is_beyond.ensures.beyond c.if-not-is_beyond.false)
