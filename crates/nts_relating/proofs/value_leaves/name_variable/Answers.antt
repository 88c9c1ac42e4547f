use Rattle.std.proofs.Common.{refl, sym, ap, ◌∙◌, None}
use Rattle.nts_model.specs.Terms.Trees.{variable_tree}
use Rattle.nts_unify.specs.declared.contents.State.TheVariants.{Unset}
use Rattle.nts_unify.specs.Reading.{IsLawful}
use Rattle.nts_unify.specs.Lawful.{IsNew, IsLawful-extended, IsLawful-added}
use Rattle.nts_relating.proofs.Naming.{named_value, can_join_fresh, fresh_value}
use Rattle.nts_relating.proofs.value_leaves.name_variable.Goals as goal

pub returns-then-not-contains-clause-lawful : goal.returns-then-not-contains-clause-lawful
returns-then-not-contains-clause-lawful c = IsLawful-extended c.in_ok-make.ensures.extends c.requires.lawful

pub returns-then-not-contains-clause-generalized : goal.returns-then-not-contains-clause-generalized
returns-then-not-contains-clause-generalized c =
    named_value c.args.nodes.now _ c.args.table.now.entries c.args.target.variable c.args.target.universe c.args.target.binders c.args.y _ _ c.variable-variable.result c.requires.lawful c.requires.open c.requires.other c.variable-variable.ensures c.if-variable-target.true c.in_ok-make.ensures.extends c.in_ok-make.ensures.tree

pub join-requires : goal.join-requires
join-requires c =
    can_join_fresh c.args.nodes.now c.args.table.now.entries _ c.args.y _ _ _ c.variable-variable.result c.requires.lawful c.requires.open c.variable-variable.ensures refl (record { state = refl; universe = c.requires.named; sub_link = λ m q. cc }) c.in_ok-fresh.ensures.entries c.variable_count-number.ensures

pub returns-clause-generalized : goal.returns-clause-generalized
returns-clause-generalized c =
    let new : IsNew c.args.table.now.entries (record { kind = c.variable-variable.result.kind; universe = c.args.target.universe; state = Unset; sub_link = None }) = record { state = refl; universe = c.requires.named; sub_link = λ m q. cc } in
    let grown : IsLawful c.args.nodes.now c.add_variable.new.table.entries = rw c.in_ok-fresh.ensures.entries (IsLawful-added c.args.nodes.now _ _ c.requires.lawful new) in
    fresh_value c.args.nodes.now c.add_variable.new.nodes c.args.table.now.entries c.add_variable.new.table.entries c.join.new.table.entries c.args.target.variable c.args.target.universe c.args.target.binders c.args.y c.variable_count-number.result _ _ _ c.variable-variable.result c.requires.lawful c.requires.knows c.requires.known refl c.requires.open c.requires.other c.variable-variable.ensures refl new refl c.in_ok-fresh.ensures.entries c.variable_count-number.ensures (c.in_ok-join.ensures.joined c.args.nodes.now grown) c.in_ok-fresh.ensures.extends
    (c.in_ok-fresh.ensures.tree ∙ ap (variable_tree c.variable-variable.result.kind) (sym c.variable_count-number.ensures))
