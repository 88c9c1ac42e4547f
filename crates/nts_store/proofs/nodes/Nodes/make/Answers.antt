use Rattle.std.proofs.Common.{sym, ◌∙◌, refl}
use Rattle.nts_store.proofs.Growing.{Extends-refl}
use Rattle.nts_store.specs.declared.nodes.Node.{Node}
use Rattle.nts_store.specs.declared.index.Shape.{Shape}
use Rattle.nts_store.specs.Index.{HasShape}
use Rattle.nts_store.specs.Store.{trees}
use Rattle.nts_store.proofs.Inserting.{Kept, kept_more, IsMade, found_again, made_anew, is_node}
use Rattle.nts_store.proofs.nodes.Nodes.make.Goals as goal

pub returns-in-Some-clause-within : goal.returns-in-Some-clause-within
returns-in-Some-clause-within c =
    let again = found_again c.self.inside.index.nodes.items c.args.self.now c.in-Some.number (record { label = c.args.label; children = c.in_ok-of.field-0 }) c.args.children.now c.self.view_is c.self.invariant.0 c.requires.within c.in_ok-of.ensures c.in-Some.ensures.found in
    again.within

pub returns-in-Some-clause-tree : goal.returns-in-Some-clause-tree
returns-in-Some-clause-tree c =
    let again = found_again c.self.inside.index.nodes.items c.args.self.now c.in-Some.number (record { label = c.args.label; children = c.in_ok-of.field-0 }) c.args.children.now c.self.view_is c.self.invariant.0 c.requires.within c.in_ok-of.ensures c.in-Some.ensures.found in
    again.is

pub returns-in-Some-clause-one : goal.returns-in-Some-clause-one
returns-in-Some-clause-one c =
    let again = found_again c.self.inside.index.nodes.items c.args.self.now c.in-Some.number (record { label = c.args.label; children = c.in_ok-of.field-0 }) c.args.children.now c.self.view_is c.self.invariant.0 c.requires.within c.in_ok-of.ensures c.in-Some.ensures.found in
    again.one

pub returns-in-Some-clause-extends : goal.returns-in-Some-clause-extends
returns-in-Some-clause-extends c = Extends-refl c.args.self.now

abbrev shape_made : (c : goal.In_ok-number) → Shape
shape_made c = record { label = c.args.label; children = c.in_ok-of.field-0 }

abbrev node_made : (c : goal.In_ok-number) → Node
node_made c =
    record { label = c.args.label; children = c.in_ok-of-2.field-0; flags = c.flags_under.result; is_well_bound = c.in_ok-is_well_bound_under.field-0 }

has_shape : (c : goal.In_ok-number) → HasShape (node_made c) (shape_made c)
has_shape c = record { label = refl; children = c.in_ok-of-2.ensures ∙ sym c.in_ok-of.ensures }

kept : (c : goal.In_ok-number) → Kept c.self.inside.index.nodes.items c.add.new.self.nodes.items
kept c =
    kept_more c.self.inside.index c.add.new.self.nodes.items (node_made c) (shape_made c) c.self.invariant.0 c.self.invariant.1
    (is_node c.self.inside.index.nodes.items c.args.self.now (node_made c) c.args.children.now c.self.view_is c.requires.within c.in_ok-of-2.ensures c.requires.formed
    c.flags_under.ensures
    c.in_ok-is_well_bound_under.ensures)
    (has_shape c) (c.in_default.ensures.absent refl) c.in_ok-number.ensures.nodes

result_is : (c : goal.In_ok-number) → IsMade c.args.self.now (trees c.add.new.self.nodes.items) c.in_ok-number.number c.args.label c.args.children.now
result_is c =
    made_anew c.self.inside.index c.add.new.self.nodes.items (node_made c) c.args.self.now c.in_ok-number.number (shape_made c) c.args.children.now c.self.view_is (kept c) c.requires.within c.in_ok-of.ensures (has_shape c) c.in_ok-number.ensures.number c.in_ok-number.ensures.nodes

pub invariant_of-self-2 : goal.invariant_of-self-2
invariant_of-self-2 c = ((kept c).shared, c.in_ok-number.ensures.index)

pub returns-clause-within : goal.returns-clause-within
returns-clause-within c = (result_is c).within

pub returns-clause-tree : goal.returns-clause-tree
returns-clause-tree c = (result_is c).is

pub returns-clause-extends : goal.returns-clause-extends
returns-clause-extends c = (result_is c).extends

pub returns-clause-one : goal.returns-clause-one
returns-clause-one c = (result_is c).one
