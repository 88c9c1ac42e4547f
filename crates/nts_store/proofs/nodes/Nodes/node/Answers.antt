use Rattle.std.proofs.Common.{arith, ap, sym, subst, length, ◌∙◌}
use Rattle.std.specs.Prelude.{◌↔◌, IsTrue}
use Rattle.nts_model.specs.Terms.Scoping.{IsWellBound}
use Rattle.nts_store.specs.TypeFlags.{flags_of}
use Rattle.nts_store.proofs.Inserting.{Found, found, length-trees}
use Rattle.nts_store.proofs.nodes.Nodes.node.Goals as goal

read : (c : goal.After-index) → Found c.args.self.now c.args.t.number c.index.result.now
read c =
    let ns = c.self.inside.index.nodes.items in
    let n = c.index.result.now in
    found ns c.args.self.now c.args.t.number n c.self.view_is c.self.invariant.0 (omega (arith, ap length c.self.view_is, length-trees ns, c.requires)) (sym c.index.ensures)

pub index-requires : goal.index-requires
index-requires c = omega (arith, ap length c.self.view_is, length-trees c.self.inside.index.nodes.items)

pub returns-clause-is : goal.returns-clause-is
returns-clause-is c = (read c).is

pub returns-clause-all : goal.returns-clause-all
returns-clause-all c = (read c).is_node.all

pub returns-clause-before : goal.returns-clause-before
returns-clause-before c = (read c).before

pub returns-clause-formed : goal.returns-clause-formed
returns-clause-formed c = (read c).is_node.formed

pub returns-clause-flags : goal.returns-clause-flags
returns-clause-flags c = (read c).is_node.flags ∙ ap flags_of (sym (read c).is)

pub returns-clause-well_bound : goal.returns-clause-well_bound
returns-clause-well_bound c = subst (λ t. IsTrue c.index.result.now.is_well_bound ↔ IsWellBound t) (sym (read c).is) (read c).is_node.well_bound
