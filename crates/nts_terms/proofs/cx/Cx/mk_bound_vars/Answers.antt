use Rattle.std.proofs.Common.{List, arith}
use Rattle.nts_model.specs.Terms.Trees.{Tree}
use Rattle.nts_store.specs.Growth.{Extends}
use Rattle.nts_store.proofs.Growing.{Extends-trans}
use Rattle.nts_terms.specs.Rest.{KeepsRest, Grows}
use Rattle.nts_terms.specs.declared.cx.Cx.{Cx}
use Rattle.nts_terms.proofs.Standing.{one_sort_made, sorts_fit}
use Rattle.nts_terms.proofs.cx.Cx.mk_bound_vars.Goals as goal

-- more nodes, and all the rest as it was
grown : (old mid : Cx) (ts : List Tree) → KeepsRest old mid → Extends old.nodes ts → Grows old (record mid { nodes = ts })
grown old mid ts rest up = record {
  extends = up;
  rest = record { declarations = rest.declarations; limit = rest.limit; steps = rest.steps; rounds = rest.rounds; division = rest.division; fast_paths = rest.fast_paths };
}

pub loop-sort-preserved : goal.loop-sort-preserved
loop-sort-preserved c = record {
  made = rw c.in_ok-push.ensures.items (one_sort_made c.args.self.now.nodes c.loop-sort.self.nodes c.make.new.self c.loop-sort.children.items c.args.sorts.now c.in_ok-node.node c.loop-sort.sort-index _ c.loop-sort.invariant.made c.in_ok-node.ensures.extends c.in_ok-node.ensures.within c.in_ok-node.ensures.tree (omega (arith, c.loop-sort-test.true)));
  rest = record { declarations = c.loop-sort.invariant.rest.declarations; limit = c.loop-sort.invariant.rest.limit; steps = c.loop-sort.invariant.rest.steps; rounds = c.loop-sort.invariant.rest.rounds; division = c.loop-sort.invariant.rest.division; fast_paths = c.loop-sort.invariant.rest.fast_paths };
}

pub make-requires-2-clause-formed : goal.make-requires-2-clause-formed
make-requires-2-clause-formed c = rw (c.deref.ensures.value, c.loop-sort.invariant.made.are) (sorts_fit _)

pub returns-in_err-node-clause-grows : goal.returns-in_err-node-clause-grows
returns-in_err-node-clause-grows c =
    grown c.args.self.now c.loop-sort.self c.make.new.self c.loop-sort.invariant.rest (Extends-trans c.loop-sort.invariant.made.extends c.make.ensures.extends)

pub returns-in_err-push-clause-grows : goal.returns-in_err-push-clause-grows
returns-in_err-push-clause-grows c =
    grown c.args.self.now c.loop-sort.self c.make.new.self c.loop-sort.invariant.rest (Extends-trans c.loop-sort.invariant.made.extends c.make.ensures.extends)

pub returns-in_err-node-2-clause-grows : goal.returns-in_err-node-2-clause-grows
returns-in_err-node-2-clause-grows c =
    grown c.args.self.now c.loop-sort.self c.make-2.new.self c.loop-sort.invariant.rest (Extends-trans c.loop-sort.invariant.made.extends c.make-2.ensures.extends)

pub returns-clause-grows : goal.returns-clause-grows
returns-clause-grows c =
    grown c.args.self.now c.loop-sort.self c.make-2.new.self c.loop-sort.invariant.rest (Extends-trans c.loop-sort.invariant.made.extends c.make-2.ensures.extends)
