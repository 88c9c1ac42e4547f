use Rattle.std.proofs.Common.{arith, refl, ap, ◌∙◌}
use Rattle.nts_table.proofs.Walking.{value_in}
use Rattle.nts_table.proofs.LookingUp.{look_known, look_unset, sort_kept}
use Rattle.nts_unify.proofs.NodeLemmas.{if_ok}
use Rattle.nts_model.specs.Terms.Trees.{kind_of}
use Rattle.nts_table.proofs.infer_ctxt.InferCtxt.+look_up.Goals as goal

pub look_up-requires : goal.look_up-requires
look_up-requires t c =
    let k = look_known c.args.nodes.now c.args.self.now _ c.label.result c.in-Some.kind c.in-Some.n _ _ c.requires.table c.requires.knows c.label.ensures.is c.in-Some.ensures c.in-Ok.ensures.value.1 c.in-Ok.value refl in
    (omega (arith, k.lower, c.decreases), (c.requires.table, (value_in c.args.nodes.now c.args.self.now _ _ _ c.requires.table c.in-Ok.ensures.value.1, k.knows)))

pub returns-in-Ok-clause-tree : goal.returns-in-Ok-clause-tree
returns-in-Ok-clause-tree t c = let k = look_known c.args.nodes.now c.args.self.now _ c.label.result c.in-Some.kind c.in-Some.n _ _ c.requires.table c.requires.knows c.label.ensures.is c.in-Some.ensures c.in-Ok.ensures.value.1 c.in-Ok.value refl in if_ok c.look_up.result (λ r e. e ∙ k.image) c.look_up.ensures.tree

pub returns-in-Ok-clause-sort : goal.returns-in-Ok-clause-sort
returns-in-Ok-clause-sort t c = let k = look_known c.args.nodes.now c.args.self.now _ c.label.result c.in-Some.kind c.in-Some.n _ _ c.requires.table c.requires.knows c.label.ensures.is c.in-Some.ensures c.in-Ok.ensures.value.1 c.in-Ok.value refl in if_ok c.look_up.result (λ r e. e ∙ k.sort) c.look_up.ensures.sort

pub returns-in-Err-clause-tree : goal.returns-in-Err-clause-tree
returns-in-Err-clause-tree t c =
    if_ok c.make.result (λ r e. e ∙ look_unset c.args.nodes.now c.args.self.now _ c.label.result c.in-Some.kind c.in-Some.n _ _ c.requires.table c.requires.knows c.label.ensures.is c.in-Some.ensures c.in-Err.ensures.root refl) c.make.ensures.tree

pub returns-in-Err-clause-sort : goal.returns-in-Err-clause-sort
returns-in-Err-clause-sort t c =
    if_ok c.make.result (λ r e. ap kind_of e ∙ sort_kept c.args.nodes.now c.args.self.now _ c.label.result c.in-Some.kind c.in-Some.n _ _ c.requires.table c.requires.knows c.label.ensures.is c.in-Some.ensures c.in-Err.ensures.root) c.make.ensures.tree
