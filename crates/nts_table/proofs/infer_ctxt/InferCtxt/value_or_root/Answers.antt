use Rattle.std.proofs.Common.{◌∙◌}
use Rattle.nts_table.proofs.Walking.{value_in}
use Rattle.nts_table.proofs.ClassValues.{shallow_known, shallow_known_kind, shallow_unset}
use Rattle.nts_unify.proofs.NodeLemmas.{if_ok}
use Rattle.nts_table.proofs.infer_ctxt.InferCtxt.value_or_root.Goals as goal

pub returns-in-Ok-clause-within : goal.returns-in-Ok-clause-within
returns-in-Ok-clause-within c = value_in c.args.nodes.now c.args.self.now _ _ _ c.requires.table c.in-Ok.ensures.value.1

pub returns-in-Ok-clause-tree : goal.returns-in-Ok-clause-tree
returns-in-Ok-clause-tree c =
    shallow_known c.args.nodes.now c.args.self.now c.args.kind c.args.n _ c.requires.table _ c.in-Ok.ensures.value.1

pub returns-in-Ok-clause-sort : goal.returns-in-Ok-clause-sort
returns-in-Ok-clause-sort c =
    shallow_known_kind c.args.nodes.now c.args.self.now c.args.kind c.args.n _ c.requires.table _ c.in-Ok.ensures.value.1 c.requires.has

pub returns-in-Err-clause-tree : goal.returns-in-Err-clause-tree
returns-in-Err-clause-tree c =
    if_ok c.make.result (λ r e. e ∙ shallow_unset c.args.nodes.now c.args.self.now c.args.kind c.args.n _ c.requires.table c.in-Err.ensures.root) c.make.ensures.tree
