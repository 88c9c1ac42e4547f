use Rattle.std.proofs.Common.{nat_eq}
use Rattle.std.specs.HashMap.{get}
use Rattle.nts_store.specs.Growth.{tree_at, Extends}
use Rattle.nts_replacing.specs.Replacement.{jobs}
use Rattle.nts_replacing.proofs.Replacing.{EndsWith, Known, weights}
use Rattle.nts_replacing.proofs.replacement.walk.Given as goal

abbrev pub invariant-loop-task : goal.invariant-loop-task
invariant-loop-task g l =
    let r = g.R.Replacer in
    let m = r.meaning l.fn.nodes l.replacer in
    record {
      extends : Extends l.fn.nodes l.nodes;
      ends : EndsWith (r.covers m) (r.image m) l.nodes l.tasks.items l.found.items (r.image m (tree_at l.fn.nodes l.fn.t));
      known : Known (r.covers m) (r.image m) l.nodes (λ k. get nat_eq l.known k);
    }

abbrev pub decreases-loop-task : goal.decreases-loop-task
decreases-loop-task g l =
    let r = g.R.Replacer in
    let m = r.meaning l.fn.nodes l.replacer in
    weights (r.covers m) (r.image m) (jobs l.nodes l.tasks.items)
