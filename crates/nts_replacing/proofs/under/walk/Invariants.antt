use Rattle.std.specs.HashMap.{get}
use Rattle.nts_store.specs.Growth.{tree_at, Extends}
use Rattle.nts_replacing.specs.contracts.under.PlacePartialEq.TheImpl as place_eq
use Rattle.nts_replacing.specs.Under.{jobs}
use Rattle.nts_replacing.proofs.Walking.{EndsWith, Known, weights}
use Rattle.nts_replacing.proofs.under.walk.Given as goal

abbrev pub invariant-loop-task : goal.invariant-loop-task
invariant-loop-task g l =
    let r = g.R.ReplacerUnder in
    let m = r.meaning l.replacer in
    record {
      extends : Extends l.fn.nodes l.nodes;
      ends : EndsWith (r.covers m) (r.image m) l.nodes l.tasks.items l.found.items (r.image m 0 (tree_at l.fn.nodes l.fn.t));
      known : Known (r.image m) l.nodes (λ k. get place_eq.ghosts.eq l.known k);
    }

abbrev pub decreases-loop-task : goal.decreases-loop-task
decreases-loop-task g l =
    let r = g.R.ReplacerUnder in
    let m = r.meaning l.replacer in
    weights (r.covers m) (r.image m) (jobs l.nodes l.tasks.items)
