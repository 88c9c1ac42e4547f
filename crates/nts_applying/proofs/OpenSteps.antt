-- Open goals in a store that has grown.
use Rattle.std.proofs.Common.{List, map}
use Rattle.nts_store.specs.declared.nodes.NodeId.{NodeId}
use Rattle.nts_store.specs.Growth.{tree_at, AllIn, Extends}
use Rattle.nts_store.specs.Kept.{map-kept}
use Rattle.nts_model.specs.Terms.Trees.{Tree}
use Rattle.nts_terms.specs.declared.handles.Goal.{Goal}
use Rattle.nts_candidates.specs.nts_certainty.specs.declared.sources.GoalSource.{GoalSource}
use Rattle.nts_response.specs.Opened.{IsOpenable}
use Rattle.nts_response.proofs.Each.{goals_kept}

pub openable_later : (a b : List Tree) (chosen : List NodeId) (g : GoalSource × Goal) → Extends a b → AllIn a chosen → IsOpenable a (map (tree_at a) chosen) g → IsOpenable b (map (tree_at b) chosen) g
openable_later a b chosen g e w h =
    let k = goals_kept in
    let o = h.holds in
    let held = o.goal in
    let xs = map-kept a b chosen w e in
    record {
      holds = k.held a b g h.holds e;
      environment = rw (xs, e.kept g.1.param_env.node (let q = held.env in q.within)) h.environment;
      predicate = rw (xs, e.kept g.1.predicate.node (let q = held.predicate in q.within)) h.predicate;
    }
