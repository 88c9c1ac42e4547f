use Rattle.std.proofs.Common.{◌≡◌, ◌-◌, ◌<◌, ◌≤◌, suc, List, length, take, map}
use Rattle.std.specs.Prelude.{reverse}
use Rattle.nts_model.specs.Terms.Trees.{Tree}
use Rattle.nts_model.specs.Searching.Stacks.{path_kind}
use Rattle.nts_response.specs.nts_candidates.specs.Offered.{path_kind_of}
use Rattle.nts_search.specs.Searching.{entry_at, entries_at}
use Rattle.nts_search.proofs.stack.SearchGraph.path_kind.Given as goal

abbrev pub decreases-loop-at : goal.decreases-loop-at
decreases-loop-at l = l.at

abbrev pub invariant-loop-at : goal.invariant-loop-at
invariant-loop-at l = record {
  above : l.head < l.at;
  within : l.at ≤ length l.self.stack.items;
  path : (ts : List Tree) → path_kind (entries_at ts l.self) (length l.self.stack.items - suc l.head) (path_kind_of l.fn.step) ≡ path_kind (map (entry_at ts) (reverse (take l.at l.self.stack.items))) (l.at - suc l.head) (path_kind_of l.kind);
}
