use Rattle.std.proofs.Common.{◌≡◌, ℕ, ◌<◌, get_or, Some}
use Rattle.nts_model.specs.declared.labels.Sort.TheVariants as sort
use Rattle.nts_model.specs.Terms.Trees.{children, row_at, kind_of, of_sort}
use Rattle.nts_store.specs.Growth.{tree_at}
use Rattle.nts_terms.proofs.cx.Cx.have_sorts.Given as goal

abbrev pub invariant-loop-i : goal.invariant-loop-i
invariant-loop-i l =
    (k : ℕ) → k < l.i → kind_of (row_at (children (tree_at l.self.nodes l.args.node)) k) ≡ Some (of_sort (get_or l.sorts k sort.Ty))
