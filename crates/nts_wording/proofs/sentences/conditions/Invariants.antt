use Rattle.std.proofs.Common.{◌≡◌, List, map, take}
use Rattle.nts_model.specs.Terms.Trees.{Tree}
use Rattle.nts_store.specs.Growth.{Extends, tree_at}
use Rattle.nts_terms.specs.Rest.{KeepsRest}
use Rattle.nts_wording.specs.Meaning.{predicate_tree, statements}
use Rattle.nts_wording.proofs.sentences.conditions.Given as goal

abbrev pub invariant-loop-bound : goal.invariant-loop-bound
invariant-loop-bound l = record {
  extends : Extends l.fn.cx.nodes l.cx.nodes;
  since : Extends l.initial.cx.nodes l.cx.nodes;
  rest : KeepsRest l.fn.cx l.cx;
  stated : (us : List Tree) → Extends l.cx.nodes us → map (λ p. tree_at us p.node) l.predicates.items ≡ map predicate_tree (statements us (take l.bound-index l.bound-items));
}
