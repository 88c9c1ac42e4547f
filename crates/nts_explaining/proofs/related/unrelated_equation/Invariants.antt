use Rattle.std.proofs.Common.{◌≡◌, ◌⊎◌, ◌≤◌}
use Rattle.nts_store.specs.Growth.{tree_at}
use Rattle.nts_terms.specs.Signatures.{variances_in}
use Rattle.nts_unify.specs.Reading.{content_of}
use Rattle.nts_candidates.specs.Offered.{candidate_of}
use Rattle.nts_explaining.proofs.RelatedParts.{BegunBefore}
use Rattle.nts_terms.specs.Rest.{Grows}
use Rattle.nts_explaining.proofs.related.unrelated_equation.Given as goal

-- the candidate is begun with the first equations, and the table is as before
abbrev pub invariant-loop-count : goal.invariant-loop-count
invariant-loop-count l = record {
  same : l.table ≡ l.fn.table;
  grows : Grows l.fn.cx l.cx;
  some : 1 ≤ l.count;
  within : (l.count ≤ 1) ⊎ (l.count ≤ l.all);
  begun : BegunBefore (variances_in l.fn.cx.declarations) (content_of l.fn.cx.nodes l.fn.table.entries) (tree_at l.fn.cx.nodes l.goal.param_env.node) (candidate_of l.fn.cx.nodes l.fn.candidate) l.count;
}
