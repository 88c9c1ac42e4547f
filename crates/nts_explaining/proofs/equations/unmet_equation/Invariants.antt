use Rattle.std.proofs.Common.{◌≡◌, ◌⊎◌, ◌≤◌, ◌-◌}
use Rattle.nts_unify.specs.Reading.{content_of}
use Rattle.nts_terms.specs.Rest.{Grows}
use Rattle.nts_candidates.specs.Offered.{candidate_of}
use Rattle.nts_explaining.specs.Explaining.{MeetsFirst}
use Rattle.nts_explaining.proofs.equations.unmet_equation.Given as goal

-- the first equations are met, and the table is as before
abbrev pub invariant-loop-count : goal.invariant-loop-count
invariant-loop-count l = record {
  same : l.table ≡ l.fn.table;
  grows : Grows l.fn.cx l.cx;
  some : 1 ≤ l.count;
  within : (l.count ≤ 1) ⊎ (l.count ≤ l.all);
  met : (l.count ≡ 1) ⊎ MeetsFirst (l.count - 1) (content_of l.fn.cx.nodes l.fn.table.entries) (candidate_of l.fn.cx.nodes l.fn.candidate);
}
