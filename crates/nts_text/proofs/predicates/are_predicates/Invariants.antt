use Rattle.std.proofs.Common.{◌≡◌, ◌≤◌, drop}
use Rattle.nts_text.specs.Predicates.{continues, are_predicates}
use Rattle.nts_text.proofs.predicates.are_predicates.Given as goal

abbrev pub invariant-loop-token : goal.invariant-loop-token
invariant-loop-token l = record {
  shallow : l.depth ≤ l.token-index;
  rest : continues l.fn.wanted l.binding l.side l.depth l.before (drop l.token-index l.tokens) ≡ are_predicates l.fn.wanted l.tokens;
}
