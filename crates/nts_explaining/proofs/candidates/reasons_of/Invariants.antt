use Rattle.std.proofs.Common.{◌≡◌, take}
use Rattle.std.specs.Prelude.{All}
use Rattle.nts_store.specs.Growth.{tree_at}
use Rattle.nts_terms.specs.Modes.{mode_of}
use Rattle.nts_terms.specs.Signatures.{variances_in}
use Rattle.nts_unify.specs.Reading.{content_of}
use Rattle.nts_terms.specs.Rest.{Grows}
use Rattle.nts_candidates.specs.Offered.{candidates_of}
use Rattle.nts_explaining.specs.Explaining.{ExplainsEach}
use Rattle.nts_candidates.specs.HeldReasons.{HoldsReason}
use Rattle.nts_explaining.proofs.candidates.reasons_of.Given as goal

-- the first candidates have these reasons, and the table is as before
abbrev pub invariant-loop-candidate : goal.invariant-loop-candidate
invariant-loop-candidate g l = record {
  same : l.table ≡ l.fn.table;
  grows : Grows l.fn.cx l.cx;
  each : ExplainsEach (variances_in l.fn.cx.declarations) (mode_of l.fn.table.mode) (content_of l.fn.cx.nodes l.fn.table.entries) (tree_at l.fn.cx.nodes l.goal.param_env.node) (candidates_of l.fn.cx.nodes (take l.candidate-index l.candidates)) l.reasons.items;
  holds : All (HoldsReason l.cx.nodes) l.reasons.items;
}
