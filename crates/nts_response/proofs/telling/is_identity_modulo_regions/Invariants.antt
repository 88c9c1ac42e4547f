use Rattle.std.proofs.Common.{◌≤◌}
use Rattle.std.specs.Prelude.{◌↔◌, drop}
use Rattle.nts_model.specs.Answers.Responses.{IsIdentity}
use Rattle.nts_canonical.specs.Forms.{trees_of}
use Rattle.nts_response.proofs.telling.is_identity_modulo_regions.Given as goal

abbrev pub invariant-loop-i : goal.invariant-loop-i
invariant-loop-i l = record {
  less : l.next ≤ l.i;
  same : IsIdentity 0 (trees_of l.cx.nodes l.values) ↔ IsIdentity l.next (trees_of l.cx.nodes (drop l.i l.values));
}
