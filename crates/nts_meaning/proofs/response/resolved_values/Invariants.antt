use Rattle.std.proofs.Common.{take}
use Rattle.nts_model.specs.Tables.Resolving.{deeply_resolved}
use Rattle.nts_terms.specs.Handles.{HoldsArg}
use Rattle.nts_terms.specs.Rest.{Grows}
use Rattle.nts_unify.specs.Reading.{content_of}
use Rattle.nts_response.specs.Replacing.{ReplacesEach, argument_value}
use Rattle.nts_meaning.proofs.response.resolved_values.Given as goal

abbrev pub invariant-loop-i : goal.invariant-loop-i
invariant-loop-i l = record {
  each : ReplacesEach HoldsArg argument_value (deeply_resolved (content_of l.fn.cx.nodes l.fn.table.entries)) l.fn.cx.nodes l.cx.nodes (take l.i l.values) l.resolved.items;
  grows : Grows l.fn.cx l.cx;
}
