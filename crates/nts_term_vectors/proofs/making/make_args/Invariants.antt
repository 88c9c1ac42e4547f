use Rattle.std.proofs.Common.{ℕ, ◌<◌, get_or}
use Rattle.nts_terms.specs.declared.handles.GenericArg.{GenericArg}
use Rattle.nts_terms.specs.Handles.{HoldsArg}
use Rattle.nts_term_vectors.proofs.making.make_args.Given as goal

abbrev pub invariant-loop-arg : goal.invariant-loop-arg
invariant-loop-arg l = (k : ℕ) (d : GenericArg) → k < l.arg-index → HoldsArg l.cx.nodes (get_or l.args k d)
