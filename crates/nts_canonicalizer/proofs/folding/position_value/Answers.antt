use Rattle.std.proofs.Common.{◌≡◌}
use Rattle.nts_model.specs.Answers.Responses.{positioned}
use Rattle.nts_store.specs.declared.fault.Fault.TheVariants.{Memory}
use Rattle.nts_canonical.specs.nts_folding.proofs.Folded.{on_same_err, stops_only}
use Rattle.nts_canonical.specs.Mapping.{IsAny, same_state}
use Rattle.nts_canonical.proofs.Mapped.{positioning, walk_mapped}
use Rattle.nts_canonicalizer.proofs.folding.position_value.Goals as goal

pub returns-clause-tree : goal.returns-clause-tree
returns-clause-tree g c = (walk_mapped IsAny positioned same_state positioning _ _ _ _ tt c.in_ok-positioned.ensures.walk).0

pub returns-in_err-positioned-clause-memory : goal.returns-in_err-positioned-clause-memory
returns-in_err-positioned-clause-memory g c =
    on_same_err _ _ _ c.from_residual.ensures.1 (stops_only _ _ _ _ _ (λ e. e ≡ Memory) (λ s o e h. h) _ _ _ c.in_err-positioned.ensures.err)
