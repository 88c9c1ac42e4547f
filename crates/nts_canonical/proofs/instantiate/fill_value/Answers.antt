use Rattle.std.proofs.Common.{◌≡◌}
use Rattle.nts_model.specs.Terms.Substitutions.{filled}
use Rattle.nts_store.specs.declared.fault.Fault.TheVariants.{Memory}
use Rattle.nts_store.specs.Filled.{HasValues}
use Rattle.nts_folding.proofs.Folded.{on_same_err, stops_only}
use Rattle.nts_canonical.specs.Mapping.{same_state}
use Rattle.nts_canonical.proofs.Mapped.{filling, walk_mapped}
use Rattle.nts_canonical.proofs.instantiate.fill_value.Goals as goal

pub returns-clause-tree : goal.returns-clause-tree
returns-clause-tree g c = (walk_mapped HasValues filled same_state filling _ _ _ _ c.requires.positions c.in_ok-value.ensures.walk).0

pub returns-in_err-value-clause-memory : goal.returns-in_err-value-clause-memory
returns-in_err-value-clause-memory g c =
    on_same_err _ _ _ c.from_residual.ensures.1 (stops_only _ _ _ _ _ (λ e. e ≡ Memory) (λ s o e h. h) _ _ _ c.in_err-value.ensures.err)
