-- A handler that reports no leak.
use Rattle.nts_model.specs.Derivations.Handlers.{Handler, HasNoLeaks}
use Rattle.nts_model.specs.Refutation.Containing.{Truth}
use Rattle.nts_theory.specs.Refutation.Refutation.{RespectsLeaks}

-- .. is right about leaks, whatever outlives what
pub tight_respects : (h : Handler) → HasNoLeaks h → (truth : Truth) → RespectsLeaks h truth
tight_respects h tight truth = record { none = λ c u w leaks s. tight c u leaks }
