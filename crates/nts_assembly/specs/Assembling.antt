-- The clauses of an environment before the rules of another handler.
use Rattle.nts_model.specs.Derivations.Handlers.{Handler, IsLawfulHandler}
use Rattle.nts_model.specs.Refutation.Coherence.{RulesAreOffered}
use Rattle.nts_delegate.specs.Both.{either, IsLawfulHandler-either, RulesAreOffered-either, MeansSame-either}
use Rattle.nts_delegate.specs.SameHandlers.{MeansSame}
use Rattle.nts_assembly.specs.Assumptions.{assuming}
use Rattle.nts_assembly.specs.Assumed.{IsLawfulHandler-assuming}
use Rattle.nts_assembly.specs.AssumedOffers.{RulesAreOffered-assuming, MeansSame-assuming}
use Rattle.nts_assembly.specs.Projections.{equating}
use Rattle.nts_assembly.specs.EquatingLawful.{IsLawfulHandler-equating}
use Rattle.nts_assembly.specs.EquatingOffers.{RulesAreOffered-equating, MeansSame-equating}

-- what the environment says of traits, then what it says that aliases are, and then the other's rules
abbrev pub assembled : Handler → Handler
assembled h = either assuming (either equating h)

pub IsLawfulHandler-assembled : (h : Handler) → IsLawfulHandler h → IsLawfulHandler (assembled h)
IsLawfulHandler-assembled h l = IsLawfulHandler-either assuming (either equating h) IsLawfulHandler-assuming (IsLawfulHandler-either equating h IsLawfulHandler-equating l)

pub RulesAreOffered-assembled : (h : Handler) → RulesAreOffered h → RulesAreOffered (assembled h)
RulesAreOffered-assembled h o = RulesAreOffered-either assuming (either equating h) RulesAreOffered-assuming (RulesAreOffered-either equating h RulesAreOffered-equating o)

pub MeansSame-assembled : {h k : Handler} → MeansSame h k → MeansSame (assembled h) (assembled k)
MeansSame-assembled m = MeansSame-either MeansSame-assuming (MeansSame-either MeansSame-equating m)
