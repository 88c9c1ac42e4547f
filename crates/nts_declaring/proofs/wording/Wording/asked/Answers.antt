use Rattle.std.proofs.Common.{◌≡◌, ◌++◌, refl, ap}
use Rattle.std.specs.Prelude.{codes}
use Rattle.nts_declaring.specs.Held.{IsAny}
use Rattle.nts_declaring.proofs.Holding.{Says-held, Says-then}
use Rattle.nts_declaring.proofs.wording.Wording.asked.Goals as goal

pub returns-in_ok-write-in-Condition-clause-says : goal.returns-in_ok-write-in-Condition-clause-says
returns-in_ok-write-in-Condition-clause-says g c =
    rw c.in-Condition.is (Says-then {P = IsAny} {Q = λ t. t ≡ codes " "} (λ x y p q. (x, ap (λ w. x ++ w) q)) c.in_ok-goal-in-Condition.ensures.says (Says-held (codes " ") refl c.in_ok-write-in-Condition.ensures.says))
