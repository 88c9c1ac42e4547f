-- The numbers of conditions.
use Rattle.std.proofs.Common.{ℕ, ◌≤◌, arith}
use Rattle.nts_explaining.specs.declared.conditions.Outcome.{Outcome}
use Rattle.nts_explaining.specs.declared.conditions.Outcome.TheVariants as outcome
use Rattle.nts_explaining.specs.Asking.{IsWithin}

-- an outcome of some conditions is one of more
pub within_more : (n m : ℕ) (o : Outcome) → n ≤ m → IsWithin n o → IsWithin m o
within_more n m outcome.Certain l h = tt
within_more n m (outcome.Doubtful i y) l h = omega (arith, l, h)
within_more n m (outcome.Refused i) l h = omega (arith, l, h)
