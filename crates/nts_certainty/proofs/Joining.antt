-- Conditions joined, and lists of ids united.
use Rattle.std.proofs.Common.{◌≡◌, ℕ, List, refl}
use Rattle.nts_terms.specs.nts_model.specs.Derivations.Handlers.{Access, never, always, any_infer, in_storage, in_storage_or_infer}
use Rattle.nts_theory.specs.Erased.Accessing.{joined_accesses}

-- ids, and that a hidden type is a type variable, are joined one after the other
pub both_first : (i : List ℕ) (b : Access) → joined_accesses any_infer (joined_accesses (in_storage i) b) ≡ joined_accesses (in_storage_or_infer i) b
both_first i never = refl
both_first i always = refl
both_first i any_infer = refl
both_first i (in_storage j) = refl
both_first i (in_storage_or_infer j) = refl
