-- Joining never turns a rerun into none.
use Rattle.std.proofs.Common.{◌≡◌}
use Rattle.nts_terms.specs.nts_model.specs.Derivations.Handlers.{Access}
use Rattle.nts_terms.specs.nts_model.specs.Derivations.Rules.{Mode}
use Rattle.nts_theory.specs.Erased.Accessing.{Parents, IsFewer, joined_accesses, decides, runs_again}
use Rattle.nts_theory.proofs.Erased.Accessing.{is_joined, again_above}

same_parents : (p : Parents) → IsFewer p p
same_parents p = record { keys = λ i h. h; infer = λ e. e }

-- what a condition asks again for, it asks again for with another one joined
pub joined_asks_again : (mode : Mode) (p : Parents) (a b : Access) → decides mode p a ≡ runs_again → decides mode p (joined_accesses a b) ≡ runs_again
joined_asks_again mode p a b e = (let j = is_joined a b in again_above mode p p a (joined_accesses a b) (same_parents p) j.left e)

-- .. and joined to another one
pub joined_to_asks_again : (mode : Mode) (p : Parents) (a b : Access) → decides mode p b ≡ runs_again → decides mode p (joined_accesses a b) ≡ runs_again
joined_to_asks_again mode p a b e = (let j = is_joined a b in again_above mode p p b (joined_accesses a b) (same_parents p) j.right e)
