-- How a stack's index leads to its entries by the terms of their goals.
use Rattle.std.specs.Prelude.{◌≡◌, ℕ, Bool, List, [], ◌∷◌, length, Option, Some, None, if◌then◌else◌}
use Rattle.std.specs.declared.hash.FoldHasher.{FoldHasher}
use Rattle.std.specs.declared.hash.BuildHasherDefault.{BuildHasherDefault}
use Rattle.std.specs.HashMap.{get, HashMap}
use Rattle.nts_response.specs.nts_canonical.specs.declared.types.CanonicalInput.{CanonicalInput}
use Rattle.nts_search.specs.declared.terms.GoalTerms.{GoalTerms}
use Rattle.nts_search.specs.contracts.terms.GoalTermsPartialEq.TheImpl as terms_eq
use Rattle.nts_search.specs.declared.stack.StackEntry.{StackEntry}

-- the terms of an input's goal
abbrev pub input_terms : CanonicalInput → GoalTerms
input_terms i =
    record { environment = i.canonical.value.goal.param_env.node; predicate = i.canonical.value.goal.predicate.node }

abbrev pub same_terms : GoalTerms → GoalTerms → Bool
same_terms = terms_eq.ghosts.eq

-- where an index leads
abbrev pub led_to : HashMap GoalTerms ℕ (BuildHasherDefault FoldHasher) → GoalTerms → Option ℕ
led_to m k = get terms_eq.ghosts.eq m k

-- of entries, the newest first, the first one whose goal has these terms, by how many are older
abbrev pub newest_of : GoalTerms → List StackEntry → Option ℕ
newest_of k [] = None
newest_of k (x ∷ xs) = if same_terms (input_terms x.input) k then Some (length xs) else newest_of k xs

-- each entry, the newest first, leads to the next older one whose goal has the same terms
abbrev pub AreChained : List StackEntry → Type 0
AreChained [] = Unit {0}
AreChained (x ∷ xs) = (x.earlier ≡ newest_of (input_terms x.input) xs) × AreChained xs

-- an index of entries, the newest first
pub record IsEntryIndex (m : HashMap GoalTerms ℕ (BuildHasherDefault FoldHasher)) (xs : List StackEntry) : Type 0 where
  pub newest : (k : GoalTerms) → led_to m k ≡ newest_of k xs
  pub chained : AreChained xs
