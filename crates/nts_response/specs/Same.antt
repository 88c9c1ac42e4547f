-- When responses are one.
use Rattle.std.specs.Prelude.{◌≡◌, ℕ, ◌<◌, List, length, get_or}
use Rattle.nts_model.specs.Terms.Trees.{Tree}
use Rattle.nts_store.specs.Growth.{tree_at}
use Rattle.nts_candidates.specs.Offered.{hidden_of}
use Rattle.nts_canonical.specs.declared.types.Canonical.{Canonical}
use Rattle.nts_response.specs.declared.types.Response.{Response}
use Rattle.nts_response.specs.Forms.{response_at, recorded_at, premise_at}

-- each two entries of two lists at one place are one, as far as the place i
abbrev pub AreOneBelow : {X : Type 0} → (X → X → Type 0) → List X → List X → ℕ → Type 0
AreOneBelow {X} S xs ys i = (j : ℕ) (d : X) → j < i → S (get_or xs j d) (get_or ys j d)

-- .. as far as both go
pub record AreOneEach {X : Type 0} (S : X → X → Type 0) (xs ys : List X) : Type 0 where
  pub long : length xs ≡ length ys
  pub each : AreOneBelow S xs ys (length xs)

-- responses that found the same, entry by entry
pub record FoundOne (ts : List Tree) (a b : Response) : Type 0 where
  pub values : AreOneEach (λ x y. tree_at ts x.node ≡ tree_at ts y.node) a.var_values.items b.var_values.items
  pub constraints : AreOneEach (λ x y. recorded_at ts x ≡ recorded_at ts y) a.external_constraints.region_constraints.items b.external_constraints.region_constraints.items
  pub hidden : AreOneEach (λ x y. hidden_of ts x ≡ hidden_of ts y) a.external_constraints.opaque_types.items b.external_constraints.opaque_types.items
  pub open_goals : AreOneEach (λ x y. premise_at ts x ≡ premise_at ts y) a.external_constraints.normalization_nested_goals.items b.external_constraints.normalization_nested_goals.items

-- responses that are as certain, and stand for one form
pub record AreOneResponse (ts : List Tree) (a b : Canonical Response) : Type 0 where
  pub certainty : a.value.certainty ≡ b.value.certainty
  pub form : response_at ts a ≡ response_at ts b
