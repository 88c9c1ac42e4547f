-- Which response stands for several, and what stands for them where none does.
use Rattle.std.specs.Prelude.{◌≡◌, ℕ, ◌<◌, List, [], ◌∷◌, length, get_or, Option, Some, None}
use Rattle.nts_model.specs.Terms.Trees.{Tree}
use Rattle.nts_certainty.specs.declared.certainty.Certainty.{Certainty}
use Rattle.nts_certainty.specs.declared.certainty.Certainty.TheVariants as certainty
use Rattle.nts_certainty.specs.Certainties.{either, ambiguous}
use Rattle.nts_response.specs.nts_canonical.specs.declared.types.Canonical.{Canonical}
use Rattle.nts_response.specs.nts_canonical.specs.Forms.{trees_of}
use Rattle.nts_response.specs.declared.types.Response.{Response}
use Rattle.nts_response.specs.Forms.{ArePositions, FoundNothing}
use Rattle.nts_response.specs.Same.{AreOneResponse}
use Rattle.nts_search.specs.declared.merging.MergeCandidateInfo.{MergeCandidateInfo}
use Rattle.nts_search.specs.declared.merging.MergeCandidateInfo.TheVariants as info

-- a response that is certain and says nothing: its values are the positions in order, and it found nothing
abbrev pub AppliesAlways : List Tree → Canonical Response → Type 0
AppliesAlways ts r = (r.value.certainty ≡ certainty.Yes) × ArePositions (trees_of ts r.value.var_values.items) × FoundNothing r.value.external_constraints

-- none of a list is so
abbrev pub HasNone : {X : Type 0} → (X → Type 0) → List X → Type 0
HasNone {X} P xs = (i : ℕ) (d : X) → i < length xs → P (get_or xs i d) → ⊥

-- the one at the place i is so, and none before it
pub record IsFirstSuch {X : Type 0} (P : X → Type 0) (xs : List X) (i : ℕ) : Type 0 where
  pub below : i < length xs
  pub is : (d : X) → P (get_or xs i d)
  pub first : (j : ℕ) (d : X) → j < i → P (get_or xs j d) → ⊥

-- there are responses, and each is one with the first
pub record AreAllOne (ts : List Tree) (rs : List (Canonical Response)) : Type 0 where
  pub some : 0 < length rs
  pub each : (i : ℕ) (d : Canonical Response) → i < length rs → AreOneResponse ts (get_or rs 0 d) (get_or rs i d)

-- what stands for responses, and why: the first that applies always; or the first, if none does and all are one; or nothing, if
-- there is no such response
abbrev pub Merges : List Tree → List (Canonical Response) → Option (Canonical Response × MergeCandidateInfo) → Type 0
Merges ts rs None = HasNone (AppliesAlways ts) rs × (AreAllOne ts rs → ⊥)
Merges ts rs (Some (r, info.AlwaysApplicable i)) = IsFirstSuch (AppliesAlways ts) rs i × (get_or rs i r ≡ r)
Merges ts rs (Some (r, info.EqualResponse)) = HasNone (AppliesAlways ts) rs × AreAllOne ts rs × (get_or rs 0 r ≡ r)

-- ambiguity, joined with each answer that is not certain
abbrev pub doubt_of : List Certainty → Certainty
doubt_of [] = ambiguous
doubt_of (certainty.Yes ∷ cs) = doubt_of cs
doubt_of (certainty.Maybe i ∷ cs) = either (certainty.Maybe i) (doubt_of cs)
