-- Universes for the open entries of a list.
use Rattle.std.specs.Prelude.{◌≡◌, ◌⊎◌, ℕ, zero, suc, ◌+◌, ◌<◌, Bool, true, List, [], ◌∷◌, Option, Some, None, slice_get}
use Rattle.nts_model.specs.declared.labels.Sort.{Sort}
use Rattle.nts_unify.specs.Entries.{Entries, moved}
use Rattle.nts_placeholder.specs.declared.maps.BoundVar.{BoundVar}
use Rattle.nts_placeholder.specs.Opening.{entry_for}

-- the open entries before place n get the universes after u, one after the other
abbrev pub filled_universes : ℕ → ℕ → List (Option ℕ) → List (Option ℕ)
filled_universes u zero U = U
filled_universes u (suc n) [] = []
filled_universes u (suc n) (None ∷ U) = Some (u + 1) ∷ filled_universes (u + 1) n U
filled_universes u (suc n) (Some v ∷ U) = Some v ∷ filled_universes u n U

-- how many entries before place n are open
abbrev pub open_before : ℕ → List (Option ℕ) → ℕ
open_before zero U = 0
open_before (suc n) [] = 0
open_before (suc n) (None ∷ U) = open_before n U + 1
open_before (suc n) (Some v ∷ U) = open_before n U

-- an open entry that one of these bound variables names
pub record IsNeeded (U : List (Option ℕ)) (escaping : Sort → BoundVar → Bool) (e : ℕ) : Type 0 where
  pub sort : Sort
  pub bound : BoundVar
  pub escapes : escaping sort bound ≡ true
  pub entry : e ≡ entry_for U bound
  pub is_open : slice_get U e ≡ Some None

-- the place after the last open entry that is named, or the first place
pub record IsReach (U : List (Option ℕ)) (escaping : Sort → BoundVar → Bool) (n : ℕ) : Type 0 where
  pub last : (n ≡ 0) ⊎ ((e : ℕ) × (n ≡ e + 1) × IsNeeded U escaping e)
  pub all : (e : ℕ) → IsNeeded U escaping e → e < n

-- universes were made for the open entries up to the last that is named, and for no other
pub record AreFilled (escaping : Sort → BoundVar → Bool) (U V : List (Option ℕ)) (old new : Entries) : Type 0 where
  pub reach : ℕ
  pub is_reach : IsReach U escaping reach
  pub list : V ≡ filled_universes old.universe reach U
  pub entries : new ≡ moved old (old.universe + open_before reach U)

-- more universes are needed than there are
pub record RunsOut (escaping : Sort → BoundVar → Bool) (U : List (Option ℕ)) (universe most : ℕ) : Type 0 where
  pub reach : ℕ
  pub is_reach : IsReach U escaping reach
  pub past : most < universe + open_before reach U
