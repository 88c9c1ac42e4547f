-- Where the links of variables lead, by the entries alone.
use Rattle.std.specs.Prelude.{◌≡◌, ◌⊎◌, ℕ, ◌<◌, min, max, length, Some, None, slice_get}
use Rattle.nts_unify.specs.declared.contents.State.{State}
use Rattle.nts_unify.specs.declared.contents.State.TheVariants.{Unset, Link, Known}
use Rattle.nts_unify.specs.declared.contents.Variable.{Variable}
use Rattle.nts_unify.specs.Entries.{Entries, with_variable}

-- following links
pub data Leads (e : Entries) : ℕ → ℕ → Type 0 where
  here : {n : ℕ} → Leads e n n
  on : {n m r : ℕ} (v : Variable) → Leads e n m → slice_get e.variables m ≡ Some v → v.state ≡ Link r → Leads e n r

-- no link leads on
abbrev pub IsUnlinked : State → Type 0
IsUnlinked Unset = Unit {0}
IsUnlinked (Link m) = ⊥
IsUnlinked (Known t) = Unit {0}

-- links lead from the variable n to r, which has none
pub record IsRoot (e : Entries) (n r : ℕ) : Type 0 where
  pub within : r < length e.variables
  pub leads : Leads e n r
  pub ends : (v : Variable) → slice_get e.variables r ≡ Some v → IsUnlinked v.state

-- the root of a variable's class, and what is known of the class
pub record HasClass (e : Entries) (n r : ℕ) (s : State) : Type 0 where
  pub root : IsRoot e n r
  pub variable : Variable
  pub at : slice_get e.variables r ≡ Some variable
  pub state : variable.state ≡ s

-- .. the links of sub-unification
pub data SubLeads (e : Entries) : ℕ → ℕ → Type 0 where
  here : {n : ℕ} → SubLeads e n n
  on : {n m r : ℕ} (v : Variable) → SubLeads e n m → slice_get e.variables m ≡ Some v → v.sub_link ≡ Some r → SubLeads e n r

pub record IsSubRoot (e : Entries) (n r : ℕ) : Type 0 where
  pub within : r < length e.variables
  pub leads : SubLeads e n r
  pub ends : (v : Variable) → slice_get e.variables r ≡ Some v → v.sub_link ≡ None

-- the sub root of the higher number leads to the other one
pub record SubLinked (e f : Entries) (r s : ℕ) : Type 0 where
  pub apart : r ≡ s → ⊥
  pub variable : Variable
  pub at : slice_get e.variables (max r s) ≡ Some variable
  pub entries : f ≡ with_variable e (max r s) (record variable { sub_link = Some (min r s) })

pub record SubRootsJoin (e f : Entries) (x y : ℕ) : Type 0 where
  pub first : ℕ
  pub second : ℕ
  pub of_first : IsSubRoot e x first
  pub of_second : IsSubRoot e y second
  pub joined : ((first ≡ second) × (f ≡ e)) ⊎ SubLinked e f first second
