-- Where links lead, by the content that entries stand for.
use Rattle.std.proofs.Common.{◌≡◌, ℕ, zero, suc, ◌<◌, List, [], ◌∷◌, length, Some, refl, ap, ◌∙◌, arith}
use Rattle.std.specs.Prelude.{slice_get}
use Rattle.nts_model.specs.declared.labels.VariableKind.{VariableKind}
use Rattle.nts_model.specs.Terms.Trees.{Tree}
use Rattle.nts_model.specs.Tables.Contents.{map_slot, state_of, kind_at, universe_of}
use Rattle.nts_model.specs.Tables.Resolving as resolving
use Rattle.nts_model.specs.Tables.Resolving.{Reaches, root_of}
use Rattle.nts_model.proofs.Tables.Roots.{root_of-reaches, Descends}
use Rattle.nts_model.proofs.Tables.Slots.{field_below}
use Rattle.nts_unify.specs.declared.contents.State.{State}
use Rattle.nts_unify.specs.declared.contents.State.TheVariants.{Unset, Link, Known}
use Rattle.nts_unify.specs.declared.contents.Variable.{Variable}
use Rattle.nts_unify.specs.Entries.{Entries}
use Rattle.nts_unify.specs.Reading.{state_with, content_of}
use Rattle.nts_unify.proofs.Changes.{slot_at, length-slots}
use Rattle.nts_unify.specs.Roots.{Leads, here, on, IsUnlinked, IsRoot, HasClass}

pub state_of-entry : (ts : List Tree) (e : Entries) (n : ℕ) (v : Variable) → slice_get e.variables n ≡ Some v → state_of (content_of ts e) n ≡ Some (state_with ts v.state)
state_of-entry ts e n v h = ap (map_slot (λ x. x.state)) (slot_at ts e n v h)

pub state_of-class : (ts : List Tree) (e : Entries) (n r : ℕ) (s : State) → HasClass e n r s → state_of (content_of ts e) r ≡ Some (state_with ts s)
state_of-class ts e n r s h = state_of-entry ts e r h.variable h.at ∙ ap (λ x. Some (state_with ts x)) h.state

pub kind_at-entry : (ts : List Tree) (e : Entries) (n : ℕ) (v : Variable) → slice_get e.variables n ≡ Some v → kind_at (content_of ts e) n ≡ Some v.kind
kind_at-entry ts e n v h = ap (map_slot (λ x. x.kind)) (slot_at ts e n v h)

pub universe_of-entry : (ts : List Tree) (e : Entries) (n : ℕ) (v : Variable) → slice_get e.variables n ≡ Some v → universe_of (content_of ts e) n ≡ Some v.universe
universe_of-entry ts e n v h = ap (map_slot (λ x. x.universe)) (slot_at ts e n v h)

-- a variable that has a kind is one of the table
pub kind_within : (ts : List Tree) (e : Entries) (n : ℕ) (k : VariableKind) → kind_at (content_of ts e) n ≡ Some k → n < length e.variables
kind_within ts e n k h =
    omega (arith, field_below (λ x. x.kind) (content_of ts e) n k h, length-slots ts e.variables)

pub Reaches-leads : (ts : List Tree) (e : Entries) (n r : ℕ) → Leads e n r → Reaches (content_of ts e) n r
Reaches-leads ts e n r here = resolving.here
Reaches-leads ts e n r (on {m = m} v before at is) =
    resolving.on (Reaches-leads ts e n m before) (state_of-entry ts e m v at ∙ ap (λ s. Some (state_with ts s)) is)

root_state : (ts : List Tree) (s : State) → IsUnlinked s → resolving.IsRootState (Some (state_with ts s))
root_state ts Unset h = tt
root_state ts (Link m) h = h
root_state ts (Known t) h = tt

-- the root by the entries is the root by the content
pub root_of-is : (ts : List Tree) (e : Entries) (n r : ℕ) (v : Variable) → Descends (content_of ts e) → IsRoot e n r → slice_get e.variables r ≡ Some v → root_of (content_of ts e) n ≡ r
root_of-is ts e n r v d h at =
    root_of-reaches (content_of ts e) n r d (Reaches-leads ts e n r h.leads) (rw (state_of-entry ts e r v at) (root_state ts v.state (h.ends v at)))

pub entry_at : (vs : List Variable) (n : ℕ) → n < length vs → (v : Variable) × (slice_get vs n ≡ Some v)
entry_at [] n h = absurd (omega arith)
entry_at (v ∷ vs) zero h = (v, refl)
entry_at (v ∷ vs) (suc n) h = entry_at vs n (omega arith)

pub IsRoot-content : (ts : List Tree) (e : Entries) (n r : ℕ) → Descends (content_of ts e) → IsRoot e n r → root_of (content_of ts e) n ≡ r
IsRoot-content ts e n r d h =
    let p = entry_at e.variables r h.within in root_of-is ts e n r p.0 d h p.1
