-- A table's content in the terms of the field: its constraints are known, and in a store of terms its values are terms.
use Rattle.std.proofs.Common.{◌≡◌, ℕ, zero, suc, List, [], ◌∷◌, map, Option, Some, None, refl, subst}
use Rattle.std.specs.Prelude.{slice_get}
use Rattle.nts_model.specs.declared.labels.VariableKind.{VariableKind}
use Rattle.nts_model.specs.Terms.Trees.{Tree, IsFormed}
use Rattle.nts_model.specs.Tables.Contents.{Content, Slot, SlotState, known, map_slot}
use Rattle.nts_model.specs.Tables.Worlds.{KnowsAll}
use Rattle.nts_model.specs.Answers.Applying.{IsProperContent}
use Rattle.nts_model.specs.Derivations.Proving.{HoldsTerms}
use Rattle.nts_store.specs.Formed.{AreFormed}
use Rattle.nts_store.specs.Growth.{tree_at}
use Rattle.nts_unify.specs.declared.contents.Constraint.{Constraint}
use Rattle.nts_unify.specs.declared.contents.State.{State}
use Rattle.nts_unify.specs.declared.contents.State.TheVariants as state
use Rattle.nts_unify.specs.declared.contents.Variable.{Variable}
use Rattle.nts_unify.specs.Reading.{content_of, slot_of, state_with, recorded_of, IsHeldState, AreHeld, AreConstraints}
use Rattle.nts_table.specs.Tables.{Table, IsTable}
use Rattle.nts_unify.proofs.NodeLemmas.{sides_of as known_sides}

pub known_all : {ts : List Tree} {t : Table} → IsTable ts t → KnowsAll (content_of ts t.entries) (content_of ts t.entries).constraints
known_all {ts} {t} h = known_sides ts (content_of ts t.entries) t.entries.constraints h.now.constraints

pub proper_content : {ts : List Tree} {t : Table} → IsTable ts t → IsProperContent (content_of ts t.entries)
proper_content h = record { sound = h.now.sound; sides = known_all h }

-- a value is the tree of a node
value_formed : (ts : List Tree) (vs : List Variable) (n : ℕ) (t : Tree) → AreFormed ts → AreHeld ts vs → map_slot (λ v. v.state) (slice_get (map (slot_of ts) vs) n) ≡ Some (known t) → IsFormed t
value_formed ts [] n t f h e = cc
value_formed ts (v ∷ vs) zero t f h e = state_formed ts v.state t f h.0 e
  where
    state_formed : (ts : List Tree) (s : State) (t : Tree) → AreFormed ts → IsHeldState ts s → Some (state_with ts s) ≡ Some (known t) → IsFormed t
    state_formed ts state.Unset t f h e = cc
    state_formed ts (state.Link m) t f h e = cc
    state_formed ts (state.Known x) t f h e = let same : tree_at ts x ≡ t = cc in subst IsFormed same (f x h)
value_formed ts (v ∷ vs) (suc n) t f h e = value_formed ts vs n t f h.1 e

slot_kind : (o : Option Slot) (x : SlotState) → map_slot (λ v. v.state) o ≡ Some x → (k : VariableKind) × (map_slot (λ v. v.kind) o ≡ Some k)
slot_kind None x e = cc
slot_kind (Some v) x e = (v.kind, refl)

pub holds_terms : {ts : List Tree} {t : Table} → AreFormed ts → IsTable ts t → HoldsTerms (content_of ts t.entries)
holds_terms {ts} {t} f h =
    let values = h.now.proper.solvable.values in
    record {
      fitting = λ n x k p q. (values n x k p q).fits;
      closed = λ n x p. (let k = slot_kind (slice_get (content_of ts t.entries).slots n) (known x) p in (values n x k.0 p k.1).closed);
      formed = λ n x p. value_formed ts t.entries.variables n x f h.now.held p;
    }
