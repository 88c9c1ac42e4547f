-- The stack of a search: the entries that it stands for, and what stays true of it.
use Rattle.std.specs.Prelude.{◌≡◌, ℕ, zero, suc, ◌<◌, ◌≤◌, true, List, [], ◌∷◌, map, max, reverse, length, get_or, All, Option, Some, None}
use Rattle.nts_model.specs.Terms.Trees.{Tree}
use Rattle.nts_model.specs.Derivations.Handlers.{Certainty}
use Rattle.nts_model.specs.Answers.Responses.{Response as Form}
use Rattle.nts_model.specs.Searching.Stacks.{Entry}
use Rattle.nts_model.specs.Searching.Driving.{unconstrained}
use Rattle.nts_certainty.specs.Certainties.{ambiguous}
use Rattle.nts_response.specs.nts_candidates.specs.Offered.{certainty_of, path_kind_of}
use Rattle.nts_response.specs.nts_canonical.specs.declared.types.Canonical.{Canonical}
use Rattle.nts_response.specs.nts_canonical.specs.declared.types.CanonicalInput.{CanonicalInput}
use Rattle.nts_response.specs.nts_canonical.specs.Forms.{form_of, kind_of_var, HoldsQuery}
use Rattle.nts_response.specs.nts_canonical.specs.Alike.{AreOneInput}
use Rattle.nts_response.specs.declared.types.Response.{Response}
use Rattle.nts_response.specs.Forms.{response_at, HoldsResponse}
use Rattle.nts_search.specs.declared.stack.StackEntry.{StackEntry}
use Rattle.nts_search.specs.declared.stack.SearchGraph.{SearchGraph}
use Rattle.nts_search.specs.Indexed.{IsEntryIndex}

-- what an answer to an input stands for: without a solution it says nothing, and is a doubt
abbrev pub answer_at : List Tree → CanonicalInput → Option (Canonical Response) → Form
answer_at ts i (Some r) = response_at ts r
answer_at ts i None = unconstrained (map kind_of_var i.canonical.var_kinds.items)

abbrev pub certainty_in : Option (Canonical Response) → Certainty
certainty_in (Some r) = certainty_of r.value.certainty
certainty_in None = certainty_of ambiguous

-- the entry that an entry stands for in a store
abbrev pub entry_at : List Tree → StackEntry → Entry
entry_at ts x =
    record {
      input = form_of ts x.input;
      kind = path_kind_of x.step_kind;
      response = answer_at ts x.input x.provisional;
      certainty = certainty_in x.provisional;
      is_read = x.is_read;
    }

-- the entries of a stack, the newest first
abbrev pub entries_at : List Tree → SearchGraph → List Entry
entries_at ts g = map (entry_at ts) (reverse g.stack.items)

-- the terms of an answer are of the store
abbrev pub HoldsAnswer : List Tree → Option (Canonical Response) → Type 0
HoldsAnswer ts (Some r) = HoldsResponse ts r.value
HoldsAnswer ts None = Unit {0}

pub record HoldsEntry (ts : List Tree) (x : StackEntry) : Type 0 where
  pub input : HoldsQuery ts x.input.canonical.value
  pub provisional : HoldsAnswer ts x.provisional

-- how many inputs stood on the stack at most, and how many rounds an input took at most, of those that were counted
abbrev pub counted_inputs : SearchGraph → ℕ
counted_inputs g = g.most_inputs

abbrev pub counted_rounds : SearchGraph → ℕ
counted_rounds g = g.most_rounds

-- a round of an input is counted, so many of which there were
abbrev pub with_round : SearchGraph → ℕ → SearchGraph
with_round g n = record g { most_rounds = max g.most_rounds n }

-- the entries are of the store, the index leads to each of them, and there never were more than were counted, nor more than may
-- be nested
pub record IsStack (ts : List Tree) (g : SearchGraph) : Type 0 where
  pub held : All (HoldsEntry ts) g.stack.items
  pub index : IsEntryIndex g.newest (reverse g.stack.items)
  pub counted : length g.stack.items ≤ counted_inputs g
  pub nested : counted_inputs g ≤ suc g.root_depth

-- no entry's input is this one
abbrev pub HasNoInput : List Tree → SearchGraph → CanonicalInput → Type 0
HasNoInput ts g i = All (λ x. AreOneInput ts x.input i → ⊥) g.stack.items

-- the input of the entry with this index is this one
pub record IsInputAt (ts : List Tree) (g : SearchGraph) (i : CanonicalInput) (n : ℕ) : Type 0 where
  pub below : n < length g.stack.items
  pub same : (d : StackEntry) → AreOneInput ts (get_or g.stack.items n d).input i

-- the entry with this index is read
abbrev pub read_at : List StackEntry → ℕ → List StackEntry
read_at [] n = []
read_at (x ∷ xs) zero = record x { is_read = true } ∷ xs
read_at (x ∷ xs) (suc n) = x ∷ read_at xs n

-- all of a search stays but the entries; it may count more inputs
pub record KeepsRestOfGraph (old new : SearchGraph) : Type 0 where
  pub most_inputs : counted_inputs old ≤ counted_inputs new
  pub root_depth : new.root_depth ≡ old.root_depth
  pub has_overflowed : new.has_overflowed ≡ old.has_overflowed
  pub most_rounds : counted_rounds new ≡ counted_rounds old
