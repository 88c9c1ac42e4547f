-- How the stack of a search stands while goals are evaluated.
use Rattle.std.specs.Prelude.{suc, ◌<◌, ◌-◌, ◌≡◌, ℕ, ◌+◌, ◌≤◌, List, [], ◌∷◌, length, get_or, Option, Some, None, All, IsTrue}
use Rattle.nts_model.specs.Terms.Trees.{Tree}
use Rattle.nts_model.specs.Derivations.Rules.{Mode}
use Rattle.nts_model.specs.Derivations.Proofs.{Assumed}
use Rattle.nts_model.specs.Searching.Stacks.{assumptions, path_kind}
use Rattle.nts_model.specs.Canonical.Inputs.{CanonicalInput as Form, PositionKind, Input, canonical_of}
use Rattle.nts_certainty.specs.declared.sources.PathKind.{PathKind}
use Rattle.nts_terms.specs.declared.cx.Cx.{Cx}
use Rattle.nts_terms.specs.declared.modes.TypingMode.{TypingMode}
use Rattle.nts_terms.specs.Modes.{mode_of}
use Rattle.nts_canonical.specs.declared.types.Canonical.{Canonical}
use Rattle.nts_canonical.specs.Forms.{form_of}
use Rattle.nts_canonical.specs.Building.{kinds_of}
use Rattle.nts_response.specs.declared.types.Response.{Response}
use Rattle.nts_response.specs.Forms.{response_parts}
use Rattle.nts_search.specs.declared.stack.StackEntry.{StackEntry}
use Rattle.nts_search.specs.declared.stack.SearchGraph.{SearchGraph}
use Rattle.nts_search.specs.Searching.{entries_at, IsStack, counted_inputs, counted_rounds}
use Rattle.nts_meaning.specs.Answering.{IsQueryInput, IsAnswerTo, verdict_at}
use Rattle.nts_meaning.specs.Telling.{Ruling, QueryTells, QueryRefutes}
use Rattle.nts_theory.specs.Telling.{IsInputFor}
use Rattle.nts_theory.specs.RelatingCandidates.{IsCutIn}
use Rattle.nts_model.specs.Derivations.Sequents.{inductive}
use Rattle.nts_candidates.specs.Offered.{path_kind_of}
use Rattle.nts_model.specs.Tables.Contents.{Content}

-- an answer to an input of these kinds can be applied where that is asked
abbrev pub IsHeadAnswer : List Tree → List PositionKind → Option (Canonical Response) → Type 0
IsHeadAnswer ts ks None = Unit {0}
IsHeadAnswer ts ks (Some r) = IsAnswerTo ts ks r

-- .. and so can the provisional answer of an entry, whose goal can be asked
pub record IsHead (ts : List Tree) (x : StackEntry) : Type 0 where
  pub input : IsQueryInput ts x.input
  pub answer : IsHeadAnswer ts (kinds_of x.input) x.provisional

-- the stack of a search, with room for inputs less than n deep
pub record IsSearch (a : Cx) (g : SearchGraph) (n : ℕ) : Type 0 where
  pub stack : IsStack a.nodes g
  pub heads : All (IsHead a.nodes) g.stack.items
  pub rounds : counted_rounds g ≤ a.round_limit
  pub room : length g.stack.items + n ≤ g.root_depth + 1

-- an entry later on: it may have been read
pub record IsEntryLater (x y : StackEntry) : Type 0 where
  pub input : y.input ≡ x.input
  pub kind : y.step_kind ≡ x.step_kind
  pub provisional : y.provisional ≡ x.provisional
  pub round : y.round ≡ x.round
  pub read : IsTrue x.is_read → IsTrue y.is_read

abbrev pub AreLater : List StackEntry → List StackEntry → Type 0
AreLater [] [] = Unit {0}
AreLater (x ∷ xs) (y ∷ ys) = IsEntryLater x y × AreLater xs ys
AreLater xs ys = ⊥

-- the search went on from the stack g and the store a: the same entries are on its stack, its counts did not fall, and what was
-- marked as an overflow stays marked
pub record Searches (a b : Cx) (g h : SearchGraph) : Type 0 where
  pub stack : IsStack b.nodes h
  pub heads : All (IsHead b.nodes) h.stack.items
  pub rounds : counted_rounds h ≤ b.round_limit
  pub more_rounds : counted_rounds g ≤ counted_rounds h
  pub more_inputs : counted_inputs g ≤ counted_inputs h
  pub marks : IsTrue g.has_overflowed → IsTrue h.has_overflowed
  pub depth : h.root_depth ≡ g.root_depth
  pub later : AreLater g.stack.items h.stack.items

-- what the stack assumes at the goal of its newest entry
abbrev pub assumed_in : List Tree → SearchGraph → List Assumed
assumed_in ts g = assumptions (entries_at ts g)

-- an answer to an input is told, or it is refuted
abbrev pub IsAnswerTold : Ruling → Mode → List Tree → Form → Option (Canonical Response) → Type 0
IsAnswerTold h mode ts f None = QueryRefutes h mode f
IsAnswerTold h mode ts f (Some r) = QueryTells h mode f (verdict_at ts r)

-- .. and so are all provisional answers
abbrev pub HeadsTell : Ruling → List Tree → SearchGraph → Type 0
HeadsTell h ts g = All (λ x. IsAnswerTold h (mode_of x.input.typing_mode) ts (form_of ts x.input) x.provisional) g.stack.items

-- a cycle without a solution: an input of this form stands on the stack, and all steps from it on are inductive, the last
-- one of that kind. In coherence a cycle is in doubt
pub record IsCut (ts : List Tree) (g : SearchGraph) (f : Form) (mode : TypingMode) (k : PathKind) : Type 0 where
  pub head : ℕ
  pub below : head < length g.stack.items
  pub same : (d : StackEntry) → form_of ts (get_or g.stack.items head d).input ≡ f
  pub path : path_kind (entries_at ts g) (length g.stack.items - suc head) (path_kind_of k) ≡ inductive
  pub elsewhere : IsCutIn (mode_of mode)

-- .. that a goal comes to
abbrev pub IsGoalCut : List Tree → SearchGraph → Content → TypingMode → Tree → Tree → PathKind → Type 0
IsGoalCut ts g c mode e p k = (i : Input) × IsInputFor c e p i × IsCut ts g (canonical_of i) mode k

-- the same response once more
pub record IsCopied (q r : Canonical Response) : Type 0 where
  pub value : response_parts r.value ≡ response_parts q.value
  pub kinds : r.var_kinds.items ≡ q.var_kinds.items
  pub universe : r.max_universe ≡ q.max_universe

abbrev pub IsCopiedAnswer : Option (Canonical Response) → Option (Canonical Response) → Type 0
IsCopiedAnswer None None = Unit {0}
IsCopiedAnswer (Some q) (Some r) = IsCopied q r
IsCopiedAnswer None (Some r) = ⊥
IsCopiedAnswer (Some q) None = ⊥

-- the answer is the provisional one of the entry with this index, once more; or there it has none
abbrev pub IsReadAt : List StackEntry → ℕ → Canonical Response → Type 0
IsReadAt xs n r = (d : StackEntry) → (q : Canonical Response) × ((get_or xs n d).provisional ≡ Some q) × IsCopied q r

abbrev pub HasNoneAt : List StackEntry → ℕ → Type 0
HasNoneAt xs n = (d : StackEntry) → (get_or xs n d).provisional ≡ None
