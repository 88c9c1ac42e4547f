-- What was found in a table that is gone.
use Rattle.std.specs.Global.{Box}
use Rattle.std.specs.Prelude.{◌≡◌, ◌⊎◌, ℕ, ◌<◌, List, [], ◌∷◌, ◌++◌, map, length, get_or, Some, Result, Ok, Err}
use Rattle.nts_model.specs.Terms.Trees.{Tree}
use Rattle.nts_model.specs.Tables.Passing.{BringsOnly}
use Rattle.nts_certainty.specs.declared.certainty.Certainty.TheVariants as certainty
use Rattle.nts_store.specs.Formed.{AreFormed}
use Rattle.nts_store.specs.Growth.{Extends, tree_at}
use Rattle.nts_store.specs.declared.fault.EvalError.{EvalError}
use Rattle.nts_terms.specs.declared.handles.GenericArg.{GenericArg}
use Rattle.nts_terms.specs.declared.handles.Goal.{Goal}
use Rattle.nts_unify.specs.Reading.{content_of}
use Rattle.nts_table.specs.Tables.{Table}
use Rattle.nts_canonical.specs.declared.types.Canonical.{Canonical}
use Rattle.nts_canonical.specs.declared.types.CanonicalVarKind.{CanonicalVarKind}
use Rattle.nts_canonical.specs.Forms.{trees_of, kind_of_var}
use Rattle.nts_response.specs.declared.types.Response.{Response}
use Rattle.nts_response.specs.Forms.{response_at, HoldsResponse}
use Rattle.nts_meaning.specs.nts_search.specs.declared.merging.MergeCandidateInfo.{MergeCandidateInfo}
use Rattle.nts_meaning.specs.nts_search.specs.declared.merging.MergeCandidateInfo.TheVariants as info
use Rattle.nts_meaning.specs.nts_search.specs.Merging.{Merges, doubt_of}
use Rattle.nts_meaning.specs.Evaluation.{Goes, asked_terms}
use Rattle.nts_theory.specs.Telling.{IsResponseOf, IsTermOfKind}
use Rattle.nts_theory.specs.Telling.{IsPlainResponse}
use Rattle.nts_meaning.specs.Answering.{told_in, TellsNoMore}

-- a response of the store b says what a table found out of these terms: the table went on from the table t of the store a, for
-- the goal, and is gone. Where the response is certain, P holds of that table and its store
pub record Found (P : List Tree → Table → Type 0) (a b : List Tree) (t : Table) (g : Goal) (qs : List GenericArg) (r : Canonical Response) : Type 0 where
  pub store : List Tree
  pub after : Table
  pub formed : AreFormed store
  pub goes : Goes a store t after
  pub labels : BringsOnly (asked_terms a g) (content_of a t.entries) (content_of store after.entries)
  pub extends : Extends store b
  pub says : IsResponseOf (told_in r.value.certainty (content_of store after.entries)) (trees_of a qs) (response_at b r)
  pub holds : HoldsResponse b r.value
  pub no_more : TellsNoMore r
  pub sure : r.value.certainty ≡ certainty.Yes → P store after

-- these terms stand for the positions of a response: variables of their kinds, or the placeholders
pub record IsOverTerms (ts : List Tree) (qs : List GenericArg) (r : Canonical Response) : Type 0 where
  pub many : length qs ≡ length r.var_kinds.items
  pub each : (i : ℕ) (q : GenericArg) (k : CanonicalVarKind) → i < length qs → IsTermOfKind (kind_of_var (get_or r.var_kinds.items i k)) (tree_at ts (get_or qs i q).node)

-- a response that stands for those of the candidates: what they merge to. One that changes nothing does only if it is over the
-- terms of the query: a position of another kind would say of a variable what the query does not know
abbrev pub IsTaken : List Tree → List GenericArg → MergeCandidateInfo → Canonical Response → Type 0
IsTaken ts qs (info.AlwaysApplicable i) r = IsOverTerms ts qs r
IsTaken ts qs info.EqualResponse r = Unit {0}

pub record StandsForThem (ts : List Tree) (qs : List GenericArg) (rs : List (Canonical Response)) (r : Canonical Response) : Type 0 where
  pub why : MergeCandidateInfo
  pub merges : Merges ts rs (Some (r, why))
  pub taken : IsTaken ts qs why r

-- the response is the one that stands for those of the candidates; or, where none does, it is in doubt as they are, and says
-- what the table t knew
abbrev pub IsMerged : List Tree → List Tree → Table → List GenericArg → List (Canonical Response) → Canonical Response → Type 0
IsMerged a b t qs rs r =
    StandsForThem a qs rs r
    ⊎ (((s : Canonical Response) → StandsForThem a qs rs s → ⊥) × (r.value.certainty ≡ doubt_of (map (λ c. c.value.certainty) rs)) × IsPlainResponse (content_of a t.entries) (trees_of a qs) (response_at b r) × HoldsResponse b r.value × TellsNoMore r)

-- a response is kept, and that a candidate has no solution is not
abbrev pub kept_after : List (Canonical Response) → Result (Box (Canonical Response)) EvalError → List (Canonical Response)
kept_after rs (Ok b) = rs ++ b.value ∷ []
kept_after rs (Err e) = rs
