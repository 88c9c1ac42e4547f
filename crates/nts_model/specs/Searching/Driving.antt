-- What the calls of a search answer, and how the stack stands afterwards.
use Rattle.std.specs.Prelude.{◌≡◌, ℕ, zero, suc, true, List, [], ◌∷◌, IsTrue}
use Rattle.nts_model.specs.declared.labels.Sort.{Sort}
use Rattle.nts_model.specs.declared.labels.Sort.TheVariants as sort
use Rattle.nts_model.specs.Terms.Trees.{Tree}
use Rattle.nts_model.specs.Derivations.Sequents.{PathKind}
use Rattle.nts_model.specs.Derivations.Rules.{Meaning, Mode}
use Rattle.nts_model.specs.Derivations.Proofs.{Assumed, passed}
use Rattle.nts_model.specs.Derivations.Handlers.{Certainty, certain}
use Rattle.nts_model.specs.Canonical.Inputs.{CanonicalInput, PositionKind, const_variable, region_variable, placeholder}
use Rattle.nts_model.specs.Canonical.Numbered.{position}
use Rattle.nts_model.specs.Answers.Responses.{Response, answer_sequent, IsResponseTo}
use Rattle.nts_model.specs.Searching.Stacks.{IsDerivedFrom, Entry, assumptions, AreReadSince, SaysSame, IsBounded}

-- an answer may be applied where its input is asked, and a Yes is derived from the assumptions
pub record AnswersInput (m : Meaning) (mode : Mode) (A : List Assumed) (i : CanonicalInput) (r : Response) (c : Certainty) : Type 0 where
  pub fits : IsResponseTo i.kinds r
  pub bounded : IsBounded r
  pub derived : c ≡ certain → IsDerivedFrom m mode A (answer_sequent i r)

-- an input was asked by a step of kind k from the newest entry: entries were read since, and the answer rests on them
pub record EvaluatesInput (m : Meaning) (mode : Mode) (k : PathKind) (old new : List Entry) (i : CanonicalInput) (r : Response) (c : Certainty) : Type 0 where
  pub since : AreReadSince old new
  pub answers : AnswersInput m mode (passed k (assumptions new)) i r c

-- one round of the newest entry: its answer may rest on itself
pub record Computes (m : Meaning) (mode : Mode) (old new : List Entry) (i : CanonicalInput) (r : Response) (c : Certainty) : Type 0 where
  pub since : AreReadSince old new
  pub answers : AnswersInput m mode (assumptions new) i r c

abbrev pub as_read : Entry → Entry
as_read x = record x { is_read = true }

-- the entry with this number is read
abbrev pub marked : List Entry → ℕ → List Entry
marked [] n = []
marked (x ∷ xs) zero = as_read x ∷ xs
marked (x ∷ xs) (suc n) = x ∷ marked xs n

-- a round may be the last: the provisional answer, where it is a Yes, was not read or says the same
abbrev pub MayEnd : Entry → Response → Type 0
MayEnd x r = IsTrue x.is_read → x.certainty ≡ certain → SaysSame x.response r

-- the sort of a position's trees
abbrev pub sort_at : PositionKind → Sort
sort_at (const_variable u) = sort.Const
sort_at (region_variable u) = sort.Region
sort_at (placeholder s u n) = s
sort_at k = sort.Ty

abbrev pub positions_from : ℕ → List PositionKind → List Tree
positions_from b [] = []
positions_from b (k ∷ ks) = position (sort_at k) b ∷ positions_from (suc b) ks

-- the answer that changes nothing, which each head has at first
abbrev pub unconstrained : List PositionKind → Response
unconstrained ks = record { findings = record { values = positions_from 0 ks; constraints = []; hidden = []; open_goals = [] }; kinds = ks; max_universe = 0 }
