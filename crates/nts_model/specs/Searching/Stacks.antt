-- What is derived and proved from assumptions, and the assumptions that the stack of a search gives.
use Rattle.std.specs.Prelude.{◌≡◌, ◌⊎◌, ℕ, zero, suc, ◌&&◌, Bool, true, false, List, [], ◌∷◌, Some, slice_get, IsTrue, if◌then◌else◌, ◌≤◌}
use Rattle.nts_model.specs.Terms.Trees.{Tree}
use Rattle.nts_model.specs.Tables.Contents.{Content}
use Rattle.nts_model.specs.Tables.Resolving.{Knows}
use Rattle.nts_model.specs.Terms.Substitutions.{Instance, filled}
use Rattle.nts_model.specs.Derivations.Related.{Constraint}
use Rattle.nts_model.specs.Lists.{Among}
use Rattle.nts_model.specs.Derivations.Sequents.{PathKind, coinductive, unknown, inductive, forced_ambiguity, Premise, Sequent, IsInstance}
use Rattle.nts_model.specs.Derivations.Rules.{Equation, Meaning, Mode, goal_kind, step_kind}
use Rattle.nts_model.specs.Derivations.Proofs.{Assumed, passed, Derives}
use Rattle.nts_model.specs.Derivations.Handlers.{Candidate, Certainty, certain, perhaps, AreValuesOf}
use Rattle.nts_model.specs.Derivations.Proving.{IsTermOf, sequent_at, sequent_with, HoldsEquationAt, IsHeldAt}
use Rattle.nts_model.specs.Canonical.Inputs.{CanonicalInput}
use Rattle.nts_model.specs.Answers.Responses.{Response, answer_sequent, IsOverPositions, IsResponseTo, greatest}

-- a sequent is assumed, behind a coinductive step
pub record IsUsable (A : List Assumed) (s : Sequent) : Type 0 where
  pub number : ℕ
  pub assumed : Assumed
  pub found : slice_get A number ≡ Some assumed
  pub behind : IsTrue assumed.is_behind
  pub same : assumed.sequent ≡ s

-- an instance of what is derived from the assumptions, or of one of them that is behind a coinductive step
pub record IsDerivedFrom (m : Meaning) (mode : Mode) (A : List Assumed) (t : Sequent) : Type 0 where
  pub sequent : Sequent
  pub reached : Derives m mode A sequent ⊎ IsUsable A sequent
  pub instance : Instance
  pub is_instance : IsInstance instance sequent t

-- the goal is proved under the table, from the assumptions
abbrev pub IsProvedFrom : Meaning → Mode → List Assumed → Content → Tree → Tree → Type 0
IsProvedFrom m mode A c e p = IsDerivedFrom m mode A (sequent_at c e p)

-- .. where these goals are left open, if the goal normalizes an alias
abbrev pub IsProvedWith : Meaning → Mode → List Assumed → Content → Tree → Tree → List Premise → Type 0
IsProvedWith m mode A c e p gs = IsDerivedFrom m mode A (sequent_with c e p gs)

-- a goal of a candidate is proved for these values, from the assumptions at it
pub record IsProvedFromAt (m : Meaning) (mode : Mode) (A : List Assumed) (c : Content) (vs : List Tree) (q : Premise) : Type 0 where
  pub environment : IsTermOf c (filled vs q.environment)
  pub predicate : IsTermOf c (filled vs q.predicate)
  pub proved : IsProvedFrom m mode A c (filled vs q.environment) (filled vs q.predicate)

-- a candidate for the goal g holds under the table: a step leads to each of its goals
pub record HoldsCandidateFrom (m : Meaning) (mode : Mode) (A : List Assumed) (c : Content) (g : Tree) (d : Candidate) : Type 0 where
  pub chosen : List Tree
  pub values : AreValuesOf d.fresh chosen
  pub known : (v : Tree) → Among chosen v → Knows c v
  pub equations : (q : Equation) → Among d.equations q → HoldsEquationAt c chosen q
  pub constraints : (x : Constraint) → Among d.constraints x → IsHeldAt c chosen x
  pub goals : (q : Premise) → Among d.goals q → IsProvedFromAt m mode (passed (step_kind (goal_kind m g) q.source) A) c chosen q

-- an entry of a search's stack: the input that is being evaluated, the kind of the step by which it was asked, its
-- provisional answer, and whether that was read
pub record Entry : Type 0 where
  pub input : CanonicalInput
  pub kind : PathKind
  pub response : Response
  pub certainty : Certainty
  pub is_read : Bool

abbrev pub is_certain : Certainty → Bool
is_certain certain = true
is_certain (perhaps c e) = false

-- a provisional answer that is a Yes and was read is assumed
abbrev pub with_own : Entry → List Assumed → List Assumed
with_own x A = if x.is_read && is_certain x.certainty then record { sequent = answer_sequent x.input x.response; is_behind = false } ∷ A else A

-- what a stack, its newest entry first, assumes at the newest entry's goal
abbrev pub assumptions : List Entry → List Assumed
assumptions [] = []
assumptions (x ∷ xs) = with_own x (passed x.kind (assumptions xs))

-- the same entries, some of them read since
pub record IsReadSince (x y : Entry) : Type 0 where
  pub input : y.input ≡ x.input
  pub kind : y.kind ≡ x.kind
  pub response : y.response ≡ x.response
  pub certainty : y.certainty ≡ x.certainty
  pub read : IsTrue x.is_read → IsTrue y.is_read

abbrev pub AreReadSince : List Entry → List Entry → Type 0
AreReadSince [] [] = Unit {0}
AreReadSince (x ∷ xs) (y ∷ ys) = IsReadSince x y × AreReadSince xs ys
AreReadSince xs ys = ⊥

-- the stronger of two kinds: an ambiguity that is forced, then coinductive, unknown and inductive
abbrev pub stronger : PathKind → PathKind → PathKind
stronger forced_ambiguity b = forced_ambiguity
stronger coinductive forced_ambiguity = forced_ambiguity
stronger coinductive b = coinductive
stronger unknown inductive = unknown
stronger unknown b = b
stronger inductive b = b

-- the kind of the path to a step of kind k from the entry with this number: of the steps above the entry's own
abbrev pub path_kind : List Entry → ℕ → PathKind → PathKind
path_kind [] n k = k
path_kind (x ∷ xs) zero k = k
path_kind (x ∷ xs) (suc n) k = stronger k (path_kind xs n x.kind)

-- no position of a response is of a universe above its greatest
abbrev pub IsBounded : Response → Type 0
IsBounded r = greatest r.kinds ≤ r.max_universe

-- an entry whose provisional answer may be applied where its input is asked
pub record IsEntry (x : Entry) : Type 0 where
  pub environment : IsOverPositions x.input.environment
  pub predicate : IsOverPositions x.input.predicate
  pub fits : IsResponseTo x.input.kinds x.response
  pub bounded : IsBounded x.response

-- what an answer says of an input, another one says
pub record SaysSame (r q : Response) : Type 0 where
  pub values : r.findings.values ≡ q.findings.values
  pub constraints : r.findings.constraints ≡ q.findings.constraints
  pub open_goals : r.findings.open_goals ≡ q.findings.open_goals
  pub kinds : r.kinds ≡ q.kinds
