-- What the calls of an evaluation promise of goals that are decided: each is answered as it is decided.
use Rattle.std.specs.Prelude.{◌≡◌, ◌⊎◌, ℕ, ◌<◌, ◌≤◌, Bool, true, false, List, [], map, length, All, Option, Some, None, Result, Ok, Err}
use Rattle.nts_model.specs.Terms.Trees.{Tree, empty, any_label, is_alias, IsFormed}
use Rattle.nts_model.specs.Lists.{Among}
use Rattle.nts_model.specs.Derivations.Related.{pair}
use Rattle.nts_model.specs.Derivations.Rules.{Mode, statement_of}
use Rattle.nts_model.specs.Derivations.Handlers.{Handler, Judgements, Candidate, certain, IsCandidateFor, HasNoLeaks}
use Rattle.nts_model.specs.Refutation.Choosing.{IsCandidateMet}
use Rattle.nts_theory.specs.RelatingCandidates.{HasPlainEquations}
use Rattle.nts_theory.specs.Affirming.{SaysAffirmed, IsDenied, HasOwnWay}
use Rattle.nts_theory.specs.Telling.{AreTermsOfKinds}
use Rattle.nts_model.specs.Tables.Resolving.{deeply_resolved}
use Rattle.nts_model.specs.Canonical.Inputs.{Input, IsInput, canonical_of, CanonicalInput as Form, PositionKind}
use Rattle.nts_model.specs.Answers.Responses.{Response as Answer, IsIdentity}
use Rattle.nts_decisions.specs.Deciding.{IsGoalDecided, IsFairAtOnce}
use Rattle.nts_decisions.specs.Facts.{IsFactIn, IsOnlyFactIn}
use Rattle.nts_decisions.specs.Faring.{AreDecidedHere, Fares, OneFares}
use Rattle.nts_decisions.specs.FirstTables.{IsFirstQuery, IsSettledFact}
use Rattle.nts_decisions.specs.Queries.{AreRootKinds, AreConstants, AreOwn}
use Rattle.nts_certainty.specs.declared.certainty.Certainty.{Certainty}
use Rattle.nts_certainty.specs.declared.certainty.Certainty.TheVariants as certainty
use Rattle.nts_certainty.specs.declared.sources.HasChanged.TheVariants as changes
use Rattle.nts_certainty.specs.declared.sources.GoalSource.{GoalSource}
use Rattle.nts_store.specs.declared.fault.EvalError.{EvalError}
use Rattle.nts_store.specs.declared.fault.EvalError.TheVariants as error
use Rattle.nts_store.specs.Growth.{tree_at, Extends}
use Rattle.nts_terms.specs.declared.cx.Cx.{Cx}
use Rattle.nts_terms.specs.declared.handles.Goal.{Goal}
use Rattle.nts_terms.specs.declared.handles.GenericArg.{GenericArg}
use Rattle.nts_terms.specs.Modes.{mode_of}
use Rattle.nts_terms.specs.declared.modes.TypingMode.{TypingMode}
use Rattle.nts_unify.specs.Reading.{content_of}
use Rattle.nts_table.specs.Tables.{Table}
use Rattle.nts_candidates.specs.declared.data.CandidateData.{CandidateData}
use Rattle.nts_candidates.specs.Offered.{candidate_of, candidates_of}
use Rattle.nts_canonical.specs.declared.types.Canonical.{Canonical}
use Rattle.nts_canonical.specs.Forms.{form_of, trees_of, kind_of_var}
use Rattle.nts_canonical.specs.Kinds.{value_leaves}
use Rattle.nts_search.specs.Merging.{AppliesAlways}
use Rattle.nts_response.specs.declared.types.Response.{Response}
use Rattle.nts_response.specs.Forms.{response_at}
use Rattle.nts_search.specs.declared.stack.SearchGraph.{SearchGraph}
use Rattle.nts_meaning.specs.Asking.{first_table, first_values, asked_environment, asked_predicate}
use Rattle.nts_meaning.specs.Evaluation.{goals_at}
use Rattle.nts_meaning.specs.declared.response.Evaluated.{Evaluated}

-- a goal that is asked as this canonical input is decided, at a height
pub record IsQueryDecided (h : Handler) (mode : Mode) (n : ℕ) (f : Form) (b : Bool) : Type 0 where
  pub asked : Input
  pub proper : IsInput asked
  pub no_hidden : asked.hidden ≡ empty
  pub form : canonical_of asked ≡ f
  pub decided : IsGoalDecided h mode n asked.environment asked.predicate b

-- the handler affirms a goal of the engine's own kinds, or denies it
abbrev pub SaysJudged : Judgements → Tree → Tree → Bool → Type 0
SaysJudged j e g true = SaysAffirmed j e g
SaysJudged j e g false = IsDenied j (statement_of g)

-- the one way of a goal in which no alias stands fares so in the table, and is certain
pub record IsWaySettled (h : Handler) (mode : TypingMode) (n : ℕ) (ts : List Tree) (t : Table) (g : Goal) (b : Bool) : Type 0 where
  pub way : Candidate
  pub has_way : HasOwnWay h.judges (tree_at ts g.param_env.node) (tree_at ts g.predicate.node) way
  pub no_alias : any_label is_alias (tree_at ts g.predicate.node) ≡ false
  pub fares : Fares h (mode_of mode) n (content_of ts t.entries) way b
  pub sure : way.certainty ≡ certain

-- what is known of a goal of the engine's own kinds decides it: it is judged, or its one way fares so
abbrev pub IsOwnSettled : Handler → TypingMode → ℕ → List Tree → Table → Goal → Bool → Type 0
IsOwnSettled h mode n ts t g b = SaysJudged h.judges (tree_at ts g.param_env.node) (tree_at ts g.predicate.node) b ⊎ IsWaySettled h mode n ts t g b

-- no goal on the stack is decided lower than n
abbrev pub IsAbove : Handler → List Tree → ℕ → SearchGraph → Type 0
IsAbove h ts n g = All (λ x. (m : ℕ) (b : Bool) → m < n → IsQueryDecided h (mode_of x.input.typing_mode) m (form_of ts x.input) b → ⊥) g.stack.items

-- a search in which what is decided lower than n is answered so, where it may go so deep: nothing above is decided as low, no
-- overflow was met, and a round and a step are allowed; and the handler has no leaks, and answers nothing yes at once that is no
pub record CanDecide (h : Handler) (a : Cx) (g : SearchGraph) (n depth : ℕ) : Type 0 where
  pub deep : n ≤ depth
  pub above : IsAbove h a.nodes n g
  pub unmarked : g.has_overflowed ≡ false
  pub steps : 0 < a.step_limit
  pub rounds : 0 < a.round_limit
  pub tight : HasNoLeaks h
  pub fair : IsFairAtOnce h

-- decided lower than n
abbrev pub IsBelow : ℕ → (ℕ → Type 0) → Type 0
IsBelow n P = (m : ℕ) × (m < n) × P m

-- the stack is as before, and so is the mark of an overflow
pub record IsAsBefore (g h : SearchGraph) : Type 0 where
  pub stack : h.stack.items ≡ g.stack.items
  pub mark : h.has_overflowed ≡ g.has_overflowed

-- a goal as the table knows it is decided, at a height that the depth allows
pub record IsDeterminate (h : Handler) (mode : TypingMode) (ts : List Tree) (t : Table) (g : Goal) (depth : ℕ) (b : Bool) : Type 0 where
  pub height : ℕ
  pub low : height ≤ depth
  pub decided : (let c = content_of ts t.entries in IsGoalDecided h (mode_of mode) height (deeply_resolved c (tree_at ts g.param_env.node)) (deeply_resolved c (tree_at ts g.predicate.node)) b)

-- a round and a step are allowed, and the handler has no leaks, and answers nothing yes at once that is decided no
pub record MayAnswer (h : Handler) (a : Cx) : Type 0 where
  pub steps : 0 < a.step_limit
  pub rounds : 0 < a.round_limit
  pub tight : HasNoLeaks h
  pub fair : IsFairAtOnce h

-- an answer that is so where the goal is decided yes, and that there is no solution where it is decided no; else want of memory,
-- or of a universe
abbrev pub IsAsDecided : {A : Type 0} → Bool → Result A EvalError → (A → Type 0) → Type 0
IsAsDecided b (Ok x) P = (b ≡ true) × P x
IsAsDecided b (Err error.NoSolution) P = b ≡ false
IsAsDecided b (Err e) P = Unit {0}

abbrev pub IfNoFault : {A : Type 0} → Result A EvalError → Type 0 → Type 0
IfNoFault (Ok x) P = P
IfNoFault (Err error.NoSolution) P = P
IfNoFault (Err e) P = Unit {0}

-- .. which leaves the search as it was
pub record Decides {A : Type 0} (b : Bool) (r : Result A EvalError) (P : A → Type 0) (g h : SearchGraph) : Type 0 where
  pub answer : IsAsDecided b r P
  pub search : IfNoFault r (IsAsBefore g h)

-- a certain answer, and one that changes nothing
abbrev pub IsYes : Certainty → Type 0
IsYes c = c ≡ certainty.Yes

abbrev pub IsYesUnchanged : Evaluated → Type 0
IsYesUnchanged e = (e.certainty ≡ certainty.Yes) × (e.has_changed ≡ changes.No)

-- the values of a response are the positions in order, and each is its own original
pub record IsOwnAnswer (ks : List PositionKind) (r : Answer) : Type 0 where
  pub identity : (let x = r.findings in IsIdentity 0 x.values)
  pub own : (os : List Tree) → length os ≡ length ks → (let x = r.findings in AreOwn r.kinds 0 x.values os)

abbrev pub IsOwnYes : List Tree → List PositionKind → Canonical Response → Type 0
IsOwnYes ts ks r = (r.value.certainty ≡ certainty.Yes) × IsOwnAnswer ks (response_at ts r)

-- what a round ends with
abbrev pub IsRoundDecided : Bool → List Tree → List PositionKind → Option (Canonical Response) → Type 0
IsRoundDecided b ts ks None = b ≡ false
IsRoundDecided b ts ks (Some r) = (b ≡ true) × IsOwnYes ts ks r

-- the first table of a query whose positions are placeholders, and its goal there
pub record IsRootQuery (ts : List Tree) (t : Table) (g : Goal) (qs : List GenericArg) : Type 0 where
  pub kinds : List PositionKind
  pub roots : AreRootKinds 0 kinds
  pub first : content_of ts t.entries ≡ first_table kinds
  pub values : trees_of ts qs ≡ first_values kinds
  pub constants : AreConstants 0 (pair (tree_at ts g.param_env.node) (tree_at ts g.predicate.node))

-- the terms of such a query stand for its positions
pub record AreRootValues (ts : List Tree) (qs : List GenericArg) : Type 0 where
  pub kinds : List PositionKind
  pub roots : AreRootKinds 0 kinds
  pub values : trees_of ts qs ≡ first_values kinds

-- candidates of a decided goal fare so, are certain, and relate no aliases; so does one
pub record CandidatesSettled (h : Handler) (mode : TypingMode) (n : ℕ) (ts : List Tree) (t : Table) (xs : List CandidateData) (b : Bool) : Type 0 where
  pub fares : OneFares h (mode_of mode) n (content_of ts t.entries) (candidates_of ts xs) b
  pub sure : (x : Candidate) → Among (candidates_of ts xs) x → x.certainty ≡ certain
  pub plain : (x : Candidate) → Among (candidates_of ts xs) x → HasPlainEquations x

pub record IsSettled (h : Handler) (mode : TypingMode) (n : ℕ) (ts : List Tree) (t : Table) (x : CandidateData) (b : Bool) : Type 0 where
  pub fares : Fares h (mode_of mode) n (content_of ts t.entries) (candidate_of ts x) b
  pub sure : (let y = candidate_of ts x in y.certainty ≡ certain)
  pub plain : HasPlainEquations (candidate_of ts x)

-- goals of a table, each decided lower than n as the table knows it
abbrev pub GoalsSettled : Handler → TypingMode → ℕ → List Tree → Table → List (GoalSource × Goal) → Bool → Type 0
GoalsSettled h mode n ts t gs b = AreDecidedHere h (mode_of mode) n (content_of ts t.entries) (goals_at ts gs) b

-- the first table of a query, its goal there, and the terms that stand for its positions
pub record IsQueryAtFirst (ts : List Tree) (t : Table) (g : Goal) (qs : List GenericArg) : Type 0 where
  pub kinds : List PositionKind
  pub values : trees_of ts qs ≡ first_values kinds
  pub first : IsFirstQuery (content_of ts t.entries) (value_leaves 0 kinds) (tree_at ts g.param_env.node) (tree_at ts g.predicate.node)

-- .. where one candidate without goals decides the goal
pub record IsFactHere (h : Handler) (mode : TypingMode) (ts : List Tree) (t : Table) (g : Goal) (qs : List GenericArg) : Type 0 where
  pub query : IsQueryAtFirst ts t g qs
  pub settled : IsSettledFact h (mode_of mode) (content_of ts t.entries) (tree_at ts g.param_env.node) (tree_at ts g.predicate.node)

-- a candidate for the goal that has no goals, and relates no aliases
pub record IsPlainCandidate (ts : List Tree) (g : Goal) (x : Candidate) : Type 0 where
  pub offered : IsCandidateFor (tree_at ts g.param_env.node) (tree_at ts g.predicate.node) x
  pub no_goals : x.goals ≡ []
  pub plain : HasPlainEquations x

-- what is met of these has no goals
abbrev pub ArePlainCandidates : List Tree → Table → Goal → List CandidateData → Type 0
ArePlainCandidates ts t g xs = (x : Candidate) → Among (candidates_of ts xs) x → IsCandidateMet (content_of ts t.entries) x → IsPlainCandidate ts g x

-- a response of the store that says nothing, in any later store, is over these terms
abbrev pub IsOverIfSilent : List Tree → List Tree → Canonical Response → Type 0
IsOverIfSilent b qs r = (ts : List Tree) → Extends b ts → AppliesAlways ts r → AreTermsOfKinds (map kind_of_var r.var_kinds.items) qs

-- .. of the goal of a canonical input, in the first table of its query, where it is formed
abbrev pub IsFactForm : Handler → Mode → Form → Type 0
IsFactForm h mode f = IsFormed (asked_environment f) → IsFormed (asked_predicate f) → IsSettledFact h mode (first_table f.kinds) (asked_environment f) (asked_predicate f)

-- a round ends with a certain answer
abbrev pub IsRoundYes : Option (Canonical Response) → Type 0
IsRoundYes None = ⊥
IsRoundYes (Some r) = IsYes r.value.certainty

-- the goal as the table knows it has a fact: a candidate without goals is offered that a world of the table meets
abbrev pub IsFact : Handler → TypingMode → List Tree → Table → Goal → Type 0
IsFact h mode ts t g = (let c = content_of ts t.entries in IsFactIn h (mode_of mode) c (deeply_resolved c (tree_at ts g.param_env.node)) (deeply_resolved c (tree_at ts g.predicate.node)))

-- the goal as the table knows it has a fact, and no values meet another candidate that is offered for it
abbrev pub IsOnlyFact : Handler → TypingMode → List Tree → Table → Goal → Type 0
IsOnlyFact h mode ts t g = (let c = content_of ts t.entries in IsOnlyFactIn h (mode_of mode) c (deeply_resolved c (tree_at ts g.param_env.node)) (deeply_resolved c (tree_at ts g.predicate.node)))
