-- What a certain answer means, for a handler whose terms stood in an earlier store.
use Rattle.std.specs.Prelude.{◌≡◌, ◌⊎◌, ℕ, false, List, []}
use Rattle.nts_model.specs.declared.labels.Variance.{Variance}
use Rattle.nts_model.specs.Terms.Trees.{Tree}
use Rattle.nts_model.specs.Lists.{Among}
use Rattle.nts_model.specs.Derivations.Rules.{Mode, Meaning, GoalKind, step_kind, statement_of, IsHandlers}
use Rattle.nts_model.specs.Derivations.Proofs.{Assumed, HasProof, passed}
use Rattle.nts_model.specs.Searching.Stacks.{IsProvedFrom, HoldsCandidateFrom}
use Rattle.nts_model.specs.Tables.Resolving.{deeply_resolved}
use Rattle.nts_model.specs.Derivations.Handlers.{Candidate, certain, Handler, meaning}
use Rattle.nts_model.specs.Tables.Contents.{Content}
use Rattle.nts_terms.specs.declared.cx.Cx.{Cx}
use Rattle.nts_terms.specs.declared.handles.Goal.{Goal}
use Rattle.nts_terms.specs.Signatures.{variances_in}
use Rattle.nts_store.specs.Formed.{AreFormed}
use Rattle.nts_store.specs.Growth.{tree_at, Extends}
use Rattle.nts_table.specs.Tables.{Table}
use Rattle.nts_unify.specs.Reading.{content_of}
use Rattle.nts_terms.specs.declared.modes.TypingMode.{TypingMode}
use Rattle.nts_terms.specs.Modes.{mode_of}
use Rattle.nts_candidates.specs.declared.data.CandidateData.{CandidateData}
use Rattle.nts_terms.specs.declared.handles.GenericArg.{GenericArg}
use Rattle.nts_certainty.specs.declared.sources.GoalSource.{GoalSource}
use Rattle.nts_canonical.specs.declared.types.Canonical.{Canonical}
use Rattle.nts_canonical.specs.declared.types.CanonicalInput.{CanonicalInput}
use Rattle.nts_canonical.specs.Forms.{form_of, trees_of}
use Rattle.nts_response.specs.declared.types.Response.{Response}
use Rattle.nts_response.specs.Forms.{response_at}
use Rattle.nts_model.specs.Canonical.Inputs.{PositionKind}
use Rattle.nts_model.specs.Answers.Responses.{answer_sequent}
use Rattle.nts_candidates.specs.Offered.{source_of, candidate_of, candidates_of}
use Rattle.nts_meaning.specs.Telling.{Ruling, Tells, Refutes, Outcomes, Replies, Fails, Reaches, RefusesOne, Asked, Refused, QueryTells, QueryRefutes}
use Rattle.nts_theory.specs.AskedGoals.{asked_in}
use Rattle.nts_theory.specs.Posing.{PosesIn}
use Rattle.nts_theory.specs.Telling.{IsPlainResponse}
use Rattle.nts_theory.specs.RelatingCandidates.{HasPlainEquations, HoldsByRelating, Begins}
use Rattle.nts_model.specs.Derivations.Sequents.{Premise}
use Rattle.nts_meaning.specs.Evaluation.{goals_at}
use Rattle.nts_meaning.specs.Running.{StaysProved}
use Rattle.nts_certainty.specs.declared.certainty.Certainty.{Certainty}
use Rattle.nts_certainty.specs.declared.sources.HasChanged.{HasChanged}
use Rattle.nts_meaning.specs.Answering.{Evaluates, is_yes, verdict_at}
use Rattle.nts_theory.specs.Telling.{Verdict, StandsForAll, kind_for}

-- what a handler means: where its terms stand, and what its rules are there
pub record Rules : Type 1 where
  pub ready : List Tree → Type 0
  pub handler : List Tree → Handler

abbrev pub rules_of : {S : Type 0} → (List Tree → S → Type 0) → (List Tree → S → Handler) → S → Rules
rules_of ready handler s = record { ready = λ ts. ready ts s; handler = λ ts. handler ts s }

-- a store from which the present one has grown, and in which the handler's terms stood; and the variances that are declared now
pub record Since (ready : List Tree → Type 0) (now : Cx) : Type 0 where
  pub base : List Tree
  pub formed : AreFormed base
  pub extends : Extends base now.nodes
  pub is_ready : ready base
  pub variances : ℕ → List Variance
  pub declared : variances ≡ variances_in now.declarations

-- since any earlier store in which the handler's terms stood
abbrev pub Always : (R : Rules) (a : Cx) → (Since R.ready a → Type 0) → Type 0
Always R a P = (s : Since R.ready a) → P s

-- what the handler means there
abbrev pub meaning_since : {ready : List Tree → Type 0} {now : Cx} → (List Tree → Handler) → Since ready now → Meaning
meaning_since handler s = meaning (handler s.base) s.variances

-- .. and what goals are judged by since then; or in a store, in which the handler's terms stand
abbrev pub ruling_since : {ready : List Tree → Type 0} {now : Cx} → (List Tree → Handler) → Since ready now → Ruling
ruling_since handler s = record { handler = handler s.base; variances = s.variances }

-- what a handler means in a store, with the variances that are declared there
abbrev pub ruling_in : {S : Type 0} → (List Tree → S → Handler) → Cx → S → Ruling
ruling_in handler a s = record { handler = handler a.nodes s; variances = variances_in a.declarations }

-- what a handler offers for a goal of a store
abbrev pub offers_of : Handler → Mode → List Tree → Goal → List Candidate
offers_of h mode ts g = h.offers mode (tree_at ts g.param_env.node) (tree_at ts g.predicate.node)

-- candidates, the terms of which are of the store, are among what the handler offers for a goal; so is one
abbrev pub AreOffered : Handler → TypingMode → List Tree → Goal → List CandidateData → Type 0
AreOffered h mode ts g cs = (x : Candidate) → Among (candidates_of ts cs) x → Among (offers_of h (mode_of mode) ts g) x

abbrev pub IsOffered : Handler → TypingMode → List Tree → Goal → CandidateData → Type 0
IsOffered h mode ts g c = Among (offers_of h (mode_of mode) ts g) (candidate_of ts c)

-- a candidate for the goal g of the environment e holds: its goals are proved from what is assumed at the goal, after a step. Where an
-- equation of it relates aliases, what relating left is proved too; and of a goal about which a handler has rules a candidate's goals may
-- be proved with terms in the places of aliases
abbrev pub HoldsEither : Meaning → Mode → List Assumed → Content → Tree → Tree → Candidate → Type 0
HoldsEither m mode A c e g x = HoldsCandidateFrom m mode A c g x ⊎ ((HasPlainEquations x → ⊥) ⊎ IsHandlers (statement_of g)) × HoldsByRelating m mode A c e g x

-- .. and is certain
pub record HoldsSurely (m : Meaning) (mode : Mode) (A : List Assumed) (c : Content) (e g : Tree) (x : Candidate) : Type 0 where
  pub sure : x.certainty ≡ certain
  pub holds : HoldsEither m mode A c e g x

abbrev pub HoldsSince : {ready : List Tree → Type 0} {now : Cx} → (List Tree → Handler) → Since ready now → TypingMode → List Assumed → List Tree → Table → Tree → Tree → Candidate → Type 0
HoldsSince handler s mode A ts t e g x = HoldsSurely (meaning_since handler s) (mode_of mode) A (content_of ts t.entries) e g x

-- one of the candidates that a handler offers for a goal does
pub record IsServed (h : Handler) (m : Meaning) (mode : Mode) (A : List Assumed) (c : Content) (e g : Tree) : Type 0 where
  pub candidate : Candidate
  pub offered : Among (h.offers mode e g) candidate
  pub sure : candidate.certainty ≡ certain
  pub holds : HoldsEither m mode A c e g candidate

abbrev pub IsServedSince : {ready : List Tree → Type 0} {now : Cx} → (List Tree → Handler) → Since ready now → TypingMode → List Assumed → List Tree → Table → Goal → Type 0
IsServedSince handler s mode A ts t g =
    IsServed (handler s.base) (meaning_since handler s) (mode_of mode) A (content_of ts t.entries) (tree_at ts g.param_env.node) (tree_at ts g.predicate.node)

-- a goal is proved from assumptions by what the handler means since then, in a table of that mode; now and later
abbrev pub IsProvedNow : {ready : List Tree → Type 0} {now : Cx} → (List Tree → Handler) → Since ready now → TypingMode → List Assumed → List Tree → Table → Goal → Type 0
IsProvedNow handler s mode A ts t g =
    IsProvedFrom (meaning_since handler s) (mode_of mode) A (content_of ts t.entries) (tree_at ts g.param_env.node) (tree_at ts g.predicate.node)

abbrev pub IsProvedFromSince : {ready : List Tree → Type 0} {now : Cx} → (List Tree → Handler) → Since ready now → TypingMode → List Assumed → List Tree → Table → Goal → Type 0
IsProvedFromSince handler s mode A ts t g = StaysProved (meaning_since handler s) (mode_of mode) A ts t g

-- .. from nothing
abbrev pub IsProvedSince : {ready : List Tree → Type 0} {now : Cx} → (List Tree → Handler) → Since ready now → TypingMode → List Tree → Table → Goal → Type 0
IsProvedSince handler s mode ts t g = IsProvedFromSince handler s mode [] ts t g

-- .. from what is assumed at a goal of kind z, which a step leads from
abbrev pub IsNestedSince : {ready : List Tree → Type 0} {now : Cx} → (List Tree → Handler) → Since ready now → TypingMode → GoalKind → List Assumed → List Tree → Table → GoalSource × Goal → Type 0
IsNestedSince handler s mode z A ts t g = IsProvedFromSince handler s mode (passed (step_kind z (source_of g.0)) A) ts t g.1

-- a goal of the table t and the store a was evaluated, which left the table u of the store b; and it was refused
abbrev pub EvaluatesGoal : Ruling → TypingMode → List Tree → Table → List Tree → Table → Goal → Certainty → HasChanged → Type 0
EvaluatesGoal h mode a t b u g sure changed =
    Evaluates (QueryTells h (mode_of mode)) a b t.entries u.entries (tree_at a g.param_env.node) (tree_at a g.predicate.node) sure changed

abbrev pub IsRefusedIn : Ruling → TypingMode → List Tree → Table → Goal → Type 0
IsRefusedIn h mode a t g =
    Refused h (mode_of mode) (content_of a t.entries) (tree_at a g.param_env.node) (tree_at a g.predicate.node)

-- the goal as the table knows it was evaluated: its query tells a verdict, and the response was applied to the goal's leaves
abbrev pub EvaluatesUnder : Ruling → TypingMode → List Tree → Table → List Tree → Table → Goal → Certainty → HasChanged → Type 0
EvaluatesUnder h mode a t b u g sure changed =
    Evaluates (QueryTells h (mode_of mode)) a b t.entries u.entries (deeply_resolved (content_of a t.entries) (tree_at a g.param_env.node)) (deeply_resolved (content_of a t.entries) (tree_at a g.predicate.node)) sure changed

-- .. so it was asked
abbrev pub IsAskedUnder : Ruling → TypingMode → List Tree → Table → List Tree → Table → Goal → Type 0
IsAskedUnder h mode a t b u g =
    Asked h (mode_of mode) (content_of a t.entries) (content_of b u.entries) (deeply_resolved (content_of a t.entries) (tree_at a g.param_env.node)) (deeply_resolved (content_of a t.entries) (tree_at a g.predicate.node))

-- the goal as the table knows it is refused: by its query, or since no solution of the table grants the response
abbrev pub IsRefusedUnder : Ruling → TypingMode → List Tree → Table → Goal → Type 0
IsRefusedUnder h mode a t g =
    Refused h (mode_of mode) (content_of a t.entries) (deeply_resolved (content_of a t.entries) (tree_at a g.param_env.node)) (deeply_resolved (content_of a t.entries) (tree_at a g.predicate.node))

-- what a response of the store b says of an input of the store a has a ranked proof
abbrev pub IsInputProved : Meaning → List Tree → CanonicalInput → List Tree → Canonical Response → Type 0
IsInputProved m a i b r = HasProof m (mode_of i.typing_mode) (answer_sequent (form_of a i) (response_at b r))

-- a query's response, of the store b, and what the query refutes
abbrev pub IsQueryTold : Ruling → Mode → List Tree → CanonicalInput → List Tree → Canonical Response → Type 0
IsQueryTold h mode a i b r = QueryTells h mode (form_of a i) (verdict_at b r)

abbrev pub IsQueryRefuted : Ruling → Mode → List Tree → CanonicalInput → Type 0
IsQueryRefuted h mode a i = QueryRefutes h mode (form_of a i)

-- .. for a goal of a query's table and the terms that stand for the positions, whatever their kinds
abbrev pub IsTold : Ruling → TypingMode → List Tree → Table → Goal → List GenericArg → List Tree → Canonical Response → Type 0
IsTold h mode a t g qs b r =
    (ks : List PositionKind) → Tells h (mode_of mode) ks (content_of a t.entries) (tree_at a g.param_env.node) (tree_at a g.predicate.node) (trees_of a qs) (verdict_at b r)

abbrev pub IsRefuted : Ruling → TypingMode → List Tree → Table → Goal → List GenericArg → Type 0
IsRefuted h mode a t g qs = Refutes h (mode_of mode) (content_of a t.entries) (tree_at a g.param_env.node) (tree_at a g.predicate.node) (trees_of a qs)

-- .. by candidates: their outcomes, and the response that stands for them, or one that tells nothing
abbrev pub HaveOutcomes : Ruling → TypingMode → List Tree → Table → Goal → List GenericArg → List CandidateData → List Verdict → Type 0
HaveOutcomes h mode a t g qs xs vs = Outcomes h (mode_of mode) (content_of a t.entries) (tree_at a g.param_env.node) (tree_at a g.predicate.node) (trees_of a qs) (candidates_of a xs) vs

abbrev pub CandidatesTell : Ruling → TypingMode → List Tree → Table → Goal → List GenericArg → List CandidateData → List Tree → Canonical Response → Type 0
CandidatesTell h mode a t g qs xs b r =
    ((vs : List Verdict) × HaveOutcomes h mode a t g qs xs vs × StandsForAll (trees_of a qs) vs (verdict_at b r))
    ⊎ (is_yes r.value.certainty ≡ false) × IsPlainResponse (content_of a t.entries) (trees_of a qs) (response_at b r)

-- .. by one of them
abbrev pub RepliesWith : Ruling → TypingMode → List Tree → Table → Goal → List GenericArg → CandidateData → List Tree → Canonical Response → Type 0
RepliesWith h mode a t g qs x b r = Replies h (mode_of mode) (content_of a t.entries) (tree_at a g.param_env.node) (tree_at a g.predicate.node) (trees_of a qs) (candidate_of a x) (verdict_at b r)

abbrev pub FailsIn : Ruling → TypingMode → List Tree → Table → Goal → CandidateData → Type 0
FailsIn h mode a t g x = Fails h (mode_of mode) (kind_for h.handler (tree_at a g.predicate.node)) (content_of a t.entries) (tree_at a g.param_env.node) (candidate_of a x)

-- a candidate for a goal was run: it is begun, what is left of it is posed, and then some of the goals that are asked of these were
pub record HasRunTo (h : Ruling) (mode : TypingMode) (a : List Tree) (t : Table) (b : List Tree) (u : Table) (g : Goal) (x : CandidateData) : Type 0 where
  pub left : List Premise
  pub met : Content
  pub begun : Begins h.variances (mode_of mode) (content_of a t.entries) (tree_at a g.param_env.node) (candidate_of a x) met left
  pub goals : List Premise
  pub posed : Content
  pub poses : PosesIn (mode_of mode) (kind_for h.handler (tree_at a g.predicate.node)) met left posed goals
  pub reaches : Reaches h (mode_of mode) (asked_in (mode_of mode) goals) posed (content_of b u.entries)

-- goals of the store a were asked
abbrev pub ReachesBy : Ruling → TypingMode → List Tree → Table → List Tree → Table → List (GoalSource × Goal) → Type 0
ReachesBy h mode a t b u gs = Reaches h (mode_of mode) (goals_at a gs) (content_of a t.entries) (content_of b u.entries)

-- .. those of a candidate for a goal of that kind, which are posed, and of which some are asked
pub record ReachesAsked (h : Ruling) (mode : TypingMode) (k : GoalKind) (a : List Tree) (t : Table) (b : List Tree) (u : Table) (gs : List (GoalSource × Goal)) : Type 0 where
  pub goals : List Premise
  pub posed : Content
  pub poses : PosesIn (mode_of mode) k (content_of a t.entries) (goals_at a gs) posed goals
  pub reaches : Reaches h (mode_of mode) (asked_in (mode_of mode) goals) posed (content_of b u.entries)

abbrev pub RefusesOneOf : Ruling → TypingMode → GoalKind → List Tree → Table → List (GoalSource × Goal) → Type 0
RefusesOneOf h mode k a t gs = RefusesOne h (mode_of mode) k (goals_at a gs) (content_of a t.entries)

pub record RefusesOneAsked (h : Ruling) (mode : TypingMode) (k : GoalKind) (a : List Tree) (t : Table) (gs : List (GoalSource × Goal)) : Type 0 where
  pub goals : List Premise
  pub posed : Content
  pub poses : PosesIn (mode_of mode) k (content_of a t.entries) (goals_at a gs) posed goals
  pub refuses : RefusesOne h (mode_of mode) k (asked_in (mode_of mode) goals) posed
