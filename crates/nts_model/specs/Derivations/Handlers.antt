-- What a handler means, the candidates that it offers, and the laws that it keeps.
use Rattle.std.specs.Prelude.{◌≡◌, ◌⊎◌, ℕ, Bool, true, false, IsTrue, List, [], ◌∷◌, Option, Some, None, map, slice_get}
use Rattle.nts_model.specs.declared.labels.Sort.{Sort}
use Rattle.nts_model.specs.declared.labels.Sort.TheVariants as sort
use Rattle.nts_model.specs.declared.labels.Variance.{Variance}
use Rattle.nts_model.specs.declared.labels.VariableKind.{VariableKind}
use Rattle.nts_model.specs.declared.labels.VariableKind.TheVariants as kind
use Rattle.nts_model.specs.declared.labels.Leaf.{Leaf}
use Rattle.nts_model.specs.declared.labels.Leaf.TheVariants as leaf
use Rattle.nts_model.specs.declared.labels.PredicateHead.TheVariants as predicate
use Rattle.nts_model.specs.declared.labels.Label.{Label}
use Rattle.nts_model.specs.declared.labels.Label.TheVariants as label
use Rattle.nts_model.specs.Terms.Trees.{Tree, empty, more, node, kind_of_label, of_sort, NodeKind, any_label, is_canonical, is_infer, IsClosed, IsFormed}
use Rattle.nts_model.specs.Terms.Scoping.{IsWellBound}
use Rattle.nts_model.specs.Terms.Fitting.{Fits}
use Rattle.nts_model.specs.Tables.Contents.{Content}
use Rattle.nts_model.specs.Tables.Recording.{ConstrainsRegion}
use Rattle.nts_model.specs.Terms.Substitutions.{Occurs, StaysItself, Instance, instance_of, Renaming, rename, IsPlain, filled_under, position_of}
use Rattle.nts_model.specs.Derivations.Related.{Constraint, pair, unbound}
use Rattle.nts_model.specs.Lists.{Among}
use Rattle.nts_model.specs.Derivations.Sequents.{Source, misc, normalize_goal, Premise, Hidden, Sequent, HasClosedStatements}
use Rattle.nts_model.specs.Derivations.Rules.{Mode, Equation, related, alike, Application, Meaning, meaning_of, statement_of, IsHandlers}
use Rattle.nts_model.specs.Derivations.Proofs.{HasProof}

-- why an answer is not certain
pub data Cause : Type 0 where
  ambiguity : Cause
  overflow : (suggests_limit keeps_constraints : Bool) → Cause

-- how sure an answer is
pub data Certainty : Type 0 where
  certain : Certainty
  perhaps : Cause → (may_be_error : Bool) → Certainty

-- when a goal is asked again, since its answer rests on hidden types
pub data Access : Type 0 where
  never always any_infer : Access
  in_storage in_storage_or_infer : List ℕ → Access

-- a way in which a goal may hold. Its terms name its fresh variables as canonical bound variables
pub record Candidate : Type 0 where
  pub fresh : List Sort
  pub equations : List Equation
  pub constraints : List Constraint
  pub hidden : List Hidden
  pub goals : List Premise
  pub certainty : Certainty
  pub accesses : Access

-- what changes where the trees do
abbrev pub equation_by : (Tree → Tree) → Equation → Equation
equation_by f (related a b) = related (f a) (f b)
equation_by f (alike a b) = alike (f a) (f b)

abbrev pub constraint_by : (Tree → Tree) → Constraint → Constraint
constraint_by f x = record { relation = x.relation; left = f x.left; right = f x.right }

abbrev pub hidden_by : (Tree → Tree) → Hidden → Hidden
hidden_by f h = record { key = f h.key; hidden_type = f h.hidden_type }

abbrev pub premise_by : (Tree → Tree) → Premise → Premise
premise_by f p = record { source = p.source; environment = f p.environment; predicate = f p.predicate }

-- closed terms that fit variables of these sorts
abbrev pub kind_of_sort : Sort → VariableKind
kind_of_sort sort.Ty = kind.Ty
kind_of_sort sort.Region = kind.Region
kind_of_sort sort.Const = kind.Const

pub record IsValueOfSort (s : Sort) (v : Tree) : Type 0 where
  pub fits : Fits (kind_of_sort s) v
  pub formed : IsFormed v
  pub closed : IsClosed v

abbrev pub AreValuesOf : List Sort → List Tree → Type 0
AreValuesOf [] [] = Unit {0}
AreValuesOf (s ∷ ss) (v ∷ vs) = IsValueOfSort s v × AreValuesOf ss vs
AreValuesOf ss vs = ⊥

-- the use of a candidate for an instance of a goal, where its fresh variables have these values
abbrev pub use_of : Candidate → Tree → Tree → Instance → List Tree → Application
use_of c e g ι vs =
    record {
      environment = instance_of ι e;
      conclusion = instance_of ι g;
      values = vs;
      equations = map (equation_by (filled_under ι.value vs)) c.equations;
      goals = map (premise_by (filled_under ι.value vs)) c.goals;
      constraints = map (constraint_by (filled_under ι.value vs)) c.constraints;
      hidden = map (hidden_by (filled_under ι.value vs)) c.hidden;
    }

-- an instance of a candidate for a goal: values for its fresh variables
pub record IsInstanceFor (c : Candidate) (e g : Tree) (ι : Instance) (a : Application) : Type 0 where
  pub values : AreValuesOf c.fresh a.values
  pub same : a ≡ use_of c e g ι a.values

-- an instance of a use of a clause
abbrev pub application_under : Instance → Application → Application
application_under ι a =
    record {
      environment = instance_of ι a.environment;
      conclusion = instance_of ι a.conclusion;
      values = map (instance_of ι) a.values;
      equations = map (equation_by (instance_of ι)) a.equations;
      goals = map (premise_by (instance_of ι)) a.goals;
      constraints = map (constraint_by (instance_of ι)) a.constraints;
      hidden = map (hidden_by (instance_of ι)) a.hidden;
    }

-- a candidate whose leaves are renamed
abbrev pub renamed_candidate : Renaming → Candidate → Candidate
renamed_candidate ρ c =
    record c {
      equations = map (equation_by (rename ρ)) c.equations;
      constraints = map (constraint_by (rename ρ)) c.constraints;
      hidden = map (hidden_by (rename ρ)) c.hidden;
      goals = map (premise_by (rename ρ)) c.goals;
    }

-- what a handler judges of goals of the engine's own kinds: of which traits objects can be made, which unstable features an
-- environment allows, as what it evaluates a const there, and the predicates by which a term is well formed there, if it says so
pub record Judgements : Type 0 where
  pub is_dyn_compatible : ℕ → Bool
  pub allows : Tree → ℕ → Bool
  pub evaluates : Tree → Tree → Option Tree
  pub well_formed : Tree → Tree → Option (List Tree)

-- it judges nothing
abbrev pub no_judgements : Judgements
no_judgements = record { is_dyn_compatible = λ i. false; allows = λ e f. false; evaluates = λ e c. None; well_formed = λ e t. None }

-- it evaluates a const
abbrev pub IsEvaluated : Judgements → Tree → Tree → Type 0
IsEvaluated j e c = (v : Tree) × (j.evaluates e c ≡ Some v)

-- predicates that are to hold in an environment, as goals
abbrev pub goals_in : Tree → Option (List Tree) → Option (List Premise)
goals_in e None = None
goals_in e (Some ps) = Some (map (λ p. record { source = misc; environment = e; predicate = p }) ps)

-- what a handler means: its rules, what it offers for a goal in an environment, in order, its coinductive traits, the tables
-- of which its leak check may say that their region constraints can't be met by what a universe names, what it judges, and what it
-- may answer of a goal in an environment at once, by its fast path
pub record Handler : Type 1 where
  pub applies : Mode → Application → Type 0
  pub offers : Mode → Tree → Tree → List Candidate
  pub is_coinductive : ℕ → Bool
  pub leaks : Content → ℕ → Type 0
  pub judges : Judgements
  pub at_once : Tree → Tree → Certainty → Type 0

-- no table is called leaky
abbrev pub never_leaks : Content → ℕ → Type 0
never_leaks c u = ⊥

-- no goal is answered at once
abbrev pub never_at_once : Tree → Tree → Certainty → Type 0
never_at_once e g c = ⊥

-- what a handler means where constructors have declared variances
abbrev pub meaning : Handler → (ℕ → List Variance) → Meaning
meaning h variances =
    record (meaning_of h.applies h.is_coinductive variances) {
      is_dyn_compatible = (let j = h.judges in j.is_dyn_compatible);
      allows = (let j = h.judges in j.allows);
      evaluates = IsEvaluated h.judges;
      well_formed_goals = λ e t. (let j = h.judges in goals_in e (j.well_formed e t));
    }

-- no trait is coinductive
abbrev pub HasNoCoinductiveTrait : Handler → Type 0
HasNoCoinductiveTrait h = (i : ℕ) → h.is_coinductive i ≡ false

-- the leak check never says anything
abbrev pub HasNoLeaks : Handler → Type 0
HasNoLeaks h = (c : Content) (u : ℕ) → h.leaks c u → ⊥

-- the goals that a handler is asked: closed terms without positions, that bind nothing, of the kinds that it answers.
-- What is said is closed by itself: it names no variable of the binder that binds nothing. So are the statements of the
-- environment. Each bound variable is of the list of its binder
pub record IsAsked (e g : Tree) : Type 0 where
  pub statement : Tree
  pub binds_nothing : g ≡ unbound statement
  pub handlers : IsHandlers statement
  pub formed : IsFormed (pair e g)
  pub closed : IsClosed (pair e statement)
  pub no_positions : any_label is_canonical (pair e g) ≡ false
  pub well_bound : IsWellBound (pair e g)
  pub statements : HasClosedStatements e

-- candidates are a function of mode and goal, and commute with plain renaming
pub record CandidatesCommute (h : Handler) : Type 0 where
  pub renaming : (mode : Mode) (e g : Tree) (ρ : Renaming) → IsPlain ρ → IsAsked e g
      → h.offers mode (rename ρ e) (rename ρ g) ≡ map (renamed_candidate ρ) (h.offers mode e g)

-- instances of a certain candidate are rules, and rules are closed under instances
pub record InstancesAreRules (h : Handler) : Type 0 where
  pub instances : (mode : Mode) (e g : Tree) (c : Candidate) (ι : Instance) (a : Application)
      → IsAsked e g → Among (h.offers mode e g) c → c.certainty ≡ certain → IsInstanceFor c e g ι a → h.applies mode a
  pub closed : (mode : Mode) (a : Application) (ι : Instance) → h.applies mode a → h.applies mode (application_under ι a)

-- a position that is named is one of the fresh variables, of its sort
abbrev pub IsOfSort : Option Sort → NodeKind → Type 0
IsOfSort None k = ⊥
IsOfSort (Some s) k = k ≡ of_sort s

abbrev pub NamesAt : List Sort → Option ℕ → Label → Type 0
NamesAt fresh None l = Unit {0}
NamesAt fresh (Some i) l = IsOfSort (slice_get fresh i) (kind_of_label l)

abbrev pub NamesFresh : List Sort → Tree → Type 0
NamesFresh fresh empty = Unit {0}
NamesFresh fresh (more a b) = NamesFresh fresh a × NamesFresh fresh b
NamesFresh fresh (node l c) = NamesAt fresh (position_of l) l × NamesFresh fresh c

-- a region that stays itself
abbrev pub IsFixed : Leaf → Type 0
IsFixed (leaf.Region r) = StaysItself r
IsFixed l = ⊥

-- a closed term over the fresh variables and the goal: it has no other leaves than the goal, but for regions that
-- stay themselves, and each bound variable is of the list of its binder
pub record IsOver (fresh : List Sort) (e g t : Tree) : Type 0 where
  pub names : NamesFresh fresh t
  pub leaves : (l : Leaf) → Occurs l t → Occurs l (pair e g) ⊎ IsFixed l
  pub formed : IsFormed t
  pub closed : IsClosed t
  pub well_bound : IsWellBound t

abbrev pub IsEquationOver : List Sort → Tree → Tree → Equation → Type 0
IsEquationOver fresh e g (related a b) = IsOver fresh e g a × IsOver fresh e g b
IsEquationOver fresh e g (alike a b) = IsOver fresh e g a × IsOver fresh e g b

-- goals that a handler may ask for
abbrev pub IsEmitted : Tree → Type 0
IsEmitted (node (label.Predicate (predicate.NormalizesTo i)) ts) = ⊥
IsEmitted (node (label.Predicate predicate.ConstEquate) ts) = ⊥
IsEmitted t = Unit {0}

abbrev pub IsHandlersSource : Source → Type 0
IsHandlersSource (normalize_goal k) = ⊥
IsHandlersSource s = Unit {0}

-- a goal of a candidate: in the same environment
pub record IsNested (fresh : List Sort) (e g : Tree) (q : Premise) : Type 0 where
  pub environment : q.environment ≡ e
  pub predicate : IsOver fresh e g q.predicate
  pub emitted : IsEmitted (statement_of q.predicate)
  pub source : IsHandlersSource q.source

-- candidates keep the environment, and have no foreign leaves, sorts or sources
pub record IsCandidateFor (e g : Tree) (c : Candidate) : Type 0 where
  pub equations : (q : Equation) → Among c.equations q → IsEquationOver c.fresh e g q
  pub constraints : (x : Constraint) → Among c.constraints x → IsOver c.fresh e g x.left × IsOver c.fresh e g x.right
  pub constrains : (x : Constraint) → Among c.constraints x → ConstrainsRegion x.relation x.left x.right
  pub goals : (q : Premise) → Among c.goals q → IsNested c.fresh e g q
  -- until hidden types exist there are none
  pub no_hidden : c.hidden ≡ []
  pub no_access : c.accesses ≡ never

pub record CandidatesKeep (h : Handler) : Type 0 where
  pub each : (mode : Mode) (e g : Tree) (c : Candidate) → IsAsked e g → Among (h.offers mode e g) c → IsCandidateFor e g c

-- no premise of a rule has the source of a goal that normalizes an alias: only the engine asks for such, by AliasRelate goals
pub record RulesHaveSources (h : Handler) : Type 0 where
  pub each : (mode : Mode) (a : Application) (q : Premise) → h.applies mode a → Among a.goals q → IsHandlersSource q.source

-- what a handler judges is so of each instance; the predicates that it gives for a term have no leaves but the term's and the
-- environment's, and are of kinds that it may ask for
pub record JudgementsAreKept (h : Handler) : Type 0 where
  pub allows : (e : Tree) (f : ℕ) (ι : Instance) → IsFormed e → (let j = h.judges in IsTrue (j.allows e f) → IsTrue (j.allows (instance_of ι e) f))
  pub evaluates : (e c v : Tree) (ι : Instance) → IsFormed (pair e c) → (let j = h.judges in j.evaluates e c ≡ Some v → j.evaluates (instance_of ι e) (instance_of ι c) ≡ Some (instance_of ι v))
  pub well_formed : (e t : Tree) (ps : List Tree) (ι : Instance) → IsFormed (pair e t) → (let j = h.judges in j.well_formed e t ≡ Some ps → j.well_formed (instance_of ι e) (instance_of ι t) ≡ Some (map (instance_of ι) ps))
  pub goals : (e t : Tree) (ps : List Tree) (p : Tree) → IsFormed (pair e t) → (let j = h.judges in j.well_formed e t ≡ Some ps → Among ps p → IsOver [] e t p × IsEmitted (statement_of p))

-- a goal that rests on nothing
abbrev pub alone : Tree → Tree → Sequent
alone e g = record { environment = e; predicate = g; constraints = []; hidden = []; open_goals = [] }

-- what is answered yes at once has a proof that rests on nothing, in every mode; and only goals with a variable of a type, a number
-- or a const are answered at once that they are in doubt
pub record FastAnswersHold (h : Handler) : Type 0 where
  pub proved : (mode : Mode) (variances : ℕ → List Variance) (e g : Tree) → IsAsked e g → h.at_once e g certain → HasProof (meaning h variances) mode (alone e g)
  pub doubted : (e g : Tree) (why : Cause) (may_be_error : Bool) → IsAsked e g → h.at_once e g (perhaps why may_be_error) → any_label is_infer (pair e g) ≡ true

-- a handler that keeps the laws, which its sets being fixed is one of: they are functions
pub record IsLawfulHandler (h : Handler) : Type 0 where
  pub commute : CandidatesCommute h
  pub rules : InstancesAreRules h
  pub sources : RulesHaveSources h
  pub keep : CandidatesKeep h
  pub judges : JudgementsAreKept h
  pub at_once : FastAnswersHold h
