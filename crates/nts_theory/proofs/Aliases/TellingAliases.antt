-- Trial: what answers rest on, with aliases. `first` is the table of a query at first, and `values` what stands for its positions.
use Rattle.std.specs.Prelude.{◌≡◌, ◌⊎◌, ℕ, Bool, List, [], ◌∷◌, ◌++◌, map}
use Rattle.nts_model.specs.declared.labels.Variance.{Variance}
use Rattle.nts_model.specs.declared.labels.Variance.TheVariants as variance
use Rattle.nts_model.specs.declared.labels.AliasRelationDirection.{AliasRelationDirection}
use Rattle.nts_model.specs.declared.labels.PredicateHead.TheVariants as predicate
use Rattle.nts_model.specs.declared.labels.AliasHead.{AliasHead}
use Rattle.nts_model.specs.declared.labels.VariableKind.{VariableKind}
use Rattle.nts_model.specs.declared.labels.Label.{Label}
use Rattle.nts_model.specs.declared.labels.Label.TheVariants as label
use Rattle.nts_model.specs.Terms.Trees.{Tree, empty, more, node, kind_of}
use Rattle.nts_model.specs.Tables.Contents.{Content}
use Rattle.nts_model.specs.Tables.Resolving.{deeply_resolved, resolved}
use Rattle.nts_model.specs.Tables.Equations.{AreRelated, AreUnrelated}
use Rattle.nts_model.specs.Derivations.Related.{pair, unbound, alias, IsAlias}
use Rattle.nts_model.specs.Lists.{Among}
use Rattle.nts_model.specs.Derivations.Sequents.{Source, inductive, Premise}
use Rattle.nts_model.specs.Derivations.Rules.{Mode, coherence, GoalKind, normalization, other_goal, step_kind, goal_kind, Equation, related, alike, choice, KeepsAliases, statement_of, relating, normalization_goal, variance_of}
use Rattle.nts_model.specs.Derivations.Handlers.{Handler, meaning, Candidate, premise_by}
use Rattle.nts_model.specs.Refutation.Choosing.{Freshens}
use Rattle.nts_model.specs.Refutation.Forcing.{AddsAll}
use Rattle.nts_model.specs.Refutation.Opening.{entered_table, opened_in}
use Rattle.nts_model.specs.Canonical.Inputs.{Input, PositionKind, canonical_of, originals}
use Rattle.nts_model.specs.Terms.Substitutions.{leaf_tree, filled}
use Rattle.nts_model.specs.Answers.Applying.{IsNew}
use Rattle.nts_model.specs.Answers.Responses.{Response, Applies, RefusesResponse}
use Rattle.nts_variance_model.specs.Variances.Relations.{Relating}
use Rattle.nts_variance_model.specs.Variances.Leaving.{Refuses}
use Rattle.nts_theory.specs.Subtyping.{LeavesGoals}

-- new variables in place of the outermost closed aliases of a premise: the table afterwards, and the goals that are added, the premise last
pub data PutsVariables (k : GoalKind) (p : Premise) : Content → Tree → Content → Tree → List Premise → Type 0 where
  put : {c d : Content} {a v : Tree} (w : VariableKind) → IsAlias a → IsNew c d w c.universe v → kind_of v ≡ kind_of a → PutsVariables k p c a d v (choice k p a v ∷ [])
  put_none : {c : Content} → PutsVariables k p c empty c empty []
  put_row : {c d e : Content} {a b s t : Tree} {gs hs : List Premise} → PutsVariables k p c a d b gs → PutsVariables k p d s e t hs → PutsVariables k p c (more a s) e (more b t) (gs ++ hs)
  put_under : {c d : Content} {l : Label} {x y : Tree} {gs : List Premise} → (IsAlias (node l x) → ⊥) → PutsVariables k p c x d y gs → PutsVariables k p c (node l x) d (node l y) gs

pub data AddsGoals (k : GoalKind) : Content → List Premise → Content → List Premise → Type 0 where
  adds_none : {c : Content} → AddsGoals k c [] c []
  adds_as_is : {c d : Content} {p : Premise} {ps gs : List Premise} → KeepsAliases (statement_of p.predicate) → AddsGoals k c ps d gs → AddsGoals k c (p ∷ ps) d (p ∷ gs)
  adds_with : {c d e : Content} {p : Premise} {ps gs hs : List Premise} (u : Tree) → (KeepsAliases (statement_of p.predicate) → ⊥) → PutsVariables k p c p.predicate d u hs → AddsGoals k d ps e gs → AddsGoals k c (p ∷ ps) e (hs ++ record p { predicate = u } ∷ gs)

module _ (h : Handler) (V : ℕ → List Variance) (mode : Mode) (first : List PositionKind → Content) (values : List PositionKind → List Tree) (Goals : List Relating → List Tree → Type 0)
    (IsInputFor : Tree → Tree → Input → Type 0) (SaysOf : Content → List Tree → List Premise → Response → Type 0) (SaysNothing : Response → Type 0) (StandsForAll : List Response → Response → Type 0) where
  -- pair by pair an equation is related, and what is left is added to the goals
  pub data Equates (k : GoalKind) (e : Tree) (vs : List Tree) : Content → List Equation → Content → List Premise → Type 0 where
    equates_none : {c : Content} → Equates k e vs c [] c []
    equates_related : {c d f i : Content} {a b : Tree} {qs : List Equation} {gs hs : List Premise} (owed : List Relating) (left : List Tree) → LeavesGoals V c d (record { variance = variance.Invariant; left = filled vs a; right = filled vs b } ∷ []) owed
        → Goals owed left → AddsGoals k d (map (relating e) left) f gs → Equates k e vs f qs i hs → Equates k e vs c (related a b ∷ qs) i (gs ++ hs)
    equates_alike : {c d i : Content} {a b : Tree} {qs : List Equation} {gs : List Premise} → AreRelated c d (filled vs a) (filled vs b) → Equates k e vs d qs i gs → Equates k e vs c (alike a b ∷ qs) i gs

  pub data FailsToEquate (k : GoalKind) (e : Tree) (vs : List Tree) : Content → List Equation → Type 0 where
    fails_related : {c : Content} {a b : Tree} {qs : List Equation} → Refuses V c (record { variance = variance.Invariant; left = filled vs a; right = filled vs b } ∷ []) → FailsToEquate k e vs c (related a b ∷ qs)
    fails_alike : {c : Content} {a b : Tree} {qs : List Equation} → AreUnrelated c (filled vs a) (filled vs b) → FailsToEquate k e vs c (alike a b ∷ qs)
    fails_later : {c d : Content} {q : Equation} {qs : List Equation} {gs : List Premise} → Equates k e vs c (q ∷ []) d gs → FailsToEquate k e vs d qs → FailsToEquate k e vs c (q ∷ qs)

  -- a candidate is begun: the goals that are added are those of its equations, and its own
  pub record IsBegun (k : GoalKind) (e : Tree) (c : Content) (x : Candidate) (vs : List Tree) (met : Content) (gs : List Premise) : Type 0 where
    pub made : Content
    pub equal : Content
    pub held : Content
    pub of_equations : List Premise
    pub own : List Premise
    pub freshens : Freshens c.universe x.fresh vs c made
    pub equates : Equates k e vs made x.equations equal of_equations
    pub adds : AddsAll vs x.constraints equal held
    pub added : AddsGoals k held (map (premise_by (filled vs)) x.goals) met own
    pub are : gs ≡ of_equations ++ own

  -- the sides of AliasRelate: each that is an alias gets a variable, and a goal that normalizes it
  pub data Normalizes (e : Tree) : Content → Tree → Content → Tree → List Premise → Type 0 where
    is_itself : {c : Content} {a : Tree} → (IsAlias a → ⊥) → Normalizes e c a c a []
    to_variable : {c d : Content} {a v : Tree} (w : VariableKind) (x : IsAlias a) → IsNew c d w c.universe v → kind_of v ≡ kind_of a → Normalizes e c a d v (relating e (normalization_goal x.head x.parts v) ∷ [])

  -- what is related, under a table, of two terms by a direction: the two; or the arguments of two aliases of one head; or a variable is made an
  -- alias of the head over new arguments first
  pub data RelatesResults (e : Tree) : Variance → Content → Tree → Tree → Content → List Premise → Type 0 where
    as_trees : {v : Variance} {c d f : Content} {a b : Tree} {gs : List Premise} (owed : List Relating) (left : List Tree) → (IsAlias (resolved c a) → ⊥) → (IsAlias (resolved c b) → ⊥)
        → LeavesGoals V c d (record { variance = v; left = a; right = b } ∷ []) owed → Goals owed left → AddsGoals other_goal d (map (relating e) left) f gs → RelatesResults e v c a b f gs
    as_aliases : {v : Variance} {c d f : Content} {a b : Tree} {gs : List Premise} (i : AliasHead) (ts us : Tree) (pairs owed : List Relating) (left : List Tree) → resolved c a ≡ alias i ts → resolved c b ≡ alias i us
        → LeavesGoals V c d pairs owed → Goals owed left → AddsGoals other_goal d (map (relating e) left) f gs → RelatesResults e v c a b f gs
    after_equating : {v : Variance} {c d i : Content} {a b : Tree} {gs : List Premise} (x t : Tree) → AreRelated c d x t → RelatesResults e v d a b i gs → RelatesResults e v c a b i gs

  mutual
    pub data Tells : Content → Tree → Tree → List Tree → Response → Type 0 where
      tells_nothing : {c : Content} {e g : Tree} {qs : List Tree} {r : Response} (d : Content) → (d ≡ c) ⊎ (d ≡ entered_table c g) → SaysOf d qs [] r → Tells c e g qs r
      says_nothing : {c : Content} {e g : Tree} {qs : List Tree} {r : Response} → SaysNothing r → Tells c e g qs r
      tells_one : {c : Content} {e g : Tree} {qs : List Tree} {r : Response} (rs : List Response) → Outcomes (entered_table c g) e (opened_in c g) qs (h.offers mode e (opened_in c g)) rs → StandsForAll rs r → Tells c e g qs r
      -- a goal of the engine that relates: it was run to a table, which says what it found, with no goal left open
      tells_run : {c : Content} {e g : Tree} {qs : List Tree} {r : Response} (found : Content) (left : List Premise) → RunsTo (entered_table c g) e (opened_in c g) found left → SaysOf found qs [] r → Tells c e g qs r

    pub data Refutes : Content → Tree → Tree → Type 0 where
      all_fail : {c : Content} {e g : Tree} (qs : List Tree) → Outcomes (entered_table c g) e (opened_in c g) qs (h.offers mode e (opened_in c g)) [] → Refutes c e g
      run_fails : {c : Content} {e g : Tree} → FailsToRun (entered_table c g) e (opened_in c g) → Refutes c e g

    -- Subtype, Coerce and AliasRelate goals
    pub data RunsTo : Content → Tree → Tree → Content → List Premise → Type 0 where
      by_relating : {c d f : Content} {e : Tree} {gs hs : List Premise} (x : Bool) (a b : Tree) → RelatesResults e variance.Covariant c a b d gs → Reaches other_goal d gs f hs → RunsTo c e (unbound (node (label.Predicate (predicate.Subtype x)) (pair a b))) f hs
      by_coercing : {c d f : Content} {e : Tree} {gs hs : List Premise} (a b : Tree) → RelatesResults e variance.Covariant c a b d gs → Reaches other_goal d gs f hs → RunsTo c e (unbound (node (label.Predicate predicate.Coerce) (pair a b))) f hs
      by_normalizing : {c d i j k f : Content} {e : Tree} {gs hs ls rs us : List Premise} (o : AliasRelationDirection) (a b r s : Tree) → Normalizes e c a d r gs → Normalizes e d b i s hs → Reaches other_goal i (gs ++ hs) j ls
          → RelatesResults e (variance_of o) j r s k rs → Reaches other_goal k (ls ++ rs) f us → RunsTo c e (unbound (node (label.Predicate (predicate.AliasRelate o)) (pair a b))) f us

    pub data FailsToRun : Content → Tree → Tree → Type 0 where
      sides_refused : {c : Content} {e : Tree} (x : Bool) (a b : Tree) → Refuses V c (record { variance = variance.Covariant; left = a; right = b } ∷ []) → FailsToRun c e (unbound (node (label.Predicate (predicate.Subtype x)) (pair a b)))
      normal_refused : {c d i : Content} {e : Tree} {gs hs : List Premise} (o : AliasRelationDirection) (a b r s : Tree) → Normalizes e c a d r gs → Normalizes e d b i s hs → RefusesOne other_goal i (gs ++ hs) → FailsToRun c e (unbound (node (label.Predicate (predicate.AliasRelate o)) (pair a b)))
      results_refused : {c d i j : Content} {e : Tree} {gs hs ls : List Premise} (o : AliasRelationDirection) (a b r s : Tree) → Normalizes e c a d r gs → Normalizes e d b i s hs → Reaches other_goal i (gs ++ hs) j ls
          → Refuses V j (record { variance = variance_of o; left = r; right = s } ∷ []) → FailsToRun c e (unbound (node (label.Predicate (predicate.AliasRelate o)) (pair a b)))
      goal_refused : {c d i j k : Content} {e : Tree} {gs hs ls rs : List Premise} (o : AliasRelationDirection) (a b r s : Tree) → Normalizes e c a d r gs → Normalizes e d b i s hs → Reaches other_goal i (gs ++ hs) j ls
          → RelatesResults e (variance_of o) j r s k rs → RefusesOne other_goal k (ls ++ rs) → FailsToRun c e (unbound (node (label.Predicate (predicate.AliasRelate o)) (pair a b)))

    pub data Outcomes : Content → Tree → Tree → List Tree → List Candidate → List Response → Type 0 where
      no_outcome : {c : Content} {e g : Tree} {qs : List Tree} → Outcomes c e g qs [] []
      then_fails : {c : Content} {e g : Tree} {qs : List Tree} {xs : List Candidate} {rs : List Response} {x : Candidate} → Outcomes c e g qs xs rs → Fails c e g x → Outcomes c e g qs (xs ++ x ∷ []) rs
      then_replies : {c : Content} {e g : Tree} {qs : List Tree} {xs : List Candidate} {rs : List Response} {x : Candidate} {r : Response} → Outcomes c e g qs xs rs → Replies c e g qs x r → Outcomes c e g qs (xs ++ x ∷ []) (rs ++ r ∷ [])

    -- goals are left open by a goal that normalizes an alias alone
    pub data Replies : Content → Tree → Tree → List Tree → Candidate → Response → Type 0 where
      replies : {c : Content} {e g : Tree} {qs : List Tree} {x : Candidate} {r : Response} (k : GoalKind) (vs : List Tree) (met found : Content) (gs hs : List Premise) → k ≡ goal_kind (meaning h V) g → IsBegun k e c x vs met gs → Reaches k met gs found hs
          → (k ≡ normalization) × SaysOf found qs hs r ⊎ SaysOf found qs [] r ⊎ SaysOf c qs [] r → Replies c e g qs x r

    pub data Fails : Content → Tree → Tree → Candidate → Type 0 where
      is_unmet : {c made : Content} {e g : Tree} {x : Candidate} (k : GoalKind) (vs : List Tree) → k ≡ goal_kind (meaning h V) g → Freshens c.universe x.fresh vs c made → FailsToEquate k e vs made x.equations → Fails c e g x
      is_refused : {c : Content} {e g : Tree} {x : Candidate} (k : GoalKind) (vs : List Tree) (met : Content) (gs : List Premise) → k ≡ goal_kind (meaning h V) g → IsBegun k e c x vs met gs → RefusesOne k met gs → Fails c e g x

    -- some of the goals were asked; those that are left open by one that normalizes an alias join the goals
    pub data Reaches : GoalKind → Content → List Premise → Content → List Premise → Type 0 where
      asks_nothing : {k : GoalKind} {c : Content} {gs : List Premise} → Reaches k c gs c gs
      then_asks : {k : GoalKind} {c e : Content} {gs hs : List Premise} (d : Content) (p : Premise) → Reaches k c gs d hs → Among hs p → Asked d e (deeply_resolved d p.environment) (deeply_resolved d p.predicate) [] → Reaches k c gs e hs
      then_normalizes : {k : GoalKind} {c d e f i : Content} {gs hs os : List Premise} (s : Source) (w : VariableKind) (u : AliasHead) (env ts v x : Tree) → Reaches k c gs d hs → Among hs (record { source = s; environment = env; predicate = normalization_goal u ts v })
          → IsNew d e w d.universe x → kind_of x ≡ kind_of v → Asked e f (deeply_resolved d env) (deeply_resolved d (normalization_goal u ts x)) os → AreRelated f i v x → Reaches k c gs i (hs ++ os)

    pub data RefusesOne : GoalKind → Content → List Premise → Type 0 where
      refuses_one : {k : GoalKind} {c : Content} {gs hs : List Premise} (d : Content) (p : Premise) → Reaches k c gs d hs → Among hs p → Refused d (deeply_resolved d p.environment) (deeply_resolved d p.predicate) → RefusesOne k c gs
      cuts_one : {k : GoalKind} {c : Content} {gs hs : List Premise} (d : Content) (p : Premise) → Reaches k c gs d hs → Among hs p → step_kind k p.source ≡ inductive → (mode ≡ coherence → ⊥) → RefusesOne k c gs
      refuses_normal : {k : GoalKind} {c d e : Content} {gs hs : List Premise} (s : Source) (w : VariableKind) (u : AliasHead) (env ts v x : Tree) → Reaches k c gs d hs → Among hs (record { source = s; environment = env; predicate = normalization_goal u ts v })
          → IsNew d e w d.universe x → kind_of x ≡ kind_of v → Refused e (deeply_resolved d env) (deeply_resolved d (normalization_goal u ts x)) → RefusesOne k c gs
      unequal : {k : GoalKind} {c d e f : Content} {gs hs os : List Premise} (s : Source) (w : VariableKind) (u : AliasHead) (env ts v x : Tree) → Reaches k c gs d hs → Among hs (record { source = s; environment = env; predicate = normalization_goal u ts v })
          → IsNew d e w d.universe x → kind_of x ≡ kind_of v → Asked e f (deeply_resolved d env) (deeply_resolved d (normalization_goal u ts x)) os → AreUnrelated f v x → RefusesOne k c gs

    pub data Asked : Content → Content → Tree → Tree → List Premise → Type 0 where
      asked_by : {c d : Content} {e g : Tree} (i : Input) (r : Response) → IsInputFor e g i → Tells (first (canonical_of i).kinds) (filled (values (canonical_of i).kinds) (canonical_of i).environment) (filled (values (canonical_of i).kinds) (canonical_of i).predicate) (values (canonical_of i).kinds) r
          → (a : Applies c d (map leaf_tree (originals i)) r) → Asked c d e g (map (premise_by (filled a.chosen)) r.findings.open_goals)

    pub data Refused : Content → Tree → Tree → Type 0 where
      by_query : {c : Content} {e g : Tree} (i : Input) → IsInputFor e g i → Refutes (first (canonical_of i).kinds) (filled (values (canonical_of i).kinds) (canonical_of i).environment) (filled (values (canonical_of i).kinds) (canonical_of i).predicate) → Refused c e g
      by_response : {c : Content} {e g : Tree} (i : Input) (r : Response) → IsInputFor e g i → Tells (first (canonical_of i).kinds) (filled (values (canonical_of i).kinds) (canonical_of i).environment) (filled (values (canonical_of i).kinds) (canonical_of i).predicate) (values (canonical_of i).kinds) r
          → RefusesResponse c (map leaf_tree (originals i)) r → Refused c e g
