-- What the answers to goals rest on: the candidates of a goal, each tried to its end, and below them the goals that they ask
-- for, each in a query of its own. A cycle is answered what an earlier round of its head found, which is told likewise, or nothing.
use Rattle.std.specs.Prelude.{◌≡◌, ◌⊎◌, ◌↔◌, ℕ, ◌+◌, ◌≤◌, Bool, true, false, List, [], ◌∷◌, ◌++◌, map, length, get_or, Some}
use Rattle.nts_model.specs.declared.labels.Sort.{Sort}
use Rattle.nts_model.specs.declared.labels.VariableKind.TheVariants as variable
use Rattle.nts_model.specs.declared.labels.Variance.{Variance}
use Rattle.nts_model.specs.declared.labels.Leaf.{Leaf}
use Rattle.nts_model.specs.declared.labels.Leaf.TheVariants as leaf
use Rattle.nts_model.specs.declared.labels.ClauseHead.TheVariants as clause
use Rattle.nts_model.specs.declared.labels.PredicateHead.TheVariants as predicate
use Rattle.nts_model.specs.declared.labels.Label.{Label}
use Rattle.nts_model.specs.declared.labels.Label.TheVariants as label
use Rattle.nts_model.specs.Terms.Trees.{Tree, empty, node, label_of, any_label, is_alias, IsFormed}
use Rattle.nts_model.specs.Tables.Contents.{Content}
use Rattle.nts_model.specs.Tables.Resolving.{Knows, IsSound, deeply_resolved}
use Rattle.nts_model.specs.Tables.Levels.{AreCurrent}
use Rattle.nts_model.specs.Tables.Passing.{BringsOnly}
use Rattle.nts_model.specs.Tables.SubUnifying.{SharesSubRoot}
use Rattle.nts_model.specs.Tables.Recording.{resolved_constraints, AreNews}
use Rattle.nts_model.specs.Derivations.Related.{Constraint, pair}
use Rattle.nts_model.specs.Lists.{Among}
use Rattle.nts_model.specs.Derivations.Sequents.{inductive, Premise}
use Rattle.nts_model.specs.Derivations.Rules.{Mode, GoalKind, other_goal, statement_kind, step_kind, statement_of}
use Rattle.nts_model.specs.Terms.Substitutions.{leaf_tree, filled}
use Rattle.nts_model.specs.Canonical.Numbered.{position}
use Rattle.nts_model.specs.Derivations.Handlers.{Handler, Candidate, IsAsked}
use Rattle.nts_model.specs.Refutation.Choosing.{IsCandidateMet}
use Rattle.nts_model.specs.Refutation.Forcing.{Adds}
use Rattle.nts_model.specs.Refutation.Opening.{entered_table, opened_in, placeholder_in}
use Rattle.nts_model.specs.Searching.Driving.{unconstrained}
use Rattle.nts_model.specs.Canonical.Inputs.{Input, IsInput, CanonicalInput, PositionKind, type_variable, integer_variable, float_variable, const_variable, region_variable, placeholder, canonical_of, originals}
use Rattle.nts_model.specs.Answers.Applying.{IsProperContent}
use Rattle.nts_model.specs.Derivations.Proving.{HoldsTerms, AreConstraintsOf}
use Rattle.nts_theory.specs.Affirming.{SaysAffirmed, IsDenied, HasOwnWay}
use Rattle.nts_theory.specs.Outliving.{IsOutlives}
use Rattle.nts_theory.specs.Subtyping.{LeavesPremises, IsNoSubtype}
use Rattle.nts_theory.specs.Aliasing.{SaysEqual, NormalizesSides, NormalizesLesser, IsLesserGoal}
use Rattle.nts_theory.specs.AskedGoals.{asked_in}
use Rattle.nts_theory.specs.Posing.{PosesIn}
use Rattle.nts_theory.specs.RelatingCandidates.{IsCutIn, HasPlainEquations, plain_part, Begins, IsUnrelated, HasTypesApart}
use Rattle.nts_model.specs.Answers.Responses.{Findings, AreFindings, Response, response_of, IsResponseTo, Applies, RefusesResponse}

-- a response, and whether it is certain
pub record Verdict : Type 0 where
  pub response : Response
  pub is_yes : Bool

-- the table of a query at first, where its input has these kinds, and what stands for the positions there; and the variances that are
-- declared for the parameters of types
pub record Queries : Type 0 where
  pub table : List PositionKind → Content
  pub values : List PositionKind → List Tree
  pub variances : ℕ → List Variance

-- these are the sub roots of a table: two variables have one exactly if they are of one class
abbrev pub AreClassesOf : Content → (ℕ → ℕ) → Type 0
AreClassesOf c root = (n m : ℕ) → (root n ≡ root m) ↔ SharesSubRoot c n m

-- a goal of a table as the input of a query: the table tells no hidden types
pub record IsInputFor (c : Content) (e g : Tree) (i : Input) : Type 0 where
  pub environment : i.environment ≡ e
  pub predicate : i.predicate ≡ g
  pub hidden : i.hidden ≡ empty
  pub classes : AreClassesOf c i.sub_root
  pub proper : IsInput i

-- a table without its region constraints
abbrev pub without_constraints : Content → Content
without_constraints c = record c { constraints = [] }

-- the response says what the table found out of these trees, and of the classes of its variables; the region constraints in the
-- order of recording, each once and none that is trivial, visible for the leak check as it was recorded first
pub record IsResponseOf (found : Content) (qs : List Tree) (r : Response) : Type 0 where
  pub roots : ℕ → ℕ
  pub classes : AreClassesOf found roots
  pub findings : Findings
  pub reads : AreFindings found qs findings
  pub news : AreNews (resolved_constraints found) findings.constraints
  pub no_hidden : findings.hidden ≡ []
  pub no_goals : findings.open_goals ≡ []
  pub is : r ≡ response_of found roots 0 findings

-- .. of a table that keeps its region constraints to itself
abbrev pub IsPlainResponse : Content → List Tree → Response → Type 0
IsPlainResponse c qs r = IsResponseOf (without_constraints c) qs r

-- a response that says nothing to an input of these kinds: its positions are the input's, and its values are these, in order
abbrev pub SaysNothing : List PositionKind → Response → Type 0
SaysNothing ks r = r ≡ record (unconstrained ks) { max_universe = r.max_universe }

-- a response of which each value is the position with its number
pub record IsIdentityAnswer (r : Response) : Type 0 where
  pub values : (let x = r.findings in (i : ℕ) → i + 1 ≤ length x.values → (s : Sort) × (get_or x.values i empty ≡ position s i))
  pub constraints : (let x = r.findings in x.constraints ≡ [])
  pub hidden : (let x = r.findings in x.hidden ≡ [])
  pub open_goals : (let x = r.findings in x.open_goals ≡ [])

-- the leaf may stand for a position of this kind: a variable of that kind, or the placeholder
abbrev pub IsLeafOfKind : PositionKind → Leaf → Type 0
IsLeafOfKind (type_variable u r) l = (n : ℕ) × (l ≡ leaf.Variable variable.Ty n)
IsLeafOfKind integer_variable l = (n : ℕ) × (l ≡ leaf.Variable variable.Int n)
IsLeafOfKind float_variable l = (n : ℕ) × (l ≡ leaf.Variable variable.Float n)
IsLeafOfKind (const_variable u) l = (n : ℕ) × (l ≡ leaf.Variable variable.Const n)
IsLeafOfKind (region_variable u) l = (n : ℕ) × (l ≡ leaf.Variable variable.Region n)
IsLeafOfKind (placeholder s u n) l = l ≡ placeholder_in u s n

abbrev pub IsLabelOfKind : PositionKind → Label → Type 0
IsLabelOfKind k l = (x : Leaf) × (l ≡ label.Leaf x) × IsLeafOfKind k x

abbrev pub IsTermOfKind : PositionKind → Tree → Type 0
IsTermOfKind k t = (l : Label) × (label_of t ≡ Some l) × IsLabelOfKind k l

-- terms that stand for positions of these kinds, one for each
abbrev pub AreTermsOfKinds : List PositionKind → List Tree → Type 0
AreTermsOfKinds [] [] = Unit {0}
AreTermsOfKinds (k ∷ ks) (t ∷ ts) = IsTermOfKind k t × AreTermsOfKinds ks ts
AreTermsOfKinds ks ts = ⊥

-- a certain verdict that changes nothing, where these terms stand for the positions: it says no more of them than that they are
-- variables of their kinds, or placeholders
pub record ChangesNothing (qs : List Tree) (v : Verdict) : Type 0 where
  pub certain : v.is_yes ≡ true
  pub same : IsIdentityAnswer v.response
  pub kinds : (let r = v.response in AreTermsOfKinds r.kinds qs)

-- one of the verdicts stands for all: it changes nothing, or all are equal to it
abbrev pub StandsForAll : List Tree → List Verdict → Verdict → Type 0
StandsForAll qs vs v = Among vs v × (ChangesNothing qs v ⊎ ((w : Verdict) → Among vs w → w ≡ v))

-- what kind of goal it is for a handler, for the steps from it
abbrev pub kind_for : Handler → Tree → GoalKind
kind_for h g = statement_kind h.is_coinductive (statement_of g)

-- a table in which goals are asked: no variable leads back to itself, and none is of a universe above the current one
pub record CanAsk (c : Content) : Type 0 where
  pub sound : IsSound c
  pub current : AreCurrent c

-- what is said of a trait's arguments: that the trait holds for them, or that it holds as an effect of the host
abbrev pub IsTraitStatement : Tree → Type 0
IsTraitStatement (node (label.Clause (clause.Trait i)) ts) = Unit {0}
IsTraitStatement (node (label.Clause (clause.HostEffect i)) ts) = Unit {0}
IsTraitStatement t = ⊥

-- a trait goal in whose terms no alias stands
pub record IsTraitGoal (e g : Tree) : Type 0 where
  pub statement : IsTraitStatement (statement_of g)
  pub no_alias : any_label is_alias (pair e g) ≡ false

-- what is said of an alias and a term: that the one is the other, or that the one normalizes to the other
abbrev pub IsAliasStatement : Tree → Type 0
IsAliasStatement (node (label.Clause (clause.Projection i)) ts) = Unit {0}
IsAliasStatement (node (label.Predicate (predicate.NormalizesTo i)) ts) = Unit {0}
IsAliasStatement t = ⊥

-- a goal that says so, or a trait goal in whose terms or environment an alias stands
abbrev pub IsAliasGoal : Tree → Tree → Type 0
IsAliasGoal e g = IsAliasStatement (statement_of g) ⊎ IsTraitStatement (statement_of g) × (any_label is_alias (pair e g) ≡ true)

-- where goals that an alias is equal to a term are answered by what it normalizes to: outside of coherence, and there where they bind
-- nothing, and no alias stands in the term, or it is an alias
abbrev pub IsOpenToNormalizing : Mode → Tree → Type 0
IsOpenToNormalizing mode g = IsCutIn mode ⊎ SaysEqual g

-- a goal that the handler is asked for, opened if it binds variables: it is known to the table in which it is answered
pub record IsReady (c : Content) (e g : Tree) : Type 0 where
  pub asked : IsAsked e (opened_in c g)
  pub trait_goal : IsTraitGoal e (opened_in c g)
  pub knows : Knows (entered_table c g) (pair e (opened_in c g))
  pub proper : IsProperContent (entered_table c g)

-- .. a goal about an alias
pub record IsAliasReady (c : Content) (e g : Tree) : Type 0 where
  pub asked : IsAsked e (opened_in c g)
  pub alias_goal : IsAliasGoal e (opened_in c g)
  pub knows : Knows (entered_table c g) (pair e (opened_in c g))
  pub proper : IsProperContent (entered_table c g)

-- a table whose values and constraints are of terms
pub record IsTermTable (c : Content) : Type 0 where
  pub sound : IsSound c
  pub values : HoldsTerms c
  pub constraints : AreConstraintsOf c

-- a table that went on while a goal was answered: it holds terms, with no labels but the goal's and those of any query
pub record IsFound (c : Content) (e g : Tree) (found : Content) : Type 0 where
  pub table : IsTermTable found
  pub labels : BringsOnly (e ∷ g ∷ []) c found

-- what a reply says of the table that was found: all where it is certain. One in doubt keeps the constraints to itself, and
-- may say only what was known before
abbrev pub SaysOf : Content → Content → List Tree → Verdict → Type 0
SaysOf c found qs v =
    (v.is_yes ≡ true) × IsResponseOf found qs v.response
    ⊎ (v.is_yes ≡ false) × (IsPlainResponse found qs v.response ⊎ IsPlainResponse c qs v.response)

-- a goal of a table that may hold in one way by the engine, opened if it binds variables
pub record IsOwnWayIn (h : Handler) (c : Content) (e g : Tree) (x : Candidate) : Type 0 where
  pub way : HasOwnWay h.judges e (opened_in c g) x
  pub knows : Knows (entered_table c g) (pair e (opened_in c g))
  pub environment : IsFormed e

-- a yes to a goal of a table that says all of the table in which the constraint was recorded
pub record SaysRecorded (x : Constraint) (c : Content) (e g : Tree) (qs : List Tree) (v : Verdict) : Type 0 where
  pub knows : Knows c (pair e g)
  pub found : Content
  pub adds : Adds x c found
  pub is_found : IsFound c e g found
  pub sure : v.is_yes ≡ true
  pub says : IsResponseOf found qs v.response

mutual
  -- what a goal is answered in a table, for these terms of an input of these kinds: nothing is told; or the verdict that stands
  -- for those of the candidates for the goal; or, of a goal without aliases that something outlives a region, yes, where the table holds
  -- that; or, of a goal that the handler affirms, yes, where the table is as before; or, of one that has one way by the engine, which
  -- relates no aliases, the verdict of that; or, outside of coherence, of a goal that one type is a subtype of another, what the two, once related, and the goals that this
  -- left came to; of one about an alias the verdict that stands for those of the candidates; and of one that an alias is equal to a
  -- term, or the one a subtype of the other, what the goals came to that are left of it
  pub data Tells (Q : Queries) (h : Handler) (mode : Mode) : List PositionKind → Content → Tree → Tree → List Tree → Verdict → Type 0 where
    tells_nothing : {ks : List PositionKind} {c : Content} {e g : Tree} {qs : List Tree} {v : Verdict} (d : Content) → (d ≡ c) ⊎ (d ≡ entered_table c g) → v.is_yes ≡ false → IsPlainResponse d qs v.response → Tells Q h mode ks c e g qs v
    says_nothing : {ks : List PositionKind} {c : Content} {e g : Tree} {qs : List Tree} {v : Verdict} → SaysNothing ks v.response → Tells Q h mode ks c e g qs v
    tells_one : {ks : List PositionKind} {c : Content} {e g : Tree} {qs : List Tree} {v : Verdict} (vs : List Verdict) → IsReady c e g → Outcomes Q h mode (entered_table c g) e (opened_in c g) qs (h.offers mode e (opened_in c g)) vs → StandsForAll qs vs v
        → Tells Q h mode ks c e g qs v
    tells_outlives : {ks : List PositionKind} {c : Content} {e g : Tree} {qs : List Tree} {v : Verdict} (x : Constraint) → IsOutlives (opened_in c g) x → any_label is_alias (opened_in c g) ≡ false → SaysRecorded x (entered_table c g) e (opened_in c g) qs v
        → Tells Q h mode ks c e g qs v
    tells_affirmed : {ks : List PositionKind} {c : Content} {e g : Tree} {qs : List Tree} {v : Verdict} → SaysAffirmed h.judges e (opened_in c g) → v.is_yes ≡ true → IsResponseOf (entered_table c g) qs v.response
        → Tells Q h mode ks c e g qs v
    tells_own : {ks : List PositionKind} {c : Content} {e g : Tree} {qs : List Tree} {v : Verdict} (x : Candidate) → IsOwnWayIn h c e g x → HasPlainEquations x → Replies Q h mode (entered_table c g) e (opened_in c g) qs x v → Tells Q h mode ks c e g qs v
    tells_subtype : {ks : List PositionKind} {c : Content} {e g : Tree} {qs : List Tree} {v : Verdict} (ps : List Premise) (met found : Content) → IsCutIn mode → LeavesPremises Q.variances (entered_table c g) met e (opened_in c g) ps
        → Reaches Q h mode ps met found → IsFound (entered_table c g) e (opened_in c g) found → SaysOf (entered_table c g) found qs v → Tells Q h mode ks c e g qs v
    tells_alias : {ks : List PositionKind} {c : Content} {e g : Tree} {qs : List Tree} {v : Verdict} (vs : List Verdict) → IsAliasReady c e g → Outcomes Q h mode (entered_table c g) e (opened_in c g) qs (h.offers mode e (opened_in c g)) vs → StandsForAll qs vs v
        → Tells Q h mode ks c e g qs v
    tells_normal : {ks : List PositionKind} {c : Content} {e g : Tree} {qs : List Tree} {v : Verdict} (ps : List Premise) (met found : Content) → IsOpenToNormalizing mode g → IsWay Q h mode (entered_table c g) met e (opened_in c g) ps → Reaches Q h mode ps met found
        → IsFound (entered_table c g) e (opened_in c g) found → SaysOf (entered_table c g) found qs v → Tells Q h mode ks c e g qs v

  -- each candidate fails, or the one way by the engine, or the handler denies the goal; or the one type is no subtype of the other, or
  -- one of the goals that relating them left is refused; or each candidate for a goal about an alias fails; or a goal is refused by
  -- which an alias and a term are one, and, where it is said that the one is a subtype of the other, one by which their results are so
  pub data Refutes (Q : Queries) (h : Handler) (mode : Mode) : Content → Tree → Tree → List Tree → Type 0 where
    all_fail : {c : Content} {e g : Tree} {qs : List Tree} → IsReady c e g → Outcomes Q h mode (entered_table c g) e (opened_in c g) qs (h.offers mode e (opened_in c g)) [] → Refutes Q h mode c e g qs
    is_denied : {c : Content} {e g : Tree} {qs : List Tree} → IsDenied h.judges (statement_of (opened_in c g)) → Refutes Q h mode c e g qs
    own_fails : {c : Content} {e g : Tree} {qs : List Tree} (x : Candidate) → IsOwnWayIn h c e g x → HasPlainEquations x → Fails Q h mode (kind_for h (opened_in c g)) (entered_table c g) e x → Refutes Q h mode c e g qs
    is_no_subtype : {c : Content} {e g : Tree} {qs : List Tree} → IsCutIn mode → IsNoSubtype Q.variances (entered_table c g) (opened_in c g) → Refutes Q h mode c e g qs
    subtype_refused : {c : Content} {e g : Tree} {qs : List Tree} (ps : List Premise) (met : Content) → IsCutIn mode → LeavesPremises Q.variances (entered_table c g) met e (opened_in c g) ps → RefusesOne Q h mode other_goal ps met → Refutes Q h mode c e g qs
    aliases_fail : {c : Content} {e g : Tree} {qs : List Tree} → IsAliasReady c e g → Outcomes Q h mode (entered_table c g) e (opened_in c g) qs (h.offers mode e (opened_in c g)) [] → Refutes Q h mode c e g qs
    normal_refused : {c : Content} {e g : Tree} {qs : List Tree} (ps : List Premise) (met : Content) → IsOpenToNormalizing mode g → NormalizesSides (entered_table c g) met e (opened_in c g) ps → RefusesOne Q h mode other_goal ps met
        → ((a b : Tree) → IsLesserGoal (opened_in c g) a b → LesserRefused Q h mode (entered_table c g) e (opened_in c g)) → Refutes Q h mode c e g qs

  -- what is left of a goal that an alias is equal to a term, or the one a subtype of the other: of a subtype, that the result of the one
  -- is a subtype of the result of the other; else, and where that was refused, that the two are one
  pub data IsWay (Q : Queries) (h : Handler) (mode : Mode) : Content → Content → Tree → Tree → List Premise → Type 0 where
    by_lesser : {c d : Content} {e g : Tree} {ps : List Premise} → NormalizesLesser c d e g ps → IsWay Q h mode c d e g ps
    by_one : {c d : Content} {e g : Tree} {ps : List Premise} → NormalizesSides c d e g ps → ((a b : Tree) → IsLesserGoal g a b → LesserRefused Q h mode c e g) → IsWay Q h mode c d e g ps

  -- one of the goals is refused by which the result of the one is a subtype of the result of the other
  pub data LesserRefused (Q : Queries) (h : Handler) (mode : Mode) : Content → Tree → Tree → Type 0 where
    lesser_refused : {c : Content} {e g : Tree} (ps : List Premise) (met : Content) → NormalizesLesser c met e g ps → RefusesOne Q h mode other_goal ps met → LesserRefused Q h mode c e g

  -- candidate by candidate, it fails or has a verdict
  pub data Outcomes (Q : Queries) (h : Handler) (mode : Mode) : Content → Tree → Tree → List Tree → List Candidate → List Verdict → Type 0 where
    no_outcome : {c : Content} {e g : Tree} {qs : List Tree} → Outcomes Q h mode c e g qs [] []
    then_fails : {c : Content} {e g : Tree} {qs : List Tree} {xs : List Candidate} {vs : List Verdict} {x : Candidate} → Outcomes Q h mode c e g qs xs vs → Fails Q h mode (kind_for h g) c e x → Outcomes Q h mode c e g qs (xs ++ x ∷ []) vs
    then_replies : {c : Content} {e g : Tree} {qs : List Tree} {xs : List Candidate} {vs : List Verdict} {x : Candidate} {v : Verdict} → Outcomes Q h mode c e g qs xs vs → Replies Q h mode c e g qs x v → Outcomes Q h mode c e g qs (xs ++ x ∷ []) (vs ++ v ∷ [])

  -- the reply of a candidate: it is begun, and what is left of it is posed; some of the goals that are asked of these were, and the table
  -- says what it found
  pub data Replies (Q : Queries) (h : Handler) (mode : Mode) : Content → Tree → Tree → List Tree → Candidate → Verdict → Type 0 where
    replies : {c : Content} {e g : Tree} {qs : List Tree} {x : Candidate} {v : Verdict} (ps gs : List Premise) (met posed found : Content) → Begins Q.variances mode c e x met ps → PosesIn mode (kind_for h g) met ps posed gs → Reaches Q h mode (asked_in mode gs) posed found
        → IsFound c e g found → SaysOf c found qs v → Replies Q h mode c e g qs x v

  -- a candidate for a goal of that kind, in that environment, fails: no world of the table meets what is made equal of it at once; or it
  -- equates types that are apart; or no settled solution relates its equations with aliases; or a goal is refused;
  -- or the handler's leak check says of what was found that nothing which the root names meets its region constraints
  pub data Fails (Q : Queries) (h : Handler) (mode : Mode) : GoalKind → Content → Tree → Candidate → Type 0 where
    is_unmet : {k : GoalKind} {c : Content} {e : Tree} {x : Candidate} → (IsCandidateMet c (plain_part x) → ⊥) → Fails Q h mode k c e x
    has_types_apart : {k : GoalKind} {c : Content} {e : Tree} {x : Candidate} → HasTypesApart x → Fails Q h mode k c e x
    is_unrelated : {k : GoalKind} {c : Content} {e : Tree} {x : Candidate} → IsUnrelated Q.variances c x → Fails Q h mode k c e x
    is_refused : {k : GoalKind} {c : Content} {e : Tree} {x : Candidate} (ps gs : List Premise) (met posed : Content) → Begins Q.variances mode c e x met ps → PosesIn mode k met ps posed gs → RefusesOne Q h mode k (asked_in mode gs) posed → Fails Q h mode k c e x
    is_leaky : {k : GoalKind} {c : Content} {e : Tree} {x : Candidate} (ps gs : List Premise) (met posed found : Content) → Begins Q.variances mode c e x met ps → PosesIn mode k met ps posed gs → Reaches Q h mode (asked_in mode gs) posed found → h.leaks found 0 → Fails Q h mode k c e x

  -- some of the goals were asked, in any order and more than once
  pub data Reaches (Q : Queries) (h : Handler) (mode : Mode) : List Premise → Content → Content → Type 0 where
    asks_nothing : {gs : List Premise} {c : Content} → Reaches Q h mode gs c c
    then_asks : {gs : List Premise} {c e : Content} (d : Content) (p : Premise) → Reaches Q h mode gs c d → Among gs p → CanAsk d → Asked Q h mode d e (deeply_resolved d p.environment) (deeply_resolved d p.predicate) → Reaches Q h mode gs c e

  -- .. and then one is refused; or, outside coherence, it is cut as a cycle, which only a goal can be that an inductive step from a
  -- goal of that kind leads to
  pub data RefusesOne (Q : Queries) (h : Handler) (mode : Mode) : GoalKind → List Premise → Content → Type 0 where
    refuses_one : {k : GoalKind} {gs : List Premise} {c : Content} (d : Content) (p : Premise) → Reaches Q h mode gs c d → Among gs p → CanAsk d → Refused Q h mode d (deeply_resolved d p.environment) (deeply_resolved d p.predicate) → RefusesOne Q h mode k gs c
    cuts_one : {k : GoalKind} {gs : List Premise} {c : Content} (d : Content) (p : Premise) → Reaches Q h mode gs c d → Among gs p → step_kind k p.source ≡ inductive → IsCutIn mode → RefusesOne Q h mode k gs c

  -- a goal was asked in a query, and the response was applied to its leaves
  pub data Asked (Q : Queries) (h : Handler) (mode : Mode) : Content → Content → Tree → Tree → Type 0 where
    asked_by : {c d : Content} {e g : Tree} (i : Input) (v : Verdict) → IsInputFor c e g i
        → Tells Q h mode (canonical_of i).kinds (Q.table (canonical_of i).kinds) (filled (Q.values (canonical_of i).kinds) (canonical_of i).environment) (filled (Q.values (canonical_of i).kinds) (canonical_of i).predicate) (Q.values (canonical_of i).kinds) v
        → IsResponseTo (let f = canonical_of i in f.kinds) v.response → Applies c d (map leaf_tree (originals i)) v.response → Asked Q h mode c d e g

  -- a goal is refused: its query refutes it, or no solution of the table grants the response
  pub data Refused (Q : Queries) (h : Handler) (mode : Mode) : Content → Tree → Tree → Type 0 where
    by_query : {c : Content} {e g : Tree} (i : Input) → IsInputFor c e g i
        → Refutes Q h mode (Q.table (canonical_of i).kinds) (filled (Q.values (canonical_of i).kinds) (canonical_of i).environment) (filled (Q.values (canonical_of i).kinds) (canonical_of i).predicate) (Q.values (canonical_of i).kinds) → Refused Q h mode c e g
    by_response : {c : Content} {e g : Tree} (i : Input) (v : Verdict) → IsInputFor c e g i
        → Tells Q h mode (canonical_of i).kinds (Q.table (canonical_of i).kinds) (filled (Q.values (canonical_of i).kinds) (canonical_of i).environment) (filled (Q.values (canonical_of i).kinds) (canonical_of i).predicate) (Q.values (canonical_of i).kinds) v
        → IsResponseTo (let f = canonical_of i in f.kinds) v.response → RefusesResponse c (map leaf_tree (originals i)) v.response → Refused Q h mode c e g

-- .. of the goal of a canonical input, in the first table of its query
abbrev pub QueryTells : Queries → Handler → Mode → CanonicalInput → Verdict → Type 0
QueryTells Q h mode f v = Tells Q h mode f.kinds (Q.table f.kinds) (filled (Q.values f.kinds) f.environment) (filled (Q.values f.kinds) f.predicate) (Q.values f.kinds) v

abbrev pub QueryRefutes : Queries → Handler → Mode → CanonicalInput → Type 0
QueryRefutes Q h mode f = Refutes Q h mode (Q.table f.kinds) (filled (Q.values f.kinds) f.environment) (filled (Q.values f.kinds) f.predicate) (Q.values f.kinds)
