-- Goals of the store that say that one type is a subtype of another, or can be coerced to it, and what is left of their types.
use Rattle.std.specs.Global.{Vec}
use Rattle.std.specs.Prelude.{◌≡◌, ◌⊎◌, ℕ, Bool, true, false, List, map, Option, Some, None}
use Rattle.nts_model.specs.declared.labels.Variance.TheVariants as variance
use Rattle.nts_model.specs.declared.labels.VariableKind.TheVariants as variable
use Rattle.nts_model.specs.Terms.Trees.{Tree, variable_tree}
use Rattle.nts_model.specs.Tables.Contents.{Content}
use Rattle.nts_model.specs.Tables.Resolving.{deeply_resolved}
use Rattle.nts_model.specs.Lists.{Among}
use Rattle.nts_model.specs.Derivations.Rules.{Meaning, Mode, coherence, other_goal}
use Rattle.nts_model.specs.Derivations.Proofs.{Assumed}
use Rattle.nts_model.specs.Derivations.Proving.{IsTermOf}
use Rattle.nts_model.specs.Derivations.Sequents.{Premise}
use Rattle.nts_model.specs.Searching.Stacks.{IsProvedFrom}
use Rattle.nts_variance_model.specs.Variances.AnsweredGoals.{RelatedUnder}
use Rattle.nts_theory.specs.Subtyping.{IsSubtyping, LeavesPremises, IsNoSubtype}
use Rattle.nts_theory.specs.Telling.{Verdict, IsFound, SaysOf, IsPlainResponse}
use Rattle.nts_theory.specs.RelatingCandidates.{IsCutIn}
use Rattle.nts_store.specs.Growth.{tree_at}
use Rattle.nts_certainty.specs.Certainties.{ambiguous}
use Rattle.nts_certainty.specs.declared.sources.GoalSource.{GoalSource}
use Rattle.nts_certainty.specs.declared.sources.GoalSource.TheVariants as source
use Rattle.nts_terms.specs.declared.cx.Cx.{Cx}
use Rattle.nts_terms.specs.declared.handles.Goal.{Goal}
use Rattle.nts_terms.specs.Handles.{HoldsTy}
use Rattle.nts_terms.specs.Modes.{mode_of}
use Rattle.nts_terms.specs.Signatures.{variances_in}
use Rattle.nts_canonical.specs.declared.types.Canonical.{Canonical}
use Rattle.nts_response.specs.declared.types.Response.{Response}
use Rattle.nts_response.specs.Forms.{response_at}
use Rattle.nts_table.specs.Classes.{shallowly_resolved}
use Rattle.nts_table.specs.Tables.{Table}
use Rattle.nts_unify.specs.Entries.{Entries}
use Rattle.nts_unify.specs.Reading.{content_of}
use Rattle.nts_unify.specs.Roots.{SubRootsJoin}
use Rattle.nts_solver_relating.specs.Sides.{IsRelatedIn}
use Rattle.nts_meaning.specs.Telling.{Ruling, Reaches, RefusesOne}
use Rattle.nts_trying.specs.Outliving.{IsClosedEnv}
use Rattle.nts_trying.specs.declared.subtypes.TypePair.{TypePair}

-- the types are of the store
pub record AreTypesIn (ts : List Tree) (p : TypePair) : Type 0 where
  pub sub : HoldsTy ts p.sub
  pub sup : HoldsTy ts p.sup

-- a goal that says so of two types: it binds nothing, and its environment is closed
pub record SubtypeIn (ts : List Tree) (g : Goal) (a b : Tree) : Type 0 where
  pub says : IsSubtyping (tree_at ts g.predicate.node) a b
  pub environment : IsClosedEnv (tree_at ts g.param_env.node)

-- .. that these are
pub record IsSubtypeGoal (ts : List Tree) (g : Goal) (p : TypePair) : Type 0 where
  pub types : AreTypesIn ts p
  pub is : SubtypeIn ts g (tree_at ts p.sub.node) (tree_at ts p.sup.node)

-- the goal is one, and these are its types; or it is none
abbrev pub SaysTypes : List Tree → Goal → Option TypePair → Type 0
SaysTypes ts g (Some p) = IsSubtypeGoal ts g p
SaysTypes ts g None = (a b : Tree) → SubtypeIn ts g a b → ⊥

-- the tree is a type variable, of this number; or it is none
abbrev pub IsTypeVariable : Tree → Option ℕ → Type 0
IsTypeVariable t (Some n) = t ≡ variable_tree variable.Ty n
IsTypeVariable t None = (n : ℕ) → t ≡ variable_tree variable.Ty n → ⊥

-- as the table knows them, two trees are type variables of these numbers
abbrev pub StandForVariables : Content → Tree → Tree → ℕ → ℕ → Type 0
StandForVariables c a b n m = (shallowly_resolved c a ≡ variable_tree variable.Ty n) × (shallowly_resolved c b ≡ variable_tree variable.Ty m)

-- .. or they are not both
abbrev pub AreTypeVariables : Content → Tree → Tree → Option (ℕ × ℕ) → Type 0
AreTypeVariables c a b (Some v) = StandForVariables c a b v.0 v.1
AreTypeVariables c a b None = (n m : ℕ) → StandForVariables c a b n m → ⊥

-- .. of the types of a goal, in a table
abbrev pub AreVariablesIn : List Tree → Table → TypePair → ℕ → ℕ → Type 0
AreVariablesIn ts t p n m = StandForVariables (content_of ts t.entries) (tree_at ts p.sub.node) (tree_at ts p.sup.node) n m

-- two type variables are of one sub-unification class now, and nothing else has changed; or the types are not both variables
abbrev pub JoinsTypes : Cx → Cx → Table → Table → TypePair → Bool → Type 0
JoinsTypes a b t u p true = (n m : ℕ) × AreVariablesIn a.nodes t p n m × SubRootsJoin t.entries u.entries n m
JoinsTypes a b t u p false = ((n m : ℕ) → AreVariablesIn a.nodes t p n m → ⊥) × (u ≡ t)

-- goals that relating left
abbrev pub with_source : List Goal → List (GoalSource × Goal)
with_source gs = map (λ g. (source.TypeRelating, g)) gs

-- the types of a goal were related, the first as a subtype of the second, and these goals are left of them
pub record RelatesTypes (a b : Cx) (t u : Table) (g : Goal) (p : TypePair) (left : List (GoalSource × Goal)) : Type 0 where
  pub goals : List Goal
  pub are : left ≡ with_source goals
  pub related : IsRelatedIn (variances_in a.declarations) a.nodes b.nodes t.entries u.entries g.param_env variance.Covariant p.sub.node p.sup.node goals

-- the types of a goal were left alone, in coherence
pub record AreUntouched (t u : Table) : Type 0 where
  pub inside : mode_of t.mode ≡ coherence
  pub same : u ≡ t

-- .. or, elsewhere, two type variables were joined
pub record AreJoinedTypes (a b : Cx) (t u : Table) (p : TypePair) : Type 0 where
  pub outside : IsCutIn (mode_of t.mode)
  pub joins : JoinsTypes a b t u p true

-- .. or they were related, where they are not both variables
pub record AreRelatedTypes (a b : Cx) (t u : Table) (g : Goal) (p : TypePair) (left : List (GoalSource × Goal)) : Type 0 where
  pub outside : IsCutIn (mode_of t.mode)
  pub apart : (n m : ℕ) → AreVariablesIn a.nodes t p n m → ⊥
  pub relates : RelatesTypes a b t u g p left

-- what is left of the types of a goal: goals, in which case they were related; or nothing
abbrev pub AreLeftOfTypes : Cx → Cx → Table → Table → Goal → TypePair → Option (Vec (GoalSource × Goal)) → Type 0
AreLeftOfTypes a b t u g p None = AreUntouched t u ⊎ AreJoinedTypes a b t u p
AreLeftOfTypes a b t u g p (Some left) = AreRelatedTypes a b t u g p left.items

-- under a table one type is a subtype of another, where goals hold, each of which is proved in an environment from assumptions
pub record AreSubtypesBy (m : Meaning) (mode : Mode) (A : List Assumed) (c : Content) (e a b : Tree) : Type 0 where
  pub goals : List Tree
  pub proved : (g : Tree) → Among goals g → IsTermOf c g × IsProvedFrom m mode A c e g
  pub related : RelatedUnder m.variances c (map (deeply_resolved c) goals) variance.Covariant a b

-- outside of coherence the types of a goal were related, or joined, and some of the goals that this left were asked, which came to
-- the table `found`
pub record SubtypesReach (h : Ruling) (mode : Mode) (c : Content) (e g : Tree) (found : Content) : Type 0 where
  pub outside : IsCutIn mode
  pub left : List Premise
  pub met : Content
  pub leaves : LeavesPremises h.variances c met e g left
  pub reaches : Reaches h mode left met found

-- .. a verdict says what was found so
pub record SaysSubtypes (h : Ruling) (mode : Mode) (c : Content) (e g : Tree) (qs : List Tree) (v : Verdict) : Type 0 where
  pub found : Content
  pub reached : SubtypesReach h mode c e g found
  pub is_found : IsFound c e g found
  pub says : SaysOf c found qs v

-- .. or it is in doubt, and says what was known
abbrev pub SubtypesTold : Ruling → Mode → Content → Tree → Tree → List Tree → Verdict → Type 0
SubtypesTold h mode c e g qs v = SaysSubtypes h mode c e g qs v ⊎ (v.is_yes ≡ false) × IsPlainResponse c qs v.response

-- .. and why it has no solution: outside of coherence no settled solution relates the types, or a goal that relating them left is refused
pub record SubtypesStop (h : Ruling) (mode : Mode) (c : Content) (e g : Tree) : Type 0 where
  pub left : List Premise
  pub met : Content
  pub leaves : LeavesPremises h.variances c met e g left
  pub refused : RefusesOne h mode other_goal left met

abbrev pub SubtypesRefuted : Ruling → Mode → Content → Tree → Tree → Type 0
SubtypesRefuted h mode c e g = IsCutIn mode × (IsNoSubtype h.variances c g ⊎ SubtypesStop h mode c e g)

-- a response of the store b that says nothing but that two type variables are of one sub-unification class now
pub record IsJoinedAnswer (a b : List Tree) (t : Table) (qs : List Tree) (n m : ℕ) (r : Canonical Response) : Type 0 where
  pub after : Entries
  pub joins : SubRootsJoin t.entries after n m
  pub doubt : r.value.certainty ≡ ambiguous
  pub says : IsPlainResponse (content_of a after) qs (response_at b r)
