-- Goals of the store about an alias.
use Rattle.std.specs.Prelude.{◌≡◌, ◌⊎◌, Bool, true, false, List, [], ◌∷◌, ◌++◌, Option, Some, None}
use Rattle.nts_model.specs.declared.labels.AliasRelationDirection.{AliasRelationDirection}
use Rattle.nts_model.specs.declared.labels.AliasRelationDirection.TheVariants as direction
use Rattle.nts_model.specs.declared.labels.Sort.TheVariants as sort
use Rattle.nts_model.specs.declared.labels.Variance.TheVariants as variance
use Rattle.nts_model.specs.declared.labels.VariableKind.TheVariants as variable
use Rattle.nts_model.specs.declared.labels.PredicateHead.TheVariants as predicate
use Rattle.nts_model.specs.declared.labels.Label.TheVariants as label
use Rattle.nts_model.specs.Terms.Trees.{Tree, node, any_label, is_alias, kind_of, of_sort, IsClosed}
use Rattle.nts_model.specs.Tables.Contents.{Content}
use Rattle.nts_model.specs.Derivations.Related.{pair, unbound, subtype_goal, IsAlias}
use Rattle.nts_model.specs.Derivations.Rules.{Meaning, Mode, other_goal, normalization_goal}
use Rattle.nts_model.specs.Derivations.Proofs.{Assumed}
use Rattle.nts_model.specs.Derivations.Proving.{IsTermOf}
use Rattle.nts_model.specs.Tables.Passing.{BringsOnly}
use Rattle.nts_terms.specs.declared.cx.Cx.{Cx}
use Rattle.nts_meaning.specs.Evaluation.{asked_terms, goals_at}
use Rattle.nts_trying.specs.Stepping.{ArePosed, terms_of}
use Rattle.nts_model.specs.Derivations.Sequents.{Premise}
use Rattle.nts_model.specs.Searching.Stacks.{IsProvedFrom}
use Rattle.nts_theory.specs.Aliasing.{EquatesAlias, EquatesAliases, NormalizesSide, NormalizesSides, IsLesserGoal, NormalizesLesser}
use Rattle.nts_theory.specs.Telling.{IsAliasStatement, IsTraitStatement, IsOpenToNormalizing, Verdict, IsFound, SaysOf, StandsForAll, IsPlainResponse}
use Rattle.nts_store.specs.Growth.{tree_at, IsIn}
use Rattle.nts_certainty.specs.declared.sources.GoalSource.{GoalSource}
use Rattle.nts_certainty.specs.declared.sources.GoalSource.TheVariants as source
use Rattle.nts_terms.specs.declared.handles.Goal.{Goal}
use Rattle.nts_terms.specs.declared.handles.GenericArg.{GenericArg}
use Rattle.nts_terms.specs.declared.modes.TypingMode.{TypingMode}
use Rattle.nts_terms.specs.declared.handles.Term.{Term}
use Rattle.nts_terms.specs.Handles.{HoldsTerm, HoldsTy, HoldsPredicate}
use Rattle.nts_model.specs.Answers.Applying.{IsNew}
use Rattle.nts_store.specs.declared.nodes.NodeId.{NodeId}
use Rattle.nts_model.specs.Tables.Resolving.{Knows}
use Rattle.nts_terms.specs.Modes.{mode_of}
use Rattle.nts_canonical.specs.declared.types.Canonical.{Canonical}
use Rattle.nts_canonical.specs.Forms.{trees_of}
use Rattle.nts_response.specs.declared.types.Response.{Response}
use Rattle.nts_response.specs.Forms.{response_at}
use Rattle.nts_table.specs.Tables.{Table}
use Rattle.nts_unify.specs.Reading.{content_of}
use Rattle.nts_meaning.specs.Answering.{is_yes, verdict_at}
use Rattle.nts_meaning.specs.Meant.{offers_of}
use Rattle.nts_meaning.specs.Telling.{Ruling, Outcomes, Reaches, RefusesOne, IsWay, LesserRefused}
use Rattle.nts_trying.specs.Outliving.{IsClosedEnv}
use Rattle.nts_trying.specs.declared.normal.EquatedAlias.{EquatedAlias}
use Rattle.nts_trying.specs.declared.lesser.Side.{Side}
use Rattle.nts_trying.specs.declared.subtypes.TypePair.{TypePair}
use Rattle.nts_trying.specs.Subtyping.{AreTypesIn}

-- a statement says of an alias that it is a term, or that it normalizes to one; or of a trait's arguments that the trait holds, in a goal
-- that has an alias
abbrev pub ConcernsAlias : Tree → Bool → Type 0
ConcernsAlias s b = IsAliasStatement s ⊎ IsTraitStatement s × (b ≡ true)

-- a goal does: it binds nothing, and its environment is closed
pub record AliasGoalIn (ts : List Tree) (g : Goal) : Type 0 where
  pub statement : Tree
  pub binds_nothing : tree_at ts g.predicate.node ≡ unbound statement
  pub says : ConcernsAlias statement (any_label is_alias (pair (tree_at ts g.param_env.node) (tree_at ts g.predicate.node)))
  pub closed : IsClosed statement
  pub environment : IsClosedEnv (tree_at ts g.param_env.node)

-- each candidate that is offered for a goal fails or replies, and what a response of the store e says stands for the replies
pub record SaysOffered (h : Ruling) (mode : TypingMode) (a : List Tree) (t : Table) (g : Goal) (qs : List GenericArg) (e : List Tree) (r : Canonical Response) : Type 0 where
  pub verdicts : List Verdict
  pub outcomes : Outcomes h (mode_of mode) (content_of a t.entries) (tree_at a g.param_env.node) (tree_at a g.predicate.node) (trees_of a qs) (offers_of h.handler (mode_of mode) a g) verdicts
  pub stands : StandsForAll (trees_of a qs) verdicts (verdict_at e r)

-- .. or it is in doubt, and says what was known
abbrev pub IsAliasTold : Ruling → TypingMode → List Tree → Table → Goal → List GenericArg → List Tree → Canonical Response → Type 0
IsAliasTold h mode a t g qs e r =
    SaysOffered h mode a t g qs e r ⊎ (is_yes r.value.certainty ≡ false) × IsPlainResponse (content_of a t.entries) (trees_of a qs) (response_at e r)

-- .. and why it has no solution: each candidate that is offered fails
pub record IsAliasRefuted (h : Ruling) (mode : TypingMode) (a : List Tree) (t : Table) (g : Goal) (qs : List GenericArg) : Type 0 where
  pub outcomes : Outcomes h (mode_of mode) (content_of a t.entries) (tree_at a g.param_env.node) (tree_at a g.predicate.node) (trees_of a qs) (offers_of h.handler (mode_of mode) a g) []

-- a goal says that an alias is equal to a closed term, which may be another alias, or that the one is a subtype of the other: it binds
-- nothing, and its environment is closed
pub record EquatedIn (ts : List Tree) (g : Goal) (a t : Tree) : Type 0 where
  pub says : EquatesAlias (tree_at ts g.predicate.node) a t ⊎ EquatesAliases (tree_at ts g.predicate.node) a t
  pub ends : IsClosed t
  pub environment : IsClosedEnv (tree_at ts g.param_env.node)

-- a statement says that two terms are equal, of which one may be an alias
abbrev pub IsEquality : Tree → Type 0
IsEquality (node (label.Predicate (predicate.AliasRelate direction.Equate)) ts) = Unit {0}
IsEquality t = ⊥

-- two terms, types both, and the first said to be a subtype of the second; or they are not
abbrev pub AreLesserTypes : List Tree → Term → Term → AliasRelationDirection → Option TypePair → Type 0
AreLesserTypes ts a b d (Some p) = (d ≡ direction.Subtype) × HoldsTy ts p.sub × HoldsTy ts p.sup × (p.sub.node ≡ a.node) × (p.sup.node ≡ b.node)
AreLesserTypes ts a b d None = d ≡ direction.Subtype → kind_of (tree_at ts a.node) ≡ Some (of_sort sort.Ty) → kind_of (tree_at ts b.node) ≡ Some (of_sort sort.Ty) → ⊥

-- a goal says of two closed types of the store that the first is a subtype of the second; or it says so of none
pub record LesserIn (ts : List Tree) (g : Goal) (p : TypePair) : Type 0 where
  pub types : AreTypesIn ts p
  pub is : IsLesserGoal (tree_at ts g.predicate.node) (tree_at ts p.sub.node) (tree_at ts p.sup.node)
  pub sub_closed : IsClosed (tree_at ts p.sub.node)
  pub sup_closed : IsClosed (tree_at ts p.sup.node)

abbrev pub SaysLesser : List Tree → Goal → Option TypePair → Type 0
SaysLesser ts g (Some p) = LesserIn ts g p
SaysLesser ts g None = (a b : Tree) → IsLesserGoal (tree_at ts g.predicate.node) a b → ⊥

-- .. these terms of the store
pub record IsEquatedGoal (ts : List Tree) (g : Goal) (r : EquatedAlias) : Type 0 where
  pub alias : HoldsTerm ts r.alias
  pub term : HoldsTerm ts r.term
  pub is : EquatedIn ts g (tree_at ts r.alias.node) (tree_at ts r.term.node)
  pub types : SaysLesser ts g r.types

-- the alias of a goal normalizes to what it is to be equal to; or, if both are aliases, both normalize to one closed term
pub record NormalizesTogether (m : Meaning) (mode : Mode) (A : List Assumed) (c : Content) (e g : Tree) : Type 0 where
  pub left : Tree
  pub right : Tree
  pub is : EquatesAliases g left right
  pub term : Tree
  pub known : IsTermOf c term
  pub ends : IsClosed term
  pub kind : kind_of term ≡ kind_of left
  pub first : (let x = is.left in IsProvedFrom m mode A c e (normalization_goal x.head x.parts term))
  pub second : (let x = is.right in IsProvedFrom m mode A c e (normalization_goal x.head x.parts term))

pub record NormalizesAlone (m : Meaning) (mode : Mode) (A : List Assumed) (c : Content) (e g : Tree) : Type 0 where
  pub premise : Premise
  pub side : NormalizesSide e g premise
  pub ends : IsClosed side.right
  pub proved : IsProvedFrom m mode A c e premise.predicate

-- a closed term is what a side is known to be: the side, or what it, an alias, normalizes to
pub record IsNormalOf (m : Meaning) (mode : Mode) (A : List Assumed) (c : Content) (e a r : Tree) : Type 0 where
  pub is : IsAlias a
  pub known : IsTermOf c r
  pub kind : kind_of r ≡ kind_of a
  pub proved : IsProvedFrom m mode A c e (normalization_goal is.head is.parts r)

abbrev pub IsKnownAs : Meaning → Mode → List Assumed → Content → Tree → Tree → Tree → Type 0
IsKnownAs m mode A c e a r = (r ≡ a) ⊎ IsNormalOf m mode A c e a r

-- what the one type of a goal is known to be is a subtype of what the other is known to be
pub record NormalizesBelow (m : Meaning) (mode : Mode) (A : List Assumed) (c : Content) (e g : Tree) : Type 0 where
  pub left : Tree
  pub right : Tree
  pub is : IsLesserGoal g left right
  pub left_closed : IsClosed left
  pub right_closed : IsClosed right
  pub first : Tree
  pub second : Tree
  pub first_closed : IsClosed first
  pub second_closed : IsClosed second
  pub first_type : kind_of first ≡ Some (of_sort sort.Ty)
  pub second_type : kind_of second ≡ Some (of_sort sort.Ty)
  pub of_left : IsKnownAs m mode A c e left first
  pub of_right : IsKnownAs m mode A c e right second
  pub known : IsTermOf c (subtype_goal true variance.Covariant first second)
  pub proved : IsProvedFrom m mode A c e (subtype_goal true variance.Covariant first second)

-- .. so what is left of a goal is proved in an environment from assumptions
abbrev pub IsNormalizedBy : Meaning → Mode → List Assumed → Content → Tree → Tree → Type 0
IsNormalizedBy m mode A c e g = NormalizesAlone m mode A c e g ⊎ NormalizesTogether m mode A c e g ⊎ NormalizesBelow m mode A c e g

-- a goal that an alias of the store a normalizes to a term, in a store b that has grown, in the environment of another goal
pub record IsNormalGoal (a b : List Tree) (goal : Goal) (x v : Tree) (normal : Goal) : Type 0 where
  pub environment : normal.param_env ≡ goal.param_env
  pub holds : HoldsPredicate b normal.predicate
  pub tree : (y : IsAlias x) → tree_at b normal.predicate.node ≡ normalization_goal y.head y.parts v

-- one is left, by which an alias normalizes to the term that it is to be equal to
pub record LeavesOne (a b : List Tree) (g : Goal) (left : List (GoalSource × Goal)) : Type 0 where
  pub normal : Goal
  pub are : left ≡ (source.TypeRelating, normal) ∷ []
  pub alias : Tree
  pub term : Tree
  pub is : EquatesAlias (tree_at a g.predicate.node) alias term
  pub ends : IsClosed term
  pub goal : IsNormalGoal a b g alias term normal

-- two are left, by which both aliases normalize to one variable of the table
pub record LeavesTwo (a b : List Tree) (u : Table) (g : Goal) (left : List (GoalSource × Goal)) : Type 0 where
  pub first : Goal
  pub second : Goal
  pub are : left ≡ (source.TypeRelating, first) ∷ (source.TypeRelating, second) ∷ []
  pub alias : Tree
  pub other : Tree
  pub variable : NodeId
  pub is : EquatesAliases (tree_at a g.predicate.node) alias other
  pub within : IsIn b variable
  pub knows : Knows (content_of b u.entries) (tree_at b variable)
  pub ends : IsClosed (tree_at b variable)
  pub kind : kind_of (tree_at b variable) ≡ kind_of alias
  pub goal : IsNormalGoal a b g alias (tree_at b variable) first
  pub other_goal : IsNormalGoal a b g other (tree_at b variable) second

-- the goal that a side normalizes to its result, if there is one, as one that relating left
abbrev pub normals : Option Goal → List (GoalSource × Goal)
normals (Some g) = (source.TypeRelating, g) ∷ []
normals None = []

-- in a store b that has grown, a tree stands for a side of a goal of the store a: the side is an alias that is to normalize to it, by this
-- goal; or it is the side, which is no alias
abbrev pub StandsFor : List Tree → List Tree → Goal → Tree → Tree → Option Goal → Type 0
StandsFor a b g x r (Some n) = IsAlias x × IsNormalGoal a b g x r n
StandsFor a b g x r None = (IsAlias x → ⊥) × (r ≡ x)

-- .. a closed type that the table knows
pub record IsResultIn (a b : List Tree) (u : Table) (g : Goal) (x : Tree) (s : Side) : Type 0 where
  pub result : HoldsTy b s.result
  pub knows : Knows (content_of b u.entries) (tree_at b s.result.node)
  pub ends : IsClosed (tree_at b s.result.node)
  pub stands : StandsFor a b g x (tree_at b s.result.node) s.normal

-- what was done to the table for it: it got a new variable, or nothing was done
abbrev pub MakesResult : Content → Content → Tree → Option Goal → Type 0
MakesResult c d r (Some n) = IsNew c d variable.Ty c.universe r
MakesResult c d r None = d ≡ c

-- these are left, by which the result of the one type is a subtype of the result of the other
pub record LeavesLesser (a b : List Tree) (u : Table) (g : Goal) (left : List (GoalSource × Goal)) : Type 0 where
  pub sub : Tree
  pub sup : Tree
  pub is : IsLesserGoal (tree_at a g.predicate.node) sub sup
  pub sub_closed : IsClosed sub
  pub sup_closed : IsClosed sup
  pub first : Side
  pub second : Side
  pub of_sub : IsResultIn a b u g sub first
  pub of_sup : IsResultIn a b u g sup second
  pub lesser : Goal
  pub environment : lesser.param_env ≡ g.param_env
  pub holds : HoldsPredicate b lesser.predicate
  pub says : tree_at b lesser.predicate.node ≡ subtype_goal true variance.Covariant (tree_at b first.result.node) (tree_at b second.result.node)
  pub are : left ≡ normals first.normal ++ (normals second.normal ++ ((source.TypeRelating, lesser) ∷ []))

-- what is left of a goal by a way: of these two types that the result of the one is a subtype of the result of the other; or that the
-- alias and the term are one
abbrev pub LeftBy : Option TypePair → Content → Content → Tree → Tree → List Premise → Type 0
LeftBy (Some p) c d e g ps = NormalizesLesser c d e g ps
LeftBy None c d e g ps = NormalizesSides c d e g ps

-- these goals are left of a goal about an alias and a term, by a way. They have no labels but those of the goal
pub record BeginsNormalizing (way : Option TypePair) (a b : Cx) (t u : Table) (g : Goal) (left : List (GoalSource × Goal)) : Type 0 where
  pub posed : ArePosed b.nodes u left
  pub sides : LeftBy way (content_of a.nodes t.entries) (content_of b.nodes u.entries) (tree_at a.nodes g.param_env.node) (tree_at a.nodes g.predicate.node) (goals_at b.nodes left)
  pub labels : {d : Content} → BringsOnly (terms_of b.nodes left) (content_of b.nodes u.entries) d → BringsOnly (asked_terms a.nodes g) (content_of a.nodes t.entries) d
  pub goals : LeavesOne a.nodes b.nodes g left ⊎ LeavesTwo a.nodes b.nodes u g left ⊎ LeavesLesser a.nodes b.nodes u g left

-- what is left of a goal by a way was asked, which came to this table, where goals are answered so
pub record RunsWay (h : Ruling) (mode : Mode) (way : Option TypePair) (c : Content) (e g : Tree) (found : Content) : Type 0 where
  pub normal : IsOpenToNormalizing mode g
  pub left : List Premise
  pub met : Content
  pub sides : LeftBy way c met e g left
  pub reaches : Reaches h mode left met found

-- .. and a verdict says what was found, in the table `found`
pub record SaysLeft (h : Ruling) (mode : Mode) (Left : Content → List Premise → Type 0) (c : Content) (e g : Tree) (qs : List Tree) (v : Verdict) : Type 0 where
  pub normal : IsOpenToNormalizing mode g
  pub left : List Premise
  pub met : Content
  pub sides : Left met left
  pub found : Content
  pub reaches : Reaches h mode left met found
  pub is_found : IsFound c e g found
  pub says : SaysOf c found qs v

-- .. or it is in doubt, and says what was known
abbrev pub WayTold : Ruling → Mode → Option TypePair → Content → Tree → Tree → List Tree → Verdict → Type 0
WayTold h mode way c e g qs v = SaysLeft h mode (λ d ps. LeftBy way c d e g ps) c e g qs v ⊎ (v.is_yes ≡ false) × IsPlainResponse c qs v.response

abbrev pub NormalTold : Ruling → Mode → Content → Tree → Tree → List Tree → Verdict → Type 0
NormalTold h mode c e g qs v = SaysLeft h mode (λ d ps. IsWay h mode c d e g ps) c e g qs v ⊎ (v.is_yes ≡ false) × IsPlainResponse c qs v.response

-- .. and why there is no solution by a way: a goal that is left is refused
pub record WayRefuted (h : Ruling) (mode : Mode) (way : Option TypePair) (c : Content) (e g : Tree) : Type 0 where
  pub normal : IsOpenToNormalizing mode g
  pub left : List Premise
  pub met : Content
  pub sides : LeftBy way c met e g left
  pub refused : RefusesOne h mode other_goal left met

-- .. and by none: that the two are one is refused, and, where the goal says that the one is a subtype of the other, so is that their
-- results are
pub record NormalRefuted (h : Ruling) (mode : Mode) (c : Content) (e g : Tree) : Type 0 where
  pub one : WayRefuted h mode None c e g
  pub lesser : (a b : Tree) → IsLesserGoal g a b → LesserRefused h mode c e g
