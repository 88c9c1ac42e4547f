-- Goals that an alias is equal to a term, or that the one is a subtype of the other: they hold where the alias normalizes to the
-- term, or, if that is an alias too, where both normalize to one. Of a subtype it is enough that what they normalize to is one.
use Rattle.std.specs.Prelude.{◌≡◌, ◌⊎◌, true, Some, List, [], ◌∷◌, ◌++◌, false}
use Rattle.nts_model.specs.declared.labels.Sort.{Sort}
use Rattle.nts_model.specs.declared.labels.Sort.TheVariants as sort
use Rattle.nts_model.specs.declared.labels.VariableKind.TheVariants as variable
use Rattle.nts_model.specs.declared.labels.Variance.TheVariants as variance
use Rattle.nts_model.specs.declared.labels.AliasRelationDirection.{AliasRelationDirection}
use Rattle.nts_model.specs.declared.labels.AliasRelationDirection.TheVariants as direction
use Rattle.nts_model.specs.declared.labels.PredicateHead.TheVariants as predicate
use Rattle.nts_model.specs.declared.labels.Label.TheVariants as label
use Rattle.nts_model.specs.Terms.Trees.{Tree, node, kind_of, of_sort, any_label, is_alias, IsClosed}
use Rattle.nts_model.specs.Tables.Contents.{Content}
use Rattle.nts_model.specs.Answers.Applying.{IsNew}
use Rattle.nts_model.specs.Derivations.Related.{pair, unbound, subtype_goal, IsAlias}
use Rattle.nts_model.specs.Derivations.Sequents.{Premise}
use Rattle.nts_model.specs.Derivations.Rules.{relating, normalization_goal}
use Rattle.nts_model.specs.Derivations.Handlers.{kind_of_sort}

-- that two terms are equal, or that the first is a subtype of the second
abbrev pub alias_relation : AliasRelationDirection → Tree → Tree → Tree
alias_relation d a b = unbound (node (label.Predicate (predicate.AliasRelate d)) (pair a b))

-- a goal says that an alias and a term, which is no alias and is of its kind, are equal, or that the first is a subtype of the second;
-- the alias stands left or right
pub record EquatesAlias (g a t : Tree) : Type 0 where
  pub by : AliasRelationDirection
  pub says : (g ≡ alias_relation by a t) ⊎ (g ≡ alias_relation by t a)
  pub alias : IsAlias a
  pub plain : IsAlias t → ⊥
  pub kind : kind_of t ≡ kind_of a

-- .. that the two are equal, and no alias stands in the term, which is closed
pub record IsPlainEquality (g : Tree) : Type 0 where
  pub left : Tree
  pub right : Tree
  pub is : EquatesAlias g left right
  pub equal : is.by ≡ direction.Equate
  pub ends : IsClosed right
  pub no_alias : any_label is_alias right ≡ false

-- .. and the premise is left of it that the alias normalizes to the term
pub record NormalizesSide (e g : Tree) (p : Premise) : Type 0 where
  pub left : Tree
  pub right : Tree
  pub is : EquatesAlias g left right
  pub premise : (let x = is.alias in p ≡ relating e (normalization_goal x.head x.parts right))

-- a goal says that two aliases of one kind are equal, or that the one is a subtype of the other
pub record EquatesAliases (g a b : Tree) : Type 0 where
  pub by : AliasRelationDirection
  pub says : g ≡ alias_relation by a b
  pub left : IsAlias a
  pub right : IsAlias b
  pub kind : kind_of b ≡ kind_of a

-- .. and these premises are left of it, once the table c has got a new variable of their kind, which makes it the table d: that each
-- of the two normalizes to the variable
pub record NormalizesBoth (c d : Content) (e g : Tree) (ps : List Premise) : Type 0 where
  pub left : Tree
  pub right : Tree
  pub is : EquatesAliases g left right
  pub variable : Tree
  pub its_sort : Sort
  pub new : IsNew c d (kind_of_sort its_sort) c.universe variable
  pub of_kind : kind_of variable ≡ kind_of left
  pub premises : (let x = is.left in let y = is.right in ps ≡ relating e (normalization_goal x.head x.parts variable) ∷ relating e (normalization_goal y.head y.parts variable) ∷ [])

-- a goal says that two aliases of one kind are equal
pub record IsAliasEquality (g : Tree) : Type 0 where
  pub left : Tree
  pub right : Tree
  pub is : EquatesAliases g left right
  pub equal : is.by ≡ direction.Equate

-- a goal says that an alias is equal to a term in which no alias stands, or to another alias
abbrev pub SaysEqual : Tree → Type 0
SaysEqual g = IsPlainEquality g ⊎ IsAliasEquality g

-- what is left of a goal by which the two are one
abbrev pub NormalizesSides : Content → Content → Tree → Tree → List Premise → Type 0
NormalizesSides c d e g ps = ((p : Premise) × NormalizesSide e g p × (d ≡ c) × (ps ≡ p ∷ [])) ⊎ NormalizesBoth c d e g ps

-- a goal says that one type is a subtype of another, as goals do in which one of the two is an alias
pub record IsLesserGoal (g a b : Tree) : Type 0 where
  pub says : g ≡ alias_relation direction.Subtype a b
  pub left : kind_of a ≡ Some (of_sort sort.Ty)
  pub right : kind_of b ≡ Some (of_sort sort.Ty)

-- a type that is an alias has a new variable for its result, which makes the table c the table d, and the premise that it normalizes
-- to that
pub record HasNewResult (c d : Content) (e a r : Tree) (ps : List Premise) : Type 0 where
  pub is : IsAlias a
  pub new : IsNew c d variable.Ty c.universe r
  pub premise : ps ≡ relating e (normalization_goal is.head is.parts r) ∷ []

-- .. and one that is none is its own result
pub record IsOwnResult (c d : Content) (a r : Tree) (ps : List Premise) : Type 0 where
  pub plain : IsAlias a → ⊥
  pub same : r ≡ a
  pub table : d ≡ c
  pub none : ps ≡ []

abbrev pub HasResult : Content → Content → Tree → Tree → Tree → List Premise → Type 0
HasResult c d e a r ps = HasNewResult c d e a r ps ⊎ IsOwnResult c d a r ps

-- what is left of such a goal by which the result of the one is a subtype of the result of the other
pub record NormalizesLesser (c d : Content) (e g : Tree) (ps : List Premise) : Type 0 where
  pub left : Tree
  pub right : Tree
  pub is : IsLesserGoal g left right
  pub first : Tree
  pub second : Tree
  pub between : Content
  pub of_left : List Premise
  pub of_right : List Premise
  pub left_has : HasResult c between e left first of_left
  pub right_has : HasResult between d e right second of_right
  pub premises : ps ≡ of_left ++ (of_right ++ (relating e (subtype_goal true variance.Covariant first second) ∷ []))
