-- Which goals relating leaves: each is asked for by what stands in its pair.
use Rattle.std.specs.Prelude.{◌≡◌, ◌≢◌, ◌⊎◌, ℕ, ◌<◌, ◌≤◌, length, List, [], ◌∷◌, Some}
use Rattle.nts_model.specs.declared.labels.Sort.TheVariants as sort
use Rattle.nts_model.specs.declared.labels.Variance.{Variance}
use Rattle.nts_model.specs.declared.labels.Variance.TheVariants as variance
use Rattle.nts_model.specs.declared.labels.VariableKind.TheVariants as kind
use Rattle.nts_model.specs.declared.labels.Leaf.TheVariants as leaf
use Rattle.nts_model.specs.declared.labels.Label.TheVariants as label
use Rattle.nts_model.specs.Terms.Trees.{Tree, label_of, kind_of, of_sort}
use Rattle.nts_model.specs.Tables.Contents.{Content, unset, state_of}
use Rattle.nts_model.specs.Tables.Resolving.{Knows, Reaches, AllUnset, variable_rank}
use Rattle.nts_model.specs.Tables.Holding.{AreOne}
use Rattle.nts_model.specs.Tables.SubUnifying.{SharesSubRoot}
use Rattle.nts_model.specs.Derivations.Related.{IsAlias}
use Rattle.nts_variance_model.specs.Variances.Relations.{Relating as Pair}

-- the tree is the type variable n
abbrev pub IsTypeVariable : Tree → ℕ → Type 0
IsTypeVariable t n = label_of t ≡ Some (label.Leaf (leaf.Variable kind.Ty n))

-- a variable with a value: under the table it is one with a tree that no variable of its kind is
pub record IsValued (c : Content) (t : Tree) : Type 0 where
  pub value : Tree
  pub knows : Knows c value
  pub lower : variable_rank value < variable_rank t
  pub one : AreOne c t value

-- a type variable that had no value in the table c, and has one in d
pub record GotValue (c d : Content) (t : Tree) : Type 0 where
  pub number : ℕ
  pub is : IsTypeVariable t number
  pub before : state_of c number ≡ Some unset
  pub after : IsValued d t

-- two variables share their sub root, or variables do that they were joined with
pub record ShareSubRoots (c : Content) (n m : ℕ) : Type 0 where
  pub first : ℕ
  pub second : ℕ
  pub of_first : Reaches c n first
  pub of_second : Reaches c m second
  pub shared : SharesSubRoot c first second

-- two variables of two classes, of which neither has a value in the table
pub record AreTwoUnset (c : Content) (n m : ℕ) : Type 0 where
  pub first : state_of c n ≡ Some unset
  pub second : state_of c m ≡ Some unset
  pub apart : n ≢ m

-- the variable m is no variable of the table c, and was made since for n, which had no value there: they share their sub root in d
pub record WasMadeFor (c d : Content) (n m : ℕ) : Type 0 where
  pub free : state_of c n ≡ Some unset
  pub new : length c.slots ≤ m
  pub shared : ShareSubRoots d n m

-- if the tree is a type variable, it had no value in the table c, and was one with no older variable, or it is new since
abbrev pub HadNoValue : Content → Tree → Type 0
HadNoValue c t = (n : ℕ) → IsTypeVariable t n → (state_of c n ≡ Some unset) ⊎ (length c.slots ≤ n)

-- the sides of a pair are two: they are no one tree, and no type variables that led to one variable in the table c; nor is one a type
-- variable that had a value there
pub record AreTwoSides (c : Content) (a b : Tree) : Type 0 where
  pub trees : a ≢ b
  pub classes : (n m r : ℕ) → IsTypeVariable a n → IsTypeVariable b m → Reaches c n r → Reaches c m r → ⊥
  pub left : HadNoValue c a
  pub right : HadNoValue c b

-- two type variables: in the table c they were two without values, or one was made since for the other
pub record AreTypeVariables (c d : Content) (a b : Tree) : Type 0 where
  pub first : ℕ
  pub second : ℕ
  pub left : IsTypeVariable a first
  pub right : IsTypeVariable b second
  pub either : AreTwoUnset c first second ⊎ (WasMadeFor c d first second ⊎ WasMadeFor c d second first)

-- a pair that relating leaves as a goal, between the table c before and d afterwards: an alias without escaping bound variables
-- stands on a side; or the pair varies, its sides are two, and both are type variables, or one is a type variable that got its value
-- since
abbrev pub IsGoalDue : Content → Content → Pair → Type 0
IsGoalDue c d p = (IsAlias p.left ⊎ IsAlias p.right) ⊎ ((p.variance ≢ variance.Invariant) × AreTwoSides c p.left p.right × (AreTypeVariables c d p.left p.right ⊎ (GotValue c d p.left ⊎ GotValue c d p.right)))

abbrev pub AreGoalsDue : Content → Content → List Pair → Type 0
AreGoalsDue c d [] = Unit {0}
AreGoalsDue c d (p ∷ ps) = IsGoalDue c d p × AreGoalsDue c d ps

-- each goal has an alias without escaping bound variables on a side
abbrev pub AreGoalsOfAliases : List Pair → Type 0
AreGoalsOfAliases [] = Unit {0}
AreGoalsOfAliases (p ∷ ps) = (IsAlias p.left ⊎ IsAlias p.right) × AreGoalsOfAliases ps

-- a region or a const
abbrev pub IsNoType : Tree → Type 0
IsNoType t = kind_of t ≡ Some (of_sort sort.Ty) → ⊥

-- a part that can ask for no goal but of aliases and of variables without value in the table c: it is related invariantly, or is no
-- type, or no variable in it had a value
abbrev pub IsUnvalued : Content → Variance → Tree → Type 0
IsUnvalued c v t = (v ≡ variance.Invariant) ⊎ (IsNoType t ⊎ AllUnset c t)

-- a pair that can ask for no goal but of aliases and of variables without value in the table c: it is related invariantly, or its left
-- side is no type, or no variable in its sides had a value
abbrev pub IsUnvaluedPair : Content → Pair → Type 0
IsUnvaluedPair c p = (p.variance ≡ variance.Invariant) ⊎ (IsNoType p.left ⊎ (AllUnset c p.left × AllUnset c p.right))

abbrev pub AreUnvaluedPairs : Content → List Pair → Type 0
AreUnvaluedPairs c [] = Unit {0}
AreUnvaluedPairs c (p ∷ ps) = IsUnvaluedPair c p × AreUnvaluedPairs c ps

-- the goals that a pair leaves between the table c and d are due since each table that has no more variables than c, and in which no
-- variable of the pair had a value
abbrev pub LeavesDue : Content → Content → Pair → List Pair → Type 0
LeavesDue c d p gs = (b : Content) → length b.slots ≤ length c.slots → IsUnvaluedPair b p → AreGoalsDue b d gs
