-- Related by settled proofs: trees that normalize to settled ones, which are related without premises.
use Rattle.std.specs.Prelude.{◌≡◌, ◌⊎◌, ℕ, List}
use Rattle.nts_model.specs.declared.labels.Variance.{Variance}
use Rattle.nts_model.specs.declared.labels.Variance.TheVariants as variance
use Rattle.nts_model.specs.Terms.Trees.{Tree, empty, more, node, kind_of}
use Rattle.nts_model.specs.Derivations.Related.{Constraint, region_constraint, IsAlias, Related, AreRelatedByArgument}
use Rattle.nts_model.specs.Derivations.Rules.{Replaced}

-- the declared variances, the closed aliases that stand for themselves, the constraints that are true, and what an alias
-- normalizes to by a settled proof
pub record Judging : Type 1 where
  pub declared : ℕ → List Variance
  pub stands : Tree → Type 0
  pub holds : Constraint → Type 0
  pub normal : Tree → Tree → Type 0

-- a settled tree: each alias without escaping bound variables in it stands for itself
abbrev pub AllStand : (Tree → Type 0) → Tree → Type 0
AllStand S empty = Unit {0}
AllStand S (more a b) = AllStand S a × AllStand S b
AllStand S (node l c) = (IsAlias (node l c) → S (node l c)) × AllStand S c

abbrev pub IsSettled : Judging → Tree → Type 0
IsSettled J = AllStand J.stands

-- the settled value of an alias: what it normalizes to, or itself
abbrev pub IsValueOf : Judging → Tree → Tree → Type 0
IsValueOf J a v = IsSettled J v × ((v ≡ a) ⊎ J.normal a v)

-- each outermost alias replaced by its value
abbrev pub Normalizes : Judging → Tree → Tree → Type 0
Normalizes J = Replaced (IsValueOf J)

-- related without premises
abbrev pub Along : Judging → Variance → Tree → Tree → Type 0
Along J = Related J.declared (IsSettled J) J.holds (λ g. ⊥)

abbrev pub AreAlong : Judging → Variance → List Variance → Tree → Tree → Type 0
AreAlong J = AreRelatedByArgument J.declared (IsSettled J) J.holds (λ g. ⊥)

-- the trees have settled values that are related
pub record Settles (J : Judging) (v : Variance) (a b : Tree) : Type 0 where
  pub left : Tree
  pub right : Tree
  pub of_left : Normalizes J a left
  pub of_right : Normalizes J b right
  pub along : Along J v left right

-- .. and so two rows of arguments
pub record AllSettle (J : Judging) (v : Variance) (ws : List Variance) (ts us : Tree) : Type 0 where
  pub left : Tree
  pub right : Tree
  pub of_left : Normalizes J ts left
  pub of_right : Normalizes J us right
  pub along : AreAlong J v ws left right

-- a true equality is of one region, and what is trivial is true; an alias that stands for itself normalizes to no other
-- tree, and each normalizes to a closed tree of its kind
pub record IsLawfulJudging (J : Judging) : Type 0 where
  pub one : (a b : Tree) → J.holds (region_constraint variance.Invariant a b) → a ≡ b
  pub trivial : (v : Variance) (a : Tree) → J.holds (region_constraint v a a)
  pub alone : (a v : Tree) → J.stands a → J.normal a v → v ≡ a
  pub kind : (a v : Tree) → J.normal a v → kind_of v ≡ kind_of a

-- the variance of the turned pair
abbrev pub opposite : Variance → Variance
opposite variance.Invariant = variance.Invariant
opposite variance.Covariant = variance.Contravariant
opposite variance.Contravariant = variance.Covariant
