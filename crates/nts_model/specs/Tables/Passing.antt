-- Labels that a table's terms may have.
use Rattle.std.specs.Prelude.{◌≡◌, ℕ, suc, Bool, true, List, Some, Contains}
use Rattle.nts_model.specs.declared.labels.VariableKind.{VariableKind}
use Rattle.nts_model.specs.declared.labels.FreeRegion.{FreeRegion}
use Rattle.nts_model.specs.declared.labels.FreeRegion.TheVariants as region
use Rattle.nts_model.specs.declared.labels.Constant.{Constant}
use Rattle.nts_model.specs.declared.labels.Constant.TheVariants as constant
use Rattle.nts_model.specs.declared.labels.BoundVarIndexKind.TheVariants as index
use Rattle.nts_model.specs.declared.labels.Leaf.{Leaf}
use Rattle.nts_model.specs.declared.labels.Leaf.TheVariants as leaf
use Rattle.nts_model.specs.declared.labels.Label.{Label}
use Rattle.nts_model.specs.declared.labels.Label.TheVariants as label
use Rattle.nts_model.specs.Terms.Trees.{Tree, empty, more, node}
use Rattle.nts_model.specs.Tables.Contents.{Content, Recorded, known, state_of}
use Rattle.nts_model.specs.Lists.{Among}

-- each label of the tree is so
abbrev pub AllLabels : (Label → Type 0) → Tree → Type 0
AllLabels P empty = Unit {0}
AllLabels P (more a b) = AllLabels P a × AllLabels P b
AllLabels P (node l c) = P l × AllLabels P c

-- .. of the table's values and constraints
pub record AllPass (P : Label → Type 0) (c : Content) : Type 0 where
  pub values : (n : ℕ) (t : Tree) → state_of c n ≡ Some (known t) → AllLabels P t
  pub left : (x : Recorded) → Contains c.constraints x → AllLabels P x.left
  pub right : (x : Recorded) → Contains c.constraints x → AllLabels P x.right

-- .. by a test, which each variable passes
abbrev pub PassesVariables : (Label → Bool) → Type 0
PassesVariables P = (k : VariableKind) (n : ℕ) → P (label.Leaf (leaf.Variable k n)) ≡ true

abbrev pub TreePasses : (Label → Bool) → Tree → Type 0
TreePasses P t = AllLabels (λ l. P l ≡ true) t

abbrev pub TablePasses : (Label → Bool) → Content → Type 0
TablePasses P c = AllPass (λ l. P l ≡ true) c

-- a change brings no labels but those of variables and of these trees
pub record BringsLabelsOf (c d : Content) (a b : Tree) : Type 0 where
  pub labels : (P : Label → Bool) → PassesVariables P → TablePasses P c → TreePasses P a → TreePasses P b → TablePasses P d

-- .. but those of variables
pub record BringsNoLabels (c d : Content) : Type 0 where
  pub labels : (P : Label → Bool) → PassesVariables P → TablePasses P c → TablePasses P d

-- a leaf that the table of any query may hold: a variable, a region that stays itself, and a placeholder of a universe
-- above the root
abbrev pub IsQueryRegion : FreeRegion → Type 0
IsQueryRegion region.Static = Unit {0}
IsQueryRegion region.Erased = Unit {0}
IsQueryRegion region.Error = Unit {0}
IsQueryRegion (region.Placeholder (suc u) n) = Unit {0}
IsQueryRegion r = ⊥

abbrev pub IsQueryConstant : Constant → Type 0
IsQueryConstant (constant.Placeholder (suc u) n) = Unit {0}
IsQueryConstant a = ⊥

abbrev pub IsQueryLeaf : Leaf → Type 0
IsQueryLeaf (leaf.Variable k n) = Unit {0}
IsQueryLeaf (leaf.Region r) = IsQueryRegion r
IsQueryLeaf (leaf.TyConstant a) = IsQueryConstant a
IsQueryLeaf (leaf.ConstConstant a) = IsQueryConstant a

-- .. such a label, or one that is neither a leaf nor a position of a canonical value
abbrev pub IsQueryLabel : Label → Type 0
IsQueryLabel (label.Leaf l) = IsQueryLeaf l
IsQueryLabel (label.Bound s index.Canonical n) = ⊥
IsQueryLabel l = Unit {0}

-- a test that what any query's table may hold passes
abbrev pub PassesQueries : (Label → Bool) → Type 0
PassesQueries P = (l : Label) → IsQueryLabel l → P l ≡ true

-- a change brings no labels but those of these trees, and what any query's table may hold
pub record BringsOnly (ts : List Tree) (c d : Content) : Type 0 where
  pub labels : (P : Label → Bool) → PassesQueries P → ((t : Tree) → Among ts t → TreePasses P t) → TablePasses P c → TablePasses P d
