-- Which universe names which leaves of a tree.
use Rattle.std.specs.Prelude.{◌≡◌, ℕ, ◌≤◌, ◌<◌, length, Option, Some, None}
use Rattle.nts_model.specs.declared.labels.Leaf.{Leaf}
use Rattle.nts_model.specs.declared.labels.Leaf.TheVariants as leaf
use Rattle.nts_model.specs.declared.labels.Label.{Label}
use Rattle.nts_model.specs.declared.labels.Label.TheVariants as label
use Rattle.nts_model.specs.Terms.Trees.{Tree, empty, more, node, variable_of}
use Rattle.nts_model.specs.Tables.Contents.{Content, link, known, state_of, universe_of}
use Rattle.nts_model.specs.Terms.Placeholders.{constant_level, free_region_level, CanName}
use Rattle.nts_model.specs.Tables.Resolving.{number_of}

-- the universe of a placeholder that is a type or const, and of one that is a region
abbrev pub term_level_of_leaf : Leaf → Option ℕ
term_level_of_leaf (leaf.TyConstant a) = constant_level a
term_level_of_leaf (leaf.ConstConstant a) = constant_level a
term_level_of_leaf l = None

abbrev pub term_level : Label → Option ℕ
term_level (label.Leaf l) = term_level_of_leaf l
term_level l = None

abbrev pub region_level_of_leaf : Leaf → Option ℕ
region_level_of_leaf (leaf.Region r) = free_region_level r
region_level_of_leaf l = None

abbrev pub region_level : Label → Option ℕ
region_level (label.Leaf l) = region_level_of_leaf l
region_level l = None

-- .. and of a variable of the table too
abbrev pub level_at : Content → Option ℕ → Label → Option ℕ
level_at c (Some n) l = universe_of c n
level_at c None l = term_level l

abbrev pub level_in : Content → Label → Option ℕ
level_in c l = level_at c (number_of (variable_of l)) l

-- the universe u names each node of the tree, where f gives their universes
abbrev pub NamesAll : (Label → Option ℕ) → ℕ → Tree → Type 0
NamesAll f u empty = Unit {0}
NamesAll f u (more a b) = NamesAll f u a × NamesAll f u b
NamesAll f u (node l c) = CanName u (f l) × NamesAll f u c

abbrev pub IfNamesAll : (Label → Option ℕ) → Option ℕ → Tree → Type 0
IfNamesAll f None t = Unit {0}
IfNamesAll f (Some u) t = NamesAll f u t

-- a variable's universe names its value, the variables in it too, and the variable that it is one with
pub record IsLevelled (c : Content) : Type 0 where
  pub values : (n u : ℕ) (t : Tree) → state_of c n ≡ Some (known t) → universe_of c n ≡ Some u → NamesAll (level_in c) u t
  pub links : (n m u : ℕ) → state_of c n ≡ Some (link m) → universe_of c n ≡ Some u → CanName u (universe_of c m)

-- each variable is of a universe that the table has made
pub record AreCurrent (c : Content) : Type 0 where
  pub universes : (n u : ℕ) → universe_of c n ≡ Some u → u ≤ c.universe

-- a variable's universe names the regions in its value too
pub record AreRegionsLevelled (c : Content) : Type 0 where
  pub regions : (n u : ℕ) (t : Tree) → state_of c n ≡ Some (known t) → universe_of c n ≡ Some u → NamesAll region_level u t

-- the universes of the table's variables only fall
pub record Falls (c d : Content) : Type 0 where
  pub universes : (n : ℕ) → n < length c.slots → (u : ℕ) → CanName u (universe_of c n) → CanName u (universe_of d n)
