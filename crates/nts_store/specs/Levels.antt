-- A walk over what a binder binds, level by level: the terms that are left to visit.
use Rattle.std.specs.Prelude.{◌↔◌, ℕ, ◌+◌, ◌-◌, ◌≤◌, max, List, [], ◌∷◌, get_or}
use Rattle.nts_model.specs.Terms.Trees.{Tree, empty}
use Rattle.nts_model.specs.Terms.Scoping.{AllListed}

-- the first number above all of these
abbrev pub above : List ℕ → ℕ
above [] = 0
above (k ∷ ks) = max (k + 1) (above ks)

-- what the binder that is d binders out binds in these terms is of the list
abbrev pub AllListedAt : Tree → ℕ → List Tree → List ℕ → Type 0
AllListedAt ss d ts [] = Unit {0}
AllListedAt ss d ts (k ∷ ks) = AllListed ss d (get_or ts k empty) × AllListedAt ss d ts ks

-- the terms one binder deeper that are left once these are visited
pub record IsNextLevel (ss : Tree) (d : ℕ) (ts : List Tree) (here deeper : List ℕ) : Type 0 where
  pub below : above deeper ≤ above here - 1
  pub listed : AllListedAt ss (d + 1) ts deeper ↔ AllListedAt ss d ts here
