-- Which variables are of one class of sub-unification where values stand for positions.
use Rattle.std.specs.Prelude.{◌≡◌, ◌⊎◌, ℕ, ◌<◌, List, slice_get, Some}
use Rattle.nts_model.specs.Terms.Trees.{Tree}
use Rattle.nts_model.specs.Tables.Contents.{Content, link, state_of}
use Rattle.nts_model.specs.Canonical.Inputs.{PositionKind, type_variable}
use Rattle.nts_model.specs.Tables.SubUnifying.{SharesSubRoot, BecameOne}
use Rattle.nts_canonical.specs.Building.{type_variable_of}

-- positions of these kinds, with these values: n is the type variable at one, and m that at the earlier one that it names
-- as its sub root
pub record ArePlaced (ks : List PositionKind) (xs : List Tree) (n m : ℕ) : Type 0 where
  pub position : ℕ
  pub universe : ℕ
  pub first : ℕ
  pub kind : slice_get ks position ≡ Some (type_variable universe first)
  pub earlier : first < position
  pub here : type_variable_of (slice_get xs position) ≡ Some n
  pub there : type_variable_of (slice_get xs first) ≡ Some m

-- .. the next position, whose value is x
pub record IsPlacedNext (k : PositionKind) (xs : List Tree) (x : Tree) (n m : ℕ) : Type 0 where
  pub universe : ℕ
  pub first : ℕ
  pub kind : k ≡ type_variable universe first
  pub here : type_variable_of (Some x) ≡ Some n
  pub there : type_variable_of (slice_get xs first) ≡ Some m

-- two variables that were of one class, or are so related, or of classes that such variables join
pub data AreJoinedBy (R : ℕ → ℕ → Type 0) (c : Content) : ℕ → ℕ → Type 0 where
  before : {n m : ℕ} → SharesSubRoot c n m → AreJoinedBy R c n m
  related : {n m : ℕ} → R n m → AreJoinedBy R c n m
  back : {n m : ℕ} → AreJoinedBy R c n m → AreJoinedBy R c m n
  along : {n m k : ℕ} → AreJoinedBy R c n m → AreJoinedBy R c m k → AreJoinedBy R c n k

-- afterwards two variables are of one class exactly if they were before, or are joined by variables that are so related
pub record JoinsBy (R : ℕ → ℕ → Type 0) (c d : Content) : Type 0 where
  pub only : (n m : ℕ) → SharesSubRoot d n m → AreJoinedBy R c n m
  pub all : (n m : ℕ) → AreJoinedBy R c n m → SharesSubRoot d n m

-- .. while no variable became one with another one
pub record JoinsNew (R : ℕ → ℕ → Type 0) (c d : Content) : Type 0 where
  pub joins : JoinsBy R c d
  pub links_kept : (n m : ℕ) → state_of c n ≡ Some (link m) → state_of d n ≡ Some (link m)
  pub links_only : (n m : ℕ) → state_of d n ≡ Some (link m) → state_of c n ≡ Some (link m)

-- two variables stand for such positions, or became one since
abbrev pub PlacedOrOne : Content → Content → List PositionKind → List Tree → ℕ → ℕ → Type 0
PlacedOrOne c d ks xs n m = ArePlaced ks xs n m ⊎ BecameOne c d n m
