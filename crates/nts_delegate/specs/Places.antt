-- Where in a list types stand that are built by the same, and an index of these places.
use Rattle.std.specs.Prelude.{◌≡◌, ℕ, suc, ◌||◌, Bool, true, false, cond, List, [], ◌∷◌, Option, Some, None}
use Rattle.std.specs.declared.hash.FoldHasher.{FoldHasher}
use Rattle.std.specs.declared.hash.BuildHasherDefault.{BuildHasherDefault}
use Rattle.std.specs.Global.{Vec}
use Rattle.std.specs.HashMap.{get, HashMap}
use Rattle.nts_model.specs.declared.labels.TyHead.{TyHead}
use Rattle.nts_model.specs.contracts.labels.TyHeadPartialEq.TheImpl as ty_eq
use Rattle.nts_delegate.specs.declared.head_index.HeadIndex.{HeadIndex}

abbrev pub same_head : TyHead → TyHead → Bool
same_head = ty_eq.ghosts.eq

-- what stands at a place is built by this; it is not built, so it may stand for anything; one of the two
abbrev pub is_built_by : TyHead → Option TyHead → Bool
is_built_by k None = false
is_built_by k (Some h) = same_head h k

abbrev pub is_blanket : Option TyHead → Bool
is_blanket None = true
is_blanket (Some h) = false

abbrev pub may_be_built_by : TyHead → Option TyHead → Bool
may_be_built_by k h = is_built_by k h || is_blanket h

-- the places, counted from n, of those in a list that pass a test
abbrev pub places_from : (Option TyHead → Bool) → ℕ → List (Option TyHead) → List ℕ
places_from p n [] = []
places_from p n (h ∷ hs) = cond (p h) (n ∷ places_from p (suc n) hs) (places_from p (suc n) hs)

-- the places that an index has of a head
abbrev pub listed : Option (Vec ℕ) → List ℕ
listed None = []
listed (Some v) = v.items

abbrev pub places_at : HashMap TyHead (Vec ℕ) (BuildHasherDefault FoldHasher) → TyHead → List ℕ
places_at m k = listed (get ty_eq.ghosts.eq m k)

-- the index of a list: all places of each head, and of what is not built
pub record IsIndexOf (x : HeadIndex) (hs : List (Option TyHead)) : Type 0 where
  pub built : (k : TyHead) → places_at x.by_head k ≡ places_from (is_built_by k) 0 hs
  pub blanket : x.blanket.items ≡ places_from is_blanket 0 hs

-- the places of both kinds as one list: of what is built by a head, and of what is not built, of all places from one on
pub record AreMerged (xs ys zs : List ℕ) : Type 0 where
  pub head : TyHead
  pub first : ℕ
  pub heads : List (Option TyHead)
  pub built : xs ≡ places_from (is_built_by head) first heads
  pub blanket : ys ≡ places_from is_blanket first heads
  pub both : zs ≡ places_from (may_be_built_by head) first heads
