-- What registering a hidden type does.
use Rattle.std.specs.Prelude.{◌≡◌, ℕ, ◌<◌, List, [], ◌∷◌, ◌++◌, length, slice_get, slice_set, Option, Some, None}
use Rattle.nts_model.specs.Terms.Trees.{Tree}
use Rattle.nts_model.specs.Tables.Contents.{Content}
use Rattle.nts_model.specs.Tables.Holding.{AreOne}
use Rattle.nts_store.specs.Growth.{tree_at}
use Rattle.nts_terms.specs.declared.handles.AliasTerm.{AliasTerm}
use Rattle.nts_terms.specs.declared.handles.Ty.{Ty}
use Rattle.nts_unify.specs.declared.contents.HiddenType.{HiddenType}

-- both are hidden behind one alias, under the table's values
pub record HasAliasOf (ts : List Tree) (c : Content) (old h : HiddenType) : Type 0 where
  pub alias : old.alias ≡ h.alias
  pub args : AreOne c (tree_at ts old.args.node) (tree_at ts h.args.node)

-- none of the first n is hidden behind the alias
abbrev pub NoneBefore : List Tree → Content → ℕ → List HiddenType → HiddenType → Type 0
NoneBefore ts c n xs h = (i : ℕ) (x : HiddenType) → i < n → slice_get xs i ≡ Some x → HasAliasOf ts c x h → ⊥

-- the first type that was hidden behind the alias
pub record IsFirstOf (ts : List Tree) (c : Content) (xs : List HiddenType) (h old : HiddenType) (n : ℕ) : Type 0 where
  pub at : slice_get xs n ≡ Some old
  pub has : HasAliasOf ts c old h
  pub first : NoneBefore ts c n xs h

-- which place the first has, if there is one
abbrev pub IsPlace : List Tree → Content → List HiddenType → HiddenType → Option ℕ → Type 0
IsPlace ts c xs h None = NoneBefore ts c (length xs) xs h
IsPlace ts c xs h (Some n) = (old : HiddenType) × IsFirstOf ts c xs h old n

-- a hidden type as callers have it: the alias, and the type behind it
abbrev pub pair_of : HiddenType → AliasTerm × Ty
pair_of h = (record { def_id = h.alias; args = h.args }, h.ty)

-- a type is registered: it takes the place of the first one that was hidden behind the alias, which is answered, or it
-- is the last
abbrev pub Registers : List Tree → Content → List HiddenType → HiddenType → List HiddenType → Option Ty → Type 0
Registers ts c xs h ys None = NoneBefore ts c (length xs) xs h × (ys ≡ xs ++ h ∷ [])
Registers ts c xs h ys (Some ty) =
    (n : ℕ) × (old : HiddenType) × IsFirstOf ts c xs h old n × (ty ≡ old.ty) × (ys ≡ slice_set xs n (record old { ty = h.ty }))
