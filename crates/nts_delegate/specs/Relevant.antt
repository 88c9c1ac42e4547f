-- Candidates that a handler need not offer: no values meet their equations.
use Rattle.std.specs.Prelude.{◌≡◌, ◌≢◌, Option, Some, None, List, [], ◌∷◌, ◌++◌}
use Rattle.nts_model.specs.declared.labels.TyHead.{TyHead}
use Rattle.nts_model.specs.declared.labels.TyHead.TheVariants as ty
use Rattle.nts_model.specs.declared.labels.Label.{Label}
use Rattle.nts_model.specs.declared.labels.Label.TheVariants as label
use Rattle.nts_model.specs.Terms.Trees.{Tree, more, node}
use Rattle.nts_model.specs.Lists.{Among}
use Rattle.nts_model.specs.Derivations.Rules.{related}
use Rattle.nts_model.specs.Derivations.Handlers.{Candidate}

-- what a type is built by: values leave that as it is. A leaf, a position or an alias may stand for any type
abbrev pub built_by_label : Label → Option TyHead
built_by_label (label.Ty (ty.Alias i)) = None
built_by_label (label.Ty h) = Some h
built_by_label l = None

abbrev pub built_by : Tree → Option TyHead
built_by (node l c) = built_by_label l
built_by t = None

-- .. the first one of a list
abbrev pub first_built_by : Tree → Option TyHead
first_built_by (more a us) = built_by a
first_built_by us = None

-- two types that are built differently
pub record AreBuiltApart (a b : Tree) : Type 0 where
  pub left : TyHead
  pub right : TyHead
  pub of_left : built_by a ≡ Some left
  pub of_right : built_by b ≡ Some right
  pub apart : left ≢ right

-- an equation of the candidate is between two types that are built differently
pub record IsIrrelevant (x : Candidate) : Type 0 where
  pub left : Tree
  pub right : Tree
  pub equation : Among x.equations (related left right)
  pub apart : AreBuiltApart left right

-- the second list is the first one, but for some irrelevant candidates
pub data LeavesOut : List Candidate → List Candidate → Type 0 where
  none : LeavesOut [] []
  offered : {xs ys : List Candidate} → (x : Candidate) → LeavesOut xs ys → LeavesOut (xs ++ x ∷ []) (ys ++ x ∷ [])
  left_out : {xs ys : List Candidate} → (x : Candidate) → LeavesOut xs ys → IsIrrelevant x → LeavesOut (xs ++ x ∷ []) ys
