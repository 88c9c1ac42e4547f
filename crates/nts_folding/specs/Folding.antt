-- What a walk by a folder makes of a tree, for any folder. A folder has a state: S are its states.
use Rattle.std.specs.Prelude.{◌≡◌, ◌⊎◌, ℕ, zero, suc, List, [], ◌∷◌, Option, Some, None}
use Rattle.nts_model.specs.declared.labels.Sort.TheVariants as sort
use Rattle.nts_model.specs.declared.labels.ClauseHead.{ClauseHead}
use Rattle.nts_model.specs.declared.labels.ClauseHead.TheVariants as clause
use Rattle.nts_model.specs.declared.labels.Label.{Label}
use Rattle.nts_model.specs.declared.labels.Label.TheVariants as label
use Rattle.nts_model.specs.declared.labels.ListHead.TheVariants as list
use Rattle.nts_model.specs.Terms.Trees.{Tree, empty, more, node, binders, NodeKind, of_sort, bound_predicate, statement, kind_of, kind_of_label}
use Rattle.nts_model.specs.Derivations.Related.{pair}
use Rattle.nts_terms.specs.nts_store.specs.Growth.{tree_at}
use Rattle.nts_terms.specs.declared.handles.TraitRef.{TraitRef}
use Rattle.nts_terms.specs.declared.handles.AliasTerm.{AliasTerm}
use Rattle.nts_terms.specs.Handles.{alias_head}

-- a type, a region, a const or a predicate is asked for; anything else is gone into
abbrev pub MayAnswer : {S : Type 0} → (S → Tree → Option Tree → S → Type 0) → NodeKind → S → Tree → Option Tree → S → Type 0
MayAnswer answers (of_sort k) s x o t = answers s x o t
MayAnswer answers bound_predicate s x o t = answers s x o t
MayAnswer answers k s x o t = (o ≡ None) × (t ≡ s)

-- what a node is asked for as. A binder over a list binds variables of a value: it is no predicate, and is not asked for
abbrev pub asked_as : Tree → NodeKind
asked_as (node (label.List list.Binder) (more v (more (more a b) c))) = statement
asked_as (node l c) = kind_of_label l
asked_as t = statement

-- a rebuilt type or const is handed over; anything else stays as it was rebuilt
abbrev pub HandsOver : {S : Type 0} → (S → Tree → Tree → S → Type 0) → NodeKind → S → Tree → Tree → S → Type 0
HandsOver rebuilds (of_sort sort.Ty) s x y t = rebuilds s x y t
HandsOver rebuilds (of_sort sort.Const) s x y t = rebuilds s x y t
HandsOver rebuilds k s x y t = (y ≡ x) × (t ≡ s)

-- at a binder the state takes this step, and elsewhere it stays
abbrev pub AtBinder : {S : Type 0} → (S → S → Type 0) → ℕ → S → S → Type 0
AtBinder step zero s t = t ≡ s
AtBinder step (suc n) s t = step s t

-- the tree u stands for the node x of label l
pub record IsAnswerFor {S : Type 0} (answers : S → Tree → Option Tree → S → Type 0) (l : Label) (s : S) (x u : Tree) (t : S) : Type 0 where
  pub asks : MayAnswer answers (asked_as x) s x (Some u) t
  pub kind : kind_of u ≡ Some (kind_of_label l)

-- nothing stands for the node x of label l, so its children are folded
pub record GoesInto {S : Type 0} (answers : S → Tree → Option Tree → S → Type 0) (enters : S → S → Type 0) (l : Label) (s : S) (x : Tree) (t : S) : Type 0 where
  pub asked : S
  pub asks : MayAnswer answers (asked_as x) s x None asked
  pub enters_binder : AtBinder enters (binders l) asked t

-- the tree e stands for a node whose folded children are d
pub record ComesBack {S : Type 0} (leaves : S → S → Type 0) (rebuilds : S → Tree → Tree → S → Type 0) (l : Label) (s : S) (d e : Tree) (t : S) : Type 0 where
  pub left : S
  pub leaves_binder : AtBinder leaves (binders l) s left
  pub hands : HandsOver rebuilds (kind_of_label l) left (node l d) e t
  pub kind : kind_of e ≡ Some (kind_of_label l)

-- from one state to another a tree becomes another: children from left to right, each part once, and a node after its children
pub data Walk {S : Type 0} (answers : S → Tree → Option Tree → S → Type 0) (enters leaves : S → S → Type 0) (rebuilds : S → Tree → Tree → S → Type 0) : S → Tree → Tree → S → Type 0 where
  done : {s : S} → Walk answers enters leaves rebuilds s empty empty s
  next : {r s t : S} {a b c d : Tree} → Walk answers enters leaves rebuilds r a c s → Walk answers enters leaves rebuilds s b d t → Walk answers enters leaves rebuilds r (more a b) (more c d) t
  answer : {s t : S} {l : Label} {c u : Tree} → IsAnswerFor answers l s (node l c) u t → Walk answers enters leaves rebuilds s (node l c) u t
  down : {r s t u : S} {l : Label} {c d e : Tree} → GoesInto answers enters l r (node l c) s → Walk answers enters leaves rebuilds s c d t → ComesBack leaves rebuilds l t d e u → Walk answers enters leaves rebuilds r (node l c) e u

-- what a folder makes of a node before its children are folded
abbrev pub Starts : {S : Type 0} → (S → Tree → Option Tree → S → Type 0) → (S → S → Type 0) → S → Tree → Option Tree → S → Type 0
Starts answers enters s (node l c) (Some u) t = IsAnswerFor answers l s (node l c) u t
Starts answers enters s (node l c) None t = GoesInto answers enters l s (node l c) t
Starts answers enters s x o t = ⊥

-- the node of label l over the folded children d is handed over, once its binder was left, and that fails
pub record FailsMade {S E : Type 0} (leaves : S → S → Type 0) (fails : S → Option Tree → E → Type 0) (l : Label) (s : S) (d : Tree) (e : E) : Type 0 where
  pub left : S
  pub leaves_binder : AtBinder leaves (binders l) s left
  pub refused : fails left (Some (node l d)) e

-- the walk of a tree from a state ends at an error: one that may come in each state, as want of memory, or one at which
-- a hook fails. The hook was handed a term, or none at a binder
pub data Stops {S E : Type 0} (answers : S → Tree → Option Tree → S → Type 0) (enters leaves : S → S → Type 0) (rebuilds : S → Tree → Tree → S → Type 0) (fails : S → Option Tree → E → Type 0) : S → Tree → E → Type 0 where
  anywhere : {s : S} {x : Tree} {e : E} → ((t : S) → fails t None e) → Stops answers enters leaves rebuilds fails s x e
  early : {s : S} {a b : Tree} {e : E} → Stops answers enters leaves rebuilds fails s a e → Stops answers enters leaves rebuilds fails s (more a b) e
  late : {s t : S} {a b c : Tree} {e : E} → Walk answers enters leaves rebuilds s a c t → Stops answers enters leaves rebuilds fails t b e → Stops answers enters leaves rebuilds fails s (more a b) e
  at_term : {s : S} {l : Label} {c : Tree} {e : E} → fails s (Some (node l c)) e → Stops answers enters leaves rebuilds fails s (node l c) e
  at_binder : {s t : S} {l : Label} {c : Tree} {e : E} → MayAnswer answers (asked_as (node l c)) s (node l c) None t → fails t None e → Stops answers enters leaves rebuilds fails s (node l c) e
  inside : {s t : S} {l : Label} {c : Tree} {e : E} → GoesInto answers enters l s (node l c) t → Stops answers enters leaves rebuilds fails t c e → Stops answers enters leaves rebuilds fails s (node l c) e
  at_made : {r s t : S} {l : Label} {c d : Tree} {e : E} → GoesInto answers enters l r (node l c) s → Walk answers enters leaves rebuilds s c d t → FailsMade leaves fails l t d e → Stops answers enters leaves rebuilds fails r (node l c) e

-- the node of label l over the folded children d cannot be made, or is handed over and that fails
abbrev pub CannotMake : {S E : Type 0} → (S → S → Type 0) → (S → Option Tree → E → Type 0) → Label → S → Tree → E → Type 0
CannotMake {S} {E} leaves fails l s d e = ((t : S) → fails t None e) ⊎ FailsMade leaves fails l s d e

-- the steps of a folder that does not mind binders, and keeps what was made again
abbrev pub StaysHere : {S : Type 0} → S → S → Type 0
StaysHere s t = t ≡ s

abbrev pub StaysMade : {S : Type 0} → S → Tree → Tree → S → Type 0
StaysMade s x y t = (y ≡ x) × (t ≡ s)

-- a trait over arguments, as the statement that it holds; an alias over arguments, as a projection of it without its
-- result. A statement is no term, so that a walk goes into it at once
abbrev pub statement_about : ClauseHead → Tree → Tree
statement_about h args = node (label.Clause h) (more args empty)

abbrev pub tree_of_trait_ref : List Tree → TraitRef → Tree
tree_of_trait_ref ts r = statement_about (clause.Trait r.def_id.number) (tree_at ts r.args.node)

abbrev pub tree_of_alias_args : List Tree → AliasTerm → Tree
tree_of_alias_args ts a = statement_about (clause.Projection (alias_head a.def_id)) (tree_at ts a.args.node)

-- a binder over a value, which stands in a list, so that the binder is no predicate
abbrev pub tree_of_binder : Tree → Tree → Tree
tree_of_binder vars value = node (label.List list.Binder) (pair vars (more value empty))

-- an optional value as a list
abbrev pub tree_of_option : Option Tree → Tree
tree_of_option None = empty
tree_of_option (Some x) = more x empty

-- a list of values
abbrev pub tree_of_list : List Tree → Tree
tree_of_list [] = empty
tree_of_list (x ∷ xs) = more x (tree_of_list xs)
