-- Lists of terms that may each stand at one place.
use Rattle.std.proofs.Common.{◌≡◌, ℕ, zero, suc, ◌+◌, ◌<◌, List, [], ◌∷◌, ◌++◌, map, length, get_or, take, Some, All, refl, ap, sym, ◌∙◌, arith}
use Rattle.nts_model.specs.declared.labels.Label.{Label}
use Rattle.nts_model.specs.declared.labels.Label.TheVariants as label
use Rattle.nts_model.specs.declared.labels.ListHead.TheVariants as list_head
use Rattle.nts_model.specs.Terms.Trees.{Tree, empty, more, node, children, row_length, row_at, AllFit, Place, is, any_argument, FitsPlace, kind_of, kind_of_label, arguments, environment, bound_predicate, sort_list, one_sort, shape, each, NodeKind, row_push}
use Rattle.nts_store.specs.declared.nodes.NodeId.{NodeId}
use Rattle.nts_terms.specs.declared.handles.GenericArg.{GenericArg}
use Rattle.nts_terms.specs.declared.handles.Predicate.{Predicate}
use Rattle.nts_store.specs.Growth.{tree_at, trees_at, IsIn, AllIn, Extends}
use Rattle.nts_terms.specs.Kinds.{tree_of_sort, row_of_sorts}
use Rattle.nts_store.proofs.Growing.{Extends-refl, Extends-trans, AllIn-push, AllIn-extended, trees_at-push, trees_at-extended}
use Rattle.std.proofs.lemmas.List.{take_more}
use Rattle.nts_model.specs.declared.labels.Sort.{Sort}
use Rattle.nts_terms.specs.Handles.{Holds, HoldsArg, HoldsPredicate}
use Rattle.nts_store.specs.Sorts.{ChildrenFit}

pub all_rest : {X : Type 0} (P : X → Type 0) (x : X) (xs : List X) → All P (x ∷ xs) → All P xs
all_rest P x xs h = λ k d l. h (suc k) d (omega arith)

all_first : {X : Type 0} (P : X → Type 0) (x : X) (xs : List X) → All P (x ∷ xs) → P x
all_first P x xs h = h 0 x (omega arith)

-- what a list of terms needs to stand under a node
pub record CanStand (p : Place) (ts : List Tree) (ns : List NodeId) : Type 0 where
  pub within : AllIn ts ns
  pub fit : AllFit p (trees_at ts ns)

can_stand_more : (p : Place) (ts : List Tree) (n : NodeId) (ns : List NodeId) → Holds p ts n → CanStand p ts ns → CanStand p ts (n ∷ ns)
can_stand_more p ts n ns h k = record { within = (h.within, k.within); fit = (h.fits, k.fit) }

pub args_stand : (ts : List Tree) (xs : List GenericArg) → All (λ x. HoldsArg ts x) xs → CanStand any_argument ts (map (λ x. x.node) xs)
args_stand ts [] h = record { within = tt; fit = tt }
args_stand ts (x ∷ xs) h =
    can_stand_more any_argument ts x.node (map (λ y. y.node) xs) (all_first (λ y. HoldsArg ts y) x xs h) (args_stand ts xs (all_rest (λ y. HoldsArg ts y) x xs h))

pub predicates_stand : (ts : List Tree) (xs : List Predicate) → All (λ x. HoldsPredicate ts x) xs → CanStand (is bound_predicate) ts (map (λ x. x.node) xs)
predicates_stand ts [] h = record { within = tt; fit = tt }
predicates_stand ts (x ∷ xs) h =
    can_stand_more (is bound_predicate) ts x.node (map (λ y. y.node) xs) (all_first (λ y. HoldsPredicate ts y) x xs h) (predicates_stand ts xs (all_rest (λ y. HoldsPredicate ts y) x xs h))

-- a child of a list
fits_at : (p : Place) (c : Tree) (i : ℕ) → AllFit p c → i < row_length c → FitsPlace p (kind_of (row_at c i))
fits_at p empty i h l = absurd (omega arith)
fits_at p (more a b) zero h l = h.0
fits_at p (more a b) (suc i) h l = fits_at p b i h.1 (omega arith)
fits_at p (node l c) i h k = absurd h

-- the label of a list
abbrev Listed : NodeKind → Label → Type 0
Listed arguments l = l ≡ label.List list_head.Args
Listed environment l = l ≡ label.List list_head.Env
Listed sort_list l = l ≡ label.List list_head.Sorts
Listed bound_predicate l = l ≡ label.List list_head.Binder
Listed k l = Unit {0}

listed : (l : Label) → Listed (kind_of_label l) l
listed (label.Leaf x) = tt
listed (label.Bound s i n) = tt
listed (label.Ty h) = tt
listed (label.Const h) = tt
listed (label.Clause h) = tt
listed (label.Predicate h) = tt
listed (label.List list_head.Args) = refl
listed (label.List list_head.Env) = refl
listed (label.List list_head.Sorts) = refl
listed (label.List (list_head.Sort s)) = tt
listed (label.List list_head.Binder) = refl

label_is : (k : NodeKind) (l : Label) → Some (kind_of_label l) ≡ Some k → Listed k l
label_is k l e = let same : kind_of_label l ≡ k = cc in rw same at (listed l)

-- a term of one of these kinds is a node with that label
pub args_tree : (t : Tree) → kind_of t ≡ Some arguments → t ≡ node (label.List list_head.Args) (children t)
args_tree empty e = cc
args_tree (more a b) e = cc
args_tree (node l c) e = ap (λ m. node m c) (label_is arguments l e)

pub env_tree : (t : Tree) → kind_of t ≡ Some environment → t ≡ node (label.List list_head.Env) (children t)
env_tree empty e = cc
env_tree (more a b) e = cc
env_tree (node l c) e = ap (λ m. node m c) (label_is environment l e)

pub vars_tree : (t : Tree) → kind_of t ≡ Some sort_list → t ≡ node (label.List list_head.Sorts) (children t)
vars_tree empty e = cc
vars_tree (more a b) e = cc
vars_tree (node l c) e = ap (λ m. node m c) (label_is sort_list l e)

each_fits : (l : Label) (p : Place) (t : Tree) → shape l ≡ each p → t ≡ node l (children t) → ChildrenFit t → AllFit p (children t)
each_fits l p t s e f = let at = rw e at f in let fit = rw s at at in fit

child_holds : (p : Place) (ts : List Tree) (t n : NodeId) (i : ℕ) → AllFit p (children (tree_at ts t)) → i < row_length (children (tree_at ts t)) → IsIn ts n → tree_at ts n ≡ row_at (children (tree_at ts t)) i → Holds p ts n
child_holds p ts t n i h l w e = record { within = w; fits = rw e (fits_at p (children (tree_at ts t)) i h l) }

pub argument_holds : (ts : List Tree) (t n : NodeId) (i : ℕ) → Holds (is arguments) ts t → ChildrenFit (tree_at ts t) → i < row_length (children (tree_at ts t)) → IsIn ts n → tree_at ts n ≡ row_at (children (tree_at ts t)) i → Holds any_argument ts n
argument_holds ts t n i h f l w e =
    child_holds any_argument ts t n i (each_fits (label.List list_head.Args) any_argument (tree_at ts t) refl (args_tree (tree_at ts t) h.fits) f) l w e

pub predicate_holds : (ts : List Tree) (t n : NodeId) (i : ℕ) → Holds (is environment) ts t → ChildrenFit (tree_at ts t) → i < row_length (children (tree_at ts t)) → IsIn ts n → tree_at ts n ≡ row_at (children (tree_at ts t)) i → Holds (is bound_predicate) ts n
predicate_holds ts t n i h f l w e =
    child_holds (is bound_predicate) ts t n i (each_fits (label.List list_head.Env) (is bound_predicate) (tree_at ts t) refl (env_tree (tree_at ts t) h.fits) f) l w e

pub sort_holds : (ts : List Tree) (t n : NodeId) (i : ℕ) → Holds (is sort_list) ts t → ChildrenFit (tree_at ts t) → i < row_length (children (tree_at ts t)) → IsIn ts n → tree_at ts n ≡ row_at (children (tree_at ts t)) i → Holds (is one_sort) ts n
sort_holds ts t n i h f l w e =
    child_holds (is one_sort) ts t n i (each_fits (label.List list_head.Sorts) (is one_sort) (tree_at ts t) refl (vars_tree (tree_at ts t) h.fits) f) l w e

-- the sorts of a binder, as far as they are made
pub record SortsMade (old new : List Tree) (ns : List NodeId) (ss : List Sort) : Type 0 where
  pub extends : Extends old new
  pub within : AllIn new ns
  pub are : trees_at new ns ≡ row_of_sorts ss

row_of_sorts-push : (ss : List Sort) (s : Sort) → row_of_sorts (ss ++ s ∷ []) ≡ row_push (row_of_sorts ss) (tree_of_sort s)
row_of_sorts-push [] s = refl
row_of_sorts-push (x ∷ ss) s = ap (more (tree_of_sort x)) (row_of_sorts-push ss s)

pub one_sort_made : (a b c : List Tree) (ns : List NodeId) (ss : List Sort) (n : NodeId) (i : ℕ) (d : Sort) → SortsMade a b ns (take i ss) → Extends b c → IsIn c n → tree_at c n ≡ tree_of_sort (get_or ss i d) → i < length ss → SortsMade a c (ns ++ n ∷ []) (take (i + 1) ss)
one_sort_made a b c ns ss n i d m e w t l =
    let s = get_or ss i d in
    let first : trees_at c ns ≡ row_of_sorts (take i ss) = trees_at-extended e ns m.within ∙ m.are in
    record {
      extends = Extends-trans m.extends e;
      within = AllIn-push c ns n (AllIn-extended e ns m.within) w;
      are = trees_at-push c ns n ∙ cc (first, t) ∙ sym (row_of_sorts-push (take i ss) s) ∙ ap row_of_sorts (sym (take_more ss i d l));
    }

pub sorts_fit : (ss : List Sort) → AllFit (is one_sort) (row_of_sorts ss)
sorts_fit [] = tt
sorts_fit (s ∷ ss) = (refl, sorts_fit ss)

pub ruleset filled = (args_stand, predicates_stand)

pub ruleset read = (argument_holds, predicate_holds, sort_holds)
