-- The steps by which a term is gone through and made again: parts that are entered, nodes that are built over what was made last.
use Rattle.std.specs.Prelude.{ℕ, zero, suc, ◌+◌, ◌≤◌, ◌≡◌, Bool, Option, Some, List, [], ◌∷◌, ◌++◌, length}
use Rattle.nts_model.specs.declared.labels.Sort.TheVariants as sort
use Rattle.nts_model.specs.declared.labels.Variance.{Variance}
use Rattle.nts_model.specs.declared.labels.ListHead.TheVariants as list
use Rattle.nts_model.specs.declared.labels.Label.TheVariants as label
use Rattle.nts_model.specs.Terms.Trees.{Tree, empty, more, node, size, NodeKind, of_sort, kind_of, sort_of_alias, Place, any_argument, a_type, FitsPlace, IsFormed}
use Rattle.nts_model.specs.Derivations.Related.{times, first_variance, rest_variances}
use Rattle.nts_variance_model.specs.Variances.Forms.{Form, a_constructor, a_function, a_value, an_alias, over}

-- a part is entered, which varies so, and quietly where a goal around it says all that it owes; a node is built over so many
-- parts that were made last; what was made last owes a goal to a part
pub data WalkStep : Type 0 where
  enter : Variance → Bool → Tree → WalkStep
  build : Form → ℕ → WalkStep
  owe : Variance → Tree → WalkStep

abbrev pub step_of : (Tree → Tree) → WalkStep → WalkStep
step_of f (enter v q t) = enter v q (f t)
step_of f (build F n) = build F n
step_of f (owe v t) = owe v (f t)

abbrev pub steps_of : (Tree → Tree) → List WalkStep → List WalkStep
steps_of f [] = []
steps_of f (x ∷ xs) = step_of f x ∷ steps_of f xs

-- a list whose last element is its newest, the newest first
abbrev pub stacked : {A B : Type 0} → (A → B) → List A → List B
stacked f [] = []
stacked f (x ∷ xs) = stacked f xs ++ f x ∷ []

-- the row of the first n, of which the last stands first; and the others
abbrev pub popped : ℕ → List Tree → Tree → Tree
popped zero ss r = r
popped (suc n) [] r = r
popped (suc n) (s ∷ ss) r = popped n ss (more s r)

abbrev pub unpopped : ℕ → List Tree → List Tree
unpopped zero ss = ss
unpopped (suc n) [] = []
unpopped (suc n) (s ∷ ss) = unpopped n ss

-- the parts of a row are entered in order
abbrev pub entering : Variance → List Variance → Bool → Tree → List WalkStep → List WalkStep
entering v ws q empty xs = xs
entering v ws q (more t ts) xs = enter (times v (first_variance ws)) q t ∷ entering v (rest_variances ws) q ts xs
entering v ws q (node l c) xs = xs

-- the first n kinds are of parts of the form: a const value has a type, all others have any arguments
abbrev pub part_place : Form → Place
part_place (a_value b) = a_type
part_place F = any_argument

abbrev pub PartsFit : Form → ℕ → List (Option NodeKind) → Type 0
PartsFit F zero ks = Unit {0}
PartsFit F (suc n) [] = ⊥
PartsFit F (suc n) (k ∷ ks) = FitsPlace (part_place F) k × PartsFit F n ks

abbrev pub kinds_left : ℕ → List (Option NodeKind) → List (Option NodeKind)
kinds_left zero ks = ks
kinds_left (suc n) [] = []
kinds_left (suc n) (k ∷ ks) = kinds_left n ks

abbrev pub kind_over : Form → NodeKind
kind_over (a_constructor i) = of_sort sort.Ty
kind_over (a_function ss) = of_sort sort.Ty
kind_over (a_value b) = of_sort sort.Const
kind_over (an_alias h) = of_sort (sort_of_alias h)

-- from trees of these kinds the steps lead to one tree, and each node has its parts
abbrev pub EndsAlone : List WalkStep → List (Option NodeKind) → Type 0
EndsAlone [] ks = length ks ≡ 1
EndsAlone (enter v q t ∷ xs) ks = EndsAlone xs (kind_of t ∷ ks)
EndsAlone (build F n ∷ xs) ks = PartsFit F n ks × EndsAlone xs (Some (kind_over F) ∷ kinds_left n ks)
EndsAlone (owe v t ∷ xs) ks = (1 ≤ length ks) × EndsAlone xs ks

-- a function binds sorts
abbrev pub HasSorts : Form → Type 0
HasSorts (a_function ss) = IsFormed (node (label.List list.Sorts) ss)
HasSorts F = Unit {0}

-- how many nodes are to be built
abbrev pub builds : List WalkStep → ℕ
builds [] = 0
builds (enter v q t ∷ xs) = builds xs
builds (build F n ∷ xs) = builds xs + 1
builds (owe v t ∷ xs) = builds xs

-- how large the trees that were made are
abbrev pub sizes : List Tree → ℕ
sizes [] = 0
sizes (t ∷ ts) = size t + sizes ts

module _ (P : Variance → Bool → Tree → Tree → Type 0) (Q : Variance → Tree → Tree → Type 0) where
  -- the steps lead from the trees that were made to one tree, where P says what may be made for a part, and Q what is owed for one
  pub data StepsLead : List WalkStep → List Tree → Tree → Type 0 where
    ended : {s : Tree} → StepsLead [] (s ∷ []) s
    entered : {v : Variance} {q : Bool} {t s e : Tree} {xs : List WalkStep} {ss : List Tree} → P v q t s → StepsLead xs (s ∷ ss) e → StepsLead (enter v q t ∷ xs) ss e
    built : {F : Form} {n : ℕ} {e : Tree} {xs : List WalkStep} {ss : List Tree} → n ≤ length ss → StepsLead xs (over F (popped n ss empty) ∷ unpopped n ss) e → StepsLead (build F n ∷ xs) ss e
    owed : {v : Variance} {t s e : Tree} {xs : List WalkStep} {ss : List Tree} → Q v t s → StepsLead xs (s ∷ ss) e → StepsLead (owe v t ∷ xs) (s ∷ ss) e

  -- made for each part of a row
  abbrev pub MadeForRow : Variance → List Variance → Bool → Tree → Tree → Type 0
  MadeForRow v ws q empty empty = Unit {0}
  MadeForRow v ws q (more t ts) (more r rs) = P (times v (first_variance ws)) q t r × MadeForRow v (rest_variances ws) q ts rs
  MadeForRow v ws q ts rs = ⊥
