-- The tree under the values of a table's variables.
use Rattle.std.specs.Prelude.{◌≡◌, ◌≢◌, ◌⊎◌, ◌<◌, ◌+◌, ◌*◌, reverse, length, ℕ, zero, suc, false, if◌then◌else◌, ◌==◌, List, [], ◌∷◌, Option, Some, None}
use Rattle.nts_model.specs.declared.labels.VariableKind.{VariableKind}
use Rattle.nts_model.specs.declared.labels.VariableKind.TheVariants as kind
use Rattle.nts_model.specs.declared.labels.Leaf.{Leaf}
use Rattle.nts_model.specs.declared.labels.Leaf.TheVariants as leaf
use Rattle.nts_model.specs.declared.labels.Label.{Label}
use Rattle.nts_model.specs.declared.labels.Label.TheVariants as label
use Rattle.nts_model.specs.Terms.Trees.{Tree, empty, more, node, size, is_canonical, binders, kind_of, of_sort, sort_of_variable, IsClosed, infer_of, variable_of, variable_tree}
use Rattle.nts_model.specs.Terms.Scoping.{ListsBound}
use Rattle.nts_model.specs.Terms.Placeholders.{leaf_level, CanName}
use Rattle.nts_model.specs.Tables.Contents.{Content, SlotState, unset, link, known, state_of, kind_at}

abbrev pub replaced_at : Option ℕ → ℕ → Tree → Tree → Tree → Tree
replaced_at None n s t u = u
replaced_at (Some m) n s t u = if m == n then s else t

-- the tree with s for the variable n
abbrev pub replaced : ℕ → Tree → Tree → Tree
replaced n s empty = empty
replaced n s (more a b) = more (replaced n s a) (replaced n s b)
replaced n s (node l c) = replaced_at (infer_of l) n s (node l c) (node l (replaced n s c))

abbrev pub LacksAt : Option ℕ → ℕ → Type 0 → Type 0
LacksAt None n P = P
LacksAt (Some m) n P = (m == n) ≡ false

-- the variable n does not occur
abbrev pub Lacks : ℕ → Tree → Type 0
Lacks n empty = Unit {0}
Lacks n (more a b) = Lacks n a × Lacks n b
Lacks n (node l c) = LacksAt (infer_of l) n (Lacks n c)

-- under the values of the variables ns, the newest of them first: each value is taken under the older ones
abbrev pub under : (ℕ → Tree) → List ℕ → Tree → Tree
under val [] t = t
under val (n ∷ ns) t = replaced n (under val ns (val n)) (under val ns t)

abbrev pub IsNoneOf : ℕ → List ℕ → Type 0
IsNoneOf m [] = Unit {0}
IsNoneOf m (n ∷ ns) = ((m == n) ≡ false) × IsNoneOf m ns

abbrev pub IsOneOf : ℕ → List ℕ → Type 0
IsOneOf m [] = ⊥
IsOneOf m (n ∷ ns) = (m ≡ n) ⊎ IsOneOf m ns

-- each variable was without a value, and was not in the value that it got
abbrev pub IsAcyclic : (ℕ → Tree) → List ℕ → Type 0
IsAcyclic val [] = Unit {0}
IsAcyclic val (n ∷ ns) = IsNoneOf n ns × Lacks n (under val ns (val n)) × IsAcyclic val ns

abbrev pub kind_or_type : Option VariableKind → VariableKind
kind_or_type None = kind.Ty
kind_or_type (Some k) = k

abbrev pub value_of_state : VariableKind → Option SlotState → Tree
value_of_state k None = empty
value_of_state k (Some unset) = empty
value_of_state k (Some (link m)) = variable_tree k m
value_of_state k (Some (known t)) = t

-- what a variable was bound to: a value, or the variable that it was joined with
abbrev pub value_at : Content → ℕ → Tree
value_at c n = value_of_state (kind_or_type (kind_at c n)) (state_of c n)

-- the tree with all variables but those of regions replaced by values and roots
abbrev pub resolved : Content → Tree → Tree
resolved c = under (value_at c) (reverse c.order)

-- following links for at most k steps
abbrev pub follow_state : (ℕ → ℕ) → ℕ → Option SlotState → ℕ
follow_state f n (Some (link m)) = f m
follow_state f n s = n

abbrev pub follow : Content → ℕ → ℕ → ℕ
follow c zero n = n
follow c (suc k) n = follow_state (follow c k) n (state_of c n)

-- the root of a class: where the links end. They lead to lower numbers, so n steps are enough
abbrev pub root_of : Content → ℕ → ℕ
root_of c n = follow c n n

-- region variables replaced by their roots
abbrev pub rooted_variable : Content → Option (VariableKind × ℕ) → Label → Label
rooted_variable c (Some (kind.Region, n)) l = label.Leaf (leaf.Variable kind.Region (root_of c n))
rooted_variable c o l = l

abbrev pub rooted : Content → Tree → Tree
rooted c empty = empty
rooted c (more a b) = more (rooted c a) (rooted c b)
rooted c (node l t) = node (rooted_variable c (variable_of l) l) (rooted c t)

-- the tree with all variables, those of regions too, replaced by values and roots
abbrev pub deeply_resolved : Content → Tree → Tree
deeply_resolved c t = rooted c (resolved c t)

-- a tree that is a variable, but none of a region
abbrev pub IsInfer : Tree → Type 0
IsInfer empty = ⊥
IsInfer (more a b) = ⊥
IsInfer (node l c) = (n : ℕ) × (infer_of l ≡ Some n)

-- the variables of the tree are of the table, with their kinds, and the current universe names its placeholders
abbrev pub KnowsVariable : Content → Option (VariableKind × ℕ) → Type 0
KnowsVariable c None = Unit {0}
KnowsVariable c (Some v) = kind_at c v.1 ≡ Some v.0

abbrev pub KnowsLeaf : Content → Label → Type 0
KnowsLeaf c l = KnowsVariable c (variable_of l) × CanName c.universe (leaf_level l)

abbrev pub KnowsLeaves : Content → Tree → Type 0
KnowsLeaves c empty = Unit {0}
KnowsLeaves c (more a b) = KnowsLeaves c a × KnowsLeaves c b
KnowsLeaves c (node l t) = KnowsLeaf c l × KnowsLeaves c t

-- .. and it has no position of a canonical value, and what it binds is listed
abbrev pub KnowsLabel : Content → Label → Type 0
KnowsLabel c l = KnowsVariable c (variable_of l) × CanName c.universe (leaf_level l) × (is_canonical l ≡ false)

-- the table has the variables of the tree, and names its placeholders; what it binds is listed, and it has no position
abbrev pub Knows : Content → Tree → Type 0
Knows c empty = Unit {0}
Knows c (more a b) = Knows c a × Knows c b
Knows c (node l t) = KnowsLabel c l × Knows c t × ListsBound (binders l) t

-- the value of a type variable may be a variable of integers or floats; no other variable has one as its value
abbrev pub rank_of_kind : VariableKind → ℕ
rank_of_kind kind.Ty = 2
rank_of_kind kind.Region = 0
rank_of_kind k = 1

abbrev pub rank_of : Option (VariableKind × ℕ) → ℕ
rank_of None = 0
rank_of (Some v) = rank_of_kind v.0

-- the rank of a tree that is a variable; 0 for each other tree
abbrev pub variable_rank : Tree → ℕ
variable_rank empty = 0
variable_rank (more a b) = 0
variable_rank (node l c) = rank_of (variable_of l)

-- the values are of lower ranks, fit their variables, are of the table and closed; links lead down within a kind;
-- a variable is bound once, and never to a tree that leads back to it
pub record IsSound (c : Content) : Type 0 where
  pub descends : (n m : ℕ) → state_of c n ≡ Some (link m) → m < n
  pub one_kind : (n m : ℕ) → state_of c n ≡ Some (link m) → kind_at c m ≡ kind_at c n
  pub known_trees : (n : ℕ) (t : Tree) → state_of c n ≡ Some (known t) → Knows c t
  pub closed : (n : ℕ) (t : Tree) → state_of c n ≡ Some (known t) → IsClosed t
  pub ranks : (n : ℕ) (t : Tree) (k : VariableKind) → state_of c n ≡ Some (known t) → kind_at c n ≡ Some k → variable_rank t < rank_of_kind k
  pub fits : (n : ℕ) (t : Tree) (k : VariableKind) → state_of c n ≡ Some (known t) → kind_at c n ≡ Some k → (kind_of t ≡ Some (of_sort (sort_of_variable k))) × (k ≢ kind.Region)
  pub linked : (n m : ℕ) → state_of c n ≡ Some (link m) → kind_at c n ≢ Some kind.Region → IsOneOf n (reverse c.order)
  pub bound : (n : ℕ) (t : Tree) → state_of c n ≡ Some (known t) → IsOneOf n (reverse c.order)
  pub unbound : (n : ℕ) → state_of c n ≡ Some unset → IsNoneOf n (reverse c.order)
  pub ordered : (n : ℕ) → IsOneOf n (reverse c.order) → n < length c.slots
  pub no_region : (n : ℕ) → IsOneOf n (reverse c.order) → kind_at c n ≢ Some kind.Region
  pub acyclic : IsAcyclic (value_at c) (reverse c.order)

-- following links
pub data Reaches (c : Content) : ℕ → ℕ → Type 0 where
  here : {n : ℕ} → Reaches c n n
  on : {n m r : ℕ} → Reaches c n m → state_of c m ≡ Some (link r) → Reaches c n r

-- no link leads on
abbrev pub IsRootState : Option SlotState → Type 0
IsRootState (Some (link m)) = ⊥
IsRootState o = Unit {0}

-- 1 for a variable that is no region
abbrev pub flag : Option ℕ → ℕ
flag None = 0
flag (Some n) = 1

abbrev pub variable_flag : Tree → ℕ
variable_flag empty = 0
variable_flag (more a b) = 0
variable_flag (node l c) = flag (infer_of l)

-- for the measure of a walk: the size of the resolved tree, where a variable comes before its value
abbrev pub left_to_resolve : Content → Tree → ℕ
left_to_resolve c t = 3 * size (resolved c t) + variable_rank t

-- each inference variable of the tree is unset
abbrev pub UnsetAt : Content → Option ℕ → Type 0 → Type 0
UnsetAt c None P = P
UnsetAt c (Some n) P = state_of c n ≡ Some unset

abbrev pub AllUnset : Content → Tree → Type 0
AllUnset c empty = Unit {0}
AllUnset c (more a b) = AllUnset c a × AllUnset c b
AllUnset c (node l t) = UnsetAt c (infer_of l) (AllUnset c t)

-- .. and each variable of a region
abbrev pub number_of : Option (VariableKind × ℕ) → Option ℕ
number_of None = None
number_of (Some v) = Some v.1
