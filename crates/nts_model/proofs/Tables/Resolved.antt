-- Resolved trees: variables, nodes and rows, and what a walk over a tree needs.
use Rattle.std.proofs.Common.{◌≡◌, ◌≢◌, ◌⊎◌, inl, inr, ⊎_elim, ℕ, zero, suc, ◌+◌, ◌<◌, ◌≤◌, Option, Some, None, refl, sym, ap, ◌∙◌, arith}
use Rattle.std.specs.Prelude.{reverse}
use Rattle.nts_model.specs.declared.labels.VariableKind.{VariableKind}
use Rattle.nts_model.specs.declared.labels.VariableKind.TheVariants as kind
use Rattle.nts_model.specs.declared.labels.Leaf.TheVariants as leaf
use Rattle.nts_model.specs.declared.labels.Label.{Label}
use Rattle.nts_model.specs.declared.labels.Label.TheVariants as label
use Rattle.nts_model.specs.Terms.Trees.{Tree, empty, more, node, size, row_at, row_length, row_take, row_push, children, label_of, IsRow, infer_number, infer_of, infer_of_variable, variable_of, variable_tree}
use Rattle.nts_model.specs.Tables.Contents.{Content, unset, link, known, state_of, kind_at}
use Rattle.nts_model.specs.Tables.Resolving.{IsInfer, Lacks, IsOneOf, kind_or_type, value_of_state, value_at, resolved, rooted, rooted_variable, deeply_resolved, Knows, IsSound, Reaches, here, on, flag, variable_flag, rank_of_kind, rank_of, variable_rank, left_to_resolve}
use Rattle.nts_model.proofs.Terms.Variables.{infer_of_variable_label}
use Rattle.nts_model.proofs.Tables.Under.{under-empty, under-more, under-node, under-unbound, under-bound, Lacks-under, under-lacks, under-twice}
use Rattle.nts_model.proofs.Tables.Roots.{Lacks-rooted, rooted-twice, kind_at-reaches}

pub resolved-empty : (c : Content) → resolved c empty ≡ empty
resolved-empty c = under-empty (value_at c) (reverse c.order)

pub resolved-more : (c : Content) (a b : Tree) → resolved c (more a b) ≡ more (resolved c a) (resolved c b)
resolved-more c a b = under-more (value_at c) (reverse c.order) a b

-- a node that is no variable, or a variable of a region
pub resolved-node : (c : Content) (l : Label) (x : Tree) → infer_of l ≡ None → resolved c (node l x) ≡ node l (resolved c x)
resolved-node c l x h = under-node (value_at c) (reverse c.order) l x h

pub deeply_resolved-node : (c : Content) (l : Label) (x : Tree) → infer_of l ≡ None → deeply_resolved c (node l x) ≡ node (rooted_variable c (variable_of l) l) (deeply_resolved c x)
deeply_resolved-node c l x h = ap (rooted c) (resolved-node c l x h)

pub resolved-variable_unset : (c : Content) (l : Label) (x : Tree) (n : ℕ) → IsSound c → infer_of l ≡ Some n → state_of c n ≡ Some unset → resolved c (node l x) ≡ node l x
resolved-variable_unset c l x n s h u = under-unbound (value_at c) (reverse c.order) l x n h (s.unbound n u)

pub resolved-variable_known : (c : Content) (l : Label) (x : Tree) (n : ℕ) (t : Tree) → IsSound c → infer_of l ≡ Some n → state_of c n ≡ Some (known t) → resolved c (node l x) ≡ resolved c t
resolved-variable_known c l x n t s h k =
    under-bound (value_at c) (reverse c.order) l x n h (s.bound n t k) s.acyclic ∙ ap (λ o. resolved c (value_of_state (kind_or_type (kind_at c n)) o)) k

-- what the table has of a variable that a label names
pub record IsVariable (c : Content) (l : Label) (k : VariableKind) (n : ℕ) : Type 0 where
  pub is : variable_of l ≡ Some (k, n)
  pub no_region : k ≢ kind.Region
  pub has : kind_at c n ≡ Some k

pub is_variable : (c : Content) (l : Label) (x : Tree) (k : VariableKind) (n : ℕ) → Knows c (node l x) → variable_of l ≡ Some (k, n) → k ≢ kind.Region → IsVariable c l k n
is_variable c l x k n h e r = record { is = e; no_region = r; has = rw e at h.0.0 }

pub IsVariable-infer : (c : Content) (l : Label) (k : VariableKind) (n : ℕ) → IsVariable c l k n → infer_of l ≡ Some n
IsVariable-infer c l k n v = infer_of_variable_label l k n v.is v.no_region

pub resolved-variable_link : (c : Content) (l : Label) (x : Tree) (k : VariableKind) (n m : ℕ) → IsSound c → IsVariable c l k n → state_of c n ≡ Some (link m) → resolved c (node l x) ≡ resolved c (variable_tree k m)
resolved-variable_link c l x k n m s v e =
    let apart : kind_at c n ≢ Some kind.Region = λ q. v.no_region (let z : Some k ≡ Some kind.Region = sym v.has ∙ q in cc) in
    let value : value_at c n ≡ variable_tree k m = rw (v.has, e) refl in
    under-bound (value_at c) (reverse c.order) l x n (IsVariable-infer c l k n v) (s.linked n m e apart) s.acyclic ∙ ap (resolved c) value

pub IsVariable-reaches : (c : Content) (l : Label) (k : VariableKind) (n r : ℕ) → IsSound c → IsVariable c l k n → Reaches c n r → IsVariable c (label.Leaf (leaf.Variable k r)) k r
IsVariable-reaches c l k n r s v p = record { is = refl; no_region = v.no_region; has = kind_at-reaches c n r s p ∙ v.has }

-- a variable and the root that it leads to
pub resolved-reaches : (c : Content) (l : Label) (x : Tree) (k : VariableKind) (n r : ℕ) → IsSound c → IsVariable c l k n → Reaches c n r → (r ≡ n) ⊎ (resolved c (node l x) ≡ resolved c (variable_tree k r))
resolved-reaches c l x k n r s v here = inl refl
resolved-reaches c l x k n r s v (on {m = m} before e) =
    let there : IsVariable c (label.Leaf (leaf.Variable k m)) k m = IsVariable-reaches c l k n m s v before in
    let next : resolved c (variable_tree k m) ≡ resolved c (variable_tree k r) = resolved-variable_link c (label.Leaf (leaf.Variable k m)) empty k m r s there e in
    inr (⊎_elim
    (λ (same : m ≡ n). let e' : state_of c n ≡ Some (link r) = rw (← same) e in resolved-variable_link c l x k n r s v e')
    (λ equal. equal ∙ next)
    (resolved-reaches c l x k n m s v before))

-- .. that has a value
pub resolved-reaches_known : (c : Content) (l : Label) (x : Tree) (k : VariableKind) (n r : ℕ) (t : Tree) → IsSound c → IsVariable c l k n → Reaches c n r → state_of c r ≡ Some (known t) → resolved c (node l x) ≡ resolved c t
resolved-reaches_known c l x k n r t s v p e =
    let there : IsVariable c (label.Leaf (leaf.Variable k r)) k r = IsVariable-reaches c l k n r s v p in
    ⊎_elim
    (λ (same : r ≡ n). let e' : state_of c n ≡ Some (known t) = rw (← same) e in resolved-variable_known c l x n t s (IsVariable-infer c l k n v) e')
    (λ equal. equal ∙ resolved-variable_known c (label.Leaf (leaf.Variable k r)) empty r t s (IsVariable-infer c (label.Leaf (leaf.Variable k r)) k r there) e)
    (resolved-reaches c l x k n r s v p)

-- the resolved tree of a variable is that of its root
pub resolved-variable_reaches : (c : Content) (k : VariableKind) (n r : ℕ) → IsSound c → k ≢ kind.Region → kind_at c n ≡ Some k → Reaches c n r → resolved c (variable_tree k n) ≡ resolved c (variable_tree k r)
resolved-variable_reaches c k n r s h e p =
    ⊎_elim (λ (same : r ≡ n). rw same refl) (λ f. f)
    (resolved-reaches c (label.Leaf (leaf.Variable k n)) empty k n r s (record { is = refl; no_region = h; has = e }) p)

-- sizes
pub no_flag : (t : Tree) → (IsInfer t → ⊥) → variable_flag t ≡ 0
no_flag empty h = refl
no_flag (more a b) h = refl
no_flag (node l c) h = by_case (infer_of l) refl
  where
    by_case : (o : Option ℕ) → infer_of l ≡ o → flag (infer_of l) ≡ 0
    by_case None e = rw e refl
    by_case (Some n) e = absurd (h (n, e))

pub flag_le : (t : Tree) → variable_flag t ≤ 1
flag_le empty = omega arith
flag_le (more a b) = omega arith
flag_le (node l c) = by_case (infer_of l)
  where
    by_case : (o : Option ℕ) → flag o ≤ 1
    by_case None = omega arith
    by_case (Some n) = omega arith

-- ranks
pub rank_le : (t : Tree) → variable_rank t ≤ 2
rank_le empty = omega arith
rank_le (more a b) = omega arith
rank_le (node l c) = by_case (variable_of l)
  where
    by_kind : (k : VariableKind) → rank_of_kind k ≤ 2
    by_kind kind.Ty = omega arith
    by_kind kind.Int = omega arith
    by_kind kind.Float = omega arith
    by_kind kind.Const = omega arith
    by_kind kind.Region = omega arith

    by_case : (o : Option (VariableKind × ℕ)) → rank_of o ≤ 2
    by_case None = omega arith
    by_case (Some v) = by_kind v.0

infer_rank : (k : VariableKind) (n m : ℕ) → infer_number k n ≡ Some m → 0 < rank_of_kind k
infer_rank kind.Ty n m e = omega arith
infer_rank kind.Int n m e = omega arith
infer_rank kind.Float n m e = omega arith
infer_rank kind.Const n m e = omega arith
infer_rank kind.Region n m e = cc

rank_infer : (k : VariableKind) (n : ℕ) → infer_number k n ≡ None → rank_of_kind k ≡ 0
rank_infer kind.Ty n e = cc
rank_infer kind.Int n e = cc
rank_infer kind.Float n e = cc
rank_infer kind.Const n e = cc
rank_infer kind.Region n e = refl

-- a tree is of rank 0 exactly where it is no variable but those of regions
pub rank_none : (t : Tree) → variable_rank t ≡ 0 → IsInfer t → ⊥
rank_none empty h i = i
rank_none (more a b) h i = i
rank_none (node l c) h i = by_case (variable_of l) h i.1
  where
    by_case : (o : Option (VariableKind × ℕ)) → rank_of o ≡ 0 → infer_of_variable o ≡ Some i.0 → ⊥
    by_case None q e = cc
    by_case (Some v) q e = let z = infer_rank v.0 v.1 i.0 e in omega (arith, z, q)

pub no_rank : (t : Tree) → (IsInfer t → ⊥) → variable_rank t ≡ 0
no_rank empty h = refl
no_rank (more a b) h = refl
no_rank (node l c) h = by_case (variable_of l) refl
  where
    by_number : (v : VariableKind × ℕ) (o : Option ℕ) → infer_number v.0 v.1 ≡ o → variable_of l ≡ Some v → rank_of_kind v.0 ≡ 0
    by_number v None q e = rank_infer v.0 v.1 q
    by_number v (Some n) q e = absurd (h (n, ap infer_of_variable e ∙ q))

    by_case : (o : Option (VariableKind × ℕ)) → variable_of l ≡ o → rank_of o ≡ 0
    by_case None e = refl
    by_case (Some v) e = by_number v (infer_number v.0 v.1) refl e

size-row_at : (c : Content) (r : Tree) (i : ℕ) → i < row_length r → size (resolved c (row_at r i)) < size (resolved c r)
size-row_at c empty i h = absurd (omega arith)
size-row_at c (more a b) zero h = omega (arith, ap size (resolved-more c a b))
size-row_at c (more a b) (suc i) h =
    let deeper : size (resolved c (row_at b i)) < size (resolved c b) = size-row_at c b i (omega arith) in
    omega (arith, deeper, ap size (resolved-more c a b))
size-row_at c (node l x) i h = absurd (omega arith)

pub Knows-row_at : (c : Content) (r : Tree) (i : ℕ) → Knows c r → Knows c (row_at r i)
Knows-row_at c empty i h = tt
Knows-row_at c (more a b) zero h = h.0
Knows-row_at c (more a b) (suc i) h = Knows-row_at c b i h.1
Knows-row_at c (node l x) i h = tt

-- what a walk needs of a variable that has a value
pub record KnownStep (c : Content) (t v : Tree) : Type 0 where
  pub same : resolved c t ≡ resolved c v
  pub smaller : left_to_resolve c v < left_to_resolve c t
  pub knows : Knows c v
  pub lower : variable_rank v < variable_rank t

pub known_step : (c : Content) (t : Tree) (l : Label) (k : VariableKind) (n r : ℕ) (v : Tree) → IsSound c → Knows c t → label_of t ≡ Some l → variable_of l ≡ Some (k, n) → k ≢ kind.Region → Reaches c n r → state_of c r ≡ Some (known v) → KnownStep c t v
known_step c empty l k n r v s h e q d p z = cc
known_step c (more a b) l k n r v s h e q d p z = cc
known_step c (node m x) l k n r v s h e q d p z =
    let same_label : m ≡ l = cc in
    let is : IsVariable c m k n = is_variable c m x k n h (ap variable_of same_label ∙ q) d in
    let same = resolved-reaches_known c m x k n r v s is p z in
    let has : kind_at c r ≡ Some k = kind_at-reaches c n r s p ∙ is.has in
    let own : rank_of (variable_of m) ≡ rank_of_kind k = ap rank_of is.is in
    let below : variable_rank v < rank_of_kind k = s.ranks r v k z has in
    record {
      same = same;
      smaller = omega (arith, ap size same, own, below);
      knows = s.known_trees r v z;
      lower = omega (arith, own, below);
    }

-- .. of a node that is no variable, or a variable of a region
pub record NodeStep (c : Content) (t : Tree) (l : Label) : Type 0 where
  pub is : resolved c t ≡ node l (resolved c (children t))
  pub deeply : deeply_resolved c t ≡ node (rooted_variable c (variable_of l) l) (deeply_resolved c (children t))
  pub smaller : (i : ℕ) → i < row_length (children t) → left_to_resolve c (row_at (children t) i) < left_to_resolve c t
  pub knows : (i : ℕ) → Knows c (row_at (children t) i)

pub node_step : (c : Content) (t : Tree) (l : Label) → label_of t ≡ Some l → infer_of l ≡ None → Knows c t → NodeStep c t l
node_step c empty l e h k = cc
node_step c (more a b) l e h k = cc
node_step c (node m x) l e h k =
    let q : m ≡ l = cc in
    let none : infer_of m ≡ None = ap infer_of q ∙ h in
    let is : resolved c (node m x) ≡ node l (resolved c x) = resolved-node c m x none ∙ ap (λ z. node z (resolved c x)) q in
    let big : size (resolved c (node m x)) ≡ size (resolved c x) + 1 = ap size is in
    record {
      is = is;
      deeply = ap (rooted c) is;
      smaller = λ i w. omega (arith, big, size-row_at c x i w, rank_le (row_at x i));
      knows = λ i. Knows-row_at c x i k.1;
    }

-- rows
pub row_length-resolved : (c : Content) (r : Tree) → IsRow r → row_length (resolved c r) ≡ row_length r
row_length-resolved c empty h = rw (resolved-empty c) refl
row_length-resolved c (more a b) h = rw (resolved-more c a b) (ap (λ n. n + 1) (row_length-resolved c b h))
row_length-resolved c (node l x) h = absurd h

pub IsRow-resolved : (c : Content) (r : Tree) → IsRow r → IsRow (resolved c r)
IsRow-resolved c empty h = rw (resolved-empty c) tt
IsRow-resolved c (more a b) h = rw (resolved-more c a b) (IsRow-resolved c b h)
IsRow-resolved c (node l x) h = absurd h

pub resolved-row_push : (c : Content) (r t : Tree) → IsRow r → resolved c (row_push r t) ≡ row_push (resolved c r) (resolved c t)
resolved-row_push c empty t h = rw (resolved-empty c) (resolved-more c t empty ∙ ap (more (resolved c t)) (resolved-empty c))
resolved-row_push c (more a b) t h = rw (resolved-more c a b) (resolved-more c a (row_push b t) ∙ ap (more (resolved c a)) (resolved-row_push c b t h))
resolved-row_push c (node l x) t h = absurd h

pub deeply_resolved-empty : (c : Content) → deeply_resolved c empty ≡ empty
deeply_resolved-empty c = ap (rooted c) (resolved-empty c)

-- done twice it gives the same as once
pub Lacks-resolved : (c : Content) (t : Tree) (n : ℕ) → IsSound c → IsOneOf n (reverse c.order) → Lacks n (resolved c t)
Lacks-resolved c t n s h = Lacks-under (value_at c) (reverse c.order) t n s.acyclic h

pub resolved-resolved : (c : Content) (t : Tree) → IsSound c → resolved c (resolved c t) ≡ resolved c t
resolved-resolved c t s = under-twice (value_at c) (reverse c.order) t s.acyclic

pub resolved-deeply_resolved : (c : Content) (t : Tree) → IsSound c → resolved c (deeply_resolved c t) ≡ deeply_resolved c t
resolved-deeply_resolved c t s =
    under-lacks (value_at c) (reverse c.order) (deeply_resolved c t) (λ m k. Lacks-rooted c m (resolved c t) (Lacks-resolved c t m s k))

pub deeply_resolved-deeply_resolved : (c : Content) (t : Tree) → IsSound c → deeply_resolved c (deeply_resolved c t) ≡ deeply_resolved c t
deeply_resolved-deeply_resolved c t s =
    ap (rooted c) (resolved-deeply_resolved c t s) ∙ rooted-twice c (resolved c t) s.descends

pub deeply_resolved-resolved : (c : Content) (t : Tree) → IsSound c → deeply_resolved c (resolved c t) ≡ deeply_resolved c t
deeply_resolved-resolved c t s = ap (rooted c) (resolved-resolved c t s)
