-- How many closed aliases trees have: as many as those that are one with them but for regions, and as many as before where a
-- variable gets a value without any.
use Rattle.std.proofs.Common.{◌≡◌, ◌≢◌, ◌⊎◌, inl, inr, ⊎_elim, ℕ, zero, suc, ◌+◌, ◌<◌, Bool, true, List, [], ◌∷◌, Option, Some, None, refl, sym, ap, ◌∙◌, arith}
use Rattle.std.specs.Prelude.{reverse, ◌&&◌}
use Rattle.nts_model.specs.declared.labels.VariableKind.{VariableKind}
use Rattle.nts_model.specs.declared.labels.VariableKind.TheVariants as kind
use Rattle.nts_model.specs.declared.labels.Leaf.TheVariants as leaf
use Rattle.nts_model.specs.declared.labels.BoundVarIndexKind.TheVariants as index
use Rattle.nts_model.specs.declared.labels.Label.{Label}
use Rattle.nts_model.specs.declared.labels.Label.TheVariants as label
use Rattle.nts_model.specs.Terms.Trees.{Tree, empty, more, node, binders, is_alias, IsBoundBelow, IsClosedUnder, infer_of, variable_of, variable_tree}
use Rattle.nts_model.specs.Tables.Contents.{Content, Slot, SlotState, unset, link, known, state_of, kind_at, bound_to}
use Rattle.nts_model.specs.Tables.Resolving.{under, kind_or_type, value_of_state, value_at, resolved, rooted, rooted_variable, deeply_resolved, Knows, IsSound, IsOneOf, AllUnset}
use Rattle.nts_model.specs.Terms.Regions.{IsRegion, RegionName, name_of_label}
use Rattle.nts_model.specs.Tables.Holding.{Continues}
use Rattle.nts_model.specs.Tables.Alike.{Alike, one_tree, two_regions, one_label, two_rows, AreAlike}
use Rattle.nts_model.specs.Tables.Measuring.{is_less, is_bound_below, unless_variable, closed_under, closed_aliases}
use Rattle.nts_model.proofs.Tables.Measuring.{closed_replaced, aliases_replaced}
use Rattle.nts_model.proofs.Tables.Under.{under-bound, same_or_other}
use Rattle.nts_model.proofs.Tables.Roots.{infer_of-rooted, Lacks-rooted}
use Rattle.nts_model.proofs.Tables.Resolved.{resolved-empty, resolved-more, resolved-node, resolved-variable_unset, Lacks-resolved}
use Rattle.nts_model.proofs.Tables.Open.{AllUnset-lacks, Knows-deeply_resolved}
use Rattle.nts_model.proofs.Tables.Fitting.{region_label}
use Rattle.nts_model.proofs.Tables.Binding.{IsKnowable, resolved-known}

-- where no bound variable escapes
less_true : (d c : ℕ) → d < c → is_less d c ≡ true
less_true d zero h = absurd (omega (arith, h))
less_true zero (suc c) h = refl
less_true (suc d) (suc c) h = less_true d c (omega (arith, h))

below_true : (c : ℕ) (l : Label) → IsBoundBelow c l → is_bound_below c l ≡ true
below_true c (label.Bound s (index.Bound d) n) h = less_true d c h
below_true c (label.Bound s index.Canonical n) h = refl
below_true c (label.Leaf x) h = refl
below_true c (label.Ty x) h = refl
below_true c (label.Const x) h = refl
below_true c (label.Clause x) h = refl
below_true c (label.Predicate x) h = refl
below_true c (label.List x) h = refl

node_true : (o : Option ℕ) (x y : Bool) → x ≡ true → y ≡ true → unless_variable o true (x && y) ≡ true
node_true None x y p q = rw (p, q) refl
node_true (Some n) x y p q = refl

pub closed_true : (c : ℕ) (t : Tree) → IsClosedUnder c t → closed_under c t ≡ true
closed_true c empty h = refl
closed_true c (more a b) h = rw (closed_true c a h.0, closed_true c b h.1) refl
closed_true c (node l t) h = node_true (infer_of l) (is_bound_below c l) (closed_under (c + binders l) t) (below_true c l h.0) (closed_true (c + binders l) t h.1)

-- a region has none
region_counts : (c : ℕ) (l : Label) (x : RegionName) → name_of_label l ≡ Some x → (closed_under c (node l empty) ≡ true) × (closed_aliases (node l empty) ≡ 0)
region_counts c (label.Leaf (leaf.Variable kind.Region n)) x e = (refl, refl)
region_counts c (label.Leaf (leaf.Variable kind.Ty n)) x e = cc
region_counts c (label.Leaf (leaf.Variable kind.Int n)) x e = cc
region_counts c (label.Leaf (leaf.Variable kind.Float n)) x e = cc
region_counts c (label.Leaf (leaf.Variable kind.Const n)) x e = cc
region_counts c (label.Leaf (leaf.Region r)) x e = (refl, refl)
region_counts c (label.Leaf (leaf.TyConstant r)) x e = cc
region_counts c (label.Leaf (leaf.ConstConstant r)) x e = cc
region_counts c (label.Bound s i n) x e = cc
region_counts c (label.Ty h) x e = cc
region_counts c (label.Const h) x e = cc
region_counts c (label.Clause h) x e = cc
region_counts c (label.Predicate h) x e = cc
region_counts c (label.List h) x e = cc

pub region_none : (c : ℕ) (t : Tree) → IsRegion t → (closed_under c t ≡ true) × (closed_aliases t ≡ 0)
region_none c empty h = let e = h.1 in cc
region_none c (more a b) h = let e = h.1 in cc
region_none c (node l t) h =
    let q = region_label l t h.0 h.1 in
    let alone : t ≡ empty = q.1 in
    rw alone (region_counts c l h.0 q.0)

-- trees that are one but for regions
pub closed_alike : (R : Tree → Tree → Type 0) (c : ℕ) (a b : Tree) → Alike R a b → closed_under c a ≡ closed_under c b
closed_alike R c a b one_tree = refl
closed_alike R c a b (two_regions p q r) = (region_none c a p).0 ∙ sym (region_none c b q).0
closed_alike R c a b (one_label {l = l} {c = x} {d = y} e h) = rw (closed_alike R (c + binders l) x y h) refl
closed_alike R c a b (two_rows {a = s} {b = t} {c = x} {d = y} h k) = rw (closed_alike R c s x h, closed_alike R c t y k) refl

pub aliases_alike : (R : Tree → Tree → Type 0) (a b : Tree) → Alike R a b → closed_aliases a ≡ closed_aliases b
aliases_alike R a b one_tree = refl
aliases_alike R a b (two_regions p q r) = (region_none 0 a p).1 ∙ sym (region_none 0 b q).1
aliases_alike R a b (one_label {l = l} {c = x} {d = y} e h) = rw (closed_alike R (0 + binders l) x y h, aliases_alike R x y h) refl
aliases_alike R a b (two_rows {a = s} {b = t} {c = x} {d = y} h k) = rw (aliases_alike R s x h, aliases_alike R t y k) refl

-- roots of regions
record SameShape (l m : Label) : Type 0 where
  pub alias : is_alias l ≡ is_alias m
  pub binds : binders l ≡ binders m
  pub below : (c : ℕ) → is_bound_below c l ≡ is_bound_below c m

rooted_shape : (c : Content) (l : Label) → SameShape (rooted_variable c (variable_of l) l) l
rooted_shape c (label.Leaf (leaf.Variable kind.Region n)) = record { alias = refl; binds = refl; below = λ d. refl }
rooted_shape c (label.Leaf (leaf.Variable kind.Ty n)) = record { alias = refl; binds = refl; below = λ d. refl }
rooted_shape c (label.Leaf (leaf.Variable kind.Int n)) = record { alias = refl; binds = refl; below = λ d. refl }
rooted_shape c (label.Leaf (leaf.Variable kind.Float n)) = record { alias = refl; binds = refl; below = λ d. refl }
rooted_shape c (label.Leaf (leaf.Variable kind.Const n)) = record { alias = refl; binds = refl; below = λ d. refl }
rooted_shape c (label.Leaf (leaf.Region r)) = record { alias = refl; binds = refl; below = λ d. refl }
rooted_shape c (label.Leaf (leaf.TyConstant r)) = record { alias = refl; binds = refl; below = λ d. refl }
rooted_shape c (label.Leaf (leaf.ConstConstant r)) = record { alias = refl; binds = refl; below = λ d. refl }
rooted_shape c (label.Bound s i n) = record { alias = refl; binds = refl; below = λ d. refl }
rooted_shape c (label.Ty h) = record { alias = refl; binds = refl; below = λ d. refl }
rooted_shape c (label.Const h) = record { alias = refl; binds = refl; below = λ d. refl }
rooted_shape c (label.Clause h) = record { alias = refl; binds = refl; below = λ d. refl }
rooted_shape c (label.Predicate h) = record { alias = refl; binds = refl; below = λ d. refl }
rooted_shape c (label.List h) = record { alias = refl; binds = refl; below = λ d. refl }

closed_rooted : (c : Content) (n : ℕ) (t : Tree) → closed_under n (rooted c t) ≡ closed_under n t
closed_rooted c n empty = refl
closed_rooted c n (more a b) = rw (closed_rooted c n a, closed_rooted c n b) refl
closed_rooted c n (node l t) =
    let s = rooted_shape c l in
    rw (infer_of-rooted c l, s.below n, s.binds, closed_rooted c (n + binders l) t) refl

pub aliases_rooted : (c : Content) (t : Tree) → closed_aliases (rooted c t) ≡ closed_aliases t
aliases_rooted c empty = refl
aliases_rooted c (more a b) = rw (aliases_rooted c a, aliases_rooted c b) refl
aliases_rooted c (node l t) =
    let s = rooted_shape c l in
    rw (infer_of-rooted c l, s.alias, s.below 0, s.binds, closed_rooted c (0 + binders l) t, aliases_rooted c t) refl

-- trees that a table holds to be one but for regions have equally many
pub aliases_one : (d : Content) (r t : Tree) → AreAlike d r t → closed_aliases (resolved d r) ≡ closed_aliases (resolved d t)
aliases_one d r t h =
    sym (aliases_rooted d (resolved d r)) ∙ aliases_alike _ (deeply_resolved d r) (deeply_resolved d t) h ∙ aliases_rooted d (resolved d t)

-- the values of a table are closed, so a tree under them is as closed as it was
variable_closed : (k : VariableKind) (n : ℕ) → closed_under 0 (variable_tree k n) ≡ true
variable_closed kind.Ty n = refl
variable_closed kind.Int n = refl
variable_closed kind.Float n = refl
variable_closed kind.Const n = refl
variable_closed kind.Region n = refl

pub variable_none : (k : VariableKind) (n : ℕ) → closed_aliases (variable_tree k n) ≡ 0
variable_none kind.Ty n = refl
variable_none kind.Int n = refl
variable_none kind.Float n = refl
variable_none kind.Const n = refl
variable_none kind.Region n = refl

value_closed : (c : Content) (n : ℕ) → IsSound c → closed_under 0 (value_at c n) ≡ true
value_closed c n s = by_state (state_of c n) refl
  where
    by_state : (o : Option SlotState) → state_of c n ≡ o → closed_under 0 (value_of_state (kind_or_type (kind_at c n)) o) ≡ true
    by_state None e = refl
    by_state (Some unset) e = refl
    by_state (Some (link m)) e = variable_closed (kind_or_type (kind_at c n)) m
    by_state (Some (known t)) e = closed_true 0 t (s.closed n t e)

closed_under_values : (val : ℕ → Tree) (ns : List ℕ) (c : ℕ) (t : Tree) → ((n : ℕ) → closed_under 0 (val n) ≡ true) → closed_under c (under val ns t) ≡ closed_under c t
closed_under_values val [] c t h = refl
closed_under_values val (n ∷ ns) c t h =
    closed_replaced c n (under val ns (val n)) (under val ns t) (closed_under_values val ns 0 (val n) h ∙ h n) ∙ closed_under_values val ns c t h

pub closed_resolved : (d : Content) (c : ℕ) (t : Tree) → IsSound d → closed_under c (resolved d t) ≡ closed_under c t
closed_resolved d c t s = closed_under_values (value_at d) (reverse d.order) c t (λ n. value_closed d n s)

-- .. and trees that the table holds to be one but for regions are closed under as many binders
pub closed_one : (d : Content) (c : ℕ) (r t : Tree) → IsSound d → AreAlike d r t → closed_under c r ≡ closed_under c t
closed_one d c r t s h =
    sym (closed_resolved d c r s) ∙ sym (closed_rooted d c (resolved d r)) ∙ closed_alike _ c (deeply_resolved d r) (deeply_resolved d t) h
    ∙ closed_rooted d c (resolved d t) ∙ closed_resolved d c t s

-- a tree of variables without values under a later table, in which these stand for trees without aliases
abbrev VariablesHaveNone : Content → Content → Type 0
VariablesHaveNone c d = (l : Label) (x : Tree) (n : ℕ) → infer_of l ≡ Some n → state_of c n ≡ Some unset → closed_aliases (resolved d (node l x)) ≡ 0

aliases_later : (c d : Content) (t : Tree) → IsSound d → VariablesHaveNone c d → AllUnset c t → closed_aliases (resolved d t) ≡ closed_aliases t
aliases_later c d empty s h k = ap closed_aliases (resolved-empty d)
aliases_later c d (more a b) s h k =
    rw (resolved-more d a b, aliases_later c d a s h k.0, aliases_later c d b s h k.1) refl
aliases_later c d (node l t) s h k = by_case (infer_of l) refl (aliases_later c d t s h)
  where
    by_case : (o : Option ℕ) → infer_of l ≡ o → (AllUnset c t → closed_aliases (resolved d t) ≡ closed_aliases t) → closed_aliases (resolved d (node l t)) ≡ closed_aliases (node l t)
    by_case None e rec =
        let inner : AllUnset c t = rw e at k in
        rw (resolved-node d l t e, closed_resolved d (0 + binders l) t s, rec inner) refl
    by_case (Some n) e rec =
        let free : state_of c n ≡ Some unset = rw e at k in
        let none : closed_aliases (node l t) ≡ 0 = rw e refl in
        h l t n e free ∙ sym none

-- .. so a tree of the first table has as many as before
pub aliases_continue : (c d : Content) (t : Tree) → IsSound c → IsSound d → Continues c d → VariablesHaveNone c d → Knows c t → closed_aliases (resolved d t) ≡ closed_aliases (resolved c t)
aliases_continue c d t s z h v k =
    let deep = deeply_resolved c t in
    let free : AllUnset c deep = AllUnset-lacks c deep s (Knows-deeply_resolved c t s k) (λ n q. Lacks-rooted c n (resolved c t) (Lacks-resolved c t n s q)) in
    sym (aliases_rooted d (resolved d t)) ∙ ap closed_aliases (sym (h.values t k)) ∙ aliases_rooted d (resolved d deep) ∙ aliases_later c d deep z v free ∙ aliases_rooted c (resolved c t)

-- two variables that are joined: the higher one stands for the lower one, and each other one without a value for itself
pub joined_variable : (c d : Content) (low high : ℕ) (k : VariableKind) → IsSound d → (low ≡ high → ⊥) → state_of c low ≡ Some unset → kind_at d high ≡ Some k → k ≢ kind.Region → state_of d high ≡ Some (link low) → ((n : ℕ) → (n ≡ high → ⊥) → state_of d n ≡ state_of c n)
    → (l : Label) (x : Tree) (n : ℕ) → infer_of l ≡ Some n → state_of c n ≡ Some unset → (resolved d (node l x) ≡ node l x) ⊎ (resolved d (node l x) ≡ variable_tree k low)
joined_variable c d low high k s apart free has no_region linked others l x n is state =
    ⊎_elim (λ (same : n ≡ high). inr (is_high (is ∙ ap Some same))) (λ (q : n ≡ high → ⊥). inl (resolved-variable_unset d l x n s is (others n q ∙ state))) (same_or_other n high)
  where
    low_number : (j : VariableKind) → j ≢ kind.Region → infer_of (label.Leaf (leaf.Variable j low)) ≡ Some low
    low_number kind.Ty r = refl
    low_number kind.Int r = refl
    low_number kind.Float r = refl
    low_number kind.Const r = refl
    low_number kind.Region r = absurd (r refl)

    is_high : infer_of l ≡ Some high → resolved d (node l x) ≡ variable_tree k low
    is_high e =
        let value : value_at d high ≡ variable_tree k low = rw (has, linked) refl in
        let bound : IsOneOf high (reverse d.order) = s.linked high low linked (λ q. no_region (let z : Some k ≡ Some kind.Region = sym has ∙ q in cc)) in
        let same : resolved d (node l x) ≡ resolved d (variable_tree k low) = under-bound (value_at d) (reverse d.order) l x high e bound s.acyclic ∙ ap (resolved d) value in
        same ∙ resolved-variable_unset d (label.Leaf (leaf.Variable k low)) empty low s (low_number k no_region) (others low apart ∙ free)

pub joined_none : (c d : Content) (low high : ℕ) (k : VariableKind) → IsSound d → (low ≡ high → ⊥) → state_of c low ≡ Some unset → kind_at d high ≡ Some k → k ≢ kind.Region → state_of d high ≡ Some (link low) → ((n : ℕ) → (n ≡ high → ⊥) → state_of d n ≡ state_of c n) → VariablesHaveNone c d
joined_none c d low high k s apart free has no_region linked others l x n is state =
    let none : closed_aliases (node l x) ≡ 0 = rw is refl in
    ⊎_elim (λ q. ap closed_aliases q ∙ none) (λ q. ap closed_aliases q ∙ variable_none k low) (joined_variable c d low high k s apart free has no_region linked others l x n is state)

-- a variable without a value
pub unset_none : (c : Content) (k : VariableKind) (n : ℕ) → IsSound c → infer_of (label.Leaf (leaf.Variable k n)) ≡ Some n → state_of c n ≡ Some unset → closed_aliases (resolved c (variable_tree k n)) ≡ 0
unset_none c k n s e q = ap closed_aliases (resolved-variable_unset c (label.Leaf (leaf.Variable k n)) empty n s e q) ∙ variable_none k n

-- a variable that gets a value without closed aliases
pub aliases_known : (d : Content) (n : ℕ) (w : Slot) (v : Tree) → IsSound d → IsKnowable d n w v → closed_aliases (resolved d v) ≡ 0 → (a : Tree) → closed_aliases (resolved (bound_to d n w) a) ≡ closed_aliases (resolved d a)
aliases_known d n w v s b none a =
    let closed : closed_under 0 (resolved d v) ≡ true = closed_resolved d 0 v s ∙ closed_true 0 v b.closed in
    ap closed_aliases (resolved-known d n w v s b a) ∙ aliases_replaced n (resolved d v) (resolved d a) closed none
