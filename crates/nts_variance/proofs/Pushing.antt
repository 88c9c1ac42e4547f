-- The parts of a node, as they are pushed one by one from the last.
use Rattle.std.proofs.Common.{◌≡◌, ℕ, zero, suc, ◌+◌, ◌-◌, ◌<◌, ◌≤◌, Bool, true, false, List, [], ◌∷◌, Option, Some, length, take, drop, ◌++◌, ◌^◌, refl, sym, ap, ◌∙◌, arith, subst}
use Rattle.std.proofs.lemmas.List.{take-append-drop}
use Rattle.std.specs.Prelude.{◌==◌, if◌then◌else◌, slice_get, get_or}
use Rattle.nts_model.specs.declared.labels.Sort.{Sort}
use Rattle.nts_model.specs.declared.labels.Sort.TheVariants as sort
use Rattle.nts_model.specs.declared.labels.Variance.{Variance}
use Rattle.nts_model.specs.declared.labels.Variance.TheVariants as variance
use Rattle.nts_model.specs.declared.labels.AliasHead.TheVariants as alias_of
use Rattle.nts_model.specs.declared.labels.TyHead.TheVariants as ty
use Rattle.nts_model.specs.declared.labels.ConstHead.TheVariants as konst
use Rattle.nts_model.specs.declared.labels.Label.{Label}
use Rattle.nts_model.specs.declared.labels.Label.TheVariants as label
use Rattle.nts_model.specs.Terms.Trees.{Tree, empty, more, node, NodeKind, of_sort, kind_of, row_at, row_length, IsRow, IsClosedUnder, Place, any_argument, a_type, FitsPlace, AllFit, binders}
use Rattle.nts_model.specs.Derivations.Related.{times, first_variance, rest_variances, function_variances}
use Rattle.nts_variance_model.specs.Variances.Forms.{Form, a_constructor, a_function, a_value, an_alias, over, variances_over}
use Rattle.nts_variance_model.specs.Variances.Forms.{FitsForm}
use Rattle.nts_model.specs.Tables.Contents.{Content}
use Rattle.nts_model.specs.Tables.Resolving.{Knows}
use Rattle.nts_model.proofs.Tables.Resolved.{Knows-row_at}
use Rattle.nts_model.specs.Terms.Trees.{IsFormed, children}
use Rattle.nts_store.specs.declared.nodes.NodeId.{NodeId}
use Rattle.nts_store.specs.Growth.{tree_at, trees_at, IsIn}
use Rattle.nts_variance.proofs.PartLemmas.{over_parts}
use Rattle.nts_variance.specs.declared.vary_walk.Spot.{Spot}
use Rattle.nts_variance.specs.declared.vary_walk.Task.{Task}
use Rattle.nts_variance.specs.Steps.{HasSorts}
use Rattle.nts_variance.specs.Walking.{sides}
use Rattle.nts_variance.specs.Terms.{pair_at, IsPart, IsTask, AreTasks}
use Rattle.nts_variance.specs.Varying.{pair_in, IsMadeAgain}
use Rattle.nts_variance.proofs.Nodes.{parts_known, parts_place}
use Rattle.nts_terms.specs.Signatures.{variance_or_invariant}
use Rattle.nts_unify.specs.Knowing.{row_from}
use Rattle.nts_unify.proofs.Looking.{row_from-end, row_from-step}
use Rattle.nts_variance.specs.Steps.{WalkStep, enter, entering, part_place}
use Rattle.nts_variance.specs.Parts.{has_parts, form_of_tree, parts_of, function_variance, variance_in, variances_from, IsNodeWithParts}

pub rest_from : (i : ℕ) (ws : List Variance) → rest_variances (variances_from i ws) ≡ variances_from (i + 1) ws
rest_from zero ws = refl
rest_from (suc i) ws = let e : suc i + 1 ≡ suc (i + 1) = omega arith in rw e (rest_from i (rest_variances ws))

none_from : (i : ℕ) → first_variance (variances_from i []) ≡ variance.Invariant
none_from zero = refl
none_from (suc i) = none_from i

variance_at : (i : ℕ) (ws : List Variance) → first_variance (variances_from i ws) ≡ variance_or_invariant (slice_get ws i)
variance_at zero [] = refl
variance_at zero (w ∷ ws) = refl
variance_at (suc i) [] = none_from i
variance_at (suc i) (w ∷ ws) = variance_at i ws

function_at : (i : ℕ) (ts : Tree) → IsRow ts → i < row_length ts → first_variance (variances_from i (function_variances ts)) ≡ function_variance i (row_length ts)
function_at i empty h l = absurd (omega (arith, l))
function_at i (node k c) h l = absurd h
function_at zero (more a empty) h l = refl
function_at (suc i) (more a empty) h l = absurd (omega (arith, l))
function_at zero (more a (more b c)) h l = last_or_not (row_length c)
  where
    last_or_not : (n : ℕ) → variance.Contravariant ≡ function_variance 0 (n + 1 + 1)
    last_or_not n = (let e : ((0 + 1) == (n + 1 + 1)) ≡ false = grind arith in rw e refl)
function_at (suc i) (more a (more b c)) h l =
    let less : i < row_length (more b c) = omega (arith, l) in
    let one : ((i + 1) == row_length (more b c)) ≡ ((suc i + 1) == row_length (more a (more b c))) = grind arith in
    function_at i (more b c) h less ∙ ap (λ q. if q then variance.Covariant else variance.Contravariant) one
function_at i (more a (node k c)) h l = absurd h

-- how the part at a place varies
part_variance : (declared : ℕ → List Variance) (l : Label) (c : Tree) (i : ℕ) → has_parts l ≡ true → IsRow (parts_of (node l c)) → i < row_length (parts_of (node l c))
    → first_variance (variances_from i (variances_over declared (form_of_tree (node l c)) (parts_of (node l c)))) ≡ variance_in declared l i (row_length (parts_of (node l c)))
part_variance declared (label.Ty (ty.Ctor k)) c i p r h = variance_at i (declared k)
part_variance declared (label.Ty ty.FnPtr) c i p r h = function_at i (parts_of (node (label.Ty ty.FnPtr) c)) r h
part_variance declared (label.Ty (ty.Alias k)) c i p r h = none_from i
part_variance declared (label.Const (konst.Unevaluated k)) c i p r h = none_from i
part_variance declared (label.Const (konst.Value b)) c i p r h = none_from i
part_variance declared l c i p r h = cc

pub variance_of_place : (declared : ℕ → List Variance) (t : Tree) (l : Label) (c : Tree) (i : ℕ) → t ≡ node l c → has_parts l ≡ true → IsRow (parts_of t) → i < row_length (parts_of t)
    → first_variance (variances_from i (variances_over declared (form_of_tree t) (parts_of t))) ≡ variance_in declared l i (row_length (parts_of t))
variance_of_place declared t l c i e p =
    subst (λ t. IsRow (parts_of t) → i < row_length (parts_of t) → first_variance (variances_from i (variances_over declared (form_of_tree t) (parts_of t))) ≡ variance_in declared l i (row_length (parts_of t))) (sym e) (part_variance declared l c i p)

-- at first no part is left, and the last is the whole
pub entering_none : (v : Variance) (ws : List Variance) (q : Bool) (ts : Tree) (xs : List WalkStep) (i : ℕ) → IsRow ts → i ≡ row_length ts → entering v (variances_from i ws) q (row_from i ts) xs ≡ xs
entering_none v ws q ts xs i row e = (let none : row_from i ts ≡ empty = ap (λ n. row_from n ts) e ∙ row_from-end ts row in rw none refl)

pub entering_one : (v w : Variance) (ws : List Variance) (q : Bool) (ts t : Tree) (xs ys : List WalkStep) (i k : ℕ) → i ≡ k + 1 → k < row_length ts → t ≡ row_at ts k → w ≡ times v (first_variance (variances_from k ws)) → ys ≡ entering v (variances_from i ws) q (row_from i ts) xs
    → enter w q t ∷ ys ≡ entering v (variances_from k ws) q (row_from k ts) xs
entering_one v w ws q ts t xs ys i k e less is vary rest =
    let step : row_from k ts ≡ more (row_at ts k) (row_from (k + 1) ts) = row_from-step ts k less in
    let on : ys ≡ entering v (rest_variances (variances_from k ws)) q (row_from (k + 1) ts) xs = rest ∙ ap (λ n. entering v (variances_from n ws) q (row_from n ts) xs) e ∙ ap (λ us. entering v us q (row_from (k + 1) ts) xs) (sym (rest_from k ws)) in
    rw (step, is, vary, on) refl

-- a part of a row fits its place, so it is a type, a region or a const
pub record IsOfSort (t : Tree) : Type 0 where
  pub sort : Sort
  pub kind : kind_of t ≡ Some (of_sort sort)

pub of_any : (o : Option NodeKind) → FitsPlace any_argument o → (s : Sort) × (o ≡ Some (of_sort s))
of_any (Some (of_sort s)) h = (s, refl)
of_any o h = absurd h

sorted_at : (p : Place) (r : Tree) (i : ℕ) → AllFit p r → i < row_length r → FitsPlace p (kind_of (row_at r i))
sorted_at p empty i h l = absurd (omega (arith, l))
sorted_at p (node k c) i h l = absurd h
sorted_at p (more a b) zero h l = h.0
sorted_at p (more a b) (suc i) h l = sorted_at p b i h.1 (omega (arith, l))

pub part_sorted : (F : Form) (r : Tree) (i : ℕ) → AllFit (part_place F) r → i < row_length r → IsOfSort (row_at r i)
part_sorted (a_constructor k) r i h l = let x = of_any (kind_of (row_at r i)) (sorted_at any_argument r i h l) in record { sort = x.0; kind = x.1 }
part_sorted (a_function ss) r i h l = let x = of_any (kind_of (row_at r i)) (sorted_at any_argument r i h l) in record { sort = x.0; kind = x.1 }
part_sorted (a_value b) r i h l = record { sort = sort.Ty; kind = sorted_at a_type r i h l }
part_sorted (an_alias k) r i h l = let x = of_any (kind_of (row_at r i)) (sorted_at any_argument r i h l) in record { sort = x.0; kind = x.1 }

-- what binds in a part binds around the node, or is the node's own binder
closed_in_row : (n : ℕ) (r : Tree) (i : ℕ) → i < row_length r → IsClosedUnder n r → IsClosedUnder n (row_at r i)
closed_in_row n empty i l h = absurd (omega (arith, l))
closed_in_row n (node k c) i l h = absurd (omega (arith, l))
closed_in_row n (more a b) zero l h = h.0
closed_in_row n (more a b) (suc i) l h = closed_in_row n b i (omega (arith, l)) h.1

parts_closed : (n : ℕ) (F : Form) (ts : Tree) (l : Label) (c : Tree) → over F ts ≡ node l c → IsClosedUnder n (over F ts) → IsClosedUnder (n + binders l) ts
parts_closed n (a_constructor i) ts l c e h =
    let own : l ≡ label.Ty (ty.Ctor i) = cc in let at : n + binders l ≡ n + 0 + 0 = omega (arith, ap binders own) in rw at h.1.0.1
parts_closed n (a_function ss) ts l c e h =
    let own : l ≡ label.Ty ty.FnPtr = cc in let at : n + binders l ≡ n + 1 + 0 = omega (arith, ap binders own) in rw at h.1.1.0.1
parts_closed n (a_value b) ts l c e h =
    let own : l ≡ label.Const (konst.Value b) = cc in let at : n + binders l ≡ n + 0 = omega (arith, ap binders own) in rw at h.1
parts_closed n (an_alias (alias_of.Ty i)) ts l c e h =
    let own : l ≡ label.Ty (ty.Alias i) = cc in let at : n + binders l ≡ n + 0 + 0 = omega (arith, ap binders own) in rw at h.1.0.1
parts_closed n (an_alias (alias_of.Const i)) ts l c e h =
    let own : l ≡ label.Const (konst.Unevaluated i) = cc in let at : n + binders l ≡ n + 0 + 0 = omega (arith, ap binders own) in rw at h.1.0.1

pub part_closed : (n : ℕ) (t : Tree) (l : Label) (c : Tree) (i : ℕ) → IsNodeWithParts t → t ≡ node l c → i < row_length (parts_of t) → IsClosedUnder n t → IsClosedUnder (n + binders l) (row_at (parts_of t) i)
part_closed n t l c i h e less closed =
    closed_in_row (n + binders l) (parts_of t) i less (parts_closed n (form_of_tree t) (parts_of t) l c (sym h.is ∙ e) (subst (IsClosedUnder n) h.is closed))

-- a node over parts has a label with parts, and binds sorts
pub over_has_parts : (F : Form) (ts : Tree) (l : Label) (c : Tree) → over F ts ≡ node l c → has_parts l ≡ true
over_has_parts (a_constructor i) ts l c e = let own : l ≡ label.Ty (ty.Ctor i) = cc in ap has_parts own
over_has_parts (a_function ss) ts l c e = let own : l ≡ label.Ty ty.FnPtr = cc in ap has_parts own
over_has_parts (a_value b) ts l c e = let own : l ≡ label.Const (konst.Value b) = cc in ap has_parts own
over_has_parts (an_alias (alias_of.Ty i)) ts l c e = let own : l ≡ label.Ty (ty.Alias i) = cc in ap has_parts own
over_has_parts (an_alias (alias_of.Const i)) ts l c e = let own : l ≡ label.Const (konst.Unevaluated i) = cc in ap has_parts own

pub sorts_fit : (F : Form) (ts : Tree) → FitsForm F ts → HasSorts F
sorts_fit (a_constructor i) ts h = tt
sorts_fit (a_function ss) ts h = h
sorts_fit (a_value b) ts h = tt
sorts_fit (an_alias k) ts h = tt

pub tasks_push : (ts : List Tree) (c : Content) (xs : List Task) (y : Task) → AreTasks ts c xs → IsTask ts c y → AreTasks ts c (xs ++ y ∷ [])
tasks_push ts c [] y h k = (k, tt)
tasks_push ts c (x ∷ xs) y h k = (h.0, tasks_push ts c xs y h.1 k)

-- the part at a place, as it is to be entered
pub part_entered : (ts : List Tree) (c : Content) (t a : NodeId) (l : Label) (i n : ℕ) (s : Spot) → IsMadeAgain (tree_at ts t) → tree_at ts t ≡ node l (children (tree_at ts t)) → i < row_length (parts_of (tree_at ts t)) → IsClosedUnder n (tree_at ts t) → Knows c (tree_at ts t) → IsIn ts a → tree_at ts a ≡ row_at (parts_of (tree_at ts t)) i → s.term ≡ a → s.binders ≡ n + binders l → s.binders + a.number < 2 ^ 64 → IsPart ts c s
part_entered ts c t a l i n s again is less closed known within at term inner room =
    let whole = again.with_parts in
    let F = form_of_tree (tree_at ts t) in
    let parts = parts_of (tree_at ts t) in
    let formed : IsFormed (over F parts) = subst IsFormed whole.is again.formed in
    let sorted = part_sorted F parts i (parts_place F parts formed) less in
    let knows : Knows c (row_at parts i) = Knows-row_at c parts i (parts_known c F parts (subst (Knows c) whole.is known)) in
    let under = part_closed n (tree_at ts t) l (children (tree_at ts t)) i whole is less closed in
    record {
      within = rw term within;
      knows = rw (term, at) knows;
      closed = rw (term, at, inner) under;
      room = rw term room;
      sort = sorted.sort;
      kind = rw (term, at) sorted.kind;
    }

pub node_with_parts : (t : Tree) (l : Label) → t ≡ node l (children t) → t ≡ over (form_of_tree t) (parts_of t) → IsFormed t → IsNodeWithParts t
node_with_parts t l e o f =
    let has = over_has_parts (form_of_tree t) (parts_of t) l (children t) (sym o ∙ e) in
    let k = over_parts l (children t) (subst IsFormed e f) has in
    subst IsNodeWithParts (sym e) k.with_parts

pub rows_long : (ts : List Tree) (qs : List NodeId) → row_length (trees_at ts qs) ≡ length qs
rows_long ts [] = refl
rows_long ts (q ∷ qs) = omega (arith, rows_long ts qs)

pub split_at : (ms ks rest qs : List NodeId) (n : ℕ) → ks ≡ take n ms → rest ≡ drop n ms → qs ≡ rest → ms ≡ ks ++ qs
split_at ms ks rest qs n a b e = (let whole = take-append-drop n ms in rw (e, b, a) (sym whole))

pub parts_long : (n k m p q a b : ℕ) → n ≡ k → k + (m - p) ≡ a → m ≡ a → p ≡ q → q ≤ b → a ≡ b → n ≡ q
parts_long n k m p q a b d e f g h i = omega (arith, d, e, f, g, h, i)

-- a list is what stands before its last element, and that
pub record LastOf (ms : List NodeId) (m : NodeId) : Type 0 where
  pub before : List NodeId
  pub is : ms ≡ before ++ m ∷ []

pub last_of : (ms : List NodeId) (n : ℕ) (m : NodeId) → n + 1 ≡ length ms → m ≡ get_or ms n m → LastOf ms m
last_of [] n m e h = absurd (omega (arith, e))
last_of (a ∷ []) zero m e h = record { before = []; is = ap (λ x. x ∷ []) (sym h) }
last_of (a ∷ []) (suc n) m e h = absurd (omega (arith, e))
last_of (a ∷ b ∷ ms) zero m e h = absurd (omega (arith, e))
last_of (a ∷ b ∷ ms) (suc n) m e h =
    let rest = last_of (b ∷ ms) n m (omega (arith, e)) h in
    record { before = a ∷ rest.before; is = ap (λ xs. a ∷ xs) rest.is }

pub pair_at-in : (ts : List Tree) (z : Bool) (v : Variance) (r t : NodeId) → pair_at ts (pair_in z v r t) ≡ sides z v (tree_at ts r) (tree_at ts t)
pair_at-in ts false v r t = refl
pair_at-in ts true v r t = refl

pub pair_within : (ts : List Tree) (z : Bool) (v : Variance) (r t : NodeId) → IsIn ts r → IsIn ts t → IsIn ts (pair_in z v r t).left × IsIn ts (pair_in z v r t).right
pair_within ts false v r t a b = (a, b)
pair_within ts true v r t a b = (b, a)

pub one_of : (ms : List NodeId) (m : NodeId) → length ms ≡ 1 → m ≡ get_or ms 0 m → ms ≡ m ∷ []
one_of [] m e h = absurd (omega (arith, e))
one_of (a ∷ []) m e h = ap (λ x. x ∷ []) (sym h)
one_of (a ∷ b ∷ ms) m e h = absurd (omega (arith, e))
