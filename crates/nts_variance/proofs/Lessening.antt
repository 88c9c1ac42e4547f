-- The measures of making pairs equal: what is left of aliases and of trees.
use Rattle.std.proofs.Common.{◌≡◌, ℕ, zero, suc, ◌+◌, ◌<◌, ◌≤◌, Bool, true, false, List, [], ◌∷◌, ◌++◌, Option, Some, None, refl, sym, ap, ◌∙◌, subst, arith}
use Rattle.std.specs.Prelude.{◌&&◌}
use Rattle.nts_model.specs.declared.labels.Variance.{Variance}
use Rattle.nts_model.specs.declared.labels.AliasHead.{AliasHead}
use Rattle.nts_model.specs.declared.labels.AliasHead.TheVariants as alias_of
use Rattle.nts_model.specs.declared.labels.BoundVarIndexKind.TheVariants as index
use Rattle.nts_model.specs.declared.labels.ConstHead.TheVariants as konst
use Rattle.nts_model.specs.declared.labels.Leaf.TheVariants as leaf
use Rattle.nts_model.specs.declared.labels.ListHead.TheVariants as list
use Rattle.nts_model.specs.declared.labels.TyHead.TheVariants as ty
use Rattle.nts_model.specs.declared.labels.Label.{Label}
use Rattle.nts_model.specs.declared.labels.Label.TheVariants as label
use Rattle.nts_model.specs.Terms.Trees.{Tree, empty, more, node, size, binders, is_alias, IsBoundBelow, IsClosedUnder, IsClosed, IsFormed, infer_of}
use Rattle.nts_model.specs.Tables.Contents.{Content}
use Rattle.nts_model.specs.Tables.Resolving.{resolved, Knows}
use Rattle.nts_model.specs.Derivations.Related.{rest_variances, arguments}
use Rattle.nts_variance_model.specs.Variances.Relations.{Relating as Pair, ArePairsKnown}
use Rattle.nts_variance_model.specs.Variances.Forms.{Form, a_constructor, a_function, a_value, an_alias, over, FitsForm, pairs_over}
use Rattle.nts_model.specs.Tables.Measuring.{is_less, is_bound_below, unless_variable, closed_under, counted, closed_aliases}
use Rattle.nts_model.proofs.Tables.Kept.{variable_label}
use Rattle.nts_model.proofs.Tables.Resolved.{resolved-empty, resolved-more, resolved-node}
use Rattle.nts_model.proofs.Terms.Substituting.{no_children}
use Rattle.nts_model.proofs.Terms.Variables.{infer_label}
use Rattle.nts_unify.specs.Changing.{KeepsKnowing}
use Rattle.nts_variance.specs.Equating.{aliases_of, sizes_of, unsolved}
use Rattle.nts_model.proofs.Tables.Measuring.{both_true}

-- where no bound variable escapes from the resolved tree, none escapes from the tree
less_below : (d c : ℕ) → is_less d c ≡ true → d < c
less_below d zero e = cc
less_below zero (suc c) e = omega arith
less_below (suc d) (suc c) e = (let rest = less_below d c e in omega (arith, rest))

bound_below : (b : ℕ) (l : Label) → is_bound_below b l ≡ true → IsBoundBelow b l
bound_below b (label.Bound s (index.Bound d) n) e = less_below d b e
bound_below b (label.Bound s index.Canonical n) e = tt
bound_below b (label.Leaf x) e = tt
bound_below b (label.Ty x) e = tt
bound_below b (label.Const x) e = tt
bound_below b (label.Clause x) e = tt
bound_below b (label.Predicate x) e = tt
bound_below b (label.List x) e = tt

variable_closed : (b : ℕ) (l : Label) (n : ℕ) (t : Tree) → infer_of l ≡ Some n → IsFormed (node l t) → IsClosedUnder b (node l t)
variable_closed b l n t e f =
    let v = infer_label l n e in
    let is = variable_label l v.of_kind n v.is in
    let g : IsFormed (node (label.Leaf (leaf.Variable v.of_kind n)) t) = subst (λ m. IsFormed (node m t)) is f in
    let alone : t ≡ empty = no_children t g.0 in
    rw (is, alone) (tt, tt)

node_closed : (c : Content) (b : ℕ) (l : Label) (t : Tree) (o : Option ℕ) → infer_of l ≡ o → IsFormed (node l t) → (closed_under (b + binders l) (resolved c t) ≡ true → IsClosedUnder (b + binders l) t) → closed_under b (resolved c (node l t)) ≡ true → IsClosedUnder b (node l t)
node_closed c b l t None e f rec h =
    let at : unless_variable (infer_of l) true (is_bound_below b l && closed_under (b + binders l) (resolved c t)) ≡ true = ap (closed_under b) (sym (resolved-node c l t e)) ∙ h in
    let both : (is_bound_below b l && closed_under (b + binders l) (resolved c t)) ≡ true = rw e at at in
    let x = both_true (is_bound_below b l) (closed_under (b + binders l) (resolved c t)) both in
    (bound_below b l x.0, rec x.1)
node_closed c b l t (Some n) e f rec h = variable_closed b l n t e f

closed_resolved : (c : Content) (b : ℕ) (t : Tree) → IsFormed t → closed_under b (resolved c t) ≡ true → IsClosedUnder b t
closed_resolved c b empty f h = tt
closed_resolved c b (more x y) f h =
    let at : (closed_under b (resolved c x) && closed_under b (resolved c y)) ≡ true = ap (closed_under b) (sym (resolved-more c x y)) ∙ h in
    let both = both_true (closed_under b (resolved c x)) (closed_under b (resolved c y)) at in
    (closed_resolved c b x f.0 both.0, closed_resolved c b y f.1 both.1)
closed_resolved c b (node l t) f h = node_closed c b l t (infer_of l) refl f (closed_resolved c (b + binders l) t f.1) h

-- the resolved arguments stand in their list
arguments_resolved : (c : Content) (ts : Tree) → resolved c (arguments ts) ≡ arguments (resolved c ts)
arguments_resolved c ts =
    resolved-more c (node (label.List list.Args) ts) empty ∙ (λ i. more (resolved-node c (label.List list.Args) ts refl i) (resolved-empty c i))

function_resolved : (c : Content) (ss ts : Tree) → resolved c (over (a_function ss) ts) ≡ node (label.Ty ty.FnPtr) (more (resolved c (node (label.List list.Sorts) ss)) (arguments (resolved c ts)))
function_resolved c ss ts =
    resolved-node c (label.Ty ty.FnPtr) (more (node (label.List list.Sorts) ss) (arguments ts)) refl
    ∙ ap (node (label.Ty ty.FnPtr)) (resolved-more c (node (label.List list.Sorts) ss) (arguments ts) ∙ ap (more (resolved c (node (label.List list.Sorts) ss))) (arguments_resolved c ts))

-- the resolved parts of a node are smaller than it
pub over_larger : (c : Content) (F : Form) (ts : Tree) → size (resolved c ts) < size (resolved c (over F ts))
over_larger c (a_constructor i) ts = rw (resolved-node c (label.Ty (ty.Ctor i)) (arguments ts) refl, arguments_resolved c ts) (omega arith)
over_larger c (a_function ss) ts = rw (function_resolved c ss ts) (omega arith)
over_larger c (a_value b) ts = rw (resolved-node c (label.Const (konst.Value b)) ts refl) (omega arith)
over_larger c (an_alias (alias_of.Ty i)) ts = rw (resolved-node c (label.Ty (ty.Alias i)) (arguments ts) refl, arguments_resolved c ts) (omega arith)
over_larger c (an_alias (alias_of.Const i)) ts = rw (resolved-node c (label.Const (konst.Unevaluated i)) (arguments ts) refl, arguments_resolved c ts) (omega arith)

-- .. and have no more outermost aliases, where bound variables escape from the node if it is an alias
pub over_aliases : (c : Content) (F : Form) (ts : Tree) → IsFormed (over F ts) → FitsForm F ts → closed_aliases (resolved c ts) ≤ closed_aliases (resolved c (over F ts))
over_aliases c (a_constructor i) ts f h = rw (resolved-node c (label.Ty (ty.Ctor i)) (arguments ts) refl, arguments_resolved c ts) (omega arith)
over_aliases c (a_function ss) ts f h = rw (function_resolved c ss ts) (omega arith)
over_aliases c (a_value b) ts f h = rw (resolved-node c (label.Const (konst.Value b)) ts refl) (omega arith)
over_aliases c (an_alias k) ts f h = by_head k f h
  where
    loose : (l : Label) (r : Tree) → infer_of l ≡ None → is_alias l ≡ true → closed_under 0 (node l (arguments r)) ≡ false → closed_aliases r ≤ closed_aliases (node l (arguments r))
    loose l r e a q =
        let under : closed_aliases (node l (arguments r)) ≡ closed_aliases (arguments r) = (λ i. unless_variable (e i) 0 (counted (a i && q i) (closed_aliases (arguments r)))) in
        omega (arith, under)

    by_closed : (l : Label) (b : Bool) → infer_of l ≡ None → is_alias l ≡ true → closed_under 0 (resolved c (node l (arguments ts))) ≡ b → (IsClosed (node l (arguments ts)) → ⊥) → IsFormed (node l (arguments ts)) → closed_aliases (resolved c ts) ≤ closed_aliases (resolved c (node l (arguments ts)))
    by_closed l true e a q loose_node formed = absurd (loose_node (closed_resolved c 0 (node l (arguments ts)) formed q))
    by_closed l false e a q loose_node formed =
        let whole : resolved c (node l (arguments ts)) ≡ node l (arguments (resolved c ts)) = resolved-node c l (arguments ts) e ∙ ap (node l) (arguments_resolved c ts) in
        let none : closed_under 0 (node l (arguments (resolved c ts))) ≡ false = ap (closed_under 0) (sym whole) ∙ q in
        rw whole (loose l (resolved c ts) e a none)

    by_head : (k : AliasHead) → IsFormed (over (an_alias k) ts) → FitsForm (an_alias k) ts → closed_aliases (resolved c ts) ≤ closed_aliases (resolved c (over (an_alias k) ts))
    by_head (alias_of.Ty i) f h = by_closed (label.Ty (ty.Alias i)) (closed_under 0 (resolved c (over (an_alias (alias_of.Ty i)) ts))) refl refl refl h f
    by_head (alias_of.Const i) f h = by_closed (label.Const (konst.Unevaluated i)) (closed_under 0 (resolved c (over (an_alias (alias_of.Const i)) ts))) refl refl refl h f

-- lists of pairs
pub aliases_joined : (c : Content) (xs ys : List Pair) → aliases_of c (xs ++ ys) ≡ aliases_of c xs + aliases_of c ys
aliases_joined c [] ys = omega arith
aliases_joined c (x ∷ xs) ys = (let rest = aliases_joined c xs ys in omega (arith, rest))

pub sizes_joined : (c : Content) (xs ys : List Pair) → sizes_of c (xs ++ ys) ≡ sizes_of c xs + sizes_of c ys
sizes_joined c [] ys = omega arith
sizes_joined c (x ∷ xs) ys = (let rest = sizes_joined c xs ys in omega (arith, rest))

pub sizes_row : (c : Content) (v : Variance) (ws : List Variance) (ts us : Tree) → sizes_of c (pairs_over v ws ts us) ≤ size (resolved c ts)
sizes_row c v ws empty us = omega arith
sizes_row c v ws (node l x) us = omega arith
sizes_row c v ws (more a ts) empty = omega arith
sizes_row c v ws (more a ts) (node l x) = omega arith
sizes_row c v ws (more a ts) (more b us) = (let rest = sizes_row c v (rest_variances ws) ts us in let whole = ap size (resolved-more c a ts) in omega (arith, rest, whole))

pub aliases_row : (c : Content) (v : Variance) (ws : List Variance) (ts us : Tree) → aliases_of c (pairs_over v ws ts us) ≤ closed_aliases (resolved c ts) + closed_aliases (resolved c us)
aliases_row c v ws empty us = omega arith
aliases_row c v ws (node l x) us = omega arith
aliases_row c v ws (more a ts) empty = omega arith
aliases_row c v ws (more a ts) (node l x) = omega arith
aliases_row c v ws (more a ts) (more b us) =
    let rest = aliases_row c v (rest_variances ws) ts us in
    let left = ap closed_aliases (resolved-more c a ts) in
    let right = ap closed_aliases (resolved-more c b us) in
    omega (arith, rest, left, right)

-- what was known stays
pub aliases_same : (c d : Content) (ps : List Pair) → ((t : Tree) → Knows c t → closed_aliases (resolved d t) ≡ closed_aliases (resolved c t)) → ArePairsKnown c ps → aliases_of d ps ≡ aliases_of c ps
aliases_same c d [] h k = refl
aliases_same c d (p ∷ ps) h k = (let x = h p.left k.0 in let y = h p.right k.1 in let rest = aliases_same c d ps h k.2 in omega (arith, x, y, rest))

pub sizes_same : (c d : Content) (ps : List Pair) → KeepsKnowing c d → ArePairsKnown c ps → sizes_of d ps ≡ sizes_of c ps
sizes_same c d [] h k = refl
sizes_same c d (p ∷ ps) h k = (let x = ap size (h.trees p.left k.0) in let rest = sizes_same c d ps h k.2 in omega (arith, x, rest))

pub unsolved_same : (c d : Content) (ps : List Pair) → KeepsKnowing c d → ArePairsKnown c ps → unsolved d ps ≡ unsolved c ps
unsolved_same c d ps h k =
    let rest = aliases_same c d ps (λ t known. ap closed_aliases (h.trees t known)) k in
    let count = h.unset_kept in
    omega (arith, rest, count)
