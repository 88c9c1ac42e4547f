-- What the turns of the walk keep of the count of variables without value and of closed aliases.
use Rattle.std.proofs.Common.{◌≡◌, ℕ, zero, suc, ◌+◌, ◌<◌, Bool, true, false, List, [], ◌∷◌, Option, Some, None, refl, sym, ap, ◌∙◌, subst, arith}
use Rattle.std.specs.Prelude.{◌&&◌}
use Rattle.nts_model.specs.declared.labels.Variance.{Variance}
use Rattle.nts_model.specs.declared.labels.Variance.TheVariants as variance
use Rattle.nts_model.specs.declared.labels.AliasHead.{AliasHead}
use Rattle.nts_model.specs.declared.labels.AliasHead.TheVariants as alias_of
use Rattle.nts_model.specs.declared.labels.BoundVarIndexKind.TheVariants as index
use Rattle.nts_model.specs.declared.labels.TyHead.TheVariants as ty
use Rattle.nts_model.specs.declared.labels.ConstHead.TheVariants as konst
use Rattle.nts_model.specs.declared.labels.ListHead.TheVariants as list
use Rattle.nts_model.specs.declared.labels.Label.{Label}
use Rattle.nts_model.specs.declared.labels.Label.TheVariants as label
use Rattle.nts_model.specs.Terms.Trees.{Tree, empty, more, node, kind_of, one_sort, is, AllFit, IsRow, row_length, is_alias, binders, shape, in_order, Meets, IsBoundBelow, IsClosedUnder, IsClosed, IsFormed, infer_of}
use Rattle.nts_model.specs.Tables.Contents.{Content}
use Rattle.nts_model.specs.Tables.Resolving.{IsInfer, resolved, Knows, IsSound}
use Rattle.nts_model.specs.Derivations.Related.{times, first_variance, rest_variances, arguments, alias, IsAlias}
use Rattle.nts_variance_model.specs.Variances.Forms.{Form, a_constructor, a_function, a_value, an_alias, over, FitsForm}
use Rattle.nts_model.specs.Tables.Measuring.{is_less, is_bound_below, unless_variable, closed_under, counted, closed_aliases}
use Rattle.nts_model.proofs.Tables.Resolved.{resolved-empty, resolved-more, resolved-node}
use Rattle.nts_unify.specs.Changing.{unset_count}
use Rattle.nts_relating.proofs.AliasCounts.{closed_true, closed_resolved}
use Rattle.nts_variance.specs.Steps.{WalkStep, enter, build, owe, popped, unpopped, entering, HasSorts, MadeForRow}
use Rattle.nts_variance.specs.Walking.{NothingOwed, KnowsSteps, KnowsTrees}
use Rattle.nts_variance.specs.Counting.{EscapesWith, StaysOpen, AreStepsInvariant, BuildsOpen, HaveNone, aliases_within, IsCounted, IsCountedFor}
use Rattle.nts_variance.proofs.Clean.{arguments_resolved}
use Rattle.nts_variance.proofs.Runs.{pushed, popped_row, unpopped_pushed, made_row}
use Rattle.nts_variance_model.proofs.Variances.Forms.{no_places, sort_label}

-- whether a tree is closed, and that it is
both_true : (a b : Bool) → (a && b) ≡ true → (a ≡ true) × (b ≡ true)
both_true true b e = (refl, e)
both_true false b e = cc

and_true : (a b : Bool) → a ≡ true → b ≡ true → (a && b) ≡ true
and_true true b p q = q
and_true false b p q = cc

less_than : (d c : ℕ) → is_less d c ≡ true → d < c
less_than d zero e = cc
less_than zero (suc c) e = omega arith
less_than (suc d) (suc c) e = omega (arith, less_than d c e)

below_from : (c : ℕ) (l : Label) → is_bound_below c l ≡ true → IsBoundBelow c l
below_from c (label.Bound s (index.Bound d) n) h = less_than d c h
below_from c (label.Bound s index.Canonical n) h = tt
below_from c (label.Leaf x) h = tt
below_from c (label.Ty x) h = tt
below_from c (label.Const x) h = tt
below_from c (label.Clause x) h = tt
below_from c (label.Predicate x) h = tt
below_from c (label.List x) h = tt

-- a variable has no children
infer_leaf : (l : Label) (n : ℕ) → infer_of l ≡ Some n → (is_alias l ≡ false) × (shape l ≡ in_order []) × ((c : ℕ) → IsBoundBelow c l)
infer_leaf (label.Leaf x) n e = (refl, refl, λ c. tt)
infer_leaf (label.Bound s i m) n e = cc
infer_leaf (label.Ty h) n e = cc
infer_leaf (label.Const h) n e = cc
infer_leaf (label.Clause h) n e = cc
infer_leaf (label.Predicate h) n e = cc
infer_leaf (label.List h) n e = cc

closed_from : (c : ℕ) (t : Tree) → IsFormed t → closed_under c t ≡ true → IsClosedUnder c t
closed_from c empty f h = tt
closed_from c (more a b) f h = let p = both_true (closed_under c a) (closed_under c b) h in (closed_from c a f.0 p.0, closed_from c b f.1 p.1)
closed_from c (node l t) f h = by_case (infer_of l) refl (closed_from (c + binders l) t f.1)
  where
    by_case : (o : Option ℕ) → infer_of l ≡ o → (closed_under (c + binders l) t ≡ true → IsClosedUnder (c + binders l) t) → IsClosedUnder c (node l t)
    by_case None e rec =
        let whole : (is_bound_below c l && closed_under (c + binders l) t) ≡ true = rw e at h in
        let p = both_true (is_bound_below c l) (closed_under (c + binders l) t) whole in
        (below_from c l p.0, rec p.1)
    by_case (Some n) e rec =
        let x = infer_leaf l n e in
        let alone : t ≡ empty = no_places t (subst (λ p. Meets p t) x.1 f.0) in
        (x.2 c, subst (IsClosedUnder (c + binders l)) (sym alone) tt)

-- a variable is closed
pub infer_closed : (t : Tree) (b : ℕ) → IsInfer t → closed_under b t ≡ true
infer_closed empty b i = absurd i
infer_closed (more x y) b i = absurd i
infer_closed (node l c) b i = ap (λ o. unless_variable o true (is_bound_below b l && closed_under (b + binders l) c)) i.1

-- a node that is no variable
closed_node : (b : ℕ) (l : Label) (x : Tree) → infer_of l ≡ None → closed_under b (node l x) ≡ (is_bound_below b l && closed_under (b + binders l) x)
closed_node b l x e = ap (λ o. unless_variable o true (is_bound_below b l && closed_under (b + binders l) x)) e

-- .. has the closed aliases of its children, unless it is one
aliases_open : (l : Label) (x : Tree) → infer_of l ≡ None → (is_alias l && closed_under 0 (node l x)) ≡ false → closed_aliases (node l x) ≡ closed_aliases x
aliases_open l x e f =
    ap (λ o. unless_variable o 0 (counted (is_alias l && closed_under 0 (node l x)) (closed_aliases x))) e
    ∙ ap (λ b. counted b (closed_aliases x)) f

aliases_here : (l : Label) (x : Tree) → infer_of l ≡ None → is_alias l ≡ true → closed_under 0 (node l x) ≡ true → closed_aliases (node l x) ≡ 1
aliases_here l x e a h =
    ap (λ o. unless_variable o 0 (counted (is_alias l && closed_under 0 (node l x)) (closed_aliases x))) e
    ∙ ap (λ b. counted b (closed_aliases x)) (and_true (is_alias l) (closed_under 0 (node l x)) a h)

from_not : (b : Bool) → (b ≡ true → ⊥) → b ≡ false
from_not true h = absurd (h refl)
from_not false h = refl

-- the sorts that a function binds
sort_none : (c : Content) (a : Tree) → kind_of a ≡ Some one_sort → IsFormed a → closed_aliases (resolved c a) ≡ 0
sort_none c empty e f = cc
sort_none c (more a b) e f = cc
sort_none c (node l t) e f =
    let x = sort_label l cc in
    let same = x.1 in
    let g : IsFormed (node (label.List (list.Sort x.0)) t) = subst (λ m. IsFormed (node m t)) same f in
    let none : t ≡ empty = no_places t g.0 in
    let whole : resolved c (node (label.List (list.Sort x.0)) empty) ≡ node (label.List (list.Sort x.0)) empty = resolved-node c (label.List (list.Sort x.0)) empty refl ∙ ap (node (label.List (list.Sort x.0))) (resolved-empty c) in
    rw (same, none) (ap closed_aliases whole)

sorts_none : (c : Content) (ss : Tree) → AllFit (is one_sort) ss → IsFormed ss → closed_aliases (resolved c ss) ≡ 0
sorts_none c empty h f = ap closed_aliases (resolved-empty c)
sorts_none c (more a b) h f =
    let e = ap closed_aliases (resolved-more c a b) in
    let first = sort_none c a h.0 f.0 in
    let rest = sorts_none c b h.1 f.1 in
    omega (arith, e, first, rest)
sorts_none c (node l t) h f = absurd h

-- a node over its parts has their closed aliases, where it is no closed alias
aliases_arguments : (c : Content) (l : Label) (ts : Tree) → infer_of l ≡ None → (is_alias l && closed_under 0 (node l (arguments (resolved c ts)))) ≡ false → closed_aliases (resolved c (node l (arguments ts))) ≡ closed_aliases (resolved c ts)
aliases_arguments c l ts e f =
    let whole : resolved c (node l (arguments ts)) ≡ node l (arguments (resolved c ts)) = resolved-node c l (arguments ts) e ∙ ap (node l) (arguments_resolved c ts) in
    let n = aliases_open l (arguments (resolved c ts)) e f in
    let a : closed_aliases (arguments (resolved c ts)) ≡ closed_aliases (resolved c ts) = omega arith in
    ap closed_aliases whole ∙ n ∙ a

closed_over : (c : Content) (l : Label) (ts : Tree) → IsSound c → infer_of l ≡ None → closed_under 0 (node l (arguments (resolved c ts))) ≡ closed_under 0 (node l (arguments ts))
closed_over c l ts sound e =
    let whole : resolved c (node l (arguments ts)) ≡ node l (arguments (resolved c ts)) = resolved-node c l (arguments ts) e ∙ ap (node l) (arguments_resolved c ts) in
    ap (closed_under 0) (sym whole) ∙ closed_resolved c 0 (node l (arguments ts)) sound

no_alias : (b : Bool) (a : Bool) → b ≡ false → (a && b) ≡ false
no_alias b true e = e
no_alias b false e = refl

pub aliases_over : (c : Content) (F : Form) (ts : Tree) → IsSound c → HasSorts F → StaysOpen F ts → closed_aliases (resolved c (over F ts)) ≡ closed_aliases (resolved c ts)
aliases_over c (a_constructor i) ts sound s k = aliases_arguments c (label.Ty (ty.Ctor i)) ts refl refl
aliases_over c (a_function ss) ts sound s k =
    let a = resolved-node c (label.Ty ty.FnPtr) (more (node (label.List list.Sorts) ss) (arguments ts)) refl in
    let b = resolved-more c (node (label.List list.Sorts) ss) (arguments ts) in
    let d = resolved-node c (label.List list.Sorts) ss refl in
    let e = arguments_resolved c ts in
    let rest : resolved c (more (node (label.List list.Sorts) ss) (arguments ts)) ≡ more (node (label.List list.Sorts) (resolved c ss)) (arguments (resolved c ts)) = cc (b, d, e) in
    let whole : resolved c (over (a_function ss) ts) ≡ node (label.Ty ty.FnPtr) (more (node (label.List list.Sorts) (resolved c ss)) (arguments (resolved c ts))) = a ∙ ap (node (label.Ty ty.FnPtr)) rest in
    let none = sorts_none c ss s.0 s.1 in
    let count : closed_aliases (node (label.Ty ty.FnPtr) (more (node (label.List list.Sorts) (resolved c ss)) (arguments (resolved c ts)))) ≡ closed_aliases (resolved c ts) = omega (arith, none) in
    ap closed_aliases whole ∙ count
aliases_over c (a_value b) ts sound s k = ap closed_aliases (resolved-node c (label.Const (konst.Value b)) ts refl)
aliases_over c (an_alias (alias_of.Ty i)) ts sound s k =
    let l = label.Ty (ty.Alias i) in
    aliases_arguments c l ts refl (no_alias _ true (closed_over c l ts sound refl ∙ from_not (closed_under 0 (node l (arguments ts))) k))
aliases_over c (an_alias (alias_of.Const i)) ts sound s k =
    let l = label.Const (konst.Unevaluated i) in
    aliases_arguments c l ts refl (no_alias _ true (closed_over c l ts sound refl ∙ from_not (closed_under 0 (node l (arguments ts))) k))

-- a closed alias is one
alias_arguments : (c : Content) (l : Label) (ts : Tree) → IsSound c → infer_of l ≡ None → is_alias l ≡ true → IsClosed (node l (arguments ts)) → closed_aliases (resolved c (node l (arguments ts))) ≡ 1
alias_arguments c l ts sound e a closed =
    let whole : resolved c (node l (arguments ts)) ≡ node l (arguments (resolved c ts)) = resolved-node c l (arguments ts) e ∙ ap (node l) (arguments_resolved c ts) in
    ap closed_aliases whole ∙ aliases_here l (arguments (resolved c ts)) e a (closed_over c l ts sound e ∙ closed_true 0 (node l (arguments ts)) closed)

pub alias_one : (c : Content) (t : Tree) → IsSound c → IsAlias t → closed_aliases (resolved c t) ≡ 1
alias_one c t sound k = by_head k.head k.is
  where
    by_head : (h : AliasHead) → t ≡ alias h k.parts → closed_aliases (resolved c t) ≡ 1
    by_head (alias_of.Ty i) e = ap (λ y. closed_aliases (resolved c y)) e ∙ alias_arguments c (label.Ty (ty.Alias i)) k.parts sound refl refl (subst IsClosed e k.closed)
    by_head (alias_of.Const i) e = ap (λ y. closed_aliases (resolved c y)) e ∙ alias_arguments c (label.Const (konst.Unevaluated i)) k.parts sound refl refl (subst IsClosed e k.closed)

-- bound variables that escape from parts escape from a node over them
arguments_escape : (b : ℕ) (l : Label) (ts rs : Tree) → infer_of l ≡ None → EscapesWith ts rs → closed_under b (node l (arguments rs)) ≡ true → closed_under b (node l (arguments ts)) ≡ true
arguments_escape b l ts rs e h k =
    let p = both_true (is_bound_below b l) (closed_under (b + binders l) (arguments rs)) (sym (closed_node b l (arguments rs) e) ∙ k) in
    let q = both_true (closed_under (b + binders l + 0) rs) true p.1 in
    let parts : closed_under (b + binders l) (arguments ts) ≡ true = and_true (closed_under (b + binders l + 0) ts) true (h (b + binders l + 0) q.0) refl in
    closed_node b l (arguments ts) e ∙ and_true (is_bound_below b l) (closed_under (b + binders l) (arguments ts)) p.0 parts

over_escape : (F : Form) (ts rs : Tree) → EscapesWith ts rs → EscapesWith (over F ts) (over F rs)
over_escape (a_constructor i) ts rs h b k = arguments_escape b (label.Ty (ty.Ctor i)) ts rs refl h k
over_escape (a_function ss) ts rs h b k =
    let sorts = closed_under (b + 1) (node (label.List list.Sorts) ss) in
    let p = both_true sorts (closed_under (b + 1) (arguments rs)) k in
    let q = both_true (closed_under (b + 1 + 0) rs) true p.1 in
    and_true sorts (closed_under (b + 1) (arguments ts)) p.0 (and_true (closed_under (b + 1 + 0) ts) true (h (b + 1 + 0) q.0) refl)
over_escape (a_value n) ts rs h b k = h (b + 0) k
over_escape (an_alias (alias_of.Ty i)) ts rs h b k = arguments_escape b (label.Ty (ty.Alias i)) ts rs refl h k
over_escape (an_alias (alias_of.Const i)) ts rs h b k = arguments_escape b (label.Const (konst.Unevaluated i)) ts rs refl h k

abbrev EscapesIn : Variance → Bool → Tree → Tree → Type 0
EscapesIn v q t r = EscapesWith t r

row_escapes : (v : Variance) (ws : List Variance) (q : Bool) (ts rs : Tree) → MadeForRow EscapesIn NothingOwed v ws q ts rs → EscapesWith ts rs
row_escapes v ws q empty empty m b k = refl
row_escapes v ws q empty (more r rs) m b k = refl
row_escapes v ws q empty (node l c) m b k = refl
row_escapes v ws q (more t ts) (more r rs) m b k =
    let p = both_true (closed_under b r) (closed_under b rs) k in
    and_true (closed_under b t) (closed_under b ts) (m.0 b p.0) (row_escapes v (rest_variances ws) q ts rs m.1 b p.1)
row_escapes v ws q (more t ts) empty m b k = absurd m
row_escapes v ws q (more t ts) (node l c) m b k = absurd m
row_escapes v ws q (node l c) rs m b k = absurd m

pub stays_open : (F : Form) (ts rs : Tree) → EscapesWith ts rs → StaysOpen F ts → StaysOpen F rs
stays_open (a_constructor i) ts rs h k = tt
stays_open (a_function ss) ts rs h k = tt
stays_open (a_value b) ts rs h k = tt
stays_open (an_alias a) ts rs h k = λ e. k (over_escape (an_alias a) ts rs h 0 e)

-- an alias that is made again is not closed
pub open_form : (F : Form) (ts : Tree) → IsFormed (over F ts) → FitsForm F ts → StaysOpen F ts
open_form (a_constructor i) ts f h = tt
open_form (a_function ss) ts f h = tt
open_form (a_value b) ts f h = tt
open_form (an_alias a) ts f h = λ e. h (closed_from 0 (alias a ts) f e)

pub form_sorts : (F : Form) (ts : Tree) → FitsForm F ts → HasSorts F
form_sorts (a_constructor i) ts h = tt
form_sorts (a_function ss) ts h = h
form_sorts (a_value b) ts h = tt
form_sorts (an_alias a) ts h = tt

-- the parts of a row that are to be entered
opens_entered : (v : Variance) (ws : List Variance) (q : Bool) (ts : Tree) (xs : List WalkStep) (ss : List Tree) → IsRow ts
    → ((rs : Tree) → MadeForRow EscapesIn NothingOwed v ws q ts rs → BuildsOpen xs (pushed rs ss)) → BuildsOpen (entering v ws q ts xs) ss
opens_entered v ws q empty xs ss r h = h empty tt
opens_entered v ws q (more t ts) xs ss r h = λ s m. opens_entered v (rest_variances ws) q ts xs (s ∷ ss) r (λ rs k. h (more s rs) (m, k))
opens_entered v ws q (node l c) xs ss r h = absurd r

opens_over : (F : Form) (rs : Tree) (n : ℕ) (xs : List WalkStep) (ss : List Tree) → IsRow rs → n ≡ row_length rs → StaysOpen F rs → BuildsOpen xs (over F rs ∷ ss) → BuildsOpen (build F n ∷ xs) (pushed rs ss)
opens_over F rs n xs ss row same k h =
    let one : popped n (pushed rs ss) empty ≡ rs = ap (λ m. popped m (pushed rs ss) empty) same ∙ popped_row rs ss row in
    let two : unpopped n (pushed rs ss) ≡ ss = ap (λ m. unpopped m (pushed rs ss)) same ∙ unpopped_pushed rs ss row in
    rw (one, two) (k, h)

opens_built : (F : Form) (rs : Tree) (n : ℕ) (xs : List WalkStep) (ss : List Tree) → IsRow rs → n ≡ row_length rs → BuildsOpen (build F n ∷ xs) (pushed rs ss) → StaysOpen F rs × BuildsOpen xs (over F rs ∷ ss)
opens_built F rs n xs ss row same h =
    let one : popped n (pushed rs ss) empty ≡ rs = ap (λ m. popped m (pushed rs ss) empty) same ∙ popped_row rs ss row in
    let two : unpopped n (pushed rs ss) ≡ ss = ap (λ m. unpopped m (pushed rs ss)) same ∙ unpopped_pushed rs ss row in
    rw (one, two) at h

invariant_entered : (v : Variance) (ws : List Variance) (q : Bool) (ts : Tree) (xs : List WalkStep) → v ≡ variance.Invariant → q ≡ false → AreStepsInvariant xs → AreStepsInvariant (entering v ws q ts xs)
invariant_entered v ws q empty xs e p h = h
invariant_entered v ws q (more t ts) xs e p h = (ap (λ y. times y (first_variance ws)) e, p, invariant_entered v (rest_variances ws) q ts xs e p h)
invariant_entered v ws q (node l c) xs e p h = h

aliases_entered : (c : Content) (v : Variance) (ws : List Variance) (q : Bool) (ts : Tree) (xs : List WalkStep) → IsRow ts → aliases_within c (entering v ws q ts xs) ≡ closed_aliases (resolved c ts) + aliases_within c xs
aliases_entered c v ws q empty xs r = let e = ap closed_aliases (resolved-empty c) in omega (arith, e)
aliases_entered c v ws q (more t ts) xs r =
    let e = ap closed_aliases (resolved-more c t ts) in
    let rest = aliases_entered c v (rest_variances ws) q ts xs r in
    omega (arith, e, rest)
aliases_entered c v ws q (node l x) xs r = absurd r

-- under a later table, in which older trees are what they were
aliases_later : (c d : Content) (xs : List WalkStep) → ((a : Tree) → Knows c a → resolved d a ≡ resolved c a) → KnowsSteps c xs → aliases_within d xs ≡ aliases_within c xs
aliases_later c d [] same k = refl
aliases_later c d (enter v q t ∷ xs) same k = let e = ap closed_aliases (same t k.0) in let r = aliases_later c d xs same k.1 in omega (arith, e, r)
aliases_later c d (build F n ∷ xs) same k = aliases_later c d xs same k.1
aliases_later c d (owe v t ∷ xs) same k = aliases_later c d xs same k.1

none_later : (c d : Content) (ss : List Tree) → ((a : Tree) → Knows c a → resolved d a ≡ resolved c a) → KnowsTrees c ss → HaveNone c ss → HaveNone d ss
none_later c d [] same k h = tt
none_later c d (s ∷ ss) same k h = (ap closed_aliases (same s k.0) ∙ h.0, none_later c d ss same k.1 h.1)

none_pushed : (c : Content) (rs : Tree) (ss : List Tree) → IsRow rs → HaveNone c (pushed rs ss) → (closed_aliases (resolved c rs) ≡ 0) × HaveNone c ss
none_pushed c empty ss r h = (ap closed_aliases (resolved-empty c), h)
none_pushed c (more t ts) ss r h =
    let k = none_pushed c ts (t ∷ ss) r h in
    let e = ap closed_aliases (resolved-more c t ts) in
    (omega (arith, e, k.0, k.1.0), k.1.1)
none_pushed c (node l x) ss r h = absurd r

-- the turns: a term was made at once
pub counted_made : (c d : Content) (v : Variance) (q : Bool) (t r : Tree) (xs : List WalkStep) (ss : List Tree) → ((a : Tree) → Knows c a → resolved d a ≡ resolved c a) → KnowsSteps c xs → KnowsTrees c ss → IsCountedFor c d v q t r
    → (n : ℕ) → IsCounted c n (enter v q t ∷ xs) ss → IsCounted d n xs (r ∷ ss)
counted_made c d v q t r xs ss same steps trees m n h =
    let i = h.invariant in
    let few = m.few i.0 i.1 in
    let later = aliases_later c d xs same steps in
    let all = h.few in
    record {
      invariant = i.2;
      opens = h.opens r m.escapes;
      none = (m.none i.0 i.1, none_later c d ss same trees h.none);
      few = omega (arith, few, later, all);
    }

-- a variable gave place to its value
pub counted_through : (c : Content) (v : Variance) (q : Bool) (t w : Tree) (xs : List WalkStep) (ss : List Tree) → IsInfer t → resolved c t ≡ resolved c w → (n : ℕ) → IsCounted c n (enter v q t ∷ xs) ss → IsCounted c n (enter v q w ∷ xs) ss
counted_through c v q t w xs ss i same n h =
    let e = ap closed_aliases same in
    let all = h.few in
    record { invariant = h.invariant; opens = λ s m. h.opens s (λ b k. infer_closed t b i); none = h.none; few = omega (arith, e, all) }

-- a node gave place to its parts
pub counted_node : (c : Content) (v : Variance) (ws : List Variance) (q : Bool) (F : Form) (ts : Tree) (xs : List WalkStep) (ss : List Tree) → IsSound c → IsFormed (over F ts) → IsRow ts → FitsForm F ts
    → (n : ℕ) → IsCounted c n (enter v q (over F ts) ∷ xs) ss → IsCounted c n (entering v ws q ts (build F (row_length ts) ∷ xs)) ss
counted_node c v ws q F ts xs ss sound formed row fits n h =
    let i = h.invariant in
    let here = open_form F ts formed fits in
    let e = aliases_over c F ts sound (form_sorts F ts fits) here in
    let within = aliases_entered c v ws q ts (build F (row_length ts) ∷ xs) row in
    let all = h.few in
    record {
      invariant = invariant_entered v ws q ts (build F (row_length ts) ∷ xs) i.0 i.1 i.2;
      opens = opens_entered v ws q ts (build F (row_length ts) ∷ xs) ss row (λ rs m.
          (let r = made_row EscapesIn NothingOwed v ws q ts rs m in
          let escapes = row_escapes v ws q ts rs m in
          opens_over F rs (row_length ts) xs ss r.0 (sym r.1) (stays_open F ts rs escapes here) (h.opens (over F rs) (over_escape F ts rs escapes))));
      none = h.none;
      few = omega (arith, e, within, all);
    }

-- a node was built
pub counted_built : (c : Content) (F : Form) (rs : Tree) (k : ℕ) (xs : List WalkStep) (ss : List Tree) → IsSound c → IsRow rs → k ≡ row_length rs → HasSorts F → (n : ℕ) → IsCounted c n (build F k ∷ xs) (pushed rs ss) → IsCounted c n xs (over F rs ∷ ss)
counted_built c F rs k xs ss sound row same sorts n h =
    let o = opens_built F rs k xs ss row same h.opens in
    let none = none_pushed c rs ss row h.none in
    record { invariant = h.invariant; opens = o.1; none = (aliases_over c F rs sound sorts o.0 ∙ none.0, none.1); few = h.few }

-- a goal was left
pub counted_owed : (c : Content) (v : Variance) (t : Tree) (xs : List WalkStep) (ss : List Tree) → (n : ℕ) → IsCounted c n (owe v t ∷ xs) ss → IsCounted c n xs ss
counted_owed c v t xs ss n h = record { invariant = h.invariant; opens = h.opens; none = h.none; few = h.few }

-- .. by equal lists
pub counted_at : {c d : Content} {xs xs' ys ys' : List WalkStep} {ss ss' rs rs' : List Tree} → xs ≡ xs' → ys ≡ ys' → ss ≡ ss' → rs ≡ rs' → ((n : ℕ) → IsCounted c n xs' ss' → IsCounted d n ys' rs') → (n : ℕ) → IsCounted c n xs ss → IsCounted d n ys rs
counted_at a b e f h = rw (a, b, e, f) h

pub counted_to : {c : Content} {n : ℕ} {xs ys : List WalkStep} {ss rs : List Tree} → xs ≡ ys → ss ≡ rs → IsCounted c n xs ss → IsCounted c n ys rs
counted_to p q h = rw (p, q) at h

-- the whole is to be entered
pub counted_start : (c : Content) (v : Variance) (t : Tree) → v ≡ variance.Invariant → IsCounted c (unset_count c.slots + closed_aliases (resolved c t)) (enter v false t ∷ []) []
counted_start c v t e = record { invariant = (e, refl, tt); opens = λ s m. tt; none = tt; few = omega arith }
