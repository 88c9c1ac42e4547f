-- Terms under the values of a table are terms, and fit what they fitted.
use Rattle.std.proofs.Common.{◌<◌, ◌≡◌, ◌≢◌, inl, inr, ℕ, ◌+◌, Bool, true, false, List, [], ◌∷◌, Option, Some, None, refl, ap, ◌∙◌, arith, subst}
use Rattle.std.specs.Prelude.{◌==◌, if◌then◌else◌, reverse, slice_get}
use Rattle.nts_model.specs.declared.labels.VariableKind.{VariableKind}
use Rattle.nts_model.specs.declared.labels.VariableKind.TheVariants as kind
use Rattle.nts_model.specs.declared.labels.Leaf.TheVariants as leaf
use Rattle.nts_model.specs.declared.labels.Label.{Label}
use Rattle.nts_model.specs.declared.labels.Label.TheVariants as label
use Rattle.nts_model.specs.Terms.Trees.{Tree, empty, more, node, kind_of, of_sort, sort_of_variable, label_of, binders, IsBoundBelow, IsClosedUnder, IsClosed, Place, FitsPlace, in_order, each, HavePlaces, AllFit, Meets, Shape, shape, IsFormed, infer_of, variable_of, variable_tree}
use Rattle.nts_model.specs.Tables.Contents.{Content, Slot, SlotState, map_slot, unset, link, known, state_of, kind_at}
use Rattle.nts_model.specs.Tables.Resolving.{replaced, replaced_at, under, value_at, resolved, rooted, rooted_variable, deeply_resolved, root_of, IsInfer, rank_of_kind, variable_rank, IsRootState, Knows, IsSound}
use Rattle.nts_model.specs.Terms.Regions.{of_variable}
use Rattle.nts_model.specs.Terms.Fitting.{is_integer, is_float, HasLabel, Fits}
use Rattle.nts_model.specs.Derivations.Proving.{HoldsTerms}
use Rattle.nts_model.proofs.Terms.Variables.{infer_number_some}
use Rattle.nts_model.proofs.Tables.Roots.{Reaches-root_of, IsRootState-root_of, kind_at-root_of}
use Rattle.nts_model.proofs.Tables.Resolved.{rank_none, resolved-node, resolved-variable_unset, resolved-variable_reaches, resolved-variable_known, deeply_resolved-node, deeply_resolved-empty}
use Rattle.nts_model.proofs.Tables.Open.{AreClosedOf, Knows-under, values_closed_of, Knows-resolved}
use Rattle.nts_model.proofs.Tables.Kept.{FitKinds, FitKinds-value_at, kind_of-replaced, kind_of-under, kind_of-resolved, kind_of-rooted}
use Rattle.nts_model.proofs.Terms.Substituting.{closed_under_more}
use Rattle.nts_model.proofs.Terms.Scoping.{closed_replaced_at as IsClosed-replaced_at}

FitsPlace-same : (p : Place) (s t : Tree) → kind_of s ≡ kind_of t → FitsPlace p (kind_of t) → FitsPlace p (kind_of s)
FitsPlace-same p s t e h = rw e h

-- a map of trees that keeps lists and the kinds of trees of the table
record KeepsRows (c : Content) (f : Tree → Tree) : Type 0 where
  pub ends : f empty ≡ empty
  pub goes_on : (a b : Tree) → f (more a b) ≡ more (f a) (f b)
  pub kinds : (t : Tree) → Knows c t → kind_of (f t) ≡ kind_of t

HavePlaces-kept : (c : Content) (f : Tree → Tree) → KeepsRows c f → (ps : List Place) (t : Tree) → Knows c t → HavePlaces ps t → HavePlaces ps (f t)
HavePlaces-kept c f k [] empty q h = rw k.ends tt
HavePlaces-kept c f k [] (more a b) q h = absurd h
HavePlaces-kept c f k [] (node l t) q h = absurd h
HavePlaces-kept c f k (p ∷ ps) empty q h = absurd h
HavePlaces-kept c f k (p ∷ ps) (more a b) q h = rw (k.goes_on a b) (FitsPlace-same p (f a) a (k.kinds a q.0) h.0, HavePlaces-kept c f k ps b q.1 h.1)
HavePlaces-kept c f k (p ∷ ps) (node l t) q h = absurd h

AllFit-kept : (c : Content) (f : Tree → Tree) → KeepsRows c f → (p : Place) (t : Tree) → Knows c t → AllFit p t → AllFit p (f t)
AllFit-kept c f k p empty q h = rw k.ends tt
AllFit-kept c f k p (more a b) q h = rw (k.goes_on a b) (FitsPlace-same p (f a) a (k.kinds a q.0) h.0, AllFit-kept c f k p b q.1 h.1)
AllFit-kept c f k p (node l t) q h = absurd h

Meets-kept : (c : Content) (f : Tree → Tree) → KeepsRows c f → (s : Shape) (t : Tree) → Knows c t → Meets s t → Meets s (f t)
Meets-kept c f k (in_order ps) t q h = HavePlaces-kept c f k ps t q h
Meets-kept c f k (each p) t q h = AllFit-kept c f k p t q h

-- a term for a variable
abbrev FitsSlot : Content → ℕ → Tree → Type 0
FitsSlot c n s = (k : VariableKind) → kind_at c n ≡ Some k → kind_of s ≡ Some (of_sort (sort_of_variable k))

IsFormed-replaced_at : (n : ℕ) (o : Option ℕ) (s t u : Tree) → IsFormed s → IsFormed t → IsFormed u → IsFormed (replaced_at o n s t u)
IsFormed-replaced_at n None s t u h i j = j
IsFormed-replaced_at n (Some m) s t u h i j = by_case (m == n)
  where
    by_case : (z : Bool) → IsFormed (if z then s else t)
    by_case true = h
    by_case false = i

IsFormed-replaced : (c : Content) (n : ℕ) (s t : Tree) → FitsSlot c n s → IsFormed s → Knows c t → IsFormed t → IsFormed (replaced n s t)
IsFormed-replaced c n s empty f h k i = tt
IsFormed-replaced c n s (more a b) f h k i = (IsFormed-replaced c n s a f h k.0 i.0, IsFormed-replaced c n s b f h k.1 i.1)
IsFormed-replaced c n s (node l t) f h k i =
    let rows : KeepsRows c (replaced n s) = record { ends = refl; goes_on = λ a b. refl; kinds = λ x q. kind_of-replaced c n s x q f } in
    IsFormed-replaced_at n (infer_of l) s (node l t) (node l (replaced n s t)) h i
    (Meets-kept c (replaced n s) rows (shape l) t k.1 i.0, IsFormed-replaced c n s t f h k.1 i.1)

IsFormed-under : (c : Content) (val : ℕ → Tree) (ns : List ℕ) (t : Tree) → AreClosedOf c val → FitKinds c val ns → ((n : ℕ) → IsFormed (val n)) → Knows c t → IsFormed t → IsFormed (under val ns t)
IsFormed-under c val [] t h f g k i = i
IsFormed-under c val (n ∷ ns) t h f g k i =
    let fits : FitKinds c val ns = λ m j q e. f m j (inr q) e in
    let value : kind_of (under val ns (val n)) ≡ kind_of (val n) = kind_of-under c val ns (val n) h fits (h n).0 in
    IsFormed-replaced c n (under val ns (val n)) (under val ns t) (λ j e. value ∙ f n j (inl refl) e)
    (IsFormed-under c val ns (val n) h fits g (h n).0 (g n)) (Knows-under c val ns t h k) (IsFormed-under c val ns t h fits g k i)

-- the values of a table
value_is : (P : Tree → Type 0) (c : Content) (n : ℕ) → P empty → ((k : VariableKind) (m : ℕ) → P (variable_tree k m)) → ((t : Tree) → state_of c n ≡ Some (known t) → P t) → P (value_at c n)
value_is P c n none variable value = by_state (state_of c n) refl
  where
    by_state : (o : Option SlotState) → state_of c n ≡ o → P (value_at c n)
    by_state None e = rw e none
    by_state (Some unset) e = rw e none
    by_state (Some (link m)) e = rw e (variable _ m)
    by_state (Some (known t)) e = rw e (value t e)

IsFormed-value_at : (c : Content) (n : ℕ) → HoldsTerms c → IsFormed (value_at c n)
IsFormed-value_at c n h = value_is IsFormed c n tt (λ k m. (tt, tt)) (h.formed n)

IsClosed-value_at : (c : Content) (n : ℕ) → HoldsTerms c → IsClosed (value_at c n)
IsClosed-value_at c n h = value_is IsClosed c n tt (λ k m. (tt, tt)) (h.closed n)

pub IsFormed-resolved : (c : Content) (t : Tree) → IsSound c → HoldsTerms c → Knows c t → IsFormed t → IsFormed (resolved c t)
IsFormed-resolved c t s h k i =
    IsFormed-under c (value_at c) (reverse c.order) t (values_closed_of c s) (FitKinds-value_at c s) (λ n. IsFormed-value_at c n h) k i

IsClosed-replaced : (b n : ℕ) (s t : Tree) → IsClosed s → IsClosedUnder b t → IsClosedUnder b (replaced n s t)
IsClosed-replaced b n s empty h k = tt
IsClosed-replaced b n s (more x y) h k = (IsClosed-replaced b n s x h k.0, IsClosed-replaced b n s y h k.1)
IsClosed-replaced b n s (node l t) h k = IsClosed-replaced_at b n (infer_of l) s l t (replaced n s t) h k (IsClosed-replaced (b + binders l) n s t h k.1)

IsClosed-under : (val : ℕ → Tree) (ns : List ℕ) (t : Tree) → ((n : ℕ) → IsClosed (val n)) → IsClosed t → IsClosed (under val ns t)
IsClosed-under val [] t h k = k
IsClosed-under val (n ∷ ns) t h k = IsClosed-replaced 0 n (under val ns (val n)) (under val ns t) (IsClosed-under val ns (val n) h (h n)) (IsClosed-under val ns t h k)

-- roots of regions change no shape
rooted_shape : (P : Label → Type 0) (c : Content) (l : Label) → P l → ((n m : ℕ) → l ≡ label.Leaf (leaf.Variable kind.Region n) → P (label.Leaf (leaf.Variable kind.Region m))) → P (rooted_variable c (variable_of l) l)
rooted_shape P c (label.Leaf (leaf.Variable kind.Ty n)) h r = h
rooted_shape P c (label.Leaf (leaf.Variable kind.Int n)) h r = h
rooted_shape P c (label.Leaf (leaf.Variable kind.Float n)) h r = h
rooted_shape P c (label.Leaf (leaf.Variable kind.Const n)) h r = h
rooted_shape P c (label.Leaf (leaf.Variable kind.Region n)) h r = r n (root_of c n) refl
rooted_shape P c (label.Leaf (leaf.Region x)) h r = h
rooted_shape P c (label.Leaf (leaf.TyConstant x)) h r = h
rooted_shape P c (label.Leaf (leaf.ConstConstant x)) h r = h
rooted_shape P c (label.Bound a b n) h r = h
rooted_shape P c (label.Ty x) h r = h
rooted_shape P c (label.Const x) h r = h
rooted_shape P c (label.Clause x) h r = h
rooted_shape P c (label.Predicate x) h r = h
rooted_shape P c (label.List x) h r = h

rooted_rows : (c : Content) → KeepsRows c (rooted c)
rooted_rows c = record { ends = refl; goes_on = λ a b. refl; kinds = λ t k. kind_of-rooted c t }

IsFormed-rooted : (c : Content) (t : Tree) → Knows c t → IsFormed t → IsFormed (rooted c t)
IsFormed-rooted c empty k h = tt
IsFormed-rooted c (more a b) k h = (IsFormed-rooted c a k.0 h.0, IsFormed-rooted c b k.1 h.1)
IsFormed-rooted c (node l t) k h =
    let kept : Meets (shape l) (rooted c t) = Meets-kept c (rooted c) (rooted_rows c) (shape l) t k.1 h.0 in
    (rooted_shape (λ x. Meets (shape x) (rooted c t)) c l kept (λ n m e. subst (λ x. Meets (shape x) (rooted c t)) e kept), IsFormed-rooted c t k.1 h.1)

IsClosed-rooted : (c : Content) (b : ℕ) (t : Tree) → IsClosedUnder b t → IsClosedUnder b (rooted c t)
IsClosed-rooted c b empty h = tt
IsClosed-rooted c b (more x y) h = (IsClosed-rooted c b x h.0, IsClosed-rooted c b y h.1)
IsClosed-rooted c b (node l t) h =
    rooted_shape (λ x. IsBoundBelow b x × IsClosedUnder (b + binders x) (rooted c t)) c l (h.0, IsClosed-rooted c (b + binders l) t h.1)
    (λ n m e. let q : IsClosedUnder (b + binders l) (rooted c t) = IsClosed-rooted c (b + binders l) t h.1 in (tt, rw e at q))

pub IsFormed-deeply_resolved : (c : Content) (t : Tree) → IsSound c → HoldsTerms c → Knows c t → IsFormed t → IsFormed (deeply_resolved c t)
IsFormed-deeply_resolved c t s h k i = IsFormed-rooted c (resolved c t) (Knows-resolved c t s k) (IsFormed-resolved c t s h k i)

pub IsClosed-deeply_resolved : (c : Content) (t : Tree) → HoldsTerms c → IsClosed t → IsClosed (deeply_resolved c t)
IsClosed-deeply_resolved c t h i = IsClosed-rooted c 0 (resolved c t) (IsClosed-under (value_at c) (reverse c.order) t (λ n. IsClosed-value_at c n h) i)

-- what a variable is under the table fits the variable
fits_variable : (k : VariableKind) (n : ℕ) → Fits k (variable_tree k n)
fits_variable kind.Ty n = refl
fits_variable kind.Int n = refl
fits_variable kind.Float n = refl
fits_variable kind.Const n = refl
fits_variable kind.Region n = (of_variable n, refl)

no_infer : (l : Label) (x : Tree) → (IsInfer (node l x) → ⊥) → infer_of l ≡ None
no_infer l x h = by_case (infer_of l) refl
  where
    by_case : (o : Option ℕ) → infer_of l ≡ o → infer_of l ≡ None
    by_case None e = e
    by_case (Some n) e = absurd (h (n, e))

label_of-resolved : (p : Label → Bool) (c : Content) (t : Tree) → (IsInfer t → ⊥) → HasLabel p (label_of t) → HasLabel p (label_of (resolved c t))
label_of-resolved p c empty h i = absurd i
label_of-resolved p c (more a b) h i = absurd i
label_of-resolved p c (node l x) h i = rw (resolved-node c l x (no_infer l x h)) i

below_one : (n : ℕ) → n < 1 → n ≡ 0
below_one n h = omega (arith, h)

fits-resolved : (c : Content) (k : VariableKind) (t : Tree) → IsSound c → k ≢ kind.Region → Knows c t → variable_rank t < rank_of_kind k → Fits k t → Fits k (resolved c t)
fits-resolved c kind.Ty t s r k h i = kind_of-resolved c t s k ∙ i
fits-resolved c kind.Const t s r k h i = kind_of-resolved c t s k ∙ i
fits-resolved c kind.Int t s r k h i = label_of-resolved is_integer c t (rank_none t (below_one (variable_rank t) h)) i
fits-resolved c kind.Float t s r k h i = label_of-resolved is_float c t (rank_none t (below_one (variable_rank t) h)) i
fits-resolved c kind.Region t s r k h i = absurd (r refl)

has_state : (c : Content) (n : ℕ) (k : VariableKind) → kind_at c n ≡ Some k → state_of c n ≡ None → ⊥
has_state c n k a b = by_slot (slice_get c.slots n) a b
  where
    by_slot : (o : Option Slot) → map_slot (λ x. x.kind) o ≡ Some k → map_slot (λ x. x.state) o ≡ None → ⊥
    by_slot None a b = cc
    by_slot (Some v) a b = cc

fits-root : (c : Content) (k : VariableKind) (r : ℕ) → IsSound c → HoldsTerms c → k ≢ kind.Region → kind_at c r ≡ Some k → IsRootState (state_of c r) → Fits k (resolved c (variable_tree k r))
fits-root c k r s h q e root = by_state (state_of c r) refl
  where
    infer : infer_of (label.Leaf (leaf.Variable k r)) ≡ Some r
    infer = infer_number_some k r q

    by_state : (o : Option SlotState) → state_of c r ≡ o → Fits k (resolved c (variable_tree k r))
    by_state None x = absurd (has_state c r k e x)
    by_state (Some unset) x = rw (resolved-variable_unset c (label.Leaf (leaf.Variable k r)) empty r s infer x) (fits_variable k r)
    by_state (Some (link m)) x = absurd (rw x at root)
    by_state (Some (known t)) x =
        rw (resolved-variable_known c (label.Leaf (leaf.Variable k r)) empty r t s infer x)
        (fits-resolved c k t s q (s.known_trees r t x) (s.ranks r t k x e) (h.fitting r t k x e))

fits-resolved_variable : (c : Content) (k : VariableKind) (n : ℕ) → IsSound c → HoldsTerms c → k ≢ kind.Region → kind_at c n ≡ Some k → Fits k (resolved c (variable_tree k n))
fits-resolved_variable c k n s h q e =
    rw (resolved-variable_reaches c k n (root_of c n) s q e (Reaches-root_of c n))
    (fits-root c k (root_of c n) s h q (kind_at-root_of c n s ∙ e) (IsRootState-root_of c n s.descends))

label_of-rooted : (p : Label → Bool) (c : Content) (t : Tree) → ((n : ℕ) → p (label.Leaf (leaf.Variable kind.Region n)) ≡ true → ⊥) → HasLabel p (label_of t) → HasLabel p (label_of (rooted c t))
label_of-rooted p c empty h i = absurd i
label_of-rooted p c (more a b) h i = absurd i
label_of-rooted p c (node l x) h i = rooted_shape (λ y. p y ≡ true) c l i (λ n m e. absurd (h n (rw e at i)))

fits-rooted : (c : Content) (k : VariableKind) (t : Tree) → k ≢ kind.Region → Fits k t → Fits k (rooted c t)
fits-rooted c kind.Ty t q h = kind_of-rooted c t ∙ h
fits-rooted c kind.Const t q h = kind_of-rooted c t ∙ h
fits-rooted c kind.Int t q h = label_of-rooted is_integer c t (λ n e. cc e) h
fits-rooted c kind.Float t q h = label_of-rooted is_float c t (λ n e. cc e) h
fits-rooted c kind.Region t q h = absurd (q refl)

fits_region : (c : Content) (n : ℕ) → Fits kind.Region (deeply_resolved c (variable_tree kind.Region n))
fits_region c n =
    let e : deeply_resolved c (variable_tree kind.Region n) ≡ variable_tree kind.Region (root_of c n) =
    deeply_resolved-node c (label.Leaf (leaf.Variable kind.Region n)) empty refl ∙ ap (node (label.Leaf (leaf.Variable kind.Region (root_of c n)))) (deeply_resolved-empty c) in
    rw e (of_variable (root_of c n), refl)

pub Fits-deeply_resolved : (c : Content) (k : VariableKind) (n : ℕ) → IsSound c → HoldsTerms c → kind_at c n ≡ Some k → Fits k (deeply_resolved c (variable_tree k n))
Fits-deeply_resolved c kind.Ty n s h e = fits-rooted c kind.Ty (resolved c (variable_tree kind.Ty n)) (λ q. cc q) (fits-resolved_variable c kind.Ty n s h (λ q. cc q) e)
Fits-deeply_resolved c kind.Int n s h e = fits-rooted c kind.Int (resolved c (variable_tree kind.Int n)) (λ q. cc q) (fits-resolved_variable c kind.Int n s h (λ q. cc q) e)
Fits-deeply_resolved c kind.Float n s h e = fits-rooted c kind.Float (resolved c (variable_tree kind.Float n)) (λ q. cc q) (fits-resolved_variable c kind.Float n s h (λ q. cc q) e)
Fits-deeply_resolved c kind.Const n s h e = fits-rooted c kind.Const (resolved c (variable_tree kind.Const n)) (λ q. cc q) (fits-resolved_variable c kind.Const n s h (λ q. cc q) e)
Fits-deeply_resolved c kind.Region n s h e = fits_region c n
