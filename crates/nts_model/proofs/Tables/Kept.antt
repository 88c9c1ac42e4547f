-- What resolving keeps: the kinds of nodes, and trees without variables.
use Rattle.std.proofs.Common.{◌≡◌, inl, inr, ℕ, Bool, true, false, List, [], ◌∷◌, Option, Some, None, refl, sym, ap, ◌∙◌, rules}
use Rattle.std.specs.Prelude.{◌==◌, ◌||◌, if◌then◌else◌, slice_get, reverse}
use Rattle.nts_model.specs.declared.labels.VariableKind.{VariableKind}
use Rattle.nts_model.specs.declared.labels.VariableKind.TheVariants as kind
use Rattle.nts_model.specs.declared.labels.Leaf.TheVariants as leaf
use Rattle.nts_model.specs.declared.labels.Label.{Label}
use Rattle.nts_model.specs.declared.labels.Label.TheVariants as label
use Rattle.nts_model.specs.Terms.Trees.{Tree, empty, more, node, kind_of, of_sort, sort_of_variable, kind_of_label, any_label, is_infer, is_infer_kind, is_region_infer, is_region_infer_kind, infer_number, infer_of, variable_of}
use Rattle.nts_model.specs.Tables.Contents.{Content, Slot, SlotState, unset, link, known, map_slot, state_of, kind_at}
use Rattle.nts_model.specs.Tables.Resolving.{replaced, replaced_at, Lacks, under, IsOneOf, value_at, resolved, deeply_resolved, rooted, rooted_variable, Knows, KnowsVariable, IsSound}
use Rattle.nts_model.proofs.Terms.Variables.{infer_label}
use Rattle.nts_model.proofs.Tables.Under.{under-lacks, none-one}
use Rattle.nts_model.proofs.Tables.Open.{AreClosedOf, Knows-under, values_closed_of}
use Rattle.nts_model.proofs.Terms.Unpositioned.{or_false}

pub variable_label : (l : Label) (k : VariableKind) (n : ℕ) → variable_of l ≡ Some (k, n) → l ≡ label.Leaf (leaf.Variable k n)
variable_label (label.Leaf (leaf.Variable j m)) k n e = let p : j ≡ k = ap first e in let q : m ≡ n = ap second e in cc
  where
    first : Option (VariableKind × ℕ) → VariableKind
    first None = k
    first (Some v) = v.0

    second : Option (VariableKind × ℕ) → ℕ
    second None = n
    second (Some v) = v.1
variable_label (label.Leaf (leaf.Region r)) k n e = cc
variable_label (label.Leaf (leaf.TyConstant a)) k n e = cc
variable_label (label.Leaf (leaf.ConstConstant a)) k n e = cc
variable_label (label.Bound a b d) k n e = cc
variable_label (label.Ty h) k n e = cc
variable_label (label.Const h) k n e = cc
variable_label (label.Clause h) k n e = cc
variable_label (label.Predicate h) k n e = cc
variable_label (label.List h) k n e = cc

kind_of_infer : (l : Label) (v : VariableKind × ℕ) → variable_of l ≡ Some v → kind_of_label l ≡ of_sort (sort_of_variable v.0)
kind_of_infer l v e = ap kind_of_label (variable_label l v.0 v.1 e)

-- each variable's value is of its kind
abbrev pub FitKinds : Content → (ℕ → Tree) → List ℕ → Type 0
FitKinds c val ns = (n : ℕ) (k : VariableKind) → IsOneOf n ns → kind_at c n ≡ Some k → kind_of (val n) ≡ Some (of_sort (sort_of_variable k))

kind_of-replaced_at : (c : Content) (o : Option ℕ) (n : ℕ) (s : Tree) (l : Label) (t x : Tree) → infer_of l ≡ o → KnowsVariable c (variable_of l) → ((k : VariableKind) → kind_at c n ≡ Some k → kind_of s ≡ Some (of_sort (sort_of_variable k))) → kind_of (replaced_at o n s (node l t) (node l x)) ≡ Some (kind_of_label l)
kind_of-replaced_at c None n s l t x e k h = refl
kind_of-replaced_at c (Some m) n s l t x e k h = by_case (m == n) refl
  where
    by_case : (z : Bool) → (m == n) ≡ z → kind_of (if z then s else node l t) ≡ Some (kind_of_label l)
    by_case false q = refl
    by_case true q =
        let v = infer_label l m e in
        let same : m ≡ n = search (rules, q) in
        let has : kind_at c m ≡ Some v.of_kind = rw v.is at k in
        h v.of_kind (rw (← same) has) ∙ ap Some (sym (kind_of_infer l (v.of_kind, m) v.is))

pub kind_of-replaced : (c : Content) (n : ℕ) (s t : Tree) → Knows c t → ((k : VariableKind) → kind_at c n ≡ Some k → kind_of s ≡ Some (of_sort (sort_of_variable k))) → kind_of (replaced n s t) ≡ kind_of t
kind_of-replaced c n s empty k h = refl
kind_of-replaced c n s (more a b) k h = refl
kind_of-replaced c n s (node l t) k h = kind_of-replaced_at c (infer_of l) n s l t (replaced n s t) refl k.0.0 h

pub kind_of-under : (c : Content) (val : ℕ → Tree) (ns : List ℕ) (t : Tree) → AreClosedOf c val → FitKinds c val ns → Knows c t → kind_of (under val ns t) ≡ kind_of t
kind_of-under c val [] t h f k = refl
kind_of-under c val (n ∷ ns) t h f k =
    let fits : FitKinds c val ns = λ m j q e. f m j (inr q) e in
    let value : kind_of (under val ns (val n)) ≡ kind_of (val n) = kind_of-under c val ns (val n) h fits (h n).0 in
    kind_of-replaced c n (under val ns (val n)) (under val ns t) (Knows-under c val ns t h k) (λ j e. value ∙ f n j (inl refl) e)
    ∙ kind_of-under c val ns t h fits k

pub FitKinds-value_at : (c : Content) → IsSound c → FitKinds c (value_at c) (reverse c.order)
FitKinds-value_at c s n k h e = by_case (state_of c n) refl
  where
    no_None : (o : Option Slot) → map_slot (λ x. x.kind) o ≡ Some k → map_slot (λ x. x.state) o ≡ None → ⊥
    no_None None a b = cc
    no_None (Some v) a b = cc

    by_case : (o : Option SlotState) → state_of c n ≡ o → kind_of (value_at c n) ≡ Some (of_sort (sort_of_variable k))
    by_case None q = absurd (no_None (slice_get c.slots n) e q)
    by_case (Some unset) q = absurd (none-one n n (reverse c.order) (s.unbound n q) h refl)
    by_case (Some (link m)) q = rw (e, q) refl
    by_case (Some (known t)) q = rw q ((s.fits n t k q e).0)

-- a resolved tree is of the kind that it was
pub kind_of-resolved : (c : Content) (t : Tree) → IsSound c → Knows c t → kind_of (resolved c t) ≡ kind_of t
kind_of-resolved c t s k = kind_of-under c (value_at c) (reverse c.order) t (values_closed_of c s) (FitKinds-value_at c s) k

kind_of-rooted_variable : (c : Content) (o : Option (VariableKind × ℕ)) (l : Label) → variable_of l ≡ o → kind_of_label (rooted_variable c o l) ≡ kind_of_label l
kind_of-rooted_variable c None l e = refl
kind_of-rooted_variable c (Some (kind.Ty, n)) l e = refl
kind_of-rooted_variable c (Some (kind.Int, n)) l e = refl
kind_of-rooted_variable c (Some (kind.Float, n)) l e = refl
kind_of-rooted_variable c (Some (kind.Const, n)) l e = refl
kind_of-rooted_variable c (Some (kind.Region, n)) l e = sym (kind_of_infer l (kind.Region, n) e)

pub kind_of-rooted : (c : Content) (t : Tree) → kind_of (rooted c t) ≡ kind_of t
kind_of-rooted c empty = refl
kind_of-rooted c (more a b) = refl
kind_of-rooted c (node l t) = ap Some (kind_of-rooted_variable c (variable_of l) l refl)

pub kind_of-deeply_resolved : (c : Content) (t : Tree) → IsSound c → Knows c t → kind_of (deeply_resolved c t) ≡ kind_of t
kind_of-deeply_resolved c t s k = kind_of-rooted c (resolved c t) ∙ kind_of-resolved c t s k

infer_kind : (k : VariableKind) (n : ℕ) → is_infer_kind k ≡ false → infer_number k n ≡ None
infer_kind kind.Ty n e = cc
infer_kind kind.Int n e = cc
infer_kind kind.Float n e = cc
infer_kind kind.Const n e = cc
infer_kind kind.Region n e = refl

pub infer_of_not : (l : Label) → is_infer l ≡ false → infer_of l ≡ None
infer_of_not (label.Leaf (leaf.Variable k n)) e = infer_kind k n e
infer_of_not (label.Leaf (leaf.Region r)) e = refl
infer_of_not (label.Leaf (leaf.TyConstant a)) e = refl
infer_of_not (label.Leaf (leaf.ConstConstant a)) e = refl
infer_of_not (label.Bound a b d) e = refl
infer_of_not (label.Ty h) e = refl
infer_of_not (label.Const h) e = refl
infer_of_not (label.Clause h) e = refl
infer_of_not (label.Predicate h) e = refl
infer_of_not (label.List h) e = refl

pub Lacks-no_infer : (n : ℕ) (t : Tree) → any_label is_infer t ≡ false → Lacks n t
Lacks-no_infer n empty e = tt
Lacks-no_infer n (more a b) e = let h = or_false (any_label is_infer a) (any_label is_infer b) e in (Lacks-no_infer n a h.0, Lacks-no_infer n b h.1)
Lacks-no_infer n (node l t) e =
    let h = or_false (is_infer l) (any_label is_infer t) e in
    rw (infer_of_not l h.0) (Lacks-no_infer n t h.1)

pub resolved-no_infer : (c : Content) (t : Tree) → any_label is_infer t ≡ false → resolved c t ≡ t
resolved-no_infer c t e = under-lacks (value_at c) (reverse c.order) t (λ m k. Lacks-no_infer m t e)

rooted_kind : (c : Content) (k : VariableKind) (n : ℕ) (l : Label) → is_region_infer_kind k ≡ false → rooted_variable c (Some (k, n)) l ≡ l
rooted_kind c kind.Ty n l e = refl
rooted_kind c kind.Int n l e = refl
rooted_kind c kind.Float n l e = refl
rooted_kind c kind.Const n l e = refl
rooted_kind c kind.Region n l e = cc

rooted_not : (c : Content) (l : Label) → is_region_infer l ≡ false → rooted_variable c (variable_of l) l ≡ l
rooted_not c (label.Leaf (leaf.Variable k n)) e = rooted_kind c k n (label.Leaf (leaf.Variable k n)) e
rooted_not c (label.Leaf (leaf.Region r)) e = refl
rooted_not c (label.Leaf (leaf.TyConstant a)) e = refl
rooted_not c (label.Leaf (leaf.ConstConstant a)) e = refl
rooted_not c (label.Bound a b d) e = refl
rooted_not c (label.Ty h) e = refl
rooted_not c (label.Const h) e = refl
rooted_not c (label.Clause h) e = refl
rooted_not c (label.Predicate h) e = refl
rooted_not c (label.List h) e = refl

pub rooted-no_region : (c : Content) (t : Tree) → any_label is_region_infer t ≡ false → rooted c t ≡ t
rooted-no_region c empty e = refl
rooted-no_region c (more a b) e =
    let h = or_false (any_label is_region_infer a) (any_label is_region_infer b) e in
    cc (rooted-no_region c a h.0, rooted-no_region c b h.1)
rooted-no_region c (node l t) e =
    let h = or_false (is_region_infer l) (any_label is_region_infer t) e in
    cc (rooted_not c l h.0, rooted-no_region c t h.1)

pub deeply_resolved-no_variables : (c : Content) (t : Tree) → any_label is_infer t ≡ false → any_label is_region_infer t ≡ false → deeply_resolved c t ≡ t
deeply_resolved-no_variables c t e h = ap (rooted c) (resolved-no_infer c t e) ∙ rooted-no_region c t h
