-- The variables of a resolved tree are unset.
use Rattle.std.proofs.Common.{◌≡◌, ◌≢◌, ℕ, Bool, true, false, List, [], ◌∷◌, Option, Some, None, refl, sym, ap, ◌∙◌}
use Rattle.std.specs.Prelude.{◌==◌, if◌then◌else◌, slice_get, reverse}
use Rattle.nts_model.specs.declared.labels.VariableKind.{VariableKind}
use Rattle.nts_model.specs.declared.labels.VariableKind.TheVariants as kind
use Rattle.nts_model.specs.declared.labels.Label.{Label}
use Rattle.nts_model.specs.Terms.Trees.{Tree, empty, more, node, is_canonical, binders, IsClosed, infer_of, variable_of}
use Rattle.nts_model.specs.Terms.Scoping.{ListsBound}
use Rattle.nts_model.specs.declared.labels.Leaf.TheVariants as leaf
use Rattle.nts_model.specs.declared.labels.Label.TheVariants as label
use Rattle.nts_model.specs.Terms.Placeholders.{leaf_level}
use Rattle.nts_model.specs.Tables.Contents.{Content, Slot, SlotState, unset, link, known, map_slot, state_of, kind_at}
use Rattle.nts_model.specs.Tables.Resolving.{replaced, replaced_at, Lacks, LacksAt, under, IsOneOf, value_of_state, value_at, resolved, deeply_resolved, rooted, rooted_variable, root_of, Knows, KnowsVariable, KnowsLabel, IsRootState, IsSound, UnsetAt, AllUnset, number_of}
use Rattle.nts_model.proofs.Terms.Variables.{infer_label}
use Rattle.nts_model.proofs.Tables.Under.{not_equal}
use Rattle.nts_model.proofs.Tables.Slots.{some_slot}
use Rattle.nts_model.proofs.Tables.Roots.{IsRootState-root_of, kind_at-root_of}
use Rattle.nts_model.proofs.Tables.Resolved.{Lacks-resolved}
use Rattle.nts_model.proofs.Terms.Unpositioned.{known_well_bound}
use Rattle.nts_model.proofs.Terms.Scoping.{lists_patched, replaced_patched, rooted_patched, patch_under}

-- values are of the table
Knows-replaced_at : (c : Content) (o : Option ℕ) (n : ℕ) (s t u : Tree) → Knows c s → Knows c t → Knows c u → Knows c (replaced_at o n s t u)
Knows-replaced_at c None n s t u h k q = q
Knows-replaced_at c (Some m) n s t u h k q = by_case (m == n)
  where
    by_case : (z : Bool) → Knows c (if z then s else t)
    by_case true = h
    by_case false = k

pub Knows-replaced : (c : Content) (n : ℕ) (s t : Tree) → Knows c s → IsClosed s → Knows c t → Knows c (replaced n s t)
Knows-replaced c n s empty h i k = tt
Knows-replaced c n s (more a b) h i k = (Knows-replaced c n s a h i k.0, Knows-replaced c n s b h i k.1)
Knows-replaced c n s (node l t) h i k =
    Knows-replaced_at c (infer_of l) n s (node l t) (node l (replaced n s t)) h k
    (k.0, Knows-replaced c n s t h i k.1, lists_patched (binders l) t (replaced n s t) (replaced_patched n s t (i, known_well_bound c s h)) k.2)

-- closed trees of the table
abbrev pub AreClosedOf : Content → (ℕ → Tree) → Type 0
AreClosedOf c val = (n : ℕ) → Knows c (val n) × IsClosed (val n)

pub Knows-under : (c : Content) (val : ℕ → Tree) (ns : List ℕ) (t : Tree) → AreClosedOf c val → Knows c t → Knows c (under val ns t)
Knows-under c val [] t h k = k
Knows-under c val (n ∷ ns) t h k =
    let value = patch_under val (λ m. ((h m).1, known_well_bound c (val m) (h m).0)) ns (val n) ((h n).1, known_well_bound c (val n) (h n).0) in
    Knows-replaced c n (under val ns (val n)) (under val ns t) (Knows-under c val ns (val n) h (h n).0) value.0 (Knows-under c val ns t h k)

pub Knows-value_at : (c : Content) (n : ℕ) → IsSound c → Knows c (value_at c n)
Knows-value_at c n s = by_case (slice_get c.slots n) refl
  where
    by_state : (v : Slot) (o : SlotState) → slice_get c.slots n ≡ Some v → v.state ≡ o → Knows c (value_of_state v.kind (Some o))
    by_state v unset e q = tt
    by_state v (link m) e q =
        ((s.one_kind n m (some_slot (λ x. x.state) c n v e ∙ ap Some q) ∙ some_slot (λ x. x.kind) c n v e, tt, refl), tt, tt)
    by_state v (known t) e q = s.known_trees n t (some_slot (λ x. x.state) c n v e ∙ ap Some q)

    by_case : (o : Option Slot) → slice_get c.slots n ≡ o → Knows c (value_at c n)
    by_case None e = rw e tt
    by_case (Some v) e = rw e (by_state v v.state e refl)

closed_value_at : (c : Content) (n : ℕ) → IsSound c → IsClosed (value_at c n)
closed_value_at c n s = by_state (state_of c n) refl
  where
    by_state : (o : Option SlotState) → state_of c n ≡ o → IsClosed (value_at c n)
    by_state None e = rw e tt
    by_state (Some unset) e = rw e tt
    by_state (Some (link m)) e = rw e (tt, tt)
    by_state (Some (known t)) e = rw e (s.closed n t e)

pub values_closed_of : (c : Content) → IsSound c → AreClosedOf c (value_at c)
values_closed_of c s n = (Knows-value_at c n s, closed_value_at c n s)

pub Knows-resolved : (c : Content) (t : Tree) → IsSound c → Knows c t → Knows c (resolved c t)
Knows-resolved c t s k = Knows-under c (value_at c) (reverse c.order) t (values_closed_of c s) k

-- a variable is no placeholder
variable_level : (l : Label) (v : VariableKind × ℕ) → variable_of l ≡ Some v → leaf_level l ≡ None
variable_level (label.Leaf (leaf.Variable k n)) v e = refl
variable_level (label.Leaf (leaf.Region r)) v e = cc
variable_level (label.Leaf (leaf.TyConstant a)) v e = cc
variable_level (label.Leaf (leaf.ConstConstant a)) v e = cc
variable_level l v e = cc

KnowsVariable-rooted : (c : Content) (o : Option (VariableKind × ℕ)) (l : Label) → IsSound c → variable_of l ≡ o → KnowsVariable c o → KnowsVariable c (variable_of (rooted_variable c o l))
KnowsVariable-rooted c None l s e h = rw e tt
KnowsVariable-rooted c (Some (kind.Ty, n)) l s e h = rw e h
KnowsVariable-rooted c (Some (kind.Int, n)) l s e h = rw e h
KnowsVariable-rooted c (Some (kind.Float, n)) l s e h = rw e h
KnowsVariable-rooted c (Some (kind.Const, n)) l s e h = rw e h
KnowsVariable-rooted c (Some (kind.Region, n)) l s e h = kind_at-root_of c n s ∙ h

leaf_level-rooted : (c : Content) (o : Option (VariableKind × ℕ)) (l : Label) → variable_of l ≡ o → leaf_level (rooted_variable c o l) ≡ leaf_level l
leaf_level-rooted c None l e = refl
leaf_level-rooted c (Some (kind.Ty, n)) l e = refl
leaf_level-rooted c (Some (kind.Int, n)) l e = refl
leaf_level-rooted c (Some (kind.Float, n)) l e = refl
leaf_level-rooted c (Some (kind.Const, n)) l e = refl
leaf_level-rooted c (Some (kind.Region, n)) l e = sym (variable_level l (kind.Region, n) e)

is_canonical-rooted : (c : Content) (o : Option (VariableKind × ℕ)) (l : Label) → is_canonical l ≡ false → is_canonical (rooted_variable c o l) ≡ false
is_canonical-rooted c None l e = e
is_canonical-rooted c (Some (kind.Ty, n)) l e = e
is_canonical-rooted c (Some (kind.Int, n)) l e = e
is_canonical-rooted c (Some (kind.Float, n)) l e = e
is_canonical-rooted c (Some (kind.Const, n)) l e = e
is_canonical-rooted c (Some (kind.Region, n)) l e = refl

KnowsLabel-rooted : (c : Content) (l : Label) → IsSound c → KnowsLabel c l → KnowsLabel c (rooted_variable c (variable_of l) l)
KnowsLabel-rooted c l s k = (KnowsVariable-rooted c (variable_of l) l s refl k.0, rw (leaf_level-rooted c (variable_of l) l refl) k.1, is_canonical-rooted c (variable_of l) l k.2)

rooted_binds : (c : Content) (o : Option (VariableKind × ℕ)) (l : Label) (t : Tree) → ListsBound (binders l) t → ListsBound (binders (rooted_variable c o l)) (rooted c t)
rooted_binds c None l t h = lists_patched (binders l) t (rooted c t) (rooted_patched c t) h
rooted_binds c (Some (kind.Ty, n)) l t h = lists_patched (binders l) t (rooted c t) (rooted_patched c t) h
rooted_binds c (Some (kind.Int, n)) l t h = lists_patched (binders l) t (rooted c t) (rooted_patched c t) h
rooted_binds c (Some (kind.Float, n)) l t h = lists_patched (binders l) t (rooted c t) (rooted_patched c t) h
rooted_binds c (Some (kind.Const, n)) l t h = lists_patched (binders l) t (rooted c t) (rooted_patched c t) h
rooted_binds c (Some (kind.Region, n)) l t h = tt

pub Knows-rooted : (c : Content) (t : Tree) → IsSound c → Knows c t → Knows c (rooted c t)
Knows-rooted c empty s k = tt
Knows-rooted c (more a b) s k = (Knows-rooted c a s k.0, Knows-rooted c b s k.1)
Knows-rooted c (node l t) s k = (KnowsLabel-rooted c l s k.0, Knows-rooted c t s k.1, rooted_binds c (variable_of l) l t k.2)

pub Knows-deeply_resolved : (c : Content) (t : Tree) → IsSound c → Knows c t → Knows c (deeply_resolved c t)
Knows-deeply_resolved c t s k = Knows-rooted c (resolved c t) s (Knows-resolved c t s k)

-- a variable that is not bound is unset
unbound_is_unset : (c : Content) (n : ℕ) (k : VariableKind) → IsSound c → kind_at c n ≡ Some k → k ≢ kind.Region → (IsOneOf n (reverse c.order) → ⊥) → state_of c n ≡ Some unset
unbound_is_unset c n k s h d free = by_state (state_of c n) refl
  where
    no_None : (o : Option Slot) → map_slot (λ x. x.kind) o ≡ Some k → map_slot (λ x. x.state) o ≡ None → ⊥
    no_None None a b = cc
    no_None (Some v) a b = cc

    by_state : (o : Option SlotState) → state_of c n ≡ o → state_of c n ≡ Some unset
    by_state None e = absurd (no_None (slice_get c.slots n) h e)
    by_state (Some unset) e = e
    by_state (Some (link m)) e = absurd (free (s.linked n m e (λ q. (let z : Some k ≡ Some kind.Region = sym h ∙ q in d cc))))
    by_state (Some (known t)) e = absurd (free (s.bound n t e))

LacksAt-some : (o : Option ℕ) (n : ℕ) (P : Type 0) → o ≡ Some n → LacksAt o n P → ⊥
LacksAt-some None n P e h = cc
LacksAt-some (Some m) n P e h = not_equal m n h cc

LacksAt-none : (o : Option ℕ) (n : ℕ) (P : Type 0) → o ≡ None → LacksAt o n P → P
LacksAt-none None n P e h = h
LacksAt-none (Some m) n P e h = cc

unset_here : (c : Content) (l : Label) (t : Tree) → IsSound c → KnowsVariable c (variable_of l) → ((n : ℕ) → IsOneOf n (reverse c.order) → LacksAt (infer_of l) n (Lacks n t)) → (((n : ℕ) → IsOneOf n (reverse c.order) → Lacks n t) → AllUnset c t) → UnsetAt c (infer_of l) (AllUnset c t)
unset_here c l t s k h rec = by_case (infer_of l) refl
  where
    by_case : (o : Option ℕ) → infer_of l ≡ o → UnsetAt c (infer_of l) (AllUnset c t)
    by_case None e = rw e (rec (λ n q. LacksAt-none (infer_of l) n (Lacks n t) e (h n q)))
    by_case (Some n) e =
        let v = infer_label l n e in
        let has : kind_at c n ≡ Some v.of_kind = rw v.is at k in
        rw e (unbound_is_unset c n v.of_kind s has v.no_region (λ q. LacksAt-some (infer_of l) n (Lacks n t) e (h n q)))

-- a tree without bound variables has unset ones alone
pub AllUnset-lacks : (c : Content) (t : Tree) → IsSound c → Knows c t → ((n : ℕ) → IsOneOf n (reverse c.order) → Lacks n t) → AllUnset c t
AllUnset-lacks c empty s k h = tt
AllUnset-lacks c (more a b) s k h = (AllUnset-lacks c a s k.0 (λ n q. (h n q).0), AllUnset-lacks c b s k.1 (λ n q. (h n q).1))
AllUnset-lacks c (node l t) s k h = unset_here c l t s k.0.0 h (AllUnset-lacks c t s k.1)
