-- Roots and deeply resolved trees before and after a change.
use Rattle.std.proofs.Common.{◌≡◌, ◌≢◌, ⊎_elim, ℕ, zero, suc, Bool, true, false, length, Option, Some, None, refl, sym, ap, ◌∙◌, arith, rules}
use Rattle.std.specs.Prelude.{◌==◌, if◌then◌else◌}
use Rattle.nts_model.specs.declared.labels.VariableKind.{VariableKind}
use Rattle.nts_model.specs.declared.labels.VariableKind.TheVariants as kind
use Rattle.nts_model.specs.declared.labels.Leaf.TheVariants as leaf
use Rattle.nts_model.specs.declared.labels.Label.{Label}
use Rattle.nts_model.specs.declared.labels.Label.TheVariants as label
use Rattle.nts_model.specs.Terms.Trees.{Tree, empty, more, node, infer_of, variable_of, variable_tree}
use Rattle.nts_model.specs.Tables.Contents.{Content, Slot, SlotState, unset, link, known, state_of, with_slot, changed, bound_to}
use Rattle.nts_model.specs.Tables.Resolving.{replaced, replaced_at, resolved, deeply_resolved, rooted, rooted_variable, root_of, follow, follow_state, Reaches, here, on, IsRootState, IsSound}
use Rattle.nts_model.proofs.Tables.Under.{same_or_other}
use Rattle.nts_model.proofs.Tables.Slots.{slice_get_length, no_slot}
use Rattle.nts_model.proofs.Tables.Roots.{Descends, root_of-reaches, Reaches-root_of, IsRootState-root_of, infer_of-rooted, follow_state-root as end_state}
use Rattle.nts_model.proofs.Tables.Resolved.{resolved-variable_known, resolved-variable_link, IsVariable}
use Rattle.nts_model.proofs.Tables.Sound.{SameStates, resolved-same, state_of-with_slot_old, state_of-with_slot_new, resolved-with_slot}
use Rattle.nts_model.proofs.Tables.Binding.{Binds-unset, Binds-kind, IsKnowable, IsLinkable, state_of-set_same, state_of-set_other, kind_at-set, resolved-known, resolved-known_value, IsSound-known, IsSound-link}

-- the states lead to the same variables
pub data SameLink : Option SlotState → Option SlotState → Type 0 where
  same_state : {o : Option SlotState} → SameLink o o
  both_end : {o p : Option SlotState} → IsRootState o → IsRootState p → SameLink o p

along : (f g : ℕ → ℕ) (n : ℕ) (o : Option SlotState) → ((m : ℕ) → g m ≡ f m) → follow_state g n o ≡ follow_state f n o
along f g n None h = refl
along f g n (Some unset) h = refl
along f g n (Some (link m)) h = h m
along f g n (Some (known t)) h = refl

follow_state-same : (f g : ℕ → ℕ) (n : ℕ) (o p : Option SlotState) → ((m : ℕ) → g m ≡ f m) → SameLink o p → follow_state g n p ≡ follow_state f n o
follow_state-same f g n o p h same_state = along f g n o h
follow_state-same f g n o p h (both_end a b) = end_state g n p b ∙ sym (end_state f n o a)

follow-same : (c d : Content) → ((n : ℕ) → SameLink (state_of c n) (state_of d n)) → (k n : ℕ) → follow d k n ≡ follow c k n
follow-same c d h zero n = refl
follow-same c d h (suc k) n = follow_state-same (follow c k) (follow d k) n (state_of c n) (state_of d n) (follow-same c d h k) (h n)

pub root_of-same : (c d : Content) (n : ℕ) → ((m : ℕ) → SameLink (state_of c m) (state_of d m)) → root_of d n ≡ root_of c n
root_of-same c d n h = follow-same c d h n n

rooted_variable-same : (c d : Content) (o : Option (VariableKind × ℕ)) (l : Label) → ((n : ℕ) → root_of d n ≡ root_of c n) → rooted_variable d o l ≡ rooted_variable c o l
rooted_variable-same c d None l h = refl
rooted_variable-same c d (Some (kind.Ty, n)) l h = refl
rooted_variable-same c d (Some (kind.Int, n)) l h = refl
rooted_variable-same c d (Some (kind.Float, n)) l h = refl
rooted_variable-same c d (Some (kind.Const, n)) l h = refl
rooted_variable-same c d (Some (kind.Region, n)) l h = ap (λ m. label.Leaf (leaf.Variable kind.Region m)) (h n)

pub rooted-same : (c d : Content) (t : Tree) → ((n : ℕ) → root_of d n ≡ root_of c n) → rooted d t ≡ rooted c t
rooted-same c d empty h = refl
rooted-same c d (more a b) h = cc (rooted-same c d a h, rooted-same c d b h)
rooted-same c d (node l t) h = cc (rooted_variable-same c d (variable_of l) l h, rooted-same c d t h)

-- another universe or sub-unification class, a constraint, a move to another universe
pub root_of-same_states : (c d : Content) (n : ℕ) → SameStates c d → root_of d n ≡ root_of c n
root_of-same_states c d n e = root_of-same c d n (λ m. rw (e.states m) same_state)

pub deeply_resolved-same : (c d : Content) (t : Tree) → SameStates c d → deeply_resolved d t ≡ deeply_resolved c t
deeply_resolved-same c d t e = ap (rooted d) (resolved-same c d t e) ∙ rooted-same c d (resolved c t) (λ n. root_of-same_states c d n e)

-- one more variable
pub root_of-with_slot : (c : Content) (v : Slot) (s : IsSound c) (free : v.state ≡ unset) (n : ℕ) → root_of (with_slot c v) n ≡ root_of c n
root_of-with_slot c v s free n = root_of-same c (with_slot c v) n (λ m. ⊎_elim
    (λ (e : m ≡ length c.slots).
    let before : state_of c m ≡ None = rw e (no_slot (λ x. x.state) c (length c.slots) (slice_get_length c.slots)) in
    let after : state_of (with_slot c v) m ≡ Some unset = rw e (state_of-with_slot_new c v s free) in
    rw (before, after) (both_end tt tt))
    (λ (d : m ≡ length c.slots → ⊥). rw (state_of-with_slot_old c v s free m d) same_state) (same_or_other m (length c.slots)))

pub deeply_resolved-with_slot : (c : Content) (v : Slot) (s : IsSound c) (free : v.state ≡ unset) (t : Tree) → deeply_resolved (with_slot c v) t ≡ deeply_resolved c t
deeply_resolved-with_slot c v s free t =
    ap (rooted (with_slot c v)) (resolved-with_slot c v s free t) ∙ rooted-same c (with_slot c v) (resolved c t) (root_of-with_slot c v s free)

-- a value
pub root_of-known : (c : Content) (n : ℕ) (w : Slot) (t : Tree) (k : ℕ) → IsKnowable c n w t → root_of (bound_to c n w) k ≡ root_of c k
root_of-known c n w t k b = root_of-same c (changed c n w) k (λ m. ⊎_elim
    (λ (e : m ≡ n).
    let before : state_of c m ≡ Some unset = rw e (Binds-unset c n w b.binds) in
    let after : state_of (changed c n w) m ≡ Some (known t) = rw e (state_of-set_same c n w b.binds ∙ ap Some b.is) in
    rw (before, after) (both_end tt tt))
    (λ (d : m ≡ n → ⊥). rw (state_of-set_other c n w b.binds m d) same_state) (same_or_other m n))

-- a variable that gets a value, and one that becomes one with another
pub resolved-known_variable : (c : Content) (n : ℕ) (w : Slot) (t : Tree) → IsSound c → IsKnowable c n w t → (l : Label) (x : Tree) → infer_of l ≡ Some n → resolved (bound_to c n w) (node l x) ≡ resolved c t
resolved-known_variable c n w t s b l x e =
    resolved-variable_known (bound_to c n w) l x n t (IsSound-known c n w t s b) e (state_of-set_same c n w b.binds ∙ ap Some b.is) ∙ resolved-known_value c n w t s b

-- roots after a link: those of n move to m
module _ (c : Content) (n : ℕ) (w : Slot) (m : ℕ) (d : Descends c) (b : IsLinkable c n w m) where
  abbrev moved_root : ℕ → ℕ
  moved_root k = if k == n then m else k

  Descends-link : Descends (changed c n w)
  Descends-link k j q = ⊎_elim
      (λ (e : k ≡ n). let z : Some (link m) ≡ Some (link j) = sym (state_of-set_same c n w b.binds ∙ ap Some b.is) ∙ ap (state_of (changed c n w)) (sym e) ∙ q in
      let y : m ≡ j = cc in let l = b.below in omega (arith, e, y, l))
      (λ (f : k ≡ n → ⊥). d k j (sym (state_of-set_other c n w b.binds k f) ∙ q)) (same_or_other k n)

  link_kept : (k j : ℕ) → state_of c k ≡ Some (link j) → state_of (changed c n w) k ≡ Some (link j)
  link_kept k j q = state_of-set_other c n w b.binds k (λ e. (let z : Some (link j) ≡ Some unset = sym q ∙ ap (state_of c) e ∙ Binds-unset c n w b.binds in cc)) ∙ q

  Reaches-kept : (k r : ℕ) → Reaches c k r → Reaches (changed c n w) k r
  Reaches-kept k r here = here
  Reaches-kept k r (on {m = x} before q) = on (Reaches-kept k x before) (link_kept x r q)

  moved_reaches : (k : ℕ) (r : ℕ) (z : Bool) → (r == n) ≡ z → Reaches (changed c n w) k r → Reaches (changed c n w) k (if z then m else r)
  moved_reaches k r true e p =
      let same : r ≡ n = search (rules, e) in
      on p (rw same (state_of-set_same c n w b.binds ∙ ap Some b.is))
  moved_reaches k r false e p = p

  moved_ends : (r : ℕ) (z : Bool) → (r == n) ≡ z → IsRootState (state_of c r) → IsRootState (state_of (changed c n w) (if z then m else r))
  moved_ends r true e h =
      let l = b.below in
      let apart : m ≡ n → ⊥ = λ q. omega (arith, q, l) in
      rw (state_of-set_other c n w b.binds m apart, b.free) tt
  moved_ends r false e h =
      let apart : r ≡ n → ⊥ = grind arith in
      rw (state_of-set_other c n w b.binds r apart) h

  pub root_of-linked : (k : ℕ) → root_of (changed c n w) k ≡ moved_root (root_of c k)
  root_of-linked k = root_of-reaches (changed c n w) k (moved_root (root_of c k)) Descends-link
      (moved_reaches k (root_of c k) (root_of c k == n) refl (Reaches-kept k (root_of c k) (Reaches-root_of c k)))
      (moved_ends (root_of c k) (root_of c k == n) refl (IsRootState-root_of c k d))

-- roots and replaced variables do not meet
rooted-replaced_at : (c : Content) (o : Option ℕ) (n : ℕ) (s : Tree) (l : Label) (t x : Tree) → infer_of l ≡ o → rooted c x ≡ replaced n (rooted c s) (rooted c t) → rooted c (replaced_at o n s (node l t) (node l x)) ≡ replaced_at o n (rooted c s) (rooted c (node l t)) (node (rooted_variable c (variable_of l) l) (replaced n (rooted c s) (rooted c t)))
rooted-replaced_at c None n s l t x e h = ap (node (rooted_variable c (variable_of l) l)) h
rooted-replaced_at c (Some m) n s l t x e h = by_case (m == n)
  where
    by_case : (z : Bool) → rooted c (if z then s else node l t) ≡ (if z then rooted c s else rooted c (node l t))
    by_case true = refl
    by_case false = refl

pub rooted-replaced : (c : Content) (n : ℕ) (s t : Tree) → rooted c (replaced n s t) ≡ replaced n (rooted c s) (rooted c t)
rooted-replaced c n s empty = refl
rooted-replaced c n s (more a b) = cc (rooted-replaced c n s a, rooted-replaced c n s b)
rooted-replaced c n s (node l t) =
    rw (infer_of-rooted c l) (rooted-replaced_at c (infer_of l) n s l t (replaced n s t) refl (rooted-replaced c n s t))

pub deeply_resolved-known : (c : Content) (n : ℕ) (w : Slot) (t : Tree) → IsSound c → IsKnowable c n w t → (u : Tree) → deeply_resolved (bound_to c n w) u ≡ replaced n (deeply_resolved c t) (deeply_resolved c u)
deeply_resolved-known c n w t s b u =
    ap (rooted (bound_to c n w)) (resolved-known c n w t s b u) ∙ rooted-same c (bound_to c n w) (replaced n (resolved c t) (resolved c u)) (λ k. root_of-known c n w t k b) ∙ rooted-replaced c n (resolved c t) (resolved c u)
