-- What keeps a table sound, and what each change does to what trees stand for.
use Rattle.std.proofs.Common.{◌≡◌, ⊎_elim, ℕ, ◌<◌, ◌≤◌, [], ◌∷◌, length, length-append, Some, refl, sym, ap, ◌∙◌, arith}
use Rattle.std.specs.Prelude.{slice_get, reverse}
use Rattle.nts_model.specs.Terms.Trees.{Tree}
use Rattle.nts_model.specs.Tables.Contents.{Content, Slot, SlotState, unset, link, known, Recorded, state_of, kind_at, with_slot, changed, with_constraint, in_universe}
use Rattle.nts_model.specs.Tables.Resolving.{IsOneOf, kind_or_type, value_of_state, value_at, resolved, IsSound}
use Rattle.nts_model.proofs.Tables.Under.{under-agree, IsAcyclic-agree, IsNoneOf-not_one, same_or_other}
use Rattle.nts_model.proofs.Tables.Slots.{length-slice_set, field-changed_kept, field-with_slot_new, field-with_slot_old, field_below, KeepsKinds, KeepsKinds-with_slot, Knows-kept}

-- contents with the same variables, bound in the same order, but for universes and sub-unification
pub record SameStates (c d : Content) : Type 0 where
  pub states : (n : ℕ) → state_of d n ≡ state_of c n
  pub kinds : (n : ℕ) → kind_at d n ≡ kind_at c n
  pub order : d.order ≡ c.order
  pub grows : c.universe ≤ d.universe
  pub more : length d.slots ≡ length c.slots

pub value_at-same : (c d : Content) → SameStates c d → value_at d ≡ value_at c
value_at-same c d e = λ i n. value_of_state (kind_or_type (e.kinds n i)) (e.states n i)

pub resolved-same : (c d : Content) (t : Tree) → SameStates c d → resolved d t ≡ resolved c t
resolved-same c d t e = rw (value_at-same c d e, e.order) refl

KeepsKinds-same : (c d : Content) → SameStates c d → KeepsKinds c d
KeepsKinds-same c d e = record { grows = e.grows; kinds = λ n k q. e.kinds n ∙ q }

pub IsSound-same : (c d : Content) → IsSound c → SameStates c d → IsSound d
IsSound-same c d s e =
    record {
      descends = λ n m q. s.descends n m (sym (e.states n) ∙ q);
      one_kind = λ n m q. e.kinds m ∙ s.one_kind n m (sym (e.states n) ∙ q) ∙ sym (e.kinds n);
      known_trees = λ n t q. Knows-kept c d t (KeepsKinds-same c d e) (s.known_trees n t (sym (e.states n) ∙ q));
      closed = λ n t q. s.closed n t (sym (e.states n) ∙ q);
      ranks = λ n t k q r. s.ranks n t k (sym (e.states n) ∙ q) (sym (e.kinds n) ∙ r);
      fits = λ n t k q r. s.fits n t k (sym (e.states n) ∙ q) (sym (e.kinds n) ∙ r);
      linked = λ n m q r. rw e.order (s.linked n m (sym (e.states n) ∙ q) (λ z. r (e.kinds n ∙ z)));
      bound = λ n t q. rw e.order (s.bound n t (sym (e.states n) ∙ q));
      unbound = λ n q. rw e.order (s.unbound n (sym (e.states n) ∙ q));
      ordered = λ n q. let z = s.ordered n (rw e.order at q) in omega (arith, z, e.more);
      no_region = λ n q z. s.no_region n (rw e.order at q) (sym (e.kinds n) ∙ z);
      acyclic = rw (e.order, value_at-same c d e) s.acyclic;
    }

pub SameStates-changed : (c : Content) (n : ℕ) (v w : Slot) → slice_get c.slots n ≡ Some v → w.kind ≡ v.kind → w.state ≡ v.state → SameStates c (changed c n w)
SameStates-changed c n v w h k e =
    record {
      states = λ m. field-changed_kept (λ x. x.state) c n m v w h e;
      kinds = λ m. field-changed_kept (λ x. x.kind) c n m v w h k;
      order = refl;
      grows = omega arith;
      more = length-slice_set c.slots n w;
    }

pub SameStates-with_constraint : (c : Content) (x : Recorded) → SameStates c (with_constraint c x)
SameStates-with_constraint c x = record { states = λ n. refl; kinds = λ n. refl; order = refl; grows = omega arith; more = refl }

pub SameStates-in_universe : (c : Content) (u : ℕ) → c.universe ≤ u → SameStates c (in_universe c u)
SameStates-in_universe c u b = record { states = λ n. refl; kinds = λ n. refl; order = refl; grows = b; more = refl }

-- another universe, or sub-unification class
pub IsSound-changed : (c : Content) (n : ℕ) (v w : Slot) → IsSound c → slice_get c.slots n ≡ Some v → w.kind ≡ v.kind → w.state ≡ v.state → IsSound (changed c n w)
IsSound-changed c n v w s h k e = IsSound-same c (changed c n w) s (SameStates-changed c n v w h k e)

pub IsSound-with_constraint : (c : Content) (x : Recorded) → IsSound c → IsSound (with_constraint c x)
IsSound-with_constraint c x s = IsSound-same c (with_constraint c x) s (SameStates-with_constraint c x)

pub IsSound-in_universe : (c : Content) (u : ℕ) → c.universe ≤ u → IsSound c → IsSound (in_universe c u)
IsSound-in_universe c u b s = IsSound-same c (in_universe c u) s (SameStates-in_universe c u b)

-- one more variable
module _ (c : Content) (v : Slot) (s : IsSound c) (free : v.state ≡ unset) where
  abbrev grown : Content
  grown = with_slot c v

  ordered_old : (m : ℕ) → IsOneOf m (reverse c.order) → m ≡ length c.slots → ⊥
  ordered_old m k e = let b = s.ordered m k in omega (arith, b, e)

  pub state_of-with_slot_old : (m : ℕ) → (m ≡ length c.slots → ⊥) → state_of grown m ≡ state_of c m
  state_of-with_slot_old m h = field-with_slot_old (λ x. x.state) c v m h

  pub kind_at-with_slot_old : (m : ℕ) → (m ≡ length c.slots → ⊥) → kind_at grown m ≡ kind_at c m
  kind_at-with_slot_old m h = field-with_slot_old (λ x. x.kind) c v m h

  pub state_of-with_slot_new : state_of grown (length c.slots) ≡ Some unset
  state_of-with_slot_new = field-with_slot_new (λ x. x.state) c v ∙ ap Some free

  grown_agree : (m : ℕ) → IsOneOf m (reverse c.order) → value_at grown m ≡ value_at c m
  grown_agree m k = let d = ordered_old m k in rw (state_of-with_slot_old m d, kind_at-with_slot_old m d) refl

  -- a state other than unset is an older variable's
  grown_old : (m : ℕ) (x : SlotState) → state_of grown m ≡ Some x → (x ≡ unset → ⊥) → m ≡ length c.slots → ⊥
  grown_old m x q d e = let z : Some x ≡ Some unset = sym q ∙ ap (state_of grown) e ∙ state_of-with_slot_new in d cc

  pub resolved-with_slot : (t : Tree) → resolved grown t ≡ resolved c t
  resolved-with_slot t = under-agree (value_at c) (value_at grown) (reverse c.order) t grown_agree

  pub IsSound-with_slot : IsSound grown
  IsSound-with_slot =
      record {
        descends = λ n m q. s.descends n m (sym (state_of-with_slot_old n (grown_old n (link m) q (λ z. cc))) ∙ q);
        one_kind = λ n m q.
            let d = grown_old n (link m) q (λ z. cc) in
            let q' : state_of c n ≡ Some (link m) = sym (state_of-with_slot_old n d) ∙ q in
            let b : n < length c.slots = field_below (λ x. x.state) c n (link m) q' in
            let l = s.descends n m q' in
            kind_at-with_slot_old m (λ e. omega (arith, e, b, l)) ∙ s.one_kind n m q' ∙ sym (kind_at-with_slot_old n d);
        known_trees = λ n t q. Knows-kept c grown t (KeepsKinds-with_slot c v) (s.known_trees n t (sym (state_of-with_slot_old n (grown_old n (known t) q (λ z. cc))) ∙ q));
        closed = λ n t q. s.closed n t (sym (state_of-with_slot_old n (grown_old n (known t) q (λ z. cc))) ∙ q);
        ranks = λ n t k q r.
            let d = grown_old n (known t) q (λ z. cc) in
            s.ranks n t k (sym (state_of-with_slot_old n d) ∙ q) (sym (kind_at-with_slot_old n d) ∙ r);
        fits = λ n t k q r.
            let d = grown_old n (known t) q (λ z. cc) in
            s.fits n t k (sym (state_of-with_slot_old n d) ∙ q) (sym (kind_at-with_slot_old n d) ∙ r);
        linked = λ n m q r.
            let d = grown_old n (link m) q (λ z. cc) in
            s.linked n m (sym (state_of-with_slot_old n d) ∙ q) (λ z. r (kind_at-with_slot_old n d ∙ z));
        bound = λ n t q. s.bound n t (sym (state_of-with_slot_old n (grown_old n (known t) q (λ z. cc))) ∙ q);
        unbound = λ n q. ⊎_elim
            (λ (e : n ≡ length c.slots). IsNoneOf-not_one n (reverse c.order) (λ k. ordered_old n k e))
            (λ (d : n ≡ length c.slots → ⊥). s.unbound n (sym (state_of-with_slot_old n d) ∙ q)) (same_or_other n (length c.slots));
        ordered = λ n k. let b = s.ordered n k in omega (arith, b, length-append c.slots (v ∷ []));
        no_region = λ n k z. s.no_region n k (sym (kind_at-with_slot_old n (ordered_old n k)) ∙ z);
        acyclic = IsAcyclic-agree (value_at c) (value_at grown) (reverse c.order) grown_agree s.acyclic;
      }
