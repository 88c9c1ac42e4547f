-- What binding a variable keeps: to a value, to another variable, and a region variable to another.
use Rattle.std.proofs.Common.{◌≡◌, ◌≢◌, ◌⊎◌, inl, inr, ⊎_elim, ℕ, ◌<◌, false, ◌∷◌, length, Some, refl, sym, ap, ◌∙◌, arith}
use Rattle.std.specs.Prelude.{◌==◌, slice_get, reverse}
use Rattle.nts_model.specs.declared.labels.VariableKind.TheVariants as kind
use Rattle.nts_model.specs.declared.labels.Leaf.TheVariants as leaf
use Rattle.nts_model.specs.declared.labels.Label.TheVariants as label
use Rattle.nts_model.specs.Terms.Trees.{Tree, empty, kind_of, of_sort, sort_of_variable, IsClosed, infer_of, variable_tree}
use Rattle.nts_model.specs.Tables.Contents.{Content, Slot, SlotState, unset, link, known, state_of, kind_at, changed, bound_to}
use Rattle.nts_model.specs.Tables.Resolving.{rank_of_kind, variable_rank, replaced, Lacks, IsOneOf, kind_or_type, value_of_state, value_at, resolved, Knows, IsSound}
use Rattle.nts_model.proofs.Terms.Variables.{infer_number_some}
use Rattle.nts_model.proofs.Tables.Under.{under-agree, IsAcyclic-agree, none-one, same_or_other, replaced-lacks}
use Rattle.nts_model.proofs.Tables.Slots.{slice_get_below, length-slice_set, reverse-push, some_slot, field-changed_same, field-changed_other, field-changed_kept, KeepsKinds, KeepsKinds-changed, Knows-kept}
use Rattle.nts_model.proofs.Tables.Resolved.{resolved-variable_unset}

-- w is the unset variable n with another state
pub record Binds (c : Content) (n : ℕ) (w : Slot) : Type 0 where
  pub old : Slot
  pub was : slice_get c.slots n ≡ Some old
  pub free : old.state ≡ unset
  pub same_kind : w.kind ≡ old.kind

pub Binds-unset : (c : Content) (n : ℕ) (w : Slot) → Binds c n w → state_of c n ≡ Some unset
Binds-unset c n w b = some_slot (λ x. x.state) c n b.old b.was ∙ ap Some b.free

pub Binds-kind : (c : Content) (n : ℕ) (w : Slot) → Binds c n w → kind_at c n ≡ Some w.kind
Binds-kind c n w b = some_slot (λ x. x.kind) c n b.old b.was ∙ ap Some (sym b.same_kind)

module _ (c : Content) (n : ℕ) (w : Slot) (b : Binds c n w) where
  -- the fields afterwards
  pub state_of-set_same : state_of (changed c n w) n ≡ Some w.state
  state_of-set_same = field-changed_same (λ x. x.state) c n w (slice_get_below c.slots n b.old b.was)

  pub state_of-set_other : (m : ℕ) → (m ≡ n → ⊥) → state_of (changed c n w) m ≡ state_of c m
  state_of-set_other m d = field-changed_other (λ x. x.state) c n m w d

  pub kind_at-set : (m : ℕ) → kind_at (changed c n w) m ≡ kind_at c m
  kind_at-set m = field-changed_kept (λ x. x.kind) c n m b.old w b.was b.same_kind

  pub KeepsKinds-set : KeepsKinds c (changed c n w)
  KeepsKinds-set = KeepsKinds-changed c n b.old w b.was b.same_kind

  pub KeepsKinds-bound : KeepsKinds c (bound_to c n w)
  KeepsKinds-bound = record { grows = omega arith; kinds = λ m k q. kind_at-set m ∙ q }

  order-bound : reverse (bound_to c n w).order ≡ n ∷ reverse c.order
  order-bound = reverse-push c.order n

  module _ (s : IsSound c) where
    agree-set : (m : ℕ) → IsOneOf m (reverse c.order) → value_at (changed c n w) m ≡ value_at c m
    agree-set m k = rw (kind_at-set m, state_of-set_other m (none-one m n (reverse c.order) (s.unbound n (Binds-unset c n w b)) k)) refl

    -- what trees stand for afterwards
    pub resolved-bound_to : (t : Tree) → resolved (bound_to c n w) t ≡ replaced n (resolved c (value_at (bound_to c n w) n)) (resolved c t)
    resolved-bound_to t =
        rw (order-bound, under-agree (value_at c) (value_at (changed c n w)) (reverse c.order) t agree-set, under-agree (value_at c) (value_at (changed c n w)) (reverse c.order) (value_at (changed c n w) n) agree-set) refl

    -- another state than the new one is an older state
    set-other : (m : ℕ) (x : SlotState) → state_of (changed c n w) m ≡ Some x → (w.state ≡ x → ⊥) → m ≡ n → ⊥
    set-other m x q d e = let z : Some w.state ≡ Some x = sym state_of-set_same ∙ ap (state_of (changed c n w)) (sym e) ∙ q in d cc

    set-old : (m : ℕ) (x : SlotState) → state_of (changed c n w) m ≡ Some x → (w.state ≡ x → ⊥) → state_of c m ≡ Some x
    set-old m x q d = sym (state_of-set_other m (set-other m x q d)) ∙ q

    set-is : (m : ℕ) (x : SlotState) → state_of (changed c n w) m ≡ Some x → m ≡ n → w.state ≡ x
    set-is m x q e = let z : Some w.state ≡ Some x = sym state_of-set_same ∙ ap (state_of (changed c n w)) (sym e) ∙ q in cc

    -- each older state, or the new one
    set-either : (m : ℕ) (x : SlotState) → state_of (changed c n w) m ≡ Some x → ((m ≡ n) × (w.state ≡ x)) ⊎ (state_of c m ≡ Some x)
    set-either m x q = ⊎_elim (λ (e : m ≡ n). inl (e, set-is m x q e)) (λ (d : m ≡ n → ⊥). inr (sym (state_of-set_other m d) ∙ q)) (same_or_other m n)

-- the variable n can get the value t
pub record IsKnowable (c : Content) (n : ℕ) (w : Slot) (t : Tree) : Type 0 where
  pub binds : Binds c n w
  pub is : w.state ≡ known t
  pub no_region : w.kind ≢ kind.Region
  pub knows : Knows c t
  pub closed : IsClosed t
  pub lower : variable_rank t < rank_of_kind w.kind
  pub fits : kind_of t ≡ Some (of_sort (sort_of_variable w.kind))
  pub lacks : Lacks n (resolved c t)

module _ (c : Content) (n : ℕ) (w : Slot) (t : Tree) (s : IsSound c) (b : IsKnowable c n w t) where
  pub value_at-known : value_at (bound_to c n w) n ≡ t
  value_at-known = ap (value_of_state (kind_or_type (kind_at (bound_to c n w) n))) (state_of-set_same c n w b.binds ∙ ap Some b.is)

  pub resolved-known : (u : Tree) → resolved (bound_to c n w) u ≡ replaced n (resolved c t) (resolved c u)
  resolved-known u = resolved-bound_to c n w b.binds s u ∙ ap (λ x. replaced n (resolved c x) (resolved c u)) value_at-known

  -- the value means what it meant
  pub resolved-known_value : resolved (bound_to c n w) t ≡ resolved c t
  resolved-known_value = resolved-known t ∙ replaced-lacks n (resolved c t) (resolved c t) b.lacks

  pub IsSound-known : IsSound (bound_to c n w)
  IsSound-known =
      let unset_before = Binds-unset c n w b.binds in
      let order : reverse (bound_to c n w).order ≡ n ∷ reverse c.order = reverse-push c.order n in
      let ns = reverse c.order in
      let old = value_at c in
      let new = value_at (bound_to c n w) in
      let agree : (m : ℕ) → IsOneOf m ns → new m ≡ old m = agree-set c n w b.binds s in
      record {
        descends = λ m k q. s.descends m k (set-old c n w b.binds s m (link k) q (λ z. (let y : known t ≡ link k = sym b.is ∙ z in cc)));
        one_kind = λ m k q.
            kind_at-set c n w b.binds k ∙ s.one_kind m k (set-old c n w b.binds s m (link k) q (λ z. (let y : known t ≡ link k = sym b.is ∙ z in cc))) ∙ sym (kind_at-set c n w b.binds m);
        known_trees = λ m u q. Knows-kept c (bound_to c n w) u (KeepsKinds-bound c n w b.binds) (⊎_elim
            (λ e. let y : known t ≡ known u = sym b.is ∙ e.1 in let z : t ≡ u = cc in rw (← z) b.knows)
            (λ e. s.known_trees m u e) (set-either c n w b.binds s m (known u) q));
        closed = λ m u q. ⊎_elim
            (λ e. let y : known t ≡ known u = sym b.is ∙ e.1 in let z : t ≡ u = cc in rw (← z) b.closed)
            (λ e. s.closed m u e) (set-either c n w b.binds s m (known u) q);
        ranks = λ m u k q r. ⊎_elim
            (λ e. let y : known t ≡ known u = sym b.is ∙ e.1 in let z : t ≡ u = cc in
            let p : Some w.kind ≡ Some k = sym (Binds-kind c n w b.binds) ∙ sym (kind_at-set c n w b.binds n) ∙ ap (kind_at (bound_to c n w)) (sym e.0) ∙ r in
            let x : w.kind ≡ k = cc in rw (← z, ← x) b.lower)
            (λ e. s.ranks m u k e (sym (kind_at-set c n w b.binds m) ∙ r)) (set-either c n w b.binds s m (known u) q);
        fits = λ m u k q r. ⊎_elim
            (λ e. let y : known t ≡ known u = sym b.is ∙ e.1 in let z : t ≡ u = cc in
            let p : Some w.kind ≡ Some k = sym (Binds-kind c n w b.binds) ∙ sym (kind_at-set c n w b.binds n) ∙ ap (kind_at (bound_to c n w)) (sym e.0) ∙ r in
            let x : w.kind ≡ k = cc in rw (← z, ← x) (b.fits, b.no_region))
            (λ e. s.fits m u k e (sym (kind_at-set c n w b.binds m) ∙ r)) (set-either c n w b.binds s m (known u) q);
        linked = λ m k q r. rw order (inr (s.linked m k (set-old c n w b.binds s m (link k) q (λ z. (let y : known t ≡ link k = sym b.is ∙ z in cc))) (λ z. r (kind_at-set c n w b.binds m ∙ z))));
        bound = λ m u q. rw order (⊎_elim (λ e. inl e.0) (λ e. inr (s.bound m u e)) (set-either c n w b.binds s m (known u) q));
        unbound = λ m q.
            let no : w.state ≡ unset → ⊥ = λ z. (let y : known t ≡ unset = sym b.is ∙ z in cc) in
            let d : m ≡ n → ⊥ = set-other c n w b.binds s m unset q no in
            let f : (m == n) ≡ false = grind arith in
            rw order (f, s.unbound m (set-old c n w b.binds s m unset q no));
        ordered = λ m k. (let j : (m ≡ n) ⊎ IsOneOf m ns = rw order at k in
            let below : m < length c.slots = ⊎_elim (λ (e : m ≡ n). rw e (slice_get_below c.slots n b.binds.old b.binds.was)) (λ (i : IsOneOf m ns). s.ordered m i) j in
            omega (arith, below, length-slice_set c.slots n w));
        no_region = λ m k z. (let j : (m ≡ n) ⊎ IsOneOf m ns = rw order at k in
            let z' : kind_at c m ≡ Some kind.Region = sym (kind_at-set c n w b.binds m) ∙ z in
            ⊎_elim (λ (e : m ≡ n). let y : Some w.kind ≡ Some kind.Region = sym (Binds-kind c n w b.binds) ∙ ap (kind_at c) (sym e) ∙ z' in b.no_region cc)
            (λ (i : IsOneOf m ns). s.no_region m i z') j);
        acyclic = rw order (s.unbound n unset_before, rw (value_at-known, under-agree old new ns t agree) b.lacks, IsAcyclic-agree old new ns agree s.acyclic);
      }

-- the variable n can become one with the variable m
pub record IsLinkable (c : Content) (n : ℕ) (w : Slot) (m : ℕ) : Type 0 where
  pub binds : Binds c n w
  pub is : w.state ≡ link m
  pub below : m < n
  pub free : state_of c m ≡ Some unset
  pub one_kind : kind_at c m ≡ Some w.kind

module _ (c : Content) (n : ℕ) (w : Slot) (m : ℕ) (s : IsSound c) (b : IsLinkable c n w m) (no_region : w.kind ≢ kind.Region) where
  pub value_at-link : value_at (bound_to c n w) n ≡ variable_tree w.kind m
  value_at-link =
      let kind : kind_at (bound_to c n w) n ≡ Some w.kind = kind_at-set c n w b.binds n ∙ Binds-kind c n w b.binds in
      let state : state_of (bound_to c n w) n ≡ Some (link m) = state_of-set_same c n w b.binds ∙ ap Some b.is in
      rw (kind, state) refl

  root_stays : resolved c (variable_tree w.kind m) ≡ variable_tree w.kind m
  root_stays = resolved-variable_unset c (label.Leaf (leaf.Variable w.kind m)) empty m s (infer_number_some w.kind m no_region) b.free

  pub resolved-link : (u : Tree) → resolved (bound_to c n w) u ≡ replaced n (variable_tree w.kind m) (resolved c u)
  resolved-link u = resolved-bound_to c n w b.binds s u ∙ ap (λ x. replaced n (resolved c x) (resolved c u)) value_at-link ∙ ap (λ x. replaced n x (resolved c u)) root_stays

  Lacks-root : Lacks n (variable_tree w.kind m)
  Lacks-root =
      let below = b.below in
      let apart : (m == n) ≡ false = grind arith in
      let is : infer_of (label.Leaf (leaf.Variable w.kind m)) ≡ Some m = infer_number_some w.kind m no_region in
      rw is apart

  pub IsSound-link : IsSound (bound_to c n w)
  IsSound-link =
      let unset_before = Binds-unset c n w b.binds in
      let order : reverse (bound_to c n w).order ≡ n ∷ reverse c.order = reverse-push c.order n in
      let ns = reverse c.order in
      let old = value_at c in
      let new = value_at (bound_to c n w) in
      let agree : (k : ℕ) → IsOneOf k ns → new k ≡ old k = agree-set c n w b.binds s in
      let root = root_stays in
      let lacks = Lacks-root in
      record {
        descends = λ k j q. ⊎_elim
            (λ e. let y : link m ≡ link j = sym b.is ∙ e.1 in let z : m ≡ j = cc in let l = b.below in omega (arith, z, e.0, l))
            (λ e. s.descends k j e) (set-either c n w b.binds s k (link j) q);
        one_kind = λ k j q. ⊎_elim
            (λ e. let y : link m ≡ link j = sym b.is ∙ e.1 in let z : m ≡ j = cc in
            let there : kind_at (bound_to c n w) j ≡ Some w.kind = rw (← z) (kind_at-set c n w b.binds m ∙ b.one_kind) in
            let here : kind_at (bound_to c n w) k ≡ Some w.kind = rw e.0 (kind_at-set c n w b.binds n ∙ Binds-kind c n w b.binds) in
            there ∙ sym here)
            (λ e. kind_at-set c n w b.binds j ∙ s.one_kind k j e ∙ sym (kind_at-set c n w b.binds k)) (set-either c n w b.binds s k (link j) q);
        known_trees = λ k u q. Knows-kept c (bound_to c n w) u (KeepsKinds-bound c n w b.binds) (s.known_trees k u (set-old c n w b.binds s k (known u) q (λ z. (let y : link m ≡ known u = sym b.is ∙ z in cc))));
        closed = λ k u q. s.closed k u (set-old c n w b.binds s k (known u) q (λ z. (let y : link m ≡ known u = sym b.is ∙ z in cc)));
        ranks = λ k u j q r. s.ranks k u j (set-old c n w b.binds s k (known u) q (λ z. (let y : link m ≡ known u = sym b.is ∙ z in cc))) (sym (kind_at-set c n w b.binds k) ∙ r);
        fits = λ k u j q r. s.fits k u j (set-old c n w b.binds s k (known u) q (λ z. (let y : link m ≡ known u = sym b.is ∙ z in cc))) (sym (kind_at-set c n w b.binds k) ∙ r);
        linked = λ k j q r. rw order (⊎_elim (λ e. inl e.0) (λ e. inr (s.linked k j e (λ z. r (kind_at-set c n w b.binds k ∙ z)))) (set-either c n w b.binds s k (link j) q));
        bound = λ k u q. rw order (inr (s.bound k u (set-old c n w b.binds s k (known u) q (λ z. (let y : link m ≡ known u = sym b.is ∙ z in cc)))));
        unbound = λ k q.
            let no : w.state ≡ unset → ⊥ = λ z. (let y : link m ≡ unset = sym b.is ∙ z in cc) in
            let d : k ≡ n → ⊥ = set-other c n w b.binds s k unset q no in
            let f : (k == n) ≡ false = grind arith in
            rw order (f, s.unbound k (set-old c n w b.binds s k unset q no));
        ordered = λ k h. (let j : (k ≡ n) ⊎ IsOneOf k ns = rw order at h in
            let below : k < length c.slots = ⊎_elim (λ (e : k ≡ n). rw e (slice_get_below c.slots n b.binds.old b.binds.was)) (λ (i : IsOneOf k ns). s.ordered k i) j in
            omega (arith, below, length-slice_set c.slots n w));
        no_region = λ k h z. (let j : (k ≡ n) ⊎ IsOneOf k ns = rw order at h in
            let z' : kind_at c k ≡ Some kind.Region = sym (kind_at-set c n w b.binds k) ∙ z in
            ⊎_elim (λ (e : k ≡ n). let y : Some w.kind ≡ Some kind.Region = sym (Binds-kind c n w b.binds) ∙ ap (kind_at c) (sym e) ∙ z' in no_region cc)
            (λ (i : IsOneOf k ns). s.no_region k i z') j);
        acyclic = rw order (s.unbound n unset_before, rw (value_at-link, under-agree old new ns (variable_tree w.kind m) agree, root) lacks, IsAcyclic-agree old new ns agree s.acyclic);
      }

-- region variables: the values of the others stay
module _ (c : Content) (n : ℕ) (w : Slot) (m : ℕ) (s : IsSound c) (b : IsLinkable c n w m) (region : w.kind ≡ kind.Region) where
  pub resolved-region_link : (u : Tree) → resolved (changed c n w) u ≡ resolved c u
  resolved-region_link u = under-agree (value_at c) (value_at (changed c n w)) (reverse c.order) u (agree-set c n w b.binds s)

  pub IsSound-region_link : IsSound (changed c n w)
  IsSound-region_link =
      let ns = reverse c.order in
      let old = value_at c in
      let new = value_at (changed c n w) in
      let agree : (k : ℕ) → IsOneOf k ns → new k ≡ old k = agree-set c n w b.binds s in
      record {
        descends = λ k j q. ⊎_elim
            (λ e. let y : link m ≡ link j = sym b.is ∙ e.1 in let z : m ≡ j = cc in let l = b.below in omega (arith, z, e.0, l))
            (λ e. s.descends k j e) (set-either c n w b.binds s k (link j) q);
        one_kind = λ k j q. ⊎_elim
            (λ e. let y : link m ≡ link j = sym b.is ∙ e.1 in let z : m ≡ j = cc in
            let there : kind_at (changed c n w) j ≡ Some w.kind = rw (← z) (kind_at-set c n w b.binds m ∙ b.one_kind) in
            let here : kind_at (changed c n w) k ≡ Some w.kind = rw e.0 (kind_at-set c n w b.binds n ∙ Binds-kind c n w b.binds) in
            there ∙ sym here)
            (λ e. kind_at-set c n w b.binds j ∙ s.one_kind k j e ∙ sym (kind_at-set c n w b.binds k)) (set-either c n w b.binds s k (link j) q);
        known_trees = λ k u q. Knows-kept c (changed c n w) u (KeepsKinds-set c n w b.binds) (s.known_trees k u (set-old c n w b.binds s k (known u) q (λ z. (let y : link m ≡ known u = sym b.is ∙ z in cc))));
        closed = λ k u q. s.closed k u (set-old c n w b.binds s k (known u) q (λ z. (let y : link m ≡ known u = sym b.is ∙ z in cc)));
        ranks = λ k u j q r. s.ranks k u j (set-old c n w b.binds s k (known u) q (λ z. (let y : link m ≡ known u = sym b.is ∙ z in cc))) (sym (kind_at-set c n w b.binds k) ∙ r);
        fits = λ k u j q r. s.fits k u j (set-old c n w b.binds s k (known u) q (λ z. (let y : link m ≡ known u = sym b.is ∙ z in cc))) (sym (kind_at-set c n w b.binds k) ∙ r);
        linked = λ k j q r. ⊎_elim
            (λ e. let z : kind_at (changed c n w) k ≡ Some w.kind = rw e.0 (kind_at-set c n w b.binds n ∙ Binds-kind c n w b.binds) in absurd (r (z ∙ ap Some region)))
            (λ e. s.linked k j e (λ z. r (kind_at-set c n w b.binds k ∙ z))) (set-either c n w b.binds s k (link j) q);
        bound = λ k u q. s.bound k u (set-old c n w b.binds s k (known u) q (λ z. (let y : link m ≡ known u = sym b.is ∙ z in cc)));
        unbound = λ k q. s.unbound k (set-old c n w b.binds s k unset q (λ z. (let y : link m ≡ unset = sym b.is ∙ z in cc)));
        ordered = λ k h. (let below = s.ordered k h in omega (arith, below, length-slice_set c.slots n w));
        no_region = λ k h z. s.no_region k h (sym (kind_at-set c n w b.binds k) ∙ z);
        acyclic = IsAcyclic-agree old new ns agree s.acyclic;
      }
