-- Which changes join classes of sub-unification.
use Rattle.std.proofs.Common.{◌≡◌, ◌≢◌, ◌⊎◌, inl, inr, ⊎_elim, ℕ, Option, Some, None, refl, sym, ap, ◌∙◌, ◌<◌, length, arith}
use Rattle.std.specs.Prelude.{slice_get}
use Rattle.nts_model.specs.declared.labels.VariableKind.{VariableKind}
use Rattle.nts_model.specs.declared.labels.VariableKind.TheVariants as kind
use Rattle.nts_model.specs.Tables.Contents.{Content, Slot, SlotState, unset, link, known, map_slot, state_of, kind_at, sub_link_of, with_slot, bound_to}
use Rattle.nts_model.specs.Tables.SubUnifying.{SharesSubRoot, itself, linked, turned, through, BecameOne, AreJoined, before, since, back, along, JoinsSubRoots}
use Rattle.nts_model.specs.Terms.Trees.{Tree}
use Rattle.nts_model.proofs.Tables.Slots.{field_below, field-changed_kept, field-with_slot_new, field-with_slot_old}
use Rattle.nts_model.proofs.Tables.Binding.{Binds, Binds-unset, state_of-set_same, state_of-set_other}

-- what holds of links holds of classes
pub shares-mapped : (c d : Content) → ((n m : ℕ) → sub_link_of c n ≡ Some (Some m) → SharesSubRoot d n m) → {n m : ℕ} → SharesSubRoot c n m → SharesSubRoot d n m
shares-mapped c d f itself = itself
shares-mapped c d f (linked {n = n} {m = m} h) = f n m h
shares-mapped c d f (turned h) = turned (shares-mapped c d f h)
shares-mapped c d f (through h i) = through (shares-mapped c d f h) (shares-mapped c d f i)

shares-joined : (b c d : Content) → ((n m : ℕ) → sub_link_of c n ≡ Some (Some m) → AreJoined b d n m) → {n m : ℕ} → SharesSubRoot c n m → AreJoined b d n m
shares-joined b c d f itself = before itself
shares-joined b c d f (linked {n = n} {m = m} h) = f n m h
shares-joined b c d f (turned h) = back (shares-joined b c d f h)
shares-joined b c d f (through h i) = along (shares-joined b c d f h) (shares-joined b c d f i)

joined-shares : (c d : Content) → ((n m : ℕ) → SharesSubRoot c n m → SharesSubRoot d n m) → ((n m : ℕ) → BecameOne c d n m → SharesSubRoot d n m) → {n m : ℕ} → AreJoined c d n m → SharesSubRoot d n m
joined-shares c d f g (before {n = n} {m = m} h) = f n m h
joined-shares c d f g (since {n = n} {m = m} h) = g n m h
joined-shares c d f g (back h) = turned (joined-shares c d f g h)
joined-shares c d f g (along h i) = through (joined-shares c d f g h) (joined-shares c d f g i)

joined-mapped : (b d c e : Content) → ((n m : ℕ) → SharesSubRoot b n m → AreJoined c e n m) → ((n m : ℕ) → BecameOne b d n m → AreJoined c e n m) → {n m : ℕ} → AreJoined b d n m → AreJoined c e n m
joined-mapped b d c e f g (before {n = n} {m = m} h) = f n m h
joined-mapped b d c e f g (since {n = n} {m = m} h) = g n m h
joined-mapped b d c e f g (back h) = back (joined-mapped b d c e f g h)
joined-mapped b d c e f g (along h i) = along (joined-mapped b d c e f g h) (joined-mapped b d c e f g i)

-- links that are as before, or join what became one
pub joins_sub_roots : (c d : Content) → ((n m : ℕ) → state_of c n ≡ Some (link m) → state_of d n ≡ Some (link m)) → ((n m : ℕ) → sub_link_of c n ≡ Some (Some m) → SharesSubRoot d n m) → ((n m : ℕ) → sub_link_of d n ≡ Some (Some m) → AreJoined c d n m) → ((n m : ℕ) → BecameOne c d n m → SharesSubRoot d n m) → JoinsSubRoots c d
joins_sub_roots c d links kept only all =
    record { links = links; only = λ n m h. shares-joined c d d only h; all = λ n m h. joined-shares c d (λ k l i. shares-mapped c d kept i) all h }

-- a state that is a link, or none
pub either_link : (o : Option SlotState) → ((k : ℕ) × (o ≡ Some (link k))) ⊎ ((k : ℕ) → o ≡ Some (link k) → ⊥)
either_link None = inr (λ k e. cc)
either_link (Some unset) = inr (λ k e. cc)
either_link (Some (link m)) = inl (m, refl)
either_link (Some (known t)) = inr (λ k e. cc)

no_new : {c d : Content} {n m : ℕ} → ((k : VariableKind) → state_of d n ≡ Some (link m) → kind_at d n ≡ Some k → k ≢ kind.Region → state_of c n ≡ Some (link m)) → BecameOne c d n m → ⊥
no_new {m = m} f h = h.was m (f h.of_kind h.is h.has h.no_region)

-- the same links of both kinds, but for those of regions
pub JoinsSubRoots-same : (c d : Content) → ((n m : ℕ) → state_of c n ≡ Some (link m) → state_of d n ≡ Some (link m)) → ((n m : ℕ) (k : VariableKind) → state_of d n ≡ Some (link m) → kind_at d n ≡ Some k → k ≢ kind.Region → state_of c n ≡ Some (link m)) → ((n m : ℕ) → sub_link_of c n ≡ Some (Some m) → sub_link_of d n ≡ Some (Some m)) → ((n m : ℕ) → sub_link_of d n ≡ Some (Some m) → sub_link_of c n ≡ Some (Some m)) → JoinsSubRoots c d
JoinsSubRoots-same c d links new kept only =
    joins_sub_roots c d links (λ n m h. linked (kept n m h)) (λ n m h. before (linked (only n m h))) (λ n m h. absurd (no_new (λ k. new n m k) h))

pub JoinsSubRoots-refl : (c : Content) → JoinsSubRoots c c
JoinsSubRoots-refl c = JoinsSubRoots-same c c (λ n m h. h) (λ n m k h i j. h) (λ n m h. h) (λ n m h. h)

pub some_kind : (d : Content) (n m : ℕ) → state_of d n ≡ Some (link m) → (k : VariableKind) × (kind_at d n ≡ Some k)
some_kind d n m h = by_slot (slice_get d.slots n) h
  where
    by_slot : (o : Option Slot) → map_slot (λ x. x.state) o ≡ Some (link m) → (k : VariableKind) × (map_slot (λ x. x.kind) o ≡ Some k)
    by_slot None e = cc
    by_slot (Some v) e = (v.kind, refl)

module _ (c d e : Content) (kinds : (n : ℕ) (k : VariableKind) → kind_at d n ≡ Some k → kind_at e n ≡ Some k) (a : JoinsSubRoots c d) (b : JoinsSubRoots d e) where
  -- what became one in the first step, or in the second one
  first_since : (n m : ℕ) → BecameOne c d n m → BecameOne c e n m
  first_since n m h = record { of_kind = h.of_kind; has = kinds n h.of_kind h.has; no_region = h.no_region; was = h.was; is = b.links n m h.is }

  second_since : (n m : ℕ) → BecameOne d e n m → BecameOne c e n m
  second_since n m h = record { of_kind = h.of_kind; has = h.has; no_region = h.no_region; was = λ k q. h.was k (a.links n k q); is = h.is }

  split_since : (n m : ℕ) → BecameOne c e n m → SharesSubRoot e n m
  split_since n m h = ⊎_elim
      (λ (q : (k : ℕ) × (state_of d n ≡ Some (link k))).
      let there = some_kind d n q.0 q.1 in
      let one : Some there.0 ≡ Some h.of_kind = sym (kinds n there.0 there.1) ∙ h.has in
      let same : Some (link q.0) ≡ Some (link m) = sym (b.links n q.0 q.1) ∙ h.is in
      let k : there.0 ≡ h.of_kind = cc in
      let to : q.0 ≡ m = cc in
      b.all n m (before (a.all n m (since (record { of_kind = there.0; has = there.1; no_region = λ z. h.no_region (sym k ∙ z); was = h.was; is = q.1 ∙ ap (λ j. Some (link j)) to })))))
      (λ (q : (k : ℕ) → state_of d n ≡ Some (link k) → ⊥).
      b.all n m (since (record { of_kind = h.of_kind; has = h.has; no_region = h.no_region; was = q; is = h.is })))
      (either_link (state_of d n))

  pub JoinsSubRoots-trans : JoinsSubRoots c e
  JoinsSubRoots-trans = record {
    links = λ n m h. b.links n m (a.links n m h);
    only = λ n m h.
        joined-mapped d e c e (λ k l i. joined-mapped c d c e (λ o p j. before j) (λ o p j. since (first_since o p j)) (a.only k l i)) (λ k l j. since (second_since k l j)) (b.only n m h);
    all = λ n m h. joined-shares c e (λ k l i. b.all k l (before (a.all k l (before i)))) split_since h;
  }

-- a variable gets a value, and one that is new is alone: no classes are joined
pub JoinsSubRoots-known : (c : Content) (n : ℕ) (v : Slot) (t : Tree) (b : Binds c n v) → v.state ≡ known t → v.sub_link ≡ b.old.sub_link → JoinsSubRoots c (bound_to c n v)
JoinsSubRoots-known c n v t b is sub =
    let kept : (k : ℕ) → sub_link_of (bound_to c n v) k ≡ sub_link_of c k = λ k. field-changed_kept (λ x. x.sub_link) c n k b.old v b.was sub in
    JoinsSubRoots-same c (bound_to c n v)
    (λ k m h. (let d : k ≡ n → ⊥ = λ q. (let z : Some unset ≡ Some (link m) = sym (Binds-unset c n v b) ∙ ap (state_of c) (sym q) ∙ h in cc) in state_of-set_other c n v b k d ∙ h))
    (λ k m j h i no. (let d : k ≡ n → ⊥ = λ q. (let z : Some v.state ≡ Some (link m) = sym (state_of-set_same c n v b) ∙ ap (state_of (bound_to c n v)) (sym q) ∙ h in let y : known t ≡ link m = sym is ∙ cc in cc) in sym (state_of-set_other c n v b k d) ∙ h))
    (λ k m h. kept k ∙ h) (λ k m h. sym (kept k) ∙ h)

pub JoinsSubRoots-added : (c : Content) (v : Slot) → v.state ≡ unset → v.sub_link ≡ None → JoinsSubRoots c (with_slot c v)
JoinsSubRoots-added c v free alone =
    let old : (f : ℕ) → f < length c.slots → f ≡ length c.slots → ⊥ = λ f l q. omega (arith, l, q) in
    JoinsSubRoots-same c (with_slot c v)
    (λ k m h. field-with_slot_old (λ x. x.state) c v k (old k (field_below (λ x. x.state) c k (link m) h)) ∙ h)
    (λ k m j h i no. (let d : k ≡ length c.slots → ⊥ = λ q. (let z : Some v.state ≡ Some (link m) = sym (field-with_slot_new (λ x. x.state) c v) ∙ ap (state_of (with_slot c v)) (sym q) ∙ h in let y : unset ≡ link m = sym free ∙ cc in cc) in sym (field-with_slot_old (λ x. x.state) c v k d) ∙ h))
    (λ k m h. field-with_slot_old (λ x. x.sub_link) c v k (old k (field_below (λ x. x.sub_link) c k (Some m) h)) ∙ h)
    (λ k m h. (let d : k ≡ length c.slots → ⊥ = λ q. (let z : Some v.sub_link ≡ Some (Some m) = sym (field-with_slot_new (λ x. x.sub_link) c v) ∙ ap (sub_link_of (with_slot c v)) (sym q) ∙ h in let y : None ≡ Some m = sym alone ∙ cc in cc) in sym (field-with_slot_old (λ x. x.sub_link) c v k d) ∙ h))
