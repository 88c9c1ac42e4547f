-- Classes of sub-unification in tables that grow, step by step.
use Rattle.std.proofs.Common.{◌≡◌, ◌⊎◌, inl, inr, ⊎_elim, ℕ, ◌≤◌, ◌<◌, ◌+◌, Bool, true, false, cond, length, length-append, [], ◌∷◌, Option, Some, None, refl, sym, ap, ◌∙◌, arith}
use Rattle.std.proofs.Math.Dec.{ltb}
use Rattle.std.proofs.lemmas.Bool.{lt-ltb, ltb-true}
use Rattle.nts_model.specs.declared.labels.VariableKind.{VariableKind}
use Rattle.nts_model.specs.Tables.Contents.{Content, Slot, unset, link, state_of, kind_at, sub_link_of, with_slot}
use Rattle.nts_model.specs.Tables.SubUnifying.{SharesSubRoot, itself, linked, turned, through, BecameOne, AreJoined, before, since, back, along, JoinsSubRoots}
use Rattle.nts_model.proofs.Tables.Slots.{field_below, field-with_slot_new, field-with_slot_old}
use Rattle.nts_model.proofs.Tables.SubUnified.{shares-mapped, either_link, some_kind}
use Rattle.nts_model.proofs.Tables.Under.{same_or_other}
use Rattle.nts_variance.specs.SubRoots.{AreJoinedSince, was, became, made, reversed, onward, GrowsSubRoots}

-- what holds of links holds of classes
links_joined : (f : ℕ → Option ℕ) (b c d : Content) → ((n m : ℕ) → sub_link_of c n ≡ Some (Some m) → AreJoinedSince f b d n m) → {n m : ℕ} → SharesSubRoot c n m → AreJoinedSince f b d n m
links_joined f b c d h itself = was itself
links_joined f b c d h (linked {n = n} {m = m} e) = h n m e
links_joined f b c d h (turned e) = reversed (links_joined f b c d h e)
links_joined f b c d h (through e i) = onward (links_joined f b c d h e) (links_joined f b c d h i)

-- .. and of what joins them
joined_shares : (f : ℕ → Option ℕ) (c d e : Content) → ((n m : ℕ) → SharesSubRoot c n m → SharesSubRoot e n m) → ((n m : ℕ) → BecameOne c d n m → SharesSubRoot e n m) → ((n m : ℕ) → length c.slots ≤ n → n < length d.slots → f n ≡ Some m → SharesSubRoot e n m) → {n m : ℕ} → AreJoinedSince f c d n m → SharesSubRoot e n m
joined_shares f c d e p q r (was {n = n} {m = m} h) = p n m h
joined_shares f c d e p q r (became {n = n} {m = m} h) = q n m h
joined_shares f c d e p q r (made {n = n} {m = m} h i j) = r n m h i j
joined_shares f c d e p q r (reversed h) = turned (joined_shares f c d e p q r h)
joined_shares f c d e p q r (onward h i) = through (joined_shares f c d e p q r h) (joined_shares f c d e p q r i)

joined_mapped : (f g : ℕ → Option ℕ) (c d a b : Content) → ((n m : ℕ) → SharesSubRoot c n m → AreJoinedSince g a b n m) → ((n m : ℕ) → BecameOne c d n m → AreJoinedSince g a b n m) → ((n m : ℕ) → length c.slots ≤ n → n < length d.slots → f n ≡ Some m → AreJoinedSince g a b n m) → {n m : ℕ} → AreJoinedSince f c d n m → AreJoinedSince g a b n m
joined_mapped f g c d a b p q r (was {n = n} {m = m} h) = p n m h
joined_mapped f g c d a b p q r (became {n = n} {m = m} h) = q n m h
joined_mapped f g c d a b p q r (made {n = n} {m = m} h i j) = r n m h i j
joined_mapped f g c d a b p q r (reversed h) = reversed (joined_mapped f g c d a b p q r h)
joined_mapped f g c d a b p q r (onward h i) = onward (joined_mapped f g c d a b p q r h) (joined_mapped f g c d a b p q r i)

-- no variable is made
abbrev alone : ℕ → Option ℕ
alone n = None

joined_since : {c d : Content} {n m : ℕ} → AreJoined c d n m → AreJoinedSince alone c d n m
joined_since (before h) = was h
joined_since (since h) = became h
joined_since (back h) = reversed (joined_since h)
joined_since (along h i) = onward (joined_since h) (joined_since i)

joined_before : {c d : Content} {n m : ℕ} → AreJoinedSince alone c d n m → AreJoined c d n m
joined_before (was h) = before h
joined_before (became h) = since h
joined_before {m = m} (made h i j) = absurd (let z : None ≡ Some m = j in cc)
joined_before (reversed h) = back (joined_before h)
joined_before (onward h i) = along (joined_before h) (joined_before i)

pub grows_joined : {c d : Content} → JoinsSubRoots c d → GrowsSubRoots c d
grows_joined h = record { made_in = alone; links = h.links; only = λ n m i. joined_since (h.only n m i); all = λ n m i. h.all n m (joined_before i) }

-- one more variable, which is made in a class
pub grows_slot : (c : Content) (v : Slot) → v.state ≡ unset → GrowsSubRoots c (with_slot c v)
grows_slot c v free =
    let d = with_slot c v in
    let own : ℕ → Option ℕ = λ n. v.sub_link in
    let old : (k : ℕ) → k < length c.slots → k ≡ length c.slots → ⊥ = λ k l q. omega (arith, l, q) in
    let longer : length d.slots ≡ length c.slots + 1 = length-append c.slots (v ∷ []) in
    let kept : (k m : ℕ) → sub_link_of c k ≡ Some (Some m) → SharesSubRoot d k m = λ k m h. linked (field-with_slot_old (λ x. x.sub_link) c v k (old k (field_below (λ x. x.sub_link) c k (Some m) h)) ∙ h) in
    record {
      made_in = own;
      links = λ k m h. field-with_slot_old (λ x. x.state) c v k (old k (field_below (λ x. x.state) c k (link m) h)) ∙ h;
      only = λ n m h.
          links_joined own c d d
          (λ k l e. ⊎_elim (λ (q : k ≡ length c.slots). (let z : Some v.sub_link ≡ Some (Some l) = sym (field-with_slot_new (λ x. x.sub_link) c v) ∙ ap (sub_link_of d) (sym q) ∙ e in made (omega (arith, q)) (omega (arith, q, longer)) cc))
          (λ (q : k ≡ length c.slots → ⊥). was (linked (sym (field-with_slot_old (λ x. x.sub_link) c v k q) ∙ e))) (same_or_other k (length c.slots))) h;
      all = λ n m h.
          joined_shares own c d d (λ k l i. shares-mapped c d kept i)
          (λ k l i. (let other : k ≡ length c.slots → ⊥ = λ q. (let z : Some v.state ≡ Some (link l) = sym (field-with_slot_new (λ x. x.state) c v) ∙ ap (state_of d) (sym q) ∙ i.is in let y : unset ≡ link l = sym free ∙ cc in cc) in
          absurd (i.was l (sym (field-with_slot_old (λ x. x.state) c v k other) ∙ i.is))))
          (λ k l i j e. (let last : k ≡ length c.slots = omega (arith, i, j, longer) in linked (ap (sub_link_of d) last ∙ field-with_slot_new (λ x. x.sub_link) c v ∙ ap Some e))) h;
    }

-- one step after another
abbrev by_place : (f g : ℕ → Option ℕ) → ℕ → ℕ → Option ℕ
by_place f g k n = cond (ltb n k) (f n) (g n)

first_place : (f g : ℕ → Option ℕ) (k n : ℕ) → n < k → by_place f g k n ≡ f n
first_place f g k n l = rw (lt-ltb n k l) refl

later_place : (f g : ℕ → Option ℕ) (k n : ℕ) → k ≤ n → by_place f g k n ≡ g n
later_place f g k n l = by (ltb n k) refl
  where
    by : (o : Bool) → ltb n k ≡ o → by_place f g k n ≡ g n
    by true e = (let less = ltb-true n k e in absurd (omega (arith, less, l)))
    by false e = rw e refl

pub either_place : (n k : ℕ) → (n < k) ⊎ (k ≤ n)
either_place n k = by (ltb n k) refl
  where
    not_less : (n < k → ⊥) → k ≤ n
    not_less h = omega (arith, h)

    by : (o : Bool) → ltb n k ≡ o → (n < k) ⊎ (k ≤ n)
    by true e = inl (ltb-true n k e)
    by false e = inr (not_less (λ l. (let y = lt-ltb n k l in cc)))

module _ (c d e : Content) (kinds : (n : ℕ) (k : VariableKind) → kind_at d n ≡ Some k → kind_at e n ≡ Some k) (more : length c.slots ≤ length d.slots) (later : length d.slots ≤ length e.slots) (a : GrowsSubRoots c d) (b : GrowsSubRoots d e) where
  abbrev both : ℕ → Option ℕ
  both = by_place a.made_in b.made_in (length d.slots)

  first_became : (n m : ℕ) → BecameOne c d n m → BecameOne c e n m
  first_became n m h = record { of_kind = h.of_kind; has = kinds n h.of_kind h.has; no_region = h.no_region; was = h.was; is = b.links n m h.is }

  second_became : (n m : ℕ) → BecameOne d e n m → BecameOne c e n m
  second_became n m h = record { of_kind = h.of_kind; has = h.has; no_region = h.no_region; was = λ k q. h.was k (a.links n k q); is = h.is }

  first_joined : (n m : ℕ) → SharesSubRoot d n m → AreJoinedSince both c e n m
  first_joined n m h =
      joined_mapped a.made_in both c d c e (λ k l j. was j) (λ k l j. became (first_became k l j))
      (λ k l i j q. made i (omega (arith, j, later)) (first_place a.made_in b.made_in (length d.slots) k j ∙ q)) (a.only n m h)

  split_became : (n m : ℕ) → BecameOne c e n m → SharesSubRoot e n m
  split_became n m h = ⊎_elim
      (λ (q : (k : ℕ) × (state_of d n ≡ Some (link k))).
      let there = some_kind d n q.0 q.1 in
      let one : Some there.0 ≡ Some h.of_kind = sym (kinds n there.0 there.1) ∙ h.has in
      let same : Some (link q.0) ≡ Some (link m) = sym (b.links n q.0 q.1) ∙ h.is in
      let k : there.0 ≡ h.of_kind = cc in
      let to : q.0 ≡ m = cc in
      b.all n m (was (a.all n m (became (record { of_kind = there.0; has = there.1; no_region = λ z. h.no_region (sym k ∙ z); was = h.was; is = q.1 ∙ ap (λ j. Some (link j)) to })))))
      (λ (q : (k : ℕ) → state_of d n ≡ Some (link k) → ⊥).
      b.all n m (became (record { of_kind = h.of_kind; has = h.has; no_region = h.no_region; was = q; is = h.is })))
      (either_link (state_of d n))

  split_made : (n m : ℕ) → length c.slots ≤ n → n < length e.slots → both n ≡ Some m → SharesSubRoot e n m
  split_made n m i j q = ⊎_elim
      (λ (l : n < length d.slots). b.all n m (was (a.all n m (made i l (sym (first_place a.made_in b.made_in (length d.slots) n l) ∙ q)))))
      (λ (l : length d.slots ≤ n). b.all n m (made l j (sym (later_place a.made_in b.made_in (length d.slots) n l) ∙ q))) (either_place n (length d.slots))

  pub grows_then : GrowsSubRoots c e
  grows_then = record {
    made_in = both;
    links = λ n m h. b.links n m (a.links n m h);
    only = λ n m h.
        joined_mapped b.made_in both d e c e first_joined (λ k l j. became (second_became k l j))
        (λ k l i j q. made (omega (arith, i, more)) j (later_place a.made_in b.made_in (length d.slots) k i ∙ q)) (b.only n m h);
    all = λ n m h. joined_shares both c e e (λ k l i. b.all k l (was (a.all k l (was i)))) split_became split_made h;
  }
