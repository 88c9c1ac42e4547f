-- What keeps values within their variables' universes.
use Rattle.std.proofs.Common.{◌≡◌, ◌⊎◌, inl, inr, ⊎_elim, ℕ, ◌<◌, ◌≤◌, length, Option, Some, None, refl, sym, ap, ◌∙◌, arith}
use Rattle.nts_model.specs.declared.labels.VariableKind.{VariableKind}
use Rattle.nts_model.specs.declared.labels.Label.{Label}
use Rattle.nts_model.specs.Terms.Trees.{Tree, empty, more, node, variable_of}
use Rattle.nts_model.specs.Tables.Contents.{Content, Slot, SlotState, unset, link, known, Recorded, state_of, universe_of, with_slot, changed, bound_to, with_constraint, in_universe}
use Rattle.nts_model.specs.Tables.Resolving.{number_of, Knows, KnowsVariable, IsSound}
use Rattle.nts_model.specs.Terms.Placeholders.{CanName}
use Rattle.nts_model.specs.Tables.Levels.{NamesAll, region_level, level_at, level_in, IsLevelled, AreRegionsLevelled, Falls, AreCurrent}
use Rattle.nts_model.proofs.Tables.Under.{same_or_other}
use Rattle.nts_model.proofs.Tables.Slots.{field_below, field-changed_kept, field-with_slot_old, some_slot, slice_get_below, field-changed_same, field-changed_other, field-with_slot_new}
use Rattle.nts_model.proofs.Tables.Sound.{state_of-with_slot_new}
use Rattle.nts_model.proofs.Tables.Binding.{Binds, IsKnowable, IsLinkable, state_of-set_same, state_of-set_other}
use Rattle.nts_model.proofs.Tables.Solving.{universe_of-set, Lowers, state_of-lowered, universe_of-lowered_same, universe_of-lowered_other}
use Rattle.std.specs.Prelude.{slice_get}

pub Falls-refl : (c : Content) → Falls c c
Falls-refl c = record { universes = λ n h u k. k }

pub Falls-trans : (c d e : Content) → length c.slots ≤ length d.slots → Falls c d → Falls d e → Falls c e
Falls-trans c d e l a b = record { universes = λ n h u k. (let g : n < length d.slots = omega arith in b.universes n g u (a.universes n h u k)) }

-- universes that stay
pub Falls-same : (c d : Content) → ((n : ℕ) → n < length c.slots → universe_of d n ≡ universe_of c n) → Falls c d
Falls-same c d h = record { universes = λ n l u k. rw (h n l) k }

pub Falls-with_slot : (c : Content) (v : Slot) → Falls c (with_slot c v)
Falls-with_slot c v = Falls-same c (with_slot c v) (λ n l. field-with_slot_old (λ x. x.universe) c v n (λ e. omega (arith, e, l)))

pub Falls-set : (c : Content) (n : ℕ) (v : Slot) (b : Binds c n v) → v.universe ≡ b.old.universe → Falls c (changed c n v)
Falls-set c n v b u = Falls-same c (changed c n v) (λ m l. universe_of-set c n v b u m)

pub Falls-bound_to : (c : Content) (n : ℕ) (v : Slot) (b : Binds c n v) → v.universe ≡ b.old.universe → Falls c (bound_to c n v)
Falls-bound_to c n v b u = Falls-same c (bound_to c n v) (λ m l. universe_of-set c n v b u m)

pub Falls-lowered : (c : Content) (n : ℕ) (v : Slot) → Lowers c n v → Falls c (changed c n v)
Falls-lowered c n v b = record {
  universes = λ m l u k. ⊎_elim
      (λ (e : m ≡ n).
      let old : universe_of c m ≡ Some b.old.universe = rw e (some_slot (λ x. x.universe) c n b.old b.was) in
      let g : b.old.universe ≤ u = rw old at k in
      let low = b.lower in
      rw (e, universe_of-lowered_same c n v b) (omega (arith, g, low)))
      (λ (d : m ≡ n → ⊥). rw (universe_of-lowered_other c n v b m d) k) (same_or_other m n);
}

level_at-falls : (c d : Content) (o : Option (VariableKind × ℕ)) (l : Label) (u : ℕ) → Falls c d → KnowsVariable c o → CanName u (level_at c (number_of o) l) → CanName u (level_at d (number_of o) l)
level_at-falls c d None l u f k h = h
level_at-falls c d (Some v) l u f k h = f.universes v.1 (field_below (λ x. x.kind) c v.1 v.0 k) u h

-- what could be named can be named
pub NamesAll-falls : (c d : Content) (u : ℕ) (t : Tree) → Falls c d → Knows c t → NamesAll (level_in c) u t → NamesAll (level_in d) u t
NamesAll-falls c d u empty f k h = tt
NamesAll-falls c d u (more a b) f k h = (NamesAll-falls c d u a f k.0 h.0, NamesAll-falls c d u b f k.1 h.1)
NamesAll-falls c d u (node l t) f k h = (level_at-falls c d (variable_of l) l u f k.0.0 h.0, NamesAll-falls c d u t f k.1 h.1)

-- a change after which each value is an old one, or is named; and so each link
pub record KeepsLevels (c d : Content) : Type 0 where
  pub falls : Falls c d
  pub values : (n u : ℕ) (t : Tree) → state_of d n ≡ Some (known t) → universe_of d n ≡ Some u → ((state_of c n ≡ Some (known t)) × (universe_of c n ≡ Some u)) ⊎ (Knows c t × NamesAll (level_in c) u t)
  pub links : (n m u : ℕ) → state_of d n ≡ Some (link m) → universe_of d n ≡ Some u → ((state_of c n ≡ Some (link m)) × (universe_of c n ≡ Some u)) ⊎ ((m < length c.slots) × CanName u (universe_of c m))

pub IsLevelled-kept : (c d : Content) → IsSound c → KeepsLevels c d → IsLevelled c → IsLevelled d
IsLevelled-kept c d s k h =
    record {
      values = λ n u t p q. ⊎_elim
          (λ e. NamesAll-falls c d u t k.falls (s.known_trees n t e.0) (h.values n u t e.0 e.1))
          (λ e. NamesAll-falls c d u t k.falls e.0 e.1) (k.values n u t p q);
      links = λ n m u p q. ⊎_elim
          (λ e. let here : n < length c.slots = field_below (λ x. x.state) c n (link m) e.0 in
          let lower = s.descends n m e.0 in
          let there : m < length c.slots = omega (arith, here, lower) in
          k.falls.universes m there u (h.links n m u e.0 e.1))
          (λ e. k.falls.universes m e.0 u e.1) (k.links n m u p q);
    }

pub IsLevelled-with_slot : (c : Content) (v : Slot) → v.state ≡ unset → IsSound c → IsLevelled c → IsLevelled (with_slot c v)
IsLevelled-with_slot c v free s h =
    let older : (m : ℕ) (x : SlotState) → state_of (with_slot c v) m ≡ Some x → (x ≡ unset → ⊥) → m ≡ length c.slots → ⊥ =
    λ m x q d e. (let z : Some x ≡ Some unset = sym q ∙ ap (state_of (with_slot c v)) e ∙ state_of-with_slot_new c v s free in d cc) in
    IsLevelled-kept c (with_slot c v) s
    (record {
      falls = Falls-with_slot c v;
      values = λ n u t p q. (let d = older n (known t) p (λ z. cc) in
          inl (sym (field-with_slot_old (λ x. x.state) c v n d) ∙ p, sym (field-with_slot_old (λ x. x.universe) c v n d) ∙ q));
      links = λ n m u p q. (let d = older n (link m) p (λ z. cc) in
          inl (sym (field-with_slot_old (λ x. x.state) c v n d) ∙ p, sym (field-with_slot_old (λ x. x.universe) c v n d) ∙ q));
    }) h

pub IsLevelled-with_constraint : (c : Content) (x : Recorded) → IsSound c → IsLevelled c → IsLevelled (with_constraint c x)
IsLevelled-with_constraint c x s h =
    IsLevelled-kept c (with_constraint c x) s
    (record { falls = Falls-same c (with_constraint c x) (λ n l. refl); values = λ n u t p q. inl (p, q); links = λ n m u p q. inl (p, q) }) h

pub IsLevelled-in_universe : (c : Content) (u : ℕ) → IsSound c → IsLevelled c → IsLevelled (in_universe c u)
IsLevelled-in_universe c u s h =
    IsLevelled-kept c (in_universe c u) s
    (record { falls = Falls-same c (in_universe c u) (λ n l. refl); values = λ n v t p q. inl (p, q); links = λ n m v p q. inl (p, q) }) h

-- an unset variable gets a lower universe
pub IsLevelled-lowered : (c : Content) (n : ℕ) (v : Slot) (b : Lowers c n v) → v.state ≡ unset → IsSound c → IsLevelled c → IsLevelled (changed c n v)
IsLevelled-lowered c n v b free s h =
    let was : state_of c n ≡ Some unset = some_slot (λ x. x.state) c n b.old b.was ∙ ap Some (sym b.same_state ∙ free) in
    let other : (m : ℕ) (x : SlotState) → state_of c m ≡ Some x → (x ≡ unset → ⊥) → m ≡ n → ⊥ =
    λ m x q d e. (let z : Some x ≡ Some unset = sym q ∙ ap (state_of c) e ∙ was in d cc) in
    IsLevelled-kept c (changed c n v) s
    (record {
      falls = Falls-lowered c n v b;
      values = λ m u t p q. (let old : state_of c m ≡ Some (known t) = sym (state_of-lowered c n v b m) ∙ p in
          let d = other m (known t) old (λ z. cc) in
          inl (old, sym (universe_of-lowered_other c n v b m d) ∙ q));
      links = λ m k u p q. (let old : state_of c m ≡ Some (link k) = sym (state_of-lowered c n v b m) ∙ p in
          let d = other m (link k) old (λ z. cc) in
          inl (old, sym (universe_of-lowered_other c n v b m d) ∙ q));
    }) h

-- a variable gets another sub-unification class
pub IsLevelled-sub_linked : (c : Content) (n : ℕ) (v : Slot) (b : Lowers c n v) → v.universe ≡ b.old.universe → IsSound c → IsLevelled c → IsLevelled (changed c n v)
IsLevelled-sub_linked c n v b e s h =
    let universes : (m : ℕ) → universe_of (changed c n v) m ≡ universe_of c m = λ m. field-changed_kept (λ x. x.universe) c n m b.old v b.was e in
    IsLevelled-kept c (changed c n v) s
    (record {
      falls = Falls-lowered c n v b;
      values = λ m u t p q. inl (sym (state_of-lowered c n v b m) ∙ p, sym (universes m) ∙ q);
      links = λ m k u p q. inl (sym (state_of-lowered c n v b m) ∙ p, sym (universes m) ∙ q);
    }) h

-- a variable gets a value that its universe names
pub IsLevelled-known : (c : Content) (n : ℕ) (v : Slot) (t : Tree) (b : IsKnowable c n v t) → v.universe ≡ b.binds.old.universe → NamesAll (level_in c) v.universe t → IsSound c → IsLevelled c → IsLevelled (bound_to c n v)
IsLevelled-known c n v t b e names s h =
    let here : state_of (bound_to c n v) n ≡ Some (known t) = state_of-set_same c n v b.binds ∙ ap Some b.is in
    let universe : universe_of (bound_to c n v) n ≡ Some v.universe =
    universe_of-set c n v b.binds e n ∙ some_slot (λ x. x.universe) c n b.binds.old b.binds.was ∙ ap Some (sym e) in
    IsLevelled-kept c (bound_to c n v) s
    (record {
      falls = Falls-bound_to c n v b.binds e;
      values = λ m u r p q. ⊎_elim
          (λ (f : m ≡ n).
          let z : Some (known t) ≡ Some (known r) = sym here ∙ ap (state_of (bound_to c n v)) (sym f) ∙ p in
          let same : t ≡ r = cc in
          let y : Some v.universe ≡ Some u = sym universe ∙ ap (universe_of (bound_to c n v)) (sym f) ∙ q in
          let level : v.universe ≡ u = cc in
          inr (rw (← same) b.knows, rw (← same, ← level) names))
          (λ (d : m ≡ n → ⊥). inl (sym (state_of-set_other c n v b.binds m d) ∙ p, sym (universe_of-set c n v b.binds e m) ∙ q)) (same_or_other m n);
      links = λ m k u p q. ⊎_elim
          (λ (f : m ≡ n). let z : Some (known t) ≡ Some (link k) = sym here ∙ ap (state_of (bound_to c n v)) (sym f) ∙ p in cc)
          (λ (d : m ≡ n → ⊥). inl (sym (state_of-set_other c n v b.binds m d) ∙ p, sym (universe_of-set c n v b.binds e m) ∙ q)) (same_or_other m n);
    }) h

-- a variable becomes one with a variable that its universe names
pub KeepsLevels-link : (c : Content) (n : ℕ) (v : Slot) (m : ℕ) (b : IsLinkable c n v m) → v.universe ≡ b.binds.old.universe → CanName v.universe (universe_of c m) → KeepsLevels c (changed c n v)
KeepsLevels-link c n v m b e names =
    let here : state_of (changed c n v) n ≡ Some (link m) = state_of-set_same c n v b.binds ∙ ap Some b.is in
    let universe : universe_of (changed c n v) n ≡ Some v.universe =
    universe_of-set c n v b.binds e n ∙ some_slot (λ x. x.universe) c n b.binds.old b.binds.was ∙ ap Some (sym e) in
    record {
      falls = Falls-set c n v b.binds e;
      values = λ k u r p q. ⊎_elim
          (λ (f : k ≡ n). let z : Some (link m) ≡ Some (known r) = sym here ∙ ap (state_of (changed c n v)) (sym f) ∙ p in cc)
          (λ (d : k ≡ n → ⊥). inl (sym (state_of-set_other c n v b.binds k d) ∙ p, sym (universe_of-set c n v b.binds e k) ∙ q)) (same_or_other k n);
      links = λ k j u p q. ⊎_elim
          (λ (f : k ≡ n).
          let z : Some (link m) ≡ Some (link j) = sym here ∙ ap (state_of (changed c n v)) (sym f) ∙ p in
          let same : m ≡ j = cc in
          let y : Some v.universe ≡ Some u = sym universe ∙ ap (universe_of (changed c n v)) (sym f) ∙ q in
          let level : v.universe ≡ u = cc in
          let below : m < length c.slots = field_below (λ x. x.state) c m unset b.free in
          inr (rw (← same) below, rw (← same, ← level) names))
          (λ (d : k ≡ n → ⊥). inl (sym (state_of-set_other c n v b.binds k d) ∙ p, sym (universe_of-set c n v b.binds e k) ∙ q)) (same_or_other k n);
    }

pub IsLevelled-region_link : (c : Content) (n : ℕ) (v : Slot) (m : ℕ) (b : IsLinkable c n v m) → v.universe ≡ b.binds.old.universe → CanName v.universe (universe_of c m) → IsSound c → IsLevelled c → IsLevelled (changed c n v)
IsLevelled-region_link c n v m b e names s h = IsLevelled-kept c (changed c n v) s (KeepsLevels-link c n v m b e names) h

pub IsLevelled-link : (c : Content) (n : ℕ) (v : Slot) (m : ℕ) (b : IsLinkable c n v m) → v.universe ≡ b.binds.old.universe → CanName v.universe (universe_of c m) → IsSound c → IsLevelled c → IsLevelled (bound_to c n v)
IsLevelled-link c n v m b e names s h =
    let k = KeepsLevels-link c n v m b e names in
    IsLevelled-kept c (bound_to c n v) s (record { falls = Falls-bound_to c n v b.binds e; values = k.values; links = k.links }) h

-- regions in values
module _ (c d : Content) where
  pub AreRegionsLevelled-kept : ((n u : ℕ) (t : Tree) → state_of d n ≡ Some (known t) → universe_of d n ≡ Some u → ((state_of c n ≡ Some (known t)) × (universe_of c n ≡ Some u)) ⊎ NamesAll region_level u t) → AreRegionsLevelled c → AreRegionsLevelled d
  AreRegionsLevelled-kept k h = record { regions = λ n u t p q. ⊎_elim (λ e. h.regions n u t e.0 e.1) (λ e. e) (k n u t p q) }

pub AreRegionsLevelled-with_slot : (c : Content) (v : Slot) → v.state ≡ unset → IsSound c → AreRegionsLevelled c → AreRegionsLevelled (with_slot c v)
AreRegionsLevelled-with_slot c v free s h =
    AreRegionsLevelled-kept c (with_slot c v)
    (λ n u t p q. (let d : n ≡ length c.slots → ⊥ = λ e. (let z : Some (known t) ≡ Some unset = sym p ∙ ap (state_of (with_slot c v)) e ∙ state_of-with_slot_new c v s free in cc) in
    inl (sym (field-with_slot_old (λ x. x.state) c v n d) ∙ p, sym (field-with_slot_old (λ x. x.universe) c v n d) ∙ q))) h

pub AreRegionsLevelled-with_constraint : (c : Content) (x : Recorded) → AreRegionsLevelled c → AreRegionsLevelled (with_constraint c x)
AreRegionsLevelled-with_constraint c x h = record { regions = h.regions }

pub AreRegionsLevelled-in_universe : (c : Content) (u : ℕ) → AreRegionsLevelled c → AreRegionsLevelled (in_universe c u)
AreRegionsLevelled-in_universe c u h = record { regions = h.regions }

pub AreRegionsLevelled-lowered : (c : Content) (n : ℕ) (v : Slot) (b : Lowers c n v) → v.state ≡ unset → AreRegionsLevelled c → AreRegionsLevelled (changed c n v)
AreRegionsLevelled-lowered c n v b free h =
    let was : state_of c n ≡ Some unset = some_slot (λ x. x.state) c n b.old b.was ∙ ap Some (sym b.same_state ∙ free) in
    AreRegionsLevelled-kept c (changed c n v)
    (λ m u t p q. (let old : state_of c m ≡ Some (known t) = sym (state_of-lowered c n v b m) ∙ p in
    let d : m ≡ n → ⊥ = λ e. (let z : Some (known t) ≡ Some unset = sym old ∙ ap (state_of c) e ∙ was in cc) in
    inl (old, sym (universe_of-lowered_other c n v b m d) ∙ q))) h

pub AreRegionsLevelled-known : (c : Content) (n : ℕ) (v : Slot) (t : Tree) (b : IsKnowable c n v t) → v.universe ≡ b.binds.old.universe → NamesAll region_level v.universe t → AreRegionsLevelled c → AreRegionsLevelled (bound_to c n v)
AreRegionsLevelled-known c n v t b e names h =
    let here : state_of (bound_to c n v) n ≡ Some (known t) = state_of-set_same c n v b.binds ∙ ap Some b.is in
    let universe : universe_of (bound_to c n v) n ≡ Some v.universe =
    universe_of-set c n v b.binds e n ∙ some_slot (λ x. x.universe) c n b.binds.old b.binds.was ∙ ap Some (sym e) in
    AreRegionsLevelled-kept c (bound_to c n v)
    (λ m u r p q. ⊎_elim
    (λ (f : m ≡ n).
    let z : Some (known t) ≡ Some (known r) = sym here ∙ ap (state_of (bound_to c n v)) (sym f) ∙ p in
    let same : t ≡ r = cc in
    let y : Some v.universe ≡ Some u = sym universe ∙ ap (universe_of (bound_to c n v)) (sym f) ∙ q in
    let level : v.universe ≡ u = cc in
    inr (rw (← same, ← level) names))
    (λ (d : m ≡ n → ⊥). inl (sym (state_of-set_other c n v b.binds m d) ∙ p, sym (universe_of-set c n v b.binds e m) ∙ q)) (same_or_other m n)) h

pub AreRegionsLevelled-region_link : (c : Content) (n : ℕ) (v : Slot) (m : ℕ) (b : IsLinkable c n v m) → v.universe ≡ b.binds.old.universe → AreRegionsLevelled c → AreRegionsLevelled (changed c n v)
AreRegionsLevelled-region_link c n v m b e h =
    let here : state_of (changed c n v) n ≡ Some (link m) = state_of-set_same c n v b.binds ∙ ap Some b.is in
    AreRegionsLevelled-kept c (changed c n v)
    (λ k u r p q. ⊎_elim
    (λ (f : k ≡ n). let z : Some (link m) ≡ Some (known r) = sym here ∙ ap (state_of (changed c n v)) (sym f) ∙ p in cc)
    (λ (d : k ≡ n → ⊥). inl (sym (state_of-set_other c n v b.binds k d) ∙ p, sym (universe_of-set c n v b.binds e k) ∙ q)) (same_or_other k n)) h

pub AreRegionsLevelled-link : (c : Content) (n : ℕ) (v : Slot) (m : ℕ) (b : IsLinkable c n v m) → v.universe ≡ b.binds.old.universe → AreRegionsLevelled c → AreRegionsLevelled (bound_to c n v)
AreRegionsLevelled-link c n v m b e h = record { regions = (AreRegionsLevelled-region_link c n v m b e h).regions }

-- each variable is of a universe of the table: where one is added, or comes down
pub AreCurrent-with_slot : (c : Content) (v : Slot) → v.universe ≤ c.universe → AreCurrent c → AreCurrent (with_slot c v)
AreCurrent-with_slot c v low h = record {
  universes = λ n u q. ⊎_elim
      (λ (e : n ≡ length c.slots). let z : Some v.universe ≡ Some u = sym (field-with_slot_new (λ x. x.universe) c v) ∙ ap (universe_of (with_slot c v)) (sym e) ∙ q in
      let same : v.universe ≡ u = cc in rw (← same) low)
      (λ (d : n ≡ length c.slots → ⊥). h.universes n u (sym (field-with_slot_old (λ x. x.universe) c v n d) ∙ q)) (same_or_other n (length c.slots));
}

pub AreCurrent-changed : (c : Content) (n : ℕ) (old v : Slot) → slice_get c.slots n ≡ Some old → v.universe ≤ old.universe → AreCurrent c → AreCurrent (changed c n v)
AreCurrent-changed c n old v was low h = record {
  universes = λ m u q. ⊎_elim
      (λ (e : m ≡ n). let z : Some v.universe ≡ Some u = sym (field-changed_same (λ x. x.universe) c n v (slice_get_below c.slots n old was)) ∙ ap (universe_of (changed c n v)) (sym e) ∙ q in
      let same : v.universe ≡ u = cc in let below = h.universes n old.universe (some_slot (λ x. x.universe) c n old was) in omega (arith, low, below, same))
      (λ (d : m ≡ n → ⊥). h.universes m u (sym (field-changed_other (λ x. x.universe) c n m v d) ∙ q)) (same_or_other m n);
}

pub AreCurrent-in_universe : (c : Content) (u : ℕ) → c.universe ≤ u → AreCurrent c → AreCurrent (in_universe c u)
AreCurrent-in_universe c u low h = record { universes = λ n v q. (let below = h.universes n v q in omega (arith, low, below)) }
