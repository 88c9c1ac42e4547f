-- Which worlds solve a table before and after a change.
use Rattle.std.proofs.Common.{◌≡◌, ◌⊎◌, inl, inr, ⊎_elim, ℕ, ◌<◌, ◌≤◌, length, Option, Some, None, refl, sym, ap, ◌∙◌, arith}
use Rattle.std.specs.Prelude.{slice_get}
use Rattle.nts_model.specs.declared.labels.Label.{Label}
use Rattle.nts_model.specs.Terms.Trees.{Tree, empty, more, node}
use Rattle.nts_model.specs.Tables.Contents.{Content, Slot, SlotState, unset, link, known, Recorded, state_of, universe_of, kind_at, with_slot, changed, bound_to, with_constraint, in_universe}
use Rattle.nts_model.specs.Tables.Resolving.{IsSound}
use Rattle.nts_model.specs.Tables.Levels.{NamesAll, IfNamesAll, term_level}
use Rattle.nts_model.specs.Tables.Worlds.{World, inst, SolvesState, IsMet, IsNameable, IsValue, IsFitting, Solves, Agrees, with_tree, KnowsAll}
use Rattle.nts_model.proofs.Tables.Under.{same_or_other}
use Rattle.nts_model.proofs.Tables.Slots.{CanName-more, no_slot, some_slot, slice_get_length, slice_get_below, field_below, field-changed_same, field-changed_other, field-changed_kept, field-with_slot_new, field-with_slot_old}
use Rattle.nts_model.proofs.Tables.Binding.{Binds, Binds-unset, IsKnowable, IsLinkable, state_of-set_same, state_of-set_other}
use Rattle.nts_model.proofs.Tables.Instances.{inst-agrees, Agrees-with_tree, AreMet-agrees, AreMet-push, AreMet-front, tree-with_tree}

-- levels
pub NamesAll-more : (f : Label → Option ℕ) (a b : ℕ) (t : Tree) → a ≤ b → NamesAll f a t → NamesAll f b t
NamesAll-more f a b empty l h = tt
NamesAll-more f a b (more s t) l h = (NamesAll-more f a b s l h.0, NamesAll-more f a b t l h.1)
NamesAll-more f a b (node m t) l h = (CanName-more a b (f m) l h.0, NamesAll-more f a b t l h.1)

-- the lower one of two universes that name a tree
pub NamesAll-either : (f : Label → Option ℕ) (a b u : ℕ) (t : Tree) → (u ≡ a) ⊎ (u ≡ b) → NamesAll f a t → NamesAll f b t → NamesAll f u t
NamesAll-either f a b u t (inl e) h k = rw e h
NamesAll-either f a b u t (inr e) h k = rw e k

-- a constraint
pub Solves-with_constraint : (c : Content) (x : Recorded) (w : World) → Solves c w → IsMet w x → Solves (with_constraint c x) w
Solves-with_constraint c x w s h =
    record { values = s.values; constraints = AreMet-push w c.constraints x s.constraints h; nameable = record { each = s.nameable.each }; fitting = record { each = s.fitting.each } }

pub Solves-from_with_constraint : (c : Content) (x : Recorded) (w : World) → Solves (with_constraint c x) w → Solves c w × IsMet w x
Solves-from_with_constraint c x w s =
    let h = AreMet-front w c.constraints x s.constraints in
    (record { values = s.values; constraints = h.0; nameable = record { each = s.nameable.each }; fitting = record { each = s.fitting.each } }, h.1)

-- a move to another universe
pub Solves-in_universe : (c : Content) (u : ℕ) (w : World) → Solves c w → Solves (in_universe c u) w
Solves-in_universe c u w s = record { values = s.values; constraints = s.constraints; nameable = record { each = s.nameable.each }; fitting = record { each = s.fitting.each } }

pub Solves-from_in_universe : (c : Content) (u : ℕ) (w : World) → Solves (in_universe c u) w → Solves c w
Solves-from_in_universe c u w s = record { values = s.values; constraints = s.constraints; nameable = record { each = s.nameable.each }; fitting = record { each = s.fitting.each } }

-- an unset variable that gets a value or a link
module _ (c : Content) (n : ℕ) (v : Slot) (b : Binds c n v) (same_universe : v.universe ≡ b.old.universe) where
  pub universe_of-set : (m : ℕ) → universe_of (changed c n v) m ≡ universe_of c m
  universe_of-set m = field-changed_kept (λ x. x.universe) c n m b.old v b.was same_universe

  pub IsNameable-set : (f : Label → Option ℕ) (w : World) → IsNameable f c w → IsNameable f (changed c n v) w
  IsNameable-set f w h = record { each = λ m. rw (universe_of-set m) (h.each m) }

  pub IsNameable-from_set : (f : Label → Option ℕ) (w : World) → IsNameable f (changed c n v) w → IsNameable f c w
  IsNameable-from_set f w h = record { each = λ m. (let e = universe_of-set m in rw e at (h.each m)) }

  kind_of-set : (m : ℕ) → kind_at (changed c n v) m ≡ kind_at c m
  kind_of-set m = field-changed_kept (λ x. x.kind) c n m b.old v b.was b.same_kind

  pub Solves-set : (w : World) → Solves c w → SolvesState w n (Some v.state) → Solves (changed c n v) w
  Solves-set w s h =
      record {
        values = λ m. ⊎_elim
            (λ (e : m ≡ n). rw (e, state_of-set_same c n v b) h)
            (λ (d : m ≡ n → ⊥). rw (state_of-set_other c n v b m d) (s.values m)) (same_or_other m n);
        constraints = s.constraints;
        nameable = IsNameable-set term_level w s.nameable;
        fitting = record { each = λ m k e. s.fitting.each m k (sym (kind_of-set m) ∙ e) };
      }

  pub Solves-from_set : (w : World) → Solves (changed c n v) w → Solves c w × SolvesState w n (Some v.state)
  Solves-from_set w s = (
    record {
      values = λ m. ⊎_elim
          (λ (e : m ≡ n). rw (e, Binds-unset c n v b) tt)
          (λ (d : m ≡ n → ⊥). (let q = state_of-set_other c n v b m d in rw q at (s.values m))) (same_or_other m n);
      constraints = s.constraints;
      nameable = IsNameable-from_set term_level w s.nameable;
      fitting = record { each = λ m k e. s.fitting.each m k (kind_of-set m ∙ e) };
    },
    (let q = state_of-set_same c n v b in rw q at (s.values n)),
  )

  -- the same where the order of binding grows
  pub Solves-bound_to : (w : World) → Solves c w → SolvesState w n (Some v.state) → Solves (bound_to c n v) w
  Solves-bound_to w s h =
      let z = Solves-set w s h in
      record { values = z.values; constraints = z.constraints; nameable = record { each = z.nameable.each }; fitting = record { each = z.fitting.each } }

  pub Solves-from_bound_to : (w : World) → Solves (bound_to c n v) w → Solves c w × SolvesState w n (Some v.state)
  Solves-from_bound_to w s =
      Solves-from_set w (record { values = s.values; constraints = s.constraints; nameable = record { each = s.nameable.each }; fitting = record { each = s.fitting.each } })

-- .. a value
pub Solves-known : (c : Content) (n : ℕ) (v : Slot) (t : Tree) (b : IsKnowable c n v t) → v.universe ≡ b.binds.old.universe → (w : World) → Solves c w → w.tree n ≡ inst w t → Solves (bound_to c n v) w
Solves-known c n v t b u w s e = Solves-bound_to c n v b.binds u w s (rw (b.is) e)

pub Solves-from_known : (c : Content) (n : ℕ) (v : Slot) (t : Tree) (b : IsKnowable c n v t) → v.universe ≡ b.binds.old.universe → (w : World) → Solves (bound_to c n v) w → Solves c w × (w.tree n ≡ inst w t)
Solves-from_known c n v t b u w s =
    let z = Solves-from_bound_to c n v b.binds u w s in
    let q = b.is in (z.0, rw q at z.1)

-- .. a link
pub Solves-link : (c : Content) (n : ℕ) (v : Slot) (m : ℕ) (b : IsLinkable c n v m) → v.universe ≡ b.binds.old.universe → (w : World) → Solves c w → w.tree n ≡ w.tree m → Solves (bound_to c n v) w
Solves-link c n v m b u w s e = Solves-bound_to c n v b.binds u w s (rw (b.is) e)

pub Solves-from_link : (c : Content) (n : ℕ) (v : Slot) (m : ℕ) (b : IsLinkable c n v m) → v.universe ≡ b.binds.old.universe → (w : World) → Solves (bound_to c n v) w → Solves c w × (w.tree n ≡ w.tree m)
Solves-from_link c n v m b u w s =
    let z = Solves-from_bound_to c n v b.binds u w s in
    let q = b.is in (z.0, rw q at z.1)

-- .. a link of region variables
pub Solves-region_link : (c : Content) (n : ℕ) (v : Slot) (m : ℕ) (b : IsLinkable c n v m) → v.universe ≡ b.binds.old.universe → (w : World) → Solves c w → w.tree n ≡ w.tree m → Solves (changed c n v) w
Solves-region_link c n v m b u w s e = Solves-set c n v b.binds u w s (rw (b.is) e)

pub Solves-from_region_link : (c : Content) (n : ℕ) (v : Slot) (m : ℕ) (b : IsLinkable c n v m) → v.universe ≡ b.binds.old.universe → (w : World) → Solves (changed c n v) w → Solves c w × (w.tree n ≡ w.tree m)
Solves-from_region_link c n v m b u w s =
    let z = Solves-from_set c n v b.binds u w s in
    let q = b.is in (z.0, rw q at z.1)

-- the variable n of the table gets a lower universe, or another sub-unification class
pub record Lowers (c : Content) (n : ℕ) (v : Slot) : Type 0 where
  pub old : Slot
  pub was : slice_get c.slots n ≡ Some old
  pub same_kind : v.kind ≡ old.kind
  pub same_state : v.state ≡ old.state
  pub lower : v.universe ≤ old.universe

module _ (c : Content) (n : ℕ) (v : Slot) (b : Lowers c n v) where
  pub state_of-lowered : (m : ℕ) → state_of (changed c n v) m ≡ state_of c m
  state_of-lowered m = field-changed_kept (λ x. x.state) c n m b.old v b.was b.same_state

  pub kind_at-lowered : (m : ℕ) → kind_at (changed c n v) m ≡ kind_at c m
  kind_at-lowered m = field-changed_kept (λ x. x.kind) c n m b.old v b.was b.same_kind

  pub universe_of-lowered_same : universe_of (changed c n v) n ≡ Some v.universe
  universe_of-lowered_same = field-changed_same (λ x. x.universe) c n v (slice_get_below c.slots n b.old b.was)

  pub universe_of-lowered_other : (m : ℕ) → (m ≡ n → ⊥) → universe_of (changed c n v) m ≡ universe_of c m
  universe_of-lowered_other m d = field-changed_other (λ x. x.universe) c n m v d

  universe_of-old : universe_of c n ≡ Some b.old.universe
  universe_of-old = some_slot (λ x. x.universe) c n b.old b.was

  pub IsNameable-lowered : (f : Label → Option ℕ) (w : World) → IsNameable f c w → NamesAll f v.universe (w.tree n) → IsNameable f (changed c n v) w
  IsNameable-lowered f w h k = record {
    each = λ m. ⊎_elim
        (λ (e : m ≡ n). rw (e, universe_of-lowered_same) k)
        (λ (d : m ≡ n → ⊥). rw (universe_of-lowered_other m d) (h.each m)) (same_or_other m n);
  }

  pub IsNameable-from_lowered : (f : Label → Option ℕ) (w : World) → IsNameable f (changed c n v) w → IsNameable f c w × NamesAll f v.universe (w.tree n)
  IsNameable-from_lowered f w h =
      let q = universe_of-lowered_same in
      let low : NamesAll f v.universe (w.tree n) = rw q at (h.each n) in (
        record {
          each = λ m. ⊎_elim
              (λ (e : m ≡ n). rw (e, universe_of-old) (NamesAll-more f v.universe b.old.universe (w.tree n) b.lower low))
              (λ (d : m ≡ n → ⊥). (let p = universe_of-lowered_other m d in rw p at (h.each m))) (same_or_other m n);
        },
        low,
      )

  pub Solves-lowered : (w : World) → Solves c w → NamesAll term_level v.universe (w.tree n) → Solves (changed c n v) w
  Solves-lowered w s h =
      record {
        values = λ m. rw (state_of-lowered m) (s.values m);
        constraints = s.constraints;
        nameable = IsNameable-lowered term_level w s.nameable h;
        fitting = record { each = λ m k e. s.fitting.each m k (sym (kind_at-lowered m) ∙ e) };
      }

  pub Solves-from_lowered : (w : World) → Solves (changed c n v) w → Solves c w × NamesAll term_level v.universe (w.tree n)
  Solves-from_lowered w s =
      let names = IsNameable-from_lowered term_level w s.nameable in (
        record {
          values = λ m. (let q = state_of-lowered m in rw q at (s.values m));
          constraints = s.constraints;
          nameable = names.0;
          fitting = record { each = λ m k e. s.fitting.each m k (kind_at-lowered m ∙ e) };
        },
        names.1,
      )

-- a new variable
module _ (c : Content) (v : Slot) (free : v.state ≡ unset) where
  state_of-grown : (m : ℕ) → (m ≡ length c.slots → ⊥) → state_of (with_slot c v) m ≡ state_of c m
  state_of-grown m d = field-with_slot_old (λ x. x.state) c v m d

  universe_of-grown : (m : ℕ) → (m ≡ length c.slots → ⊥) → universe_of (with_slot c v) m ≡ universe_of c m
  universe_of-grown m d = field-with_slot_old (λ x. x.universe) c v m d

  pub universe_of-with_slot_new : universe_of (with_slot c v) (length c.slots) ≡ Some v.universe
  universe_of-with_slot_new = field-with_slot_new (λ x. x.universe) c v

  state_of-new : state_of (with_slot c v) (length c.slots) ≡ Some unset
  state_of-new = field-with_slot_new (λ x. x.state) c v ∙ ap Some free

  no_state : state_of c (length c.slots) ≡ None
  no_state = no_slot (λ x. x.state) c (length c.slots) (slice_get_length c.slots)

  no_universe : universe_of c (length c.slots) ≡ None
  no_universe = no_slot (λ x. x.universe) c (length c.slots) (slice_get_length c.slots)

  pub IsNameable-with_slot : (f : Label → Option ℕ) (w : World) → IsNameable f c w → NamesAll f v.universe (w.tree (length c.slots)) → IsNameable f (with_slot c v) w
  IsNameable-with_slot f w h k = record {
    each = λ m. ⊎_elim
        (λ (e : m ≡ length c.slots). rw (e, universe_of-with_slot_new) k)
        (λ (d : m ≡ length c.slots → ⊥). rw (universe_of-grown m d) (h.each m)) (same_or_other m (length c.slots));
  }

  pub IsNameable-from_with_slot : (f : Label → Option ℕ) (w : World) → IsNameable f (with_slot c v) w → IsNameable f c w
  IsNameable-from_with_slot f w h = record {
    each = λ m. ⊎_elim
        (λ (e : m ≡ length c.slots). rw (e, no_universe) tt)
        (λ (d : m ≡ length c.slots → ⊥). (let p = universe_of-grown m d in rw p at (h.each m))) (same_or_other m (length c.slots));
  }

  kind_at-grown : (m : ℕ) → (m ≡ length c.slots → ⊥) → kind_at (with_slot c v) m ≡ kind_at c m
  kind_at-grown m d = field-with_slot_old (λ x. x.kind) c v m d

  kind_at-new : kind_at (with_slot c v) (length c.slots) ≡ Some v.kind
  kind_at-new = field-with_slot_new (λ x. x.kind) c v

  pub IsFitting-with_slot : (w : World) → IsFitting c w → IsValue v.kind (w.tree (length c.slots)) → IsFitting (with_slot c v) w
  IsFitting-with_slot w h new = record {
    each = λ m k e. ⊎_elim
        (λ (q : m ≡ length c.slots).
        let z : Some v.kind ≡ Some k = sym kind_at-new ∙ ap (kind_at (with_slot c v)) (sym q) ∙ e in
        let same : v.kind ≡ k = cc in rw (q, ← same) new)
        (λ (d : m ≡ length c.slots → ⊥). h.each m k (sym (kind_at-grown m d) ∙ e)) (same_or_other m (length c.slots));
  }

  pub IsFitting-from_with_slot : (w : World) → IsFitting (with_slot c v) w → IsFitting c w
  IsFitting-from_with_slot w h = record {
    each = λ m k e. (let below : m < length c.slots = field_below (λ x. x.kind) c m k e in
        h.each m k (kind_at-grown m (λ q. omega (arith, q, below)) ∙ e));
  }

  pub Solves-from_with_slot : (w : World) → Solves (with_slot c v) w → Solves c w
  Solves-from_with_slot w s =
      record {
        values = λ m. ⊎_elim
            (λ (e : m ≡ length c.slots). rw (e, no_state) tt)
            (λ (d : m ≡ length c.slots → ⊥). (let p = state_of-grown m d in rw p at (s.values m))) (same_or_other m (length c.slots));
        constraints = s.constraints;
        nameable = IsNameable-from_with_slot term_level w s.nameable;
        fitting = IsFitting-from_with_slot w s.fitting;
      }

  pub Solves-with_slot_same : (w : World) → Solves c w → NamesAll term_level v.universe (w.tree (length c.slots)) → IsValue v.kind (w.tree (length c.slots)) → Solves (with_slot c v) w
  Solves-with_slot_same w s h new =
      record {
        values = λ m. ⊎_elim
            (λ (e : m ≡ length c.slots). rw (e, state_of-new) tt)
            (λ (d : m ≡ length c.slots → ⊥). rw (state_of-grown m d) (s.values m)) (same_or_other m (length c.slots));
        constraints = s.constraints;
        nameable = IsNameable-with_slot term_level w s.nameable h;
        fitting = IsFitting-with_slot w s.fitting new;
      }

SolvesState-agrees : (c : Content) (w v : World) (n : ℕ) (o : Option SlotState) → IsSound c → Agrees (length c.slots) w v → state_of c n ≡ o → SolvesState w n o → SolvesState v n o
SolvesState-agrees c w v n None s a e h = tt
SolvesState-agrees c w v n (Some unset) s a e h = tt
SolvesState-agrees c w v n (Some (link m)) s a e h =
    let here : n < length c.slots = field_below (λ x. x.state) c n (link m) e in
    let lower = s.descends n m e in
    let there : m < length c.slots = omega (arith, here, lower) in
    a.trees n here ∙ h ∙ sym (a.trees m there)
SolvesState-agrees c w v n (Some (known t)) s a e h =
    let here : n < length c.slots = field_below (λ x. x.state) c n (known t) e in
    a.trees n here ∙ h ∙ sym (inst-agrees c w v t a (s.known_trees n t e))

IfNamesAll-agrees : (f : Label → Option ℕ) (c : Content) (w v : World) (n : ℕ) (o : Option ℕ) → Agrees (length c.slots) w v → universe_of c n ≡ o → IfNamesAll f o (w.tree n) → IfNamesAll f o (v.tree n)
IfNamesAll-agrees f c w v n None a e h = tt
IfNamesAll-agrees f c w v n (Some u) a e h = rw (a.trees n (field_below (λ x. x.universe) c n u e)) h

pub IsNameable-agrees : (f : Label → Option ℕ) (c : Content) (w v : World) → Agrees (length c.slots) w v → IsNameable f c w → IsNameable f c v
IsNameable-agrees f c w v a h = record { each = λ n. IfNamesAll-agrees f c w v n (universe_of c n) a refl (h.each n) }

IsFitting-agrees : (c : Content) (w v : World) → Agrees (length c.slots) w v → IsFitting c w → IsFitting c v
IsFitting-agrees c w v a h = record { each = λ n k e. (let below : n < length c.slots = field_below (λ x. x.kind) c n k e in rw (a.trees n below) (h.each n k e)) }

pub Solves-agrees : (c : Content) (w v : World) → IsSound c → KnowsAll c c.constraints → Agrees (length c.slots) w v → Solves c w → Solves c v
Solves-agrees c w v s k a h =
    record {
      values = λ n. SolvesState-agrees c w v n (state_of c n) s a refl (h.values n);
      constraints = AreMet-agrees c w v c.constraints a k h.constraints;
      nameable = IsNameable-agrees term_level c w v a h.nameable;
      fitting = IsFitting-agrees c w v a h.fitting;
    }

-- a new variable may stand for each closed tree of its kind that its universe names
pub Solves-with_slot : (c : Content) (v : Slot) → v.state ≡ unset → IsSound c → KnowsAll c c.constraints → (w : World) (t : Tree) → Solves c w → NamesAll term_level v.universe t → IsValue v.kind t → Solves (with_slot c v) (with_tree w (length c.slots) t)
Solves-with_slot c v free s k w t h names new =
    Solves-with_slot_same c v free (with_tree w (length c.slots) t)
    (Solves-agrees c w (with_tree w (length c.slots) t) s k (Agrees-with_tree (length c.slots) (length c.slots) w t (omega arith)) h)
    (rw (tree-with_tree w (length c.slots) t) names) (rw (tree-with_tree w (length c.slots) t) new)
