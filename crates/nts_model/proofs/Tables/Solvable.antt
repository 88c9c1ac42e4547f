-- A table that is kept solvable has a solution: its own reading. What keeps it solvable.
use Rattle.std.proofs.Common.{◌≡◌, ◌⊎◌, inl, inr, ⊎_elim, ℕ, List, [], ◌∷◌, ◌++◌, length, Option, Some, None, refl, sym, ap, ◌∙◌, arith, ◌≤◌}
use Rattle.std.specs.Prelude.{slice_get, reverse}
use Rattle.nts_model.specs.declared.labels.VariableKind.{VariableKind}
use Rattle.nts_model.specs.declared.labels.VariableKind.TheVariants as kind
use Rattle.nts_model.specs.Terms.Trees.{Tree, IsClosed, variable_tree}
use Rattle.nts_model.specs.Tables.Contents.{Content, Slot, SlotState, unset, link, known, Recorded, map_slot, state_of, universe_of, kind_at, with_slot, changed, bound_to, with_constraint, in_universe}
use Rattle.nts_model.specs.Tables.Resolving.{value_of_state, value_at, resolved, IsOneOf, Knows, IsSound}
use Rattle.nts_model.specs.Terms.Placeholders.{CanName}
use Rattle.nts_model.specs.Tables.Levels.{NamesAll, level_in, IsLevelled}
use Rattle.nts_model.specs.Terms.Regions.{of_variable}
use Rattle.nts_model.specs.Terms.Fitting.{Fits}
use Rattle.nts_model.specs.Tables.Worlds.{World, inst, IsValue, IsFitting, Solves, KnowsAll}
use Rattle.nts_model.specs.Tables.RegionClasses.{plain_tree, plain, reading, AreRegions, AllRegions}
use Rattle.nts_model.specs.Tables.Solvable.{IsSolvable}
use Rattle.nts_model.specs.Derivations.Proving.{HoldsTerms}
use Rattle.nts_model.proofs.Tables.ResolvedTerms.{IsFormed-resolved}
use Rattle.nts_model.proofs.Tables.Under.{none-one, same_or_other}
use Rattle.nts_model.proofs.Tables.Slots.{some_slot, field_below, field-with_slot_old, KeepsKinds, KeepsKinds-with_slot, KeepsKinds-changed, Knows-kept}
use Rattle.nts_model.proofs.Tables.Sound.{state_of-with_slot_new}
use Rattle.nts_model.proofs.Tables.Binding.{Binds-kind, IsKnowable, IsLinkable, state_of-set_same, state_of-set_other, kind_at-set, KeepsKinds-set, KeepsKinds-bound}
use Rattle.nts_model.proofs.Tables.Open.{values_closed_of, Knows-resolved}
use Rattle.nts_model.proofs.Tables.Instances.{KnowsAll-push}
use Rattle.nts_model.proofs.Tables.Solving.{Lowers, state_of-lowered, kind_at-lowered}
use Rattle.nts_model.proofs.Tables.Levelled.{IsLevelled-with_slot, IsLevelled-with_constraint, IsLevelled-in_universe, IsLevelled-lowered, IsLevelled-sub_linked, IsLevelled-known, IsLevelled-link, IsLevelled-region_link}
use Rattle.nts_model.proofs.Tables.Readings.{classes, tree-reading, reading-values, reading-met, reading-names, AllOneClass-class_of, inst-reading}
use Rattle.nts_model.proofs.Tables.Fitting.{IsClosed-values, Fits-values, IsValue-variable, IsValue-region, IsValue-inst}

-- what variables were bound to
value-closed : (c : Content) (n : ℕ) → IsSolvable c → IsClosed (value_at c n)
value-closed c n h = by_slot (slice_get c.slots n) refl
  where
    by_state : (v : Slot) (o : SlotState) → slice_get c.slots n ≡ Some v → v.state ≡ o → IsClosed (value_of_state v.kind (Some o))
    by_state v unset e q = tt
    by_state v (link m) e q = (IsValue-variable v.kind m).closed
    by_state v (known t) e q = (h.values n t v.kind (some_slot (λ x. x.state) c n v e ∙ ap Some q) (some_slot (λ x. x.kind) c n v e)).closed

    by_slot : (o : Option Slot) → slice_get c.slots n ≡ o → IsClosed (value_at c n)
    by_slot None e = rw e tt
    by_slot (Some v) e = rw e (by_state v v.state e refl)

value-fits : (c : Content) (n : ℕ) (k : VariableKind) → IsSound c → IsSolvable c → IsOneOf n (reverse c.order) → kind_at c n ≡ Some k → Fits k (value_at c n)
value-fits c n k s h i e = by_state (state_of c n) refl
  where
    no_None : (o : Option Slot) → map_slot (λ x. x.kind) o ≡ Some k → map_slot (λ x. x.state) o ≡ None → ⊥
    no_None None a b = cc
    no_None (Some v) a b = cc

    by_state : (o : Option SlotState) → state_of c n ≡ o → Fits k (value_at c n)
    by_state None q = absurd (no_None (slice_get c.slots n) e q)
    by_state (Some unset) q = absurd (none-one n n (reverse c.order) (s.unbound n q) i refl)
    by_state (Some (link m)) q = rw (e, q) ((IsValue-variable k m).fits)
    by_state (Some (known t)) q = rw q ((h.values n t k q e).fits)

-- a known value is one of a variable of some kind
value_of_slot : (c : Content) (n : ℕ) (t : Tree) → IsSolvable c → state_of c n ≡ Some (known t) → (k : VariableKind) × IsValue k t
value_of_slot c n t h e = by_slot (slice_get c.slots n) refl
  where
    by_slot : (o : Option Slot) → slice_get c.slots n ≡ o → (k : VariableKind) × IsValue k t
    by_slot None q = absurd (let z : map_slot (λ x. x.state) None ≡ Some (known t) = ap (map_slot (λ x. x.state)) (sym q) ∙ e in cc z)
    by_slot (Some v) q = (v.kind, h.values n t v.kind e (ap (map_slot (λ x. x.kind)) q))

solvable_terms : (c : Content) → IsSolvable c → HoldsTerms c
solvable_terms c h =
    record {
      fitting = λ n t k e q. (h.values n t k e q).fits;
      closed = λ n t e. (let v = value_of_slot c n t h e in v.1.closed);
      formed = λ n t e. (let v = value_of_slot c n t h e in v.1.formed);
    }

-- a tree that a variable may stand for is one under the table's values
pub IsValue-resolved : (c : Content) (k : VariableKind) (t : Tree) → IsSound c → IsSolvable c → Knows c t → IsValue k t → IsValue k (resolved c t)
IsValue-resolved c k t s h p v =
    record {
      fits = Fits-values c (value_at c) (reverse c.order) k t (values_closed_of c s) (λ n j i e. value-fits c n j s h i e) p v.fits;
      closed = IsClosed-values (value_at c) (reverse c.order) 0 t (λ n i. value-closed c n h) v.closed;
      formed = IsFormed-resolved c t s (solvable_terms c h) p v.formed;
    }

-- the table's reading
plain-fitting : (c : Content) → IsFitting c (plain c (classes c))
plain-fitting c = record { each = λ n k e. rw e (by_kind n k) }
  where
    by_kind : (n : ℕ) (k : VariableKind) → IsValue k (plain_tree (classes c) k n)
    by_kind n kind.Ty = IsValue-variable kind.Ty n
    by_kind n kind.Int = IsValue-variable kind.Int n
    by_kind n kind.Float = IsValue-variable kind.Float n
    by_kind n kind.Const = IsValue-variable kind.Const n
    by_kind n kind.Region = IsValue-region (classes c (of_variable n))

reading-fitting : (c : Content) → IsSound c → IsSolvable c → IsFitting c (reading c)
reading-fitting c s h = record {
  each = λ n k e. (let x = variable_tree k n in
      let here : Knows c x = ((e, tt, refl), tt, tt) in
      rw (tree-reading c n k s e)
      (IsValue-inst c (plain c (classes c)) k (resolved c x) (plain-fitting c) (Knows-resolved c x s here) (IsValue-resolved c k x s h here (IsValue-variable k n))));
}

-- the table has a solution, up to the universes of regions
pub reading-solves : (c : Content) → IsSound c → IsSolvable c → Solves c (reading c)
reading-solves c s h =
    record {
      values = λ n. reading-values c n (state_of c n) s refl;
      constraints = reading-met c c.constraints s h.sides h.regions (AllOneClass-class_of c c.constraints);
      nameable = record { each = λ n. reading-names c n (universe_of c n) s h.levelled refl };
      fitting = reading-fitting c s h;
    }

-- a change that keeps kinds and constraints, and whose values are old ones or may be values
pub KnowsAll-kept : (c d : Content) (xs : List Recorded) → KeepsKinds c d → KnowsAll c xs → KnowsAll d xs
KnowsAll-kept c d [] k h = tt
KnowsAll-kept c d (x ∷ xs) k h = (Knows-kept c d x.left k h.0, Knows-kept c d x.right k h.1, KnowsAll-kept c d xs k h.2)

record KeepsValues (c d : Content) : Type 0 where
  kinds : KeepsKinds c d
  constraints : d.constraints ≡ c.constraints
  values : (n : ℕ) (t : Tree) (k : VariableKind) → state_of d n ≡ Some (known t) → kind_at d n ≡ Some k → ((state_of c n ≡ Some (known t)) × (kind_at c n ≡ Some k)) ⊎ IsValue k t

IsSolvable-kept : (c d : Content) → IsLevelled d → KeepsValues c d → IsSolvable c → IsSolvable d
IsSolvable-kept c d l k h =
    record {
      levelled = l;
      values = λ n t j p q. ⊎_elim (λ e. h.values n t j e.0 e.1) (λ v. v) (k.values n t j p q);
      sides = rw k.constraints (KnowsAll-kept c d c.constraints k.kinds h.sides);
      regions = rw k.constraints h.regions;
    }

-- a table without variables and constraints
pub IsSolvable-empty : (c : Content) → c.slots ≡ [] → c.constraints ≡ [] → IsSolvable c
IsSolvable-empty c e q =
    let none : (n : ℕ) (x : SlotState) → state_of c n ≡ Some x → ⊥ = λ n x h. (let b = field_below (λ y. y.state) c n x h in omega (arith, b, ap length e)) in
    record {
      levelled = record {
        values = λ n u t p r. absurd (none n (known t) p);
        links = λ n m u p r. absurd (none n (link m) p);
      };
      values = λ n t k p r. absurd (none n (known t) p);
      sides = rw q tt;
      regions = rw q tt;
    }

-- one more variable
pub IsSolvable-with_slot : (c : Content) (v : Slot) → v.state ≡ unset → IsSound c → IsSolvable c → IsSolvable (with_slot c v)
IsSolvable-with_slot c v free s h =
    IsSolvable-kept c (with_slot c v) (IsLevelled-with_slot c v free s h.levelled)
    (record {
      kinds = KeepsKinds-with_slot c v;
      constraints = refl;
      values = λ n t k p q.
          (let d : n ≡ length c.slots → ⊥ = λ e. (let z : Some (known t) ≡ Some unset = sym p ∙ ap (state_of (with_slot c v)) e ∙ state_of-with_slot_new c v s free in cc) in
          inl (sym (field-with_slot_old (λ x. x.state) c v n d) ∙ p, sym (field-with_slot_old (λ x. x.kind) c v n d) ∙ q));
    }) h

-- one more constraint; the sides of an equality are regions
AllRegions-push : (xs : List Recorded) (x : Recorded) → AllRegions xs → AreRegions x.relation x.left x.right → AllRegions (xs ++ x ∷ [])
AllRegions-push [] x h k = (k, tt)
AllRegions-push (y ∷ xs) x h k = (h.0, AllRegions-push xs x h.1 k)

pub IsSolvable-with_constraint : (c : Content) (x : Recorded) → Knows c x.left → Knows c x.right → AreRegions x.relation x.left x.right → IsSound c → IsSolvable c → IsSolvable (with_constraint c x)
IsSolvable-with_constraint c x p q r s h =
    record {
      levelled = IsLevelled-with_constraint c x s h.levelled;
      values = λ n t k a b. h.values n t k a b;
      sides = KnowsAll-kept c (with_constraint c x) (c.constraints ++ x ∷ []) (record { grows = omega arith; kinds = λ n k e. e }) (KnowsAll-push c c.constraints x h.sides p q);
      regions = AllRegions-push c.constraints x h.regions r;
    }

-- a move to another universe
pub IsSolvable-in_universe : (c : Content) (u : ℕ) → c.universe ≤ u → IsSound c → IsSolvable c → IsSolvable (in_universe c u)
IsSolvable-in_universe c u b s h =
    IsSolvable-kept c (in_universe c u) (IsLevelled-in_universe c u s h.levelled)
    (record { kinds = record { grows = b; kinds = λ n k e. e }; constraints = refl; values = λ n t k p q. inl (p, q) }) h

-- an unset variable gets a lower universe
pub IsSolvable-lowered : (c : Content) (n : ℕ) (v : Slot) (b : Lowers c n v) → v.state ≡ unset → IsSound c → IsSolvable c → IsSolvable (changed c n v)
IsSolvable-lowered c n v b free s h =
    IsSolvable-kept c (changed c n v) (IsLevelled-lowered c n v b free s h.levelled)
    (record {
      kinds = KeepsKinds-changed c n b.old v b.was b.same_kind;
      constraints = refl;
      values = λ m t k p q. inl (sym (state_of-lowered c n v b m) ∙ p, sym (kind_at-lowered c n v b m) ∙ q);
    }) h

-- a variable gets another sub-unification class
pub IsSolvable-sub_linked : (c : Content) (n : ℕ) (v : Slot) (b : Lowers c n v) → v.universe ≡ b.old.universe → IsSound c → IsSolvable c → IsSolvable (changed c n v)
IsSolvable-sub_linked c n v b e s h =
    IsSolvable-kept c (changed c n v) (IsLevelled-sub_linked c n v b e s h.levelled)
    (record {
      kinds = KeepsKinds-changed c n b.old v b.was b.same_kind;
      constraints = refl;
      values = λ m t k p q. inl (sym (state_of-lowered c n v b m) ∙ p, sym (kind_at-lowered c n v b m) ∙ q);
    }) h

-- a variable gets a value
pub IsSolvable-known : (c : Content) (n : ℕ) (v : Slot) (t : Tree) (b : IsKnowable c n v t) → v.universe ≡ b.binds.old.universe → NamesAll (level_in c) v.universe t → IsValue v.kind t → IsSound c → IsSolvable c → IsSolvable (bound_to c n v)
IsSolvable-known c n v t b e names value s h =
    IsSolvable-kept c (bound_to c n v) (IsLevelled-known c n v t b e names s h.levelled)
    (record {
      kinds = KeepsKinds-bound c n v b.binds;
      constraints = refl;
      values = λ m u k p q. ⊎_elim
          (λ (f : m ≡ n).
          let here : state_of (bound_to c n v) n ≡ Some (known t) = state_of-set_same c n v b.binds ∙ ap Some b.is in
          let z : Some (known t) ≡ Some (known u) = sym here ∙ ap (state_of (bound_to c n v)) (sym f) ∙ p in
          let same : t ≡ u = cc in
          let y : Some v.kind ≡ Some k = sym (kind_at-set c n v b.binds n ∙ Binds-kind c n v b.binds) ∙ ap (kind_at (bound_to c n v)) (sym f) ∙ q in
          let one : v.kind ≡ k = cc in
          inr (rw (← same, ← one) value))
          (λ (d : m ≡ n → ⊥). inl (sym (state_of-set_other c n v b.binds m d) ∙ p, sym (kind_at-set c n v b.binds m) ∙ q)) (same_or_other m n);
    }) h

-- a variable becomes one with another
KeepsValues-link : (c : Content) (n : ℕ) (v : Slot) (m : ℕ) → IsLinkable c n v m → KeepsValues c (changed c n v)
KeepsValues-link c n v m b =
    record {
      kinds = KeepsKinds-set c n v b.binds;
      constraints = refl;
      values = λ k t j p q. ⊎_elim
          (λ (f : k ≡ n).
          let here : state_of (changed c n v) n ≡ Some (link m) = state_of-set_same c n v b.binds ∙ ap Some b.is in
          let z : Some (link m) ≡ Some (known t) = sym here ∙ ap (state_of (changed c n v)) (sym f) ∙ p in cc)
          (λ (d : k ≡ n → ⊥). inl (sym (state_of-set_other c n v b.binds k d) ∙ p, sym (kind_at-set c n v b.binds k) ∙ q)) (same_or_other k n);
    }

pub IsSolvable-link : (c : Content) (n : ℕ) (v : Slot) (m : ℕ) (b : IsLinkable c n v m) → v.universe ≡ b.binds.old.universe → CanName v.universe (universe_of c m) → IsSound c → IsSolvable c → IsSolvable (bound_to c n v)
IsSolvable-link c n v m b e names s h =
    let k = KeepsValues-link c n v m b in
    IsSolvable-kept c (bound_to c n v) (IsLevelled-link c n v m b e names s h.levelled)
    (record { kinds = record { grows = omega arith; kinds = k.kinds.kinds }; constraints = refl; values = k.values }) h

pub IsSolvable-region_link : (c : Content) (n : ℕ) (v : Slot) (m : ℕ) (b : IsLinkable c n v m) → v.universe ≡ b.binds.old.universe → CanName v.universe (universe_of c m) → IsSound c → IsSolvable c → IsSolvable (changed c n v)
IsSolvable-region_link c n v m b e names s h =
    IsSolvable-kept c (changed c n v) (IsLevelled-region_link c n v m b e names s h.levelled) (KeepsValues-link c n v m b) h
