-- A universe that names what a tree holds names what it holds under a table; so a placeholder of a later universe is not in it.
use Rattle.std.proofs.Common.{◌≡◌, ⊎_elim, ℕ, ◌<◌, ◌≤◌, Bool, true, false, List, [], ◌∷◌, Option, Some, None, refl, sym, ap, ◌∙◌, subst, rules, arith}
use Rattle.std.specs.Prelude.{◌==◌, if◌then◌else◌, reverse, slice_get}
use Rattle.nts_model.specs.declared.labels.Sort.{Sort}
use Rattle.nts_model.specs.declared.labels.Sort.TheVariants as sort
use Rattle.nts_model.specs.declared.labels.VariableKind.TheVariants as kind
use Rattle.nts_model.specs.declared.labels.Leaf.{Leaf}
use Rattle.nts_model.specs.declared.labels.Leaf.TheVariants as leaf
use Rattle.nts_model.specs.declared.labels.Label.{Label}
use Rattle.nts_model.specs.declared.labels.Label.TheVariants as label
use Rattle.nts_model.specs.Terms.Trees.{Tree, empty, more, node, is_placeholder, sort_of_leaf, infer_of, variable_of}
use Rattle.nts_model.specs.Tables.Contents.{Content, Slot, SlotState, unset, link, known, state_of, universe_of}
use Rattle.nts_model.specs.Terms.Placeholders.{leaf_level, CanName}
use Rattle.nts_model.specs.Tables.Resolving.{replaced, replaced_at, under, value_at, value_of_state, resolved, rooted, rooted_variable, deeply_resolved, Knows, KnowsVariable}
use Rattle.nts_model.specs.Tables.Levels.{NamesAll, term_level, region_level, level_in, IsLevelled, AreRegionsLevelled, AreCurrent, Falls}
use Rattle.nts_model.specs.Terms.Substitutions.{Occurs}
use Rattle.nts_model.specs.Derivations.Rules.{AreFresh}
use Rattle.nts_model.specs.Refutation.Opening.{placeholder_in, universe_in}
use Rattle.nts_model.proofs.Tables.Slots.{some_slot, field_below}
use Rattle.nts_model.proofs.Tables.Solving.{NamesAll-more}
use Rattle.nts_model.proofs.Terms.Variables.{infer_label}

label_both : (c : Content) (u : ℕ) (l : Label) → CanName u (level_in c l) → CanName u (region_level l) → CanName u (universe_in c l)
label_both c u (label.Leaf (leaf.Variable k n)) h i = h
label_both c u (label.Leaf (leaf.Region r)) h i = i
label_both c u (label.Leaf (leaf.TyConstant a)) h i = h
label_both c u (label.Leaf (leaf.ConstConstant a)) h i = h
label_both c u (label.Bound s i n) h k = tt
label_both c u (label.Ty x) h i = tt
label_both c u (label.Const x) h i = tt
label_both c u (label.Clause x) h i = tt
label_both c u (label.Predicate x) h i = tt
label_both c u (label.List x) h i = tt

names_both : (c : Content) (u : ℕ) (t : Tree) → NamesAll (level_in c) u t → NamesAll region_level u t → NamesAll (universe_in c) u t
names_both c u empty h i = tt
names_both c u (more a b) h i = (names_both c u a h.0 i.0, names_both c u b h.1 i.1)
names_both c u (node l t) h i = (label_both c u l h.0 i.0, names_both c u t h.1 i.1)

-- what a table knows, a universe names that is none below its current one
label_known : (c d : Content) (l : Label) → KnowsVariable c (variable_of l) → CanName c.universe (leaf_level l) → AreCurrent c → Falls c d → CanName c.universe (universe_in d l)
label_known c d (label.Leaf (leaf.Variable k n)) h i a f = f.universes n (field_below (λ x. x.kind) c n k h) c.universe (by_universe (universe_of c n) refl)
  where
    by_universe : (o : Option ℕ) → universe_of c n ≡ o → CanName c.universe o
    by_universe None e = tt
    by_universe (Some u) e = a.universes n u e
label_known c d (label.Leaf (leaf.Region r)) h i a f = i
label_known c d (label.Leaf (leaf.TyConstant x)) h i a f = i
label_known c d (label.Leaf (leaf.ConstConstant x)) h i a f = i
label_known c d (label.Bound s o n) h i a f = tt
label_known c d (label.Ty x) h i a f = tt
label_known c d (label.Const x) h i a f = tt
label_known c d (label.Clause x) h i a f = tt
label_known c d (label.Predicate x) h i a f = tt
label_known c d (label.List x) h i a f = tt

pub known_named : (c d : Content) (t : Tree) → Knows c t → AreCurrent c → Falls c d → NamesAll (universe_in d) c.universe t
known_named c d empty h a f = tt
known_named c d (more x y) h a f = (known_named c d x h.0 a f, known_named c d y h.1 a f)
known_named c d (node l t) h a f = (label_known c d l h.0.0 h.0.1 a f, known_named c d t h.1 a f)

-- under the values of a table
infer_universe : (c : Content) (l : Label) (i : ℕ) → infer_of l ≡ Some i → universe_in c l ≡ universe_of c i
infer_universe c l i e = let v = infer_label l i e in let q = v.is in rw q refl

pub names_if : (f : Label → Option ℕ) (u : ℕ) (b : Bool) (s t : Tree) → (b ≡ true → NamesAll f u s) → NamesAll f u t → NamesAll f u (if b then s else t)
names_if f u true s t h k = h refl
names_if f u false s t h k = k

module _ (c : Content) where
  names_replaced_at : (u n : ℕ) (o : Option ℕ) (s : Tree) (l : Label) (t x : Tree) → infer_of l ≡ o → ((v : ℕ) → CanName v (universe_of c n) → NamesAll (universe_in c) v s) → NamesAll (universe_in c) u (node l t) → NamesAll (universe_in c) u x → NamesAll (universe_in c) u (replaced_at o n s (node l t) (node l x))
  names_replaced_at u n None s l t x e h k q = (k.0, q)
  names_replaced_at u n (Some i) s l t x e h k q =
      let level : CanName u (universe_of c i) = (let z = infer_universe c l i e in rw z at k.0) in
      names_if (universe_in c) u (i == n) s (node l t) (λ z. (let same : i ≡ n = search (rules, z) in h u (rw same at level))) k

  names_replaced : (u n : ℕ) (s t : Tree) → ((v : ℕ) → CanName v (universe_of c n) → NamesAll (universe_in c) v s) → NamesAll (universe_in c) u t → NamesAll (universe_in c) u (replaced n s t)
  names_replaced u n s empty h k = tt
  names_replaced u n s (more a b) h k = (names_replaced u n s a h k.0, names_replaced u n s b h k.1)
  names_replaced u n s (node l t) h k = names_replaced_at u n (infer_of l) s l t (replaced n s t) refl h k (names_replaced u n s t h k.1)

  names_under : (val : ℕ → Tree) (ns : List ℕ) (u : ℕ) (t : Tree) → ((n v : ℕ) → CanName v (universe_of c n) → NamesAll (universe_in c) v (val n)) → NamesAll (universe_in c) u t → NamesAll (universe_in c) u (under val ns t)
  names_under val [] u t h k = k
  names_under val (n ∷ ns) u t h k =
      names_replaced u n (under val ns (val n)) (under val ns t) (λ v l. names_under val ns v (val n) h (h n v l)) (names_under val ns u t h k)

  can_more : (u v : ℕ) (o : Option ℕ) → u ≤ v → CanName u o → CanName v o
  can_more u v None l h = tt
  can_more u v (Some w) l h = omega (arith, l, h)

  value_named : (n v : ℕ) → IsLevelled c → AreRegionsLevelled c → CanName v (universe_of c n) → NamesAll (universe_in c) v (value_at c n)
  value_named n v h r l = by_slot (slice_get c.slots n) refl
    where
      by_state : (x : Slot) (o : SlotState) → slice_get c.slots n ≡ Some x → x.state ≡ o → NamesAll (universe_in c) v (value_of_state x.kind (Some o))
      by_state x unset e q = tt
      by_state x (link m) e q =
          let universe : universe_of c n ≡ Some x.universe = some_slot (λ y. y.universe) c n x e in
          let low : x.universe ≤ v = rw universe at l in
          (can_more x.universe v (universe_of c m) low (h.links n m x.universe (some_slot (λ y. y.state) c n x e ∙ ap Some q) universe), tt)
      by_state x (known t) e q =
          let universe : universe_of c n ≡ Some x.universe = some_slot (λ y. y.universe) c n x e in
          let state : state_of c n ≡ Some (known t) = some_slot (λ y. y.state) c n x e ∙ ap Some q in
          let low : x.universe ≤ v = rw universe at l in
          NamesAll-more (universe_in c) x.universe v t low (names_both c x.universe t (h.values n x.universe t state universe) (r.regions n x.universe t state universe))

      by_slot : (o : Option Slot) → slice_get c.slots n ≡ o → NamesAll (universe_in c) v (value_at c n)
      by_slot None e = rw e tt
      by_slot (Some x) e = rw e (by_state x x.state e refl)

  pub names_resolved : (u : ℕ) (t : Tree) → IsLevelled c → AreRegionsLevelled c → NamesAll (universe_in c) u t → NamesAll (universe_in c) u (resolved c t)
  names_resolved u t h r k = names_under (value_at c) (reverse c.order) u t (λ n v l. value_named n v h r l) k

  -- .. and roots
  named_root : (u : ℕ) (l : Label) → CanName u (universe_in c l) → CanName u (leaf_level (rooted_variable c (variable_of l) l))
  named_root u (label.Leaf (leaf.Variable kind.Ty n)) h = tt
  named_root u (label.Leaf (leaf.Variable kind.Int n)) h = tt
  named_root u (label.Leaf (leaf.Variable kind.Float n)) h = tt
  named_root u (label.Leaf (leaf.Variable kind.Const n)) h = tt
  named_root u (label.Leaf (leaf.Variable kind.Region n)) h = tt
  named_root u (label.Leaf (leaf.Region r)) h = h
  named_root u (label.Leaf (leaf.TyConstant x)) h = h
  named_root u (label.Leaf (leaf.ConstConstant x)) h = h
  named_root u (label.Bound s i n) h = tt
  named_root u (label.Ty x) h = tt
  named_root u (label.Const x) h = tt
  named_root u (label.Clause x) h = tt
  named_root u (label.Predicate x) h = tt
  named_root u (label.List x) h = tt

  names_rooted : (u : ℕ) (t : Tree) → NamesAll (universe_in c) u t → NamesAll leaf_level u (rooted c t)
  names_rooted u empty h = tt
  names_rooted u (more a b) h = (names_rooted u a h.0, names_rooted u b h.1)
  names_rooted u (node l t) h = (named_root u l h.0, names_rooted u t h.1)

  pub names_read : (u : ℕ) (t : Tree) → IsLevelled c → AreRegionsLevelled c → NamesAll (universe_in c) u t → NamesAll leaf_level u (deeply_resolved c t)
  names_read u t h r k = names_rooted u (resolved c t) (names_resolved u t h r k)

-- a placeholder of a universe that is not named does not occur
beyond : (u v n : ℕ) (s : Sort) → u < v → CanName u (leaf_level (label.Leaf (placeholder_in v s n))) → ⊥
beyond u v n sort.Ty l h = omega (arith, l, h)
beyond u v n sort.Const l h = omega (arith, l, h)
beyond u v n sort.Region l h = omega (arith, l, h)

pub absent : (u v n : ℕ) (s : Sort) (t : Tree) → u < v → NamesAll leaf_level u t → Occurs (placeholder_in v s n) t → ⊥
absent u v n s empty l h o = o
absent u v n s (more a b) l h o = ⊎_elim (absent u v n s a l h.0) (absent u v n s b l h.1) o
absent u v n s (node x t) l h o =
    ⊎_elim (λ (e : label.Leaf (placeholder_in v s n) ≡ x). beyond u v n s l (subst (λ y. CanName u (leaf_level y)) (sym e) h.0)) (absent u v n s t l h.1) o

-- the placeholders of a later universe are fresh
is_placeholder_in : (u : ℕ) (s : Sort) (n : ℕ) → is_placeholder (label.Leaf (placeholder_in u s n)) ≡ true
is_placeholder_in u sort.Ty n = refl
is_placeholder_in u sort.Const n = refl
is_placeholder_in u sort.Region n = refl

sort_in : (u : ℕ) (s : Sort) (n : ℕ) → sort_of_leaf (placeholder_in u s n) ≡ s
sort_in u sort.Ty n = refl
sort_in u sort.Const n = refl
sort_in u sort.Region n = refl

distinct_in : (u : ℕ) (s : Sort) (n m : ℕ) → placeholder_in u s n ≡ placeholder_in u s m → n ≡ m
distinct_in u sort.Ty n m e = cc e
distinct_in u sort.Const n m e = cc e
distinct_in u sort.Region n m e = cc e

pub fresh_in : (u v : ℕ) (t : Tree) → u < v → NamesAll leaf_level u t → AreFresh t (placeholder_in v)
fresh_in u v t l h = record { placeholders = is_placeholder_in v; sorts = sort_in v; distinct = distinct_in v; absent = λ s n. absent u v n s t l h }
