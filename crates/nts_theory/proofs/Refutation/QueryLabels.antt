-- Which labels the table of a query may hold, and that they stay those while the query is answered.
use Rattle.std.proofs.Common.{ℕ, ◌≡◌, zero, suc, ◌+◌, Bool, true, false, List, [], Option, Some, None, refl, sym, subst, arith}
use Rattle.std.specs.Prelude.{◌==◌, ◌&&◌, if◌then◌else◌, slice_get}
use Rattle.nts_model.specs.declared.labels.Sort.{Sort}
use Rattle.nts_model.specs.declared.labels.Sort.TheVariants as sort
use Rattle.nts_model.specs.declared.labels.FreeRegion.{FreeRegion}
use Rattle.nts_model.specs.declared.labels.FreeRegion.TheVariants as region
use Rattle.nts_model.specs.declared.labels.Constant.{Constant}
use Rattle.nts_model.specs.declared.labels.Constant.TheVariants as constant
use Rattle.nts_model.specs.declared.labels.Leaf.{Leaf}
use Rattle.nts_model.specs.declared.labels.Leaf.TheVariants as leaf
use Rattle.nts_model.specs.declared.labels.BoundVarIndexKind.TheVariants as index
use Rattle.nts_model.specs.declared.labels.ListHead.TheVariants as list
use Rattle.nts_model.specs.declared.labels.Label.{Label}
use Rattle.nts_model.specs.declared.labels.Label.TheVariants as label
use Rattle.nts_model.specs.Terms.Trees.{Tree, empty, more, node, binders}
use Rattle.nts_model.specs.Tables.Contents.{Content, in_universe}
use Rattle.nts_model.specs.Tables.Resolving.{IsSound}
use Rattle.nts_model.specs.Tables.Passing.{AllLabels, AllPass, TreePasses, TablePasses, PassesQueries, BringsOnly, IsQueryRegion, IsQueryConstant}
use Rattle.nts_model.specs.Lists.{Among}
use Rattle.nts_model.specs.Derivations.Rules.{opened, opened_at}
use Rattle.nts_model.specs.Derivations.Proving.{HoldsTerms, IsTermOf, AreConstraintsOf}
use Rattle.nts_model.specs.Refutation.Opening.{binds, placeholder_in, entered_table, opened_in}
use Rattle.nts_model.specs.Canonical.Inputs.{PositionKind, type_variable, integer_variable, float_variable, const_variable, region_variable, placeholder}
use Rattle.nts_model.specs.Answers.Responses.{IsLabelIn, IsRegionIn, IsConstantIn, IsQueryTable}
use Rattle.nts_model.proofs.Tables.Under.{eq-self}
use Rattle.nts_model.proofs.Tables.Slots.{KeepsKinds, Knows-kept}
use Rattle.nts_model.proofs.Tables.Sound.{SameStates, SameStates-in_universe, IsSound-same}
use Rattle.nts_model.proofs.Lists.{contains_none}

-- whether the table of a query whose input has these kinds may hold a label
abbrev pub is_sort : Sort → Sort → Bool
is_sort sort.Ty sort.Ty = true
is_sort sort.Const sort.Const = true
is_sort sort.Region sort.Region = true
is_sort s t = false

abbrev pub is_placeholder : Sort → ℕ → Option PositionKind → Bool
is_placeholder s n (Some (placeholder t zero m)) = is_sort s t && (m == n)
is_placeholder s n o = false

abbrev is_region_in : List PositionKind → FreeRegion → Bool
is_region_in ks (region.Placeholder zero n) = is_placeholder sort.Region n (slice_get ks n)
is_region_in ks (region.EarlyParam n) = false
is_region_in ks (region.LateParam n) = false
is_region_in ks r = true

abbrev is_constant_in : List PositionKind → Sort → Constant → Bool
is_constant_in ks s (constant.Placeholder zero n) = is_placeholder s n (slice_get ks n)
is_constant_in ks s (constant.Placeholder (suc u) n) = true
is_constant_in ks s (constant.Param n) = false

abbrev is_leaf_in : List PositionKind → Leaf → Bool
is_leaf_in ks (leaf.Variable k n) = true
is_leaf_in ks (leaf.Region r) = is_region_in ks r
is_leaf_in ks (leaf.TyConstant a) = is_constant_in ks sort.Ty a
is_leaf_in ks (leaf.ConstConstant a) = is_constant_in ks sort.Const a

abbrev pub is_label_in : List PositionKind → Label → Bool
is_label_in ks (label.Leaf l) = is_leaf_in ks l
is_label_in ks (label.Bound s index.Canonical n) = false
is_label_in ks l = true

clash : false ≡ true → ⊥
clash e = cc

one_sort : (s t : Sort) → is_sort s t ≡ true → t ≡ s
one_sort sort.Ty sort.Ty e = refl
one_sort sort.Ty sort.Const e = cc
one_sort sort.Ty sort.Region e = cc
one_sort sort.Const sort.Const e = refl
one_sort sort.Const sort.Ty e = cc
one_sort sort.Const sort.Region e = cc
one_sort sort.Region sort.Region e = refl
one_sort sort.Region sort.Ty e = cc
one_sort sort.Region sort.Const e = cc

pub same_sort : (s : Sort) → is_sort s s ≡ true
same_sort sort.Ty = refl
same_sort sort.Const = refl
same_sort sort.Region = refl

both : (a b : Bool) → (a && b) ≡ true → (a ≡ true) × (b ≡ true)
both true b e = (refl, e)
both false b e = cc

one_number : (m n : ℕ) → (m == n) ≡ true → m ≡ n
one_number m n e = grind arith

is_placeholder_at : (s : Sort) (n : ℕ) (o : Option PositionKind) → is_placeholder s n o ≡ true → o ≡ Some (placeholder s 0 n)
is_placeholder_at s n None e = cc
is_placeholder_at s n (Some (placeholder t zero m)) e =
    let z = both (is_sort s t) (m == n) e in
    rw (one_sort s t z.0, one_number m n z.1) refl
is_placeholder_at s n (Some (placeholder t (suc u) m)) e = cc
is_placeholder_at s n (Some (type_variable u r)) e = cc
is_placeholder_at s n (Some integer_variable) e = cc
is_placeholder_at s n (Some float_variable) e = cc
is_placeholder_at s n (Some (const_variable u)) e = cc
is_placeholder_at s n (Some (region_variable u)) e = cc

region_in : (ks : List PositionKind) (r : FreeRegion) → is_region_in ks r ≡ true → IsRegionIn ks r
region_in ks (region.Placeholder zero n) e = is_placeholder_at sort.Region n (slice_get ks n) e
region_in ks (region.Placeholder (suc u) n) e = tt
region_in ks (region.EarlyParam n) e = absurd (clash e)
region_in ks (region.LateParam n) e = absurd (clash e)
region_in ks region.Static e = tt
region_in ks region.Erased e = tt
region_in ks region.Error e = tt

constant_in : (ks : List PositionKind) (s : Sort) (a : Constant) → is_constant_in ks s a ≡ true → IsConstantIn ks s a
constant_in ks s (constant.Placeholder zero n) e = is_placeholder_at s n (slice_get ks n) e
constant_in ks s (constant.Placeholder (suc u) n) e = tt
constant_in ks s (constant.Param n) e = absurd (clash e)

label_in : (ks : List PositionKind) (l : Label) → is_label_in ks l ≡ true → IsLabelIn ks l
label_in ks (label.Leaf (leaf.Variable k n)) e = tt
label_in ks (label.Leaf (leaf.Region r)) e = region_in ks r e
label_in ks (label.Leaf (leaf.TyConstant a)) e = constant_in ks sort.Ty a e
label_in ks (label.Leaf (leaf.ConstConstant a)) e = constant_in ks sort.Const a e
label_in ks (label.Bound s index.Canonical n) e = absurd (clash e)
label_in ks (label.Bound s (index.Bound d) n) e = tt
label_in ks (label.Ty x) e = tt
label_in ks (label.Const x) e = tt
label_in ks (label.Clause x) e = tt
label_in ks (label.Predicate x) e = tt
label_in ks (label.List x) e = tt

pub labels_in : (ks : List PositionKind) (t : Tree) → TreePasses (is_label_in ks) t → AllLabels (IsLabelIn ks) t
labels_in ks empty h = tt
labels_in ks (more a b) h = (labels_in ks a h.0, labels_in ks b h.1)
labels_in ks (node l c) h = (label_in ks l h.0, labels_in ks c h.1)

pub table_in : (ks : List PositionKind) (c : Content) → TablePasses (is_label_in ks) c → AllPass (IsLabelIn ks) c
table_in ks c h =
    record { values = λ n t e. labels_in ks t (h.values n t e); left = λ x i. labels_in ks x.left (h.left x i); right = λ x i. labels_in ks x.right (h.right x i) }

-- what any query may hold
query_region : (ks : List PositionKind) (r : FreeRegion) → IsQueryRegion r → is_region_in ks r ≡ true
query_region ks (region.Placeholder zero n) h = absurd h
query_region ks (region.Placeholder (suc u) n) h = refl
query_region ks (region.EarlyParam n) h = absurd h
query_region ks (region.LateParam n) h = absurd h
query_region ks region.Static h = refl
query_region ks region.Erased h = refl
query_region ks region.Error h = refl

query_constant : (ks : List PositionKind) (s : Sort) (a : Constant) → IsQueryConstant a → is_constant_in ks s a ≡ true
query_constant ks s (constant.Placeholder zero n) h = absurd h
query_constant ks s (constant.Placeholder (suc u) n) h = refl
query_constant ks s (constant.Param n) h = absurd h

pub queries_pass : (ks : List PositionKind) → PassesQueries (is_label_in ks)
queries_pass ks (label.Leaf (leaf.Variable k n)) h = refl
queries_pass ks (label.Leaf (leaf.Region r)) h = query_region ks r h
queries_pass ks (label.Leaf (leaf.TyConstant a)) h = query_constant ks sort.Ty a h
queries_pass ks (label.Leaf (leaf.ConstConstant a)) h = query_constant ks sort.Const a h
queries_pass ks (label.Bound s index.Canonical n) h = absurd h
queries_pass ks (label.Bound s (index.Bound d) n) h = refl
queries_pass ks (label.Ty x) h = refl
queries_pass ks (label.Const x) h = refl
queries_pass ks (label.Clause x) h = refl
queries_pass ks (label.Predicate x) h = refl
queries_pass ks (label.List x) h = refl

-- a label that the table may hold passes the test
placeholder_at_is : (s : Sort) (n : ℕ) (o : Option PositionKind) → o ≡ Some (placeholder s 0 n) → is_placeholder s n o ≡ true
placeholder_at_is s n o e = rw (e, same_sort s, eq-self n) refl

in_region : (ks : List PositionKind) (r : FreeRegion) → IsRegionIn ks r → is_region_in ks r ≡ true
in_region ks (region.Placeholder zero n) h = placeholder_at_is sort.Region n (slice_get ks n) h
in_region ks (region.Placeholder (suc u) n) h = refl
in_region ks (region.EarlyParam n) h = absurd h
in_region ks (region.LateParam n) h = absurd h
in_region ks region.Static h = refl
in_region ks region.Erased h = refl
in_region ks region.Error h = refl

in_constant : (ks : List PositionKind) (s : Sort) (a : Constant) → IsConstantIn ks s a → is_constant_in ks s a ≡ true
in_constant ks s (constant.Placeholder zero n) h = placeholder_at_is s n (slice_get ks n) h
in_constant ks s (constant.Placeholder (suc u) n) h = refl
in_constant ks s (constant.Param n) h = absurd h

pub in_label : (ks : List PositionKind) (l : Label) → IsLabelIn ks l → is_label_in ks l ≡ true
in_label ks (label.Leaf (leaf.Variable k n)) h = refl
in_label ks (label.Leaf (leaf.Region r)) h = in_region ks r h
in_label ks (label.Leaf (leaf.TyConstant a)) h = in_constant ks sort.Ty a h
in_label ks (label.Leaf (leaf.ConstConstant a)) h = in_constant ks sort.Const a h
in_label ks (label.Bound s index.Canonical n) h = absurd h
in_label ks (label.Bound s (index.Bound d) n) h = refl
in_label ks (label.Ty x) h = refl
in_label ks (label.Const x) h = refl
in_label ks (label.Clause x) h = refl
in_label ks (label.Predicate x) h = refl
in_label ks (label.List x) h = refl

pub in_labels : (ks : List PositionKind) (t : Tree) → AllLabels (IsLabelIn ks) t → TreePasses (is_label_in ks) t
in_labels ks empty h = tt
in_labels ks (more a b) h = (in_labels ks a h.0, in_labels ks b h.1)
in_labels ks (node l c) h = (in_label ks l h.0, in_labels ks c h.1)

pub in_table : (ks : List PositionKind) (c : Content) → AllPass (IsLabelIn ks) c → TablePasses (is_label_in ks) c
in_table ks c h =
    record { values = λ n t e. in_labels ks t (h.values n t e); left = λ x i. in_labels ks x.left (h.left x i); right = λ x i. in_labels ks x.right (h.right x i) }

-- the next universe
next : (n : ℕ) → n + 1 ≡ suc n
next n = omega arith

-- the labels of an opened goal are those of the goal, and placeholders of a universe above the root
placeholder_passes : (P : Label → Bool) → PassesQueries P → (u : ℕ) (s : Sort) (n : ℕ) → P (label.Leaf (placeholder_in (u + 1) s n)) ≡ true
placeholder_passes P q u s n = subst (λ v. P (label.Leaf (placeholder_in v s n)) ≡ true) (sym (next u)) (by_sort s)
  where
    by_sort : (s : Sort) → P (label.Leaf (placeholder_in (suc u) s n)) ≡ true
    by_sort sort.Ty = q _ tt
    by_sort sort.Const = q _ tt
    by_sort sort.Region = q _ tt

passes_if : (P : Label → Bool) (b : Bool) (s t : Tree) → TreePasses P s → TreePasses P t → TreePasses P (if b then s else t)
passes_if P true s t h k = h
passes_if P false s t h k = k

opened_label_passes : (P : Label → Bool) → PassesQueries P → (u c : ℕ) (l : Label) (t : Tree) → P l ≡ true → TreePasses P t → TreePasses P (opened_at (placeholder_in (u + 1)) c l t)
opened_label_passes P q u c (label.Bound s (index.Bound d) n) t h k =
    passes_if P (d == c) (node (label.Leaf (placeholder_in (u + 1) s n)) empty) (node (label.Bound s (index.Bound d) n) t) (placeholder_passes P q u s n, tt) (h, k)
opened_label_passes P q u c (label.Bound s index.Canonical n) t h k = (h, k)
opened_label_passes P q u c (label.Leaf x) t h k = (h, k)
opened_label_passes P q u c (label.Ty x) t h k = (h, k)
opened_label_passes P q u c (label.Const x) t h k = (h, k)
opened_label_passes P q u c (label.Clause x) t h k = (h, k)
opened_label_passes P q u c (label.Predicate x) t h k = (h, k)
opened_label_passes P q u c (label.List x) t h k = (h, k)

opened_passes : (P : Label → Bool) → PassesQueries P → (u c : ℕ) (t : Tree) → TreePasses P t → TreePasses P (opened (placeholder_in (u + 1)) c t)
opened_passes P q u c empty h = tt
opened_passes P q u c (more a b) h = (opened_passes P q u c a h.0, opened_passes P q u c b h.1)
opened_passes P q u c (node l t) h = opened_label_passes P q u c l (opened (placeholder_in (u + 1)) (c + binders l) t) h.0 (opened_passes P q u (c + binders l) t h.1)

pub opened_goal_passes : (P : Label → Bool) → PassesQueries P → (c : Content) (g : Tree) → TreePasses P g → TreePasses P (opened_in c g)
opened_goal_passes P q c (node (label.List list.Binder) (more (node (label.List list.Sorts) (more s ss)) (more t empty))) h =
    (q _ tt, ((q _ tt, tt), (opened_passes P q c.universe 0 t h.1.1.0, tt)))
opened_goal_passes P q c g h = h

pub opened_labels : (ks : List PositionKind) (c : Content) (g : Tree) → AllLabels (IsLabelIn ks) g → AllLabels (IsLabelIn ks) (opened_in c g)
opened_labels ks c g h = labels_in ks (opened_in c g) (opened_goal_passes (is_label_in ks) (queries_pass ks) c g (in_labels ks g h))

-- the table in which a goal is answered differs in the universe alone
term_later : (c d : Content) (t : Tree) → KeepsKinds c d → IsTermOf c t → IsTermOf d t
term_later c d t k h = record { knows = Knows-kept c d t k h.knows; formed = h.formed }

query_in_universe : (ks : List PositionKind) (c : Content) (qs : List Tree) → IsQueryTable ks c qs → IsQueryTable ks (in_universe c (c.universe + 1)) qs
query_in_universe ks c qs h =
    let d = in_universe c (c.universe + 1) in
    let grown : KeepsKinds c d = record { grows = omega arith; kinds = λ n k e. e } in
    let v = h.values in
    let x = h.constraints in
    let l = h.labels in
    record {
      sound = IsSound-same c d h.sound (SameStates-in_universe c (c.universe + 1) (omega arith));
      values = record { fitting = v.fitting; closed = v.closed; formed = v.formed };
      constraints = record { left = λ y i. term_later c d y.left grown (x.left y i); right = λ y i. term_later c d y.right grown (x.right y i) };
      labels = record { values = l.values; left = l.left; right = l.right };
      terms = λ t m. (let a = h.terms t m in (term_later c d t grown a.0, a.1));
    }

pub entered_query : (ks : List PositionKind) (c : Content) (g : Tree) (qs : List Tree) → IsQueryTable ks c qs → IsQueryTable ks (entered_table c g) qs
entered_query ks c g qs h = by_bool (binds g) refl
  where
    by_bool : (b : Bool) → binds g ≡ b → IsQueryTable ks (entered_table c g) qs
    by_bool false q = rw q h
    by_bool true q = rw q (query_in_universe ks c qs h)

-- the table without its region constraints
states_without : (c : Content) → SameStates c (record c { constraints = [] })
states_without c = record { states = λ n. refl; kinds = λ n. refl; order = refl; grows = omega arith; more = refl }

pub query_without : (ks : List PositionKind) (c : Content) (qs : List Tree) → IsQueryTable ks c qs → IsQueryTable ks (record c { constraints = [] }) qs
query_without ks c qs h =
    let d : Content = record c { constraints = [] } in
    let grown : KeepsKinds c d = record { grows = omega arith; kinds = λ n k e. e } in
    let v = h.values in
    let l = h.labels in
    record {
      sound = IsSound-same c (record c { constraints = [] }) h.sound (states_without c);
      values = record { fitting = v.fitting; closed = v.closed; formed = v.formed };
      constraints = record { left = λ x i. absurd (contains_none x i); right = λ x i. absurd (contains_none x i) };
      labels = record { values = l.values; left = λ x i. absurd (contains_none x i); right = λ x i. absurd (contains_none x i) };
      terms = λ t m. (let a = h.terms t m in (term_later c (record c { constraints = [] }) t grown a.0, a.1));
    }

-- the table to which a goal over such labels brings it, where that is one of terms
pub query_goes_on : (ks : List PositionKind) (c found : Content) (qs ts : List Tree) → IsQueryTable ks c qs → ((t : Tree) → Among ts t → AllLabels (IsLabelIn ks) t) → BringsOnly ts c found → IsSound found → HoldsTerms found → AreConstraintsOf found → KeepsKinds c found
    → IsQueryTable ks found qs
query_goes_on ks c found qs ts h own brings sound values constraints grown =
    record {
      sound = sound;
      values = values;
      constraints = constraints;
      labels = table_in ks found (brings.labels (is_label_in ks) (queries_pass ks) (λ t m. in_labels ks t (own t m)) (in_table ks c h.labels));
      terms = λ t m. (let a = h.terms t m in (term_later c found t grown a.0, a.1));
    }
