-- The table of a query: what it is at first, and which labels it may hold.
use Rattle.std.proofs.Common.{◌≡◌, inl, inr, ℕ, zero, suc, ◌+◌, Bool, true, List, [], ◌∷◌, ◌++◌, map, Option, Some, refl, sym, ap, ◌∙◌, subst, arith}
use Rattle.std.specs.Prelude.{slice_get}
use Rattle.nts_model.specs.declared.labels.Sort.{Sort}
use Rattle.nts_model.specs.declared.labels.Sort.TheVariants as sort
use Rattle.nts_model.specs.declared.labels.FreeRegion.TheVariants as region
use Rattle.nts_model.specs.declared.labels.Leaf.{Leaf}
use Rattle.nts_model.specs.declared.labels.Leaf.TheVariants as leaf
use Rattle.nts_model.specs.declared.labels.Label.{Label}
use Rattle.nts_model.specs.declared.labels.Label.TheVariants as label
use Rattle.nts_model.specs.Terms.Trees.{Tree, IsFormed}
use Rattle.nts_model.specs.Tables.Contents.{SlotState, unset, known, map_slot, Slot}
use Rattle.nts_model.specs.Terms.Substitutions.{leaf_tree, filled}
use Rattle.nts_model.specs.Lists.{Among}
use Rattle.nts_model.specs.Derivations.Handlers.{IsFixed}
use Rattle.nts_model.specs.Canonical.Inputs.{PositionKind, type_variable, integer_variable, float_variable, const_variable, region_variable, placeholder}
use Rattle.nts_model.specs.Tables.Passing.{TreePasses, TablePasses}
use Rattle.nts_model.specs.Answers.Responses.{IsOverPositions, universe_of_kind}
use Rattle.nts_model.proofs.Tables.Under.{eq-self}
use Rattle.nts_model.proofs.Lists.{contains_none}
use Rattle.nts_model.proofs.Tables.Bringing.{passes-filled}
use Rattle.nts_unify.specs.declared.contents.Variable.{Variable}
use Rattle.nts_unify.specs.declared.contents.HiddenType.{HiddenType}
use Rattle.nts_unify.specs.Changing.{HasClosedSides}
use Rattle.nts_unify.specs.Reading.{content_of, slot_of}
use Rattle.nts_canonical.specs.Kinds.{AreInputKinds, IsInputKind, kind_of_position, count_of, value_leaf, value_leaves, made_variable, made_variables}
use Rattle.nts_canonical.specs.Building.{made_entries}
use Rattle.nts_meaning.specs.Asking.{first_table, first_values}
use Rattle.nts_theory.proofs.Refutation.QueryLabels.{is_placeholder, same_sort, is_label_in, queries_pass}

-- the table holds no terms, so it is the same in each store
slots_same : (ts : List Tree) (xs ys : List Variable) → map (slot_of ts) ys ≡ map (slot_of []) ys → map (slot_of ts) xs ≡ map (slot_of []) xs → map (slot_of ts) (xs ++ ys) ≡ map (slot_of []) (xs ++ ys)
slots_same ts [] ys h k = h
slots_same ts (x ∷ xs) ys h k =
    let first : slot_of ts x ≡ slot_of [] x = cc in
    let rest : map (slot_of ts) xs ≡ map (slot_of []) xs = cc in
    let more = slots_same ts xs ys h rest in
    λ i. first i ∷ more i

slot_made : (ts : List Tree) (earlier : List PositionKind) (k : PositionKind) → map (slot_of ts) (made_variable earlier k) ≡ map (slot_of []) (made_variable earlier k)
slot_made ts earlier (type_variable u r) = refl
slot_made ts earlier integer_variable = refl
slot_made ts earlier float_variable = refl
slot_made ts earlier (const_variable u) = refl
slot_made ts earlier (region_variable u) = refl
slot_made ts earlier (placeholder s u n) = refl

slots_made : (ts : List Tree) (earlier ks : List PositionKind) → map (slot_of ts) (made_variables earlier ks) ≡ map (slot_of []) (made_variables earlier ks)
slots_made ts earlier [] = refl
slots_made ts earlier (k ∷ ks) = slots_same ts (made_variable earlier k) (made_variables (earlier ++ k ∷ []) ks) (slots_made ts (earlier ++ k ∷ []) ks) (slot_made ts earlier k)

pub first_content : (ts : List Tree) (ks : List PositionKind) (hs : List HiddenType) → content_of ts (made_entries ks hs) ≡ first_table ks
first_content ts ks hs = (let same = slots_made ts [] ks in λ i. record { slots = same i; order = []; universe = 0; constraints = [] })

-- no variable of it has a value
abbrev state_in : Option Slot → Option SlotState
state_in o = map_slot (λ v. v.state) o

none_known : (vs ws : List Slot) → ((n : ℕ) (t : Tree) → state_in (slice_get vs n) ≡ Some (known t) → ⊥) → ((n : ℕ) (t : Tree) → state_in (slice_get ws n) ≡ Some (known t) → ⊥) → (n : ℕ) (t : Tree) → state_in (slice_get (vs ++ ws) n) ≡ Some (known t) → ⊥
none_known [] ws h k n t e = k n t e
none_known (v ∷ vs) ws h k zero t e = h zero t e
none_known (v ∷ vs) ws h k (suc n) t e = none_known vs ws (λ m s i. h (suc m) s i) k n t e

map_append : (ts : List Tree) (xs ys : List Variable) → map (slot_of ts) (xs ++ ys) ≡ map (slot_of ts) xs ++ map (slot_of ts) ys
map_append ts [] ys = refl
map_append ts (x ∷ xs) ys = ap (λ z. slot_of ts x ∷ z) (map_append ts xs ys)

one_unset : (v : Slot) → v.state ≡ unset → (n : ℕ) (t : Tree) → state_in (slice_get (v ∷ []) n) ≡ Some (known t) → ⊥
one_unset v e zero t i = (let z : Some unset ≡ Some (known t) = sym (ap Some e) ∙ i in cc)
one_unset v e (suc n) t i = cc

none_made : (earlier : List PositionKind) (k : PositionKind) (n : ℕ) (t : Tree) → state_in (slice_get (map (slot_of []) (made_variable earlier k)) n) ≡ Some (known t) → ⊥
none_made earlier (type_variable u r) n t e = one_unset _ refl n t e
none_made earlier integer_variable n t e = one_unset _ refl n t e
none_made earlier float_variable n t e = one_unset _ refl n t e
none_made earlier (const_variable u) n t e = one_unset _ refl n t e
none_made earlier (region_variable u) n t e = one_unset _ refl n t e
none_made earlier (placeholder s u m) n t e = cc

none_of_all : (earlier ks : List PositionKind) (n : ℕ) (t : Tree) → state_in (slice_get (map (slot_of []) (made_variables earlier ks)) n) ≡ Some (known t) → ⊥
none_of_all earlier [] n t e = cc
none_of_all earlier (k ∷ ks) n t e =
    none_known (map (slot_of []) (made_variable earlier k)) (map (slot_of []) (made_variables (earlier ++ k ∷ []) ks)) (none_made earlier k) (none_of_all (earlier ++ k ∷ []) ks) n t
    (subst (λ z. state_in (slice_get z n) ≡ Some (known t)) (map_append [] (made_variable earlier k) (made_variables (earlier ++ k ∷ []) ks)) e)

-- so it passes each test of labels
pub first_passes : (P : Label → Bool) (ks : List PositionKind) → TablePasses P (first_table ks)
first_passes P ks =
    record {
      values = λ n t e. absurd (none_of_all [] ks n t e);
      left = λ x i. absurd (contains_none x i);
      right = λ x i. absurd (contains_none x i);
    }

-- the values of the positions
placeholder_passes : (ks : List PositionKind) (i : ℕ) (s : Sort) → slice_get ks i ≡ Some (placeholder s 0 i) → is_placeholder s i (slice_get ks i) ≡ true
placeholder_passes ks i s e = rw (e, same_sort s, eq-self i) refl

value_passes : (ks : List PositionKind) (i n : ℕ) (k : PositionKind) → slice_get ks i ≡ Some k → IsInputKind ks i k → TreePasses (is_label_in ks) (leaf_tree (value_leaf k (universe_of_kind k) n))
value_passes ks i n (type_variable u r) e h = (refl, tt)
value_passes ks i n integer_variable e h = (refl, tt)
value_passes ks i n float_variable e h = (refl, tt)
value_passes ks i n (const_variable u) e h = (refl, tt)
value_passes ks i n (region_variable u) e h = (refl, tt)
value_passes ks i n (placeholder sort.Ty u m) e h = rw (h.0, h.1) (placeholder_passes ks i sort.Ty (e ∙ (rw (h.0, h.1) refl)), tt)
value_passes ks i n (placeholder sort.Const u m) e h = rw (h.0, h.1) (placeholder_passes ks i sort.Const (e ∙ (rw (h.0, h.1) refl)), tt)
value_passes ks i n (placeholder sort.Region u m) e h = rw (h.0, h.1) (placeholder_passes ks i sort.Region (e ∙ (rw (h.0, h.1) refl)), tt)

values_pass_from : (all : List PositionKind) (i n : ℕ) (ks : List PositionKind) → ((j : ℕ) (k : PositionKind) → slice_get ks j ≡ Some k → slice_get all (i + j) ≡ Some k) → AreInputKinds all → (v : Tree) → Among (map leaf_tree (value_leaves n ks)) v → TreePasses (is_label_in all) v
values_pass_from all i n [] at kinds v m = absurd m
values_pass_from all i n (k ∷ ks) at kinds v (inl e) =
    let zero_more : i + 0 ≡ i = omega arith in
    let here : slice_get all i ≡ Some k = rw zero_more at (at 0 k refl) in
    rw e (value_passes all i n k here (kinds i k here))
values_pass_from all i n (k ∷ ks) at kinds v (inr m) =
    values_pass_from all (suc i) (n + count_of (kind_of_position k)) ks (λ j x e. (let next : suc i + j ≡ i + suc j = omega arith in rw next (at (suc j) x e))) kinds v m

pub values_pass : (ks : List PositionKind) → AreInputKinds ks → (v : Tree) → Among (first_values ks) v → TreePasses (is_label_in ks) v
values_pass ks kinds v m = values_pass_from ks 0 0 ks (λ j k e. (let none : 0 + j ≡ j = omega arith in rw none e)) kinds v m

-- the terms of the goal
fixed_passes : (ks : List PositionKind) (l : Leaf) → IsFixed l → is_label_in ks (label.Leaf l) ≡ true
fixed_passes ks (leaf.Region region.Static) h = refl
fixed_passes ks (leaf.Region region.Erased) h = refl
fixed_passes ks (leaf.Region region.Error) h = refl
fixed_passes ks (leaf.Region (region.Placeholder u n)) h = absurd h
fixed_passes ks (leaf.Region (region.EarlyParam n)) h = absurd h
fixed_passes ks (leaf.Region (region.LateParam n)) h = absurd h
fixed_passes ks (leaf.Variable k n) h = absurd h
fixed_passes ks (leaf.TyConstant a) h = absurd h
fixed_passes ks (leaf.ConstConstant a) h = absurd h

pub asked_passes : (ks : List PositionKind) (t : Tree) → AreInputKinds ks → IsOverPositions t → TreePasses (is_label_in ks) (filled (first_values ks) t)
asked_passes ks t kinds over = passes-filled (is_label_in ks) (first_values ks) t (queries_pass ks) (values_pass ks kinds) (λ l o. fixed_passes ks l (over.leaves l o))

-- the values are formed
pub value_formed : (ks : List PositionKind) (n : ℕ) (v : Tree) → Among (map leaf_tree (value_leaves n ks)) v → IsFormed v
value_formed [] n v m = absurd m
value_formed (k ∷ ks) n v (inl e) = rw e (tt, tt)
value_formed (k ∷ ks) n v (inr m) = value_formed ks (n + count_of (kind_of_position k)) v m

-- it has recorded nothing
pub first_sides : (ks : List PositionKind) → HasClosedSides (first_table ks)
first_sides ks = record { left = λ x i. absurd (contains_none x i); right = λ x i. absurd (contains_none x i) }
