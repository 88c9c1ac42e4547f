-- The table that a query begins with, where the goal was known to the table that asks.
use Rattle.std.proofs.Common.{◌≡◌, inl, inr, ℕ, zero, suc, ◌+◌, List, [], ◌∷◌, ◌++◌, map, length, get_or, Some, refl, sym, ap, subst, ◌∙◌, arith}
use Rattle.std.specs.Prelude.{slice_get}
use Rattle.nts_model.specs.declared.labels.Variance.{Variance}
use Rattle.std.proofs.lemmas.List.{length-append, length-map, map-append, append_assoc}
use Rattle.nts_model.specs.declared.labels.Sort.{Sort}
use Rattle.nts_model.specs.declared.labels.Sort.TheVariants as sort
use Rattle.nts_model.specs.declared.labels.VariableKind.{VariableKind}
use Rattle.nts_model.specs.declared.labels.VariableKind.TheVariants as kind
use Rattle.nts_model.specs.declared.labels.Leaf.{Leaf}
use Rattle.nts_model.specs.declared.labels.Leaf.TheVariants as leaf
use Rattle.nts_model.specs.declared.labels.Label.TheVariants as label
use Rattle.nts_model.specs.declared.labels.Constant.TheVariants as constant
use Rattle.nts_model.specs.declared.labels.FreeRegion.TheVariants as region
use Rattle.nts_model.specs.Terms.Trees.{Tree, empty, variable_tree}
use Rattle.nts_model.specs.Terms.Scoping.{IsWellBound}
use Rattle.nts_model.specs.Tables.Contents.{Content, with_slot}
use Rattle.nts_model.specs.Tables.Resolving.{Knows, IsSound}
use Rattle.nts_model.specs.Tables.Levels.{AreCurrent}
use Rattle.nts_model.specs.Derivations.Related.{pair}
use Rattle.nts_model.specs.Lists.{Among}
use Rattle.nts_model.specs.Terms.Substitutions.{leaf_tree, filled}
use Rattle.nts_model.specs.Canonical.Inputs.{Input, IsInput, PositionKind, type_variable, integer_variable, float_variable, const_variable, region_variable, placeholder, canonical_of, whole, whole_of}
use Rattle.nts_model.specs.Searching.Driving.{sort_at}
use Rattle.nts_model.specs.Answers.Responses.{IsQueryTable, placeholder_tree, universe_of_kind}
use Rattle.nts_model.specs.Answers.Applying.{IsProperContent, IsNew, Chooses, ChoosesAll, AreKnownTrees}
use Rattle.nts_model.proofs.Lists.{contains_none}
use Rattle.nts_model.proofs.Tables.Levelled.{AreCurrent-with_slot}
use Rattle.nts_model.proofs.Terms.Unpositioned.{known_well_bound}
use Rattle.nts_theory.specs.Telling.{IsInputFor, IsTermOfKind, AreTermsOfKinds}
use Rattle.nts_theory.proofs.Responses.Initial.{IsKindAt, AreInOrder, input_kinds}
use Rattle.nts_theory.proofs.Responses.Answering.{canonical_environment_over, canonical_predicate_over}
use Rattle.nts_theory.proofs.Refutation.Agreeing.{IsNumberedKind, AreNumberedKinds}
use Rattle.nts_theory.proofs.Refutation.Choosing.{IsProperContent-with_slot}
use Rattle.nts_theory.proofs.Refutation.Entering.{nothing, AreStandIns}
use Rattle.nts_theory.proofs.Refutation.Responding.{ArePlaced}
use Rattle.nts_theory.proofs.Refutation.QueryLabels.{is_label_in, labels_in, table_in}
use Rattle.nts_theory.proofs.Refutation.Queried.{IsFirst, BeginsEach}
use Rattle.nts_terms.specs.declared.modes.TypingMode.TheVariants as mode
use Rattle.nts_unify.specs.declared.contents.State.TheVariants.{Unset}
use Rattle.nts_unify.specs.declared.contents.Variable.{Variable}
use Rattle.nts_unify.specs.Reading.{slot_of}
use Rattle.nts_table.specs.TableLaws.{IsTable-new}
use Rattle.nts_canonical.specs.Kinds.{kind_of_position, count_of, variables_before, value_leaf, value_leaves, made_variable, made_variables}
use Rattle.nts_canonical.specs.declared.types.CanonicalInput.{CanonicalInput}
use Rattle.nts_canonical.specs.Forms.{form_of}
use Rattle.nts_canonical.specs.Building.{made_entries, kinds_of}
use Rattle.nts_meaning.specs.Answering.{IsQueryInput}
use Rattle.nts_meaning.specs.Telling.{queries}
use Rattle.nts_canonical.proofs.Making.{some, append-none, value-at}
use Rattle.nts_canonical.proofs.Valued.{root_kinds, values-known}
use Rattle.nts_answering.specs.nts_canonicalizer.proofs.Handed.{form-kinds, form-no_name, form-well_bound}
use Rattle.nts_canonical.proofs.Built.{query-known}
use Rattle.nts_meaning.specs.Asking.{first_table, first_values}
use Rattle.nts_meaning.proofs.QueryTables.{first_passes, values_pass, asked_passes, value_formed}

-- a table of these variables alone; a query can start with it where it is sound and all is of the root
abbrev table_of : List Variable → Content
table_of vs = record { slots = map (slot_of []) vs; order = []; universe = 0; constraints = [] }

record IsStart (c : Content) : Type 0 where
  proper : IsProperContent c
  current : AreCurrent c

-- one without variables
nothing_proper : IsProperContent nothing
nothing_proper = (let t = IsTable-new [] (record { entries = made_entries [] []; saved = []; mode = mode.Coherence }) refl refl in record { sound = t.now.sound; sides = tt })

nothing_starts : IsStart (table_of [])
nothing_starts = record { proper = nothing_proper; current = record { universes = λ n u e. cc e } }

-- .. and with one more
slot_added : (vs : List Variable) (v : Variable) → table_of (vs ++ v ∷ []) ≡ with_slot (table_of vs) (slot_of [] v)
slot_added vs v = (let e = map-append (slot_of []) vs (v ∷ []) in λ i. record { slots = e i; order = []; universe = 0; constraints = [] })

next_variable : (vs : List Variable) (v : Variable) (k : VariableKind) (u n : ℕ) → v.kind ≡ k → v.state ≡ Unset → v.universe ≡ 0 → u ≡ 0 → n ≡ length vs → IsStart (table_of vs)
    → IsNew (table_of vs) (table_of (vs ++ v ∷ [])) k u (variable_tree k n) × IsStart (table_of (vs ++ v ∷ []))
next_variable vs v k u n same free root low long h =
    let c = table_of vs in
    let slot = slot_of [] v in
    let proper = subst IsProperContent (sym (slot_added vs v)) (IsProperContent-with_slot c slot (rw free refl) h.proper) in
    let current = subst AreCurrent (sym (slot_added vs v)) (AreCurrent-with_slot c slot (omega (arith, root)) h.current) in (
      record { slot = slot; of_kind = same; universe = root ∙ sym low; free = rw free refl; entries = slot_added vs v; tree = ap (variable_tree k) (long ∙ sym (length-map vs (slot_of []))); proper = proper },
      record { proper = proper; current = current },
    )

-- what stands for the placeholders before there are variables: a placeholder at each place
abbrev stand_ins : ℕ → List PositionKind → List Tree
stand_ins b [] = []
stand_ins b (k ∷ ks) = placeholder_tree (sort_at k) 0 b ∷ stand_ins (suc b) ks

stand_in_known : (s : Sort) (b : ℕ) → Knows nothing (placeholder_tree s 0 b)
stand_in_known sort.Ty b = ((tt, omega arith, refl), tt, tt)
stand_in_known sort.Const b = ((tt, omega arith, refl), tt, tt)
stand_in_known sort.Region b = ((tt, omega arith, refl), tt, tt)

stand_ins_known : (b : ℕ) (ks : List PositionKind) → AreKnownTrees nothing (stand_ins b ks)
stand_ins_known b [] = tt
stand_ins_known b (k ∷ ks) = (stand_in_known (sort_at k) b, stand_ins_known (suc b) ks)

-- .. those of the kinds from a position on
abbrev AreFrom : List Tree → ℕ → List PositionKind → Type 0
AreFrom os b ks = (j : ℕ) → get_or os (b + j) empty ≡ get_or (stand_ins b ks) j empty

from_here : (os : List Tree) (b : ℕ) (k : PositionKind) (ks : List PositionKind) → AreFrom os b (k ∷ ks) → get_or os b empty ≡ placeholder_tree (sort_at k) 0 b
from_here os b k ks h = (let z : b + 0 ≡ b = omega arith in ap (λ m. get_or os m empty) (sym z) ∙ h 0)

from_later : (os : List Tree) (b : ℕ) (k : PositionKind) (ks : List PositionKind) → AreFrom os b (k ∷ ks) → AreFrom os (suc b) ks
from_later os b k ks h j = (let z : suc b + j ≡ b + suc j = omega arith in ap (λ m. get_or os m empty) z ∙ h (suc j))

all_from : (ks : List PositionKind) → AreFrom (stand_ins 0 ks) 0 ks
all_from ks j = (let z : 0 + j ≡ j = omega arith in ap (λ m. get_or (stand_ins 0 ks) m empty) z)

are_standing : (os : List Tree) (b : ℕ) (ks : List PositionKind) → AreFrom os b ks → AreStandIns ks os b
are_standing os b [] h = tt
are_standing os b (placeholder s u n ∷ ks) h = (from_here os b (placeholder s u n) ks h, are_standing os (suc b) ks (from_later os b (placeholder s u n) ks h))
are_standing os b (k ∷ ks) h = are_standing os (suc b) ks (from_later os b k ks h)

-- placeholders are numbered by their places
numbered_kind : (b : ℕ) (k : PositionKind) → IsKindAt b k → IsNumberedKind b k
numbered_kind b (placeholder s u n) h = h
numbered_kind b k h = tt

numbered_kinds : (b : ℕ) (ks : List PositionKind) → AreInOrder b ks → AreNumberedKinds b ks
numbered_kinds b [] h = tt
numbered_kinds b (k ∷ ks) h = (numbered_kind b k h.0, numbered_kinds (suc b) ks h.1)

-- the value of a position is a new variable, or the placeholder that stands for it
made_long : (ps : List PositionKind) (k : PositionKind) → length (made_variable ps k) ≡ count_of (kind_of_position k)
made_long ps (placeholder s u n) = refl
made_long ps k = refl

value_tree : (s : Sort) (u n m : ℕ) → leaf_tree (value_leaf (placeholder s u m) u n) ≡ placeholder_tree s u m
value_tree sort.Ty u n m = refl
value_tree sort.Const u n m = refl
value_tree sort.Region u n m = refl

one_made : (os : List Tree) (b : ℕ) (k : PositionKind) (ps : List PositionKind) (vs : List Variable) (n : ℕ) → IsKindAt b k → get_or os b empty ≡ placeholder_tree (sort_at k) 0 b → n ≡ length vs → IsStart (table_of vs)
    → Chooses nothing [] os b k (leaf_tree (value_leaf k (universe_of_kind k) n)) (table_of vs) (table_of (vs ++ made_variable ps k)) × IsStart (table_of (vs ++ made_variable ps k))
one_made os b (type_variable u r) ps vs n h at long s = (let x = next_variable vs _ kind.Ty (0 + u) n refl refl h (omega (arith, h)) long s in (inl x.0, x.1))
one_made os b integer_variable ps vs n h at long s = (let x = next_variable vs _ kind.Int 0 n refl refl refl refl long s in (inl x.0, x.1))
one_made os b float_variable ps vs n h at long s = (let x = next_variable vs _ kind.Float 0 n refl refl refl refl long s in (inl x.0, x.1))
one_made os b (const_variable u) ps vs n h at long s = (let x = next_variable vs _ kind.Const (0 + u) n refl refl h (omega (arith, h)) long s in (inl x.0, x.1))
one_made os b (region_variable u) ps vs n h at long s = (let x = next_variable vs _ kind.Region (0 + u) n refl refl h (omega (arith, h)) long s in (inl x.0, x.1))
one_made os b (placeholder o u m) ps vs n h at long s =
    let same : table_of (vs ++ []) ≡ table_of vs = ap table_of (append-none vs) in
    (rw (h.0, h.1) (value_tree o 0 n b ∙ sym at, omega arith, same), subst IsStart (sym same) s)

-- position by position
all_made : (os : List Tree) (b : ℕ) (ks ps : List PositionKind) (vs : List Variable) (n : ℕ) → AreInOrder b ks → AreFrom os b ks → n ≡ length vs → IsStart (table_of vs)
    → ChoosesAll nothing [] os b ks (map leaf_tree (value_leaves n ks)) (table_of vs) (table_of (vs ++ made_variables ps ks)) × IsStart (table_of (vs ++ made_variables ps ks))
all_made os b [] ps vs n h at long s = (let same : table_of (vs ++ []) ≡ table_of vs = ap table_of (append-none vs) in (same, subst IsStart (sym same) s))
all_made os b (k ∷ ks) ps vs n h at long s =
    let now = vs ++ made_variable ps k in
    let m = n + count_of (kind_of_position k) in
    let one = one_made os b k ps vs n h.0 (from_here os b k ks at) long s in
    let more : m ≡ length now = omega (arith, long, made_long ps k, length-append vs (made_variable ps k)) in
    let rest = all_made os (suc b) ks (ps ++ k ∷ []) now m h.1 (from_later os b k ks at) more one.1 in
    let all = subst (λ z. ChoosesAll nothing [] os (suc b) ks (map leaf_tree (value_leaves m ks)) (table_of now) (table_of z) × IsStart (table_of z)) (append_assoc vs (made_variable ps k) (made_variables (ps ++ k ∷ []) ks)) rest in
    ((table_of now, one.0, all.0), all.1)

first_made : (ks : List PositionKind) → AreInOrder 0 ks → ChoosesAll nothing [] (stand_ins 0 ks) 0 ks (first_values ks) nothing (first_table ks) × IsStart (first_table ks)
first_made ks h = all_made (stand_ins 0 ks) 0 ks [] [] 0 h (all_from ks) refl nothing_starts

-- each placeholder stands for itself
tree_there : (ls : List Leaf) (n : ℕ) (l : Leaf) → slice_get ls n ≡ Some l → get_or (map leaf_tree ls) n empty ≡ leaf_tree l
tree_there [] n l e = cc
tree_there (x ∷ ls) zero l e = ap leaf_tree (some e)
tree_there (x ∷ ls) (suc n) l e = tree_there ls n l e

first_placed : (ks : List PositionKind) → ArePlaced ks (first_values ks)
first_placed ks n s e = tree_there (value_leaves 0 ks) n _ (value-at 0 ks n (placeholder s 0 n) e) ∙ value_tree s 0 (0 + variables_before ks n) n

-- the table is one of the query: it has neither values nor constraints
known_each : (c : Content) (ts : List Tree) → ((j : ℕ) → Knows c (get_or ts j empty)) → (t : Tree) → Among ts t → Knows c t
known_each c [] h t i = absurd i
known_each c (x ∷ ts) h t (inl e) = rw e (h 0)
known_each c (x ∷ ts) h t (inr i) = known_each c ts (λ j. h (suc j)) t i

first_query : (i : Input) → (let ks = (canonical_of i).kinds in IsSound (first_table ks) → IsQueryTable ks (first_table ks) (first_values ks))
first_query i sound =
    let ks = (canonical_of i).kinds in
    let kinds = form-kinds i in
    record {
      sound = sound;
      values = record { fitting = λ n t k e q. absurd (sound.bound n t e); closed = λ n t e. absurd (sound.bound n t e); formed = λ n t e. absurd (sound.bound n t e) };
      constraints = record { left = λ x j. absurd (contains_none x j); right = λ x j. absurd (contains_none x j) };
      labels = table_in ks (first_table ks) (first_passes (is_label_in ks) ks);
      terms = λ t j. (
        record { knows = known_each (first_table ks) (first_values ks) (values-known [] (made_entries ks []) ks refl (root_kinds ks kinds)) t j; formed = value_formed ks 0 t j },
        labels_in ks t (values_pass ks kinds t j),
      );
    }

-- the term of each position is a variable of its kind, or the placeholder
term_of_kind : (n : ℕ) (k : PositionKind) → IsTermOfKind k (leaf_tree (value_leaf k (universe_of_kind k) n))
term_of_kind n (type_variable u r) = (label.Leaf (leaf.Variable kind.Ty n), refl, (leaf.Variable kind.Ty n, refl, (n, refl)))
term_of_kind n integer_variable = (label.Leaf (leaf.Variable kind.Int n), refl, (leaf.Variable kind.Int n, refl, (n, refl)))
term_of_kind n float_variable = (label.Leaf (leaf.Variable kind.Float n), refl, (leaf.Variable kind.Float n, refl, (n, refl)))
term_of_kind n (const_variable u) = (label.Leaf (leaf.Variable kind.Const n), refl, (leaf.Variable kind.Const n, refl, (n, refl)))
term_of_kind n (region_variable u) = (label.Leaf (leaf.Variable kind.Region n), refl, (leaf.Variable kind.Region n, refl, (n, refl)))
term_of_kind n (placeholder sort.Ty u m) = (label.Leaf (leaf.TyConstant (constant.Placeholder u m)), refl, (leaf.TyConstant (constant.Placeholder u m), refl, refl))
term_of_kind n (placeholder sort.Const u m) = (label.Leaf (leaf.ConstConstant (constant.Placeholder u m)), refl, (leaf.ConstConstant (constant.Placeholder u m), refl, refl))
term_of_kind n (placeholder sort.Region u m) = (label.Leaf (leaf.Region (region.Placeholder u m)), refl, (leaf.Region (region.Placeholder u m), refl, refl))

terms_of_kinds : (n : ℕ) (ks : List PositionKind) → AreTermsOfKinds ks (map leaf_tree (value_leaves n ks))
terms_of_kinds n [] = tt
terms_of_kinds n (k ∷ ks) = (term_of_kind n k, terms_of_kinds (n + count_of (kind_of_position k)) ks)

-- what lists what it binds the query's table knows, over its values
first_knows : (i : Input) → (let f = canonical_of i in IsWellBound (whole_of f) → Knows (first_table f.kinds) (filled (first_values f.kinds) (whole_of f)))
first_knows i w =
    let f = canonical_of i in
    query-known [] (made_entries f.kinds []) f.kinds (filled (first_values f.kinds) (whole_of f)) (whole_of f) refl (root_kinds f.kinds (form-kinds i)) (form-no_name i) w refl

pub first_of_input : (i : Input) → IsInput i → (let f = canonical_of i in IsWellBound (whole_of f) → IsFirst f (first_table f.kinds) (first_values f.kinds))
first_of_input i proper w =
    let f = canonical_of i in
    let ks = f.kinds in
    let order = input_kinds i proper in
    let made = first_made ks order in
    let start = made.1 in
    let environment = canonical_environment_over i proper in
    let predicate = canonical_predicate_over i proper in
    let known = first_knows i w in
    record {
      begins = record {
        stand_ins = stand_ins 0 ks;
        are_stand_ins = are_standing (stand_ins 0 ks) 0 ks (all_from ks);
        known = stand_ins_known 0 ks;
        made = made.0;
        proper = nothing_proper;
        numbered = numbered_kinds 0 ks order;
        environment = environment;
        predicate = predicate;
      };
      placed = first_placed ks;
      current = start.current;
      knows = (known.0, (known.1.0, tt));
      table = first_query i (let p = start.proper in p.sound);
      kinds = terms_of_kinds 0 ks;
      environment = labels_in ks (filled (first_values ks) f.environment) (asked_passes ks f.environment (form-kinds i) environment);
      predicate = labels_in ks (filled (first_values ks) f.predicate) (asked_passes ks f.predicate (form-kinds i) predicate);
    }

-- a goal that its table knows is asked in the first table of its query: it lists what it binds
input_well_bound : (c : Content) (e g : Tree) (i : Input) → IsInputFor c e g i → Knows c (pair e g) → IsWellBound (whole i)
input_well_bound c e g i h k = (let w = known_well_bound c (pair e g) k in rw (h.environment, h.predicate, h.hidden) (w.0, (w.1.0, (tt, tt))))

pub begins_each : (declared : ℕ → List Variance) → BeginsEach (queries declared)
begins_each declared = record { first = λ c e g i h k. first_of_input i h.proper (form-well_bound i (input_well_bound c e g i h k)) }

-- .. and so is the goal of a canonical input
pub first_of_query : {ts : List Tree} {c : CanonicalInput} → IsQueryInput ts c → IsFirst (form_of ts c) (first_table (kinds_of c)) (first_values (kinds_of c))
first_of_query {ts} {c} h =
    let x = h.asks in
    let input = h.input in
    subst (λ f. IsFirst f (first_table f.kinds) (first_values f.kinds)) (sym x.form) (first_of_input x.asked x.proper (subst (λ f. IsWellBound (whole_of f)) x.form input.well_bound))
