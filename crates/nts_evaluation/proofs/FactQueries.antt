-- The first table of a query, made for an input: its variables are unset and are its terms, and the constants of its goal are among these.
use Rattle.std.specs.Global.{Vec, Box}
use Rattle.std.specs.Prelude.{IfOk}
use Rattle.std.proofs.Common.{true, Option, Result, Ok, Err, ◌≡◌, ◌⊎◌, inl, inr, ℕ, zero, suc, ◌+◌, ◌≤◌, List, [], ◌∷◌, ◌++◌, map, slice_get, get_or, Some, None, refl, sym, ap, subst, ◌∙◌, arith}
use Rattle.nts_model.specs.declared.labels.Sort.{Sort}
use Rattle.nts_model.specs.declared.labels.Sort.TheVariants as sort
use Rattle.nts_model.specs.declared.labels.VariableKind.{VariableKind}
use Rattle.nts_model.specs.declared.labels.VariableKind.TheVariants as kind
use Rattle.nts_model.specs.declared.labels.Leaf.{Leaf}
use Rattle.nts_model.specs.declared.labels.Leaf.TheVariants as leaf
use Rattle.nts_model.specs.declared.labels.BoundVarIndexKind.TheVariants as index
use Rattle.nts_model.specs.declared.labels.Label.{Label}
use Rattle.nts_model.specs.declared.labels.Label.TheVariants as label
use Rattle.nts_model.specs.Terms.Trees.{Tree, empty, more, node, IsFormed}
use Rattle.nts_model.specs.Terms.Substitutions.{leaf_tree, Occurs, IsConstant, filled, position_of, value_or}
use Rattle.nts_model.specs.Tables.Contents.{Content, Slot, map_slot, unset}
use Rattle.nts_model.specs.Tables.Resolving.{Knows, IsSound}
use Rattle.nts_model.specs.Lists.{Among}
use Rattle.nts_model.specs.Derivations.Related.{pair}
use Rattle.nts_model.specs.Derivations.Handlers.{IsFixed}
use Rattle.nts_model.specs.Canonical.Inputs.{PositionKind, type_variable, integer_variable, float_variable, const_variable, region_variable, placeholder}
use Rattle.nts_model.specs.Answers.Responses.{IsOverPositions, universe_of_kind}
use Rattle.nts_decisions.specs.FirstTables.{IsFirstLeaf, a_variable, a_type, a_const, a_region, IsFirstQuery, IsSettledFact}
use Rattle.nts_decisions.proofs.DecidingRenamed.{among_back}
use Rattle.nts_decisions.proofs.Faring.{among_by}
use Rattle.nts_store.specs.Growth.{tree_at}
use Rattle.nts_terms.specs.declared.handles.Goal.{Goal}
use Rattle.nts_terms.specs.declared.handles.GenericArg.{GenericArg}
use Rattle.nts_unify.specs.Reading.{slot_of}
use Rattle.nts_table.specs.Tables.{Table}
use Rattle.nts_canonical.specs.declared.types.CanonicalInput.{CanonicalInput}
use Rattle.nts_canonical.specs.Forms.{form_of}
use Rattle.nts_canonical.specs.Building.{kinds_of}
use Rattle.nts_canonical.specs.Kinds.{value_leaf, value_leaves, made_variables}
use Rattle.nts_meaning.specs.Asking.{first_table, asked_environment, asked_predicate}
use Rattle.nts_store.specs.Formed.{AreFormed}
use Rattle.nts_meaning.specs.Answering.{IsQueryInput}
use Rattle.nts_meaning.specs.Rounds.{BeginsQuery}
use Rattle.nts_meaning.proofs.FirstTables.{first_of_query}
use Rattle.nts_model.specs.Derivations.Handlers.{Handler}
use Rattle.nts_model.specs.Canonical.Inputs.{canonical_of, IsInput}
use Rattle.nts_certainty.specs.declared.certainty.Certainty.TheVariants as certainty
use Rattle.nts_store.specs.declared.fault.EvalError.{EvalError}
use Rattle.nts_store.specs.declared.fault.EvalError.TheVariants as error
use Rattle.nts_terms.specs.Modes.{mode_of}
use Rattle.nts_canonical.specs.declared.types.Canonical.{Canonical}
use Rattle.nts_canonical.specs.Forms.{input_of}
use Rattle.nts_response.specs.declared.types.Response.{Response}
use Rattle.nts_search.specs.declared.stack.SearchGraph.{SearchGraph}
use Rattle.nts_meaning.specs.Answering.{IsQueryOf}
use Rattle.nts_meaning.specs.Rounds.{IsBoxed}
use Rattle.nts_meaning.specs.declared.response.Evaluated.{Evaluated}
use Rattle.nts_evaluation.specs.Deciding.{IsAbove, IsAsBefore, Decides, IsYes, IsQueryAtFirst, IsFactHere, IsFactForm, IsRoundYes}
use Rattle.nts_evaluation.proofs.Deciding.{decides_fault}

-- its variables are unset
abbrev AreUnset : List Slot → Type 0
AreUnset [] = Unit {0}
AreUnset (v ∷ vs) = (v.state ≡ unset) × AreUnset vs

unset_made : (earlier ks : List PositionKind) → AreUnset (map (slot_of []) (made_variables earlier ks))
unset_made earlier [] = tt
unset_made earlier (type_variable u r ∷ ks) = (refl, unset_made (earlier ++ type_variable u r ∷ []) ks)
unset_made earlier (integer_variable ∷ ks) = (refl, unset_made (earlier ++ integer_variable ∷ []) ks)
unset_made earlier (float_variable ∷ ks) = (refl, unset_made (earlier ++ float_variable ∷ []) ks)
unset_made earlier (const_variable u ∷ ks) = (refl, unset_made (earlier ++ const_variable u ∷ []) ks)
unset_made earlier (region_variable u ∷ ks) = (refl, unset_made (earlier ++ region_variable u ∷ []) ks)
unset_made earlier (placeholder s u n ∷ ks) = unset_made (earlier ++ placeholder s u n ∷ []) ks

unset_at : (vs : List Slot) → AreUnset vs → (n : ℕ) → (map_slot (λ v. v.state) (slice_get vs n) ≡ None) ⊎ (map_slot (λ v. v.state) (slice_get vs n) ≡ Some unset)
unset_at [] h n = inl refl
unset_at (v ∷ vs) h zero = inr (ap Some h.0)
unset_at (v ∷ vs) h (suc n) = unset_at vs h.1 n

-- .. and are among its terms
its_leaf : (b : ℕ) (j k : VariableKind) → Some j ≡ Some k → leaf.Variable k (b + 0) ≡ leaf.Variable j b
its_leaf b j k e = (let same : b + 0 ≡ b = omega arith in let one : j ≡ k = cc e in cc (same, one))

later_leaf : (b n : ℕ) (k : VariableKind) (xs : List Leaf) → Among xs (leaf.Variable k (b + 1 + n)) → Among xs (leaf.Variable k (b + suc n))
later_leaf b n k xs i = subst (λ z. Among xs (leaf.Variable k z)) (let e : b + 1 + n ≡ b + suc n = omega arith in e) i

same_leaf : (b n : ℕ) (k : VariableKind) (xs : List Leaf) → Among xs (leaf.Variable k (b + 0 + n)) → Among xs (leaf.Variable k (b + n))
same_leaf b n k xs i = subst (λ z. Among xs (leaf.Variable k z)) (let e : b + 0 + n ≡ b + n = omega arith in e) i

all_leaves : (earlier ks : List PositionKind) (b n : ℕ) (k : VariableKind) → map_slot (λ v. v.kind) (slice_get (map (slot_of []) (made_variables earlier ks)) n) ≡ Some k → Among (value_leaves b ks) (leaf.Variable k (b + n))
all_leaves earlier [] b n k e = absurd (cc e)
all_leaves earlier (type_variable u r ∷ ks) b zero k e = inl (its_leaf b kind.Ty k e)
all_leaves earlier (type_variable u r ∷ ks) b (suc n) k e = inr (later_leaf b n k (value_leaves (b + 1) ks) (all_leaves (earlier ++ type_variable u r ∷ []) ks (b + 1) n k e))
all_leaves earlier (integer_variable ∷ ks) b zero k e = inl (its_leaf b kind.Int k e)
all_leaves earlier (integer_variable ∷ ks) b (suc n) k e = inr (later_leaf b n k (value_leaves (b + 1) ks) (all_leaves (earlier ++ integer_variable ∷ []) ks (b + 1) n k e))
all_leaves earlier (float_variable ∷ ks) b zero k e = inl (its_leaf b kind.Float k e)
all_leaves earlier (float_variable ∷ ks) b (suc n) k e = inr (later_leaf b n k (value_leaves (b + 1) ks) (all_leaves (earlier ++ float_variable ∷ []) ks (b + 1) n k e))
all_leaves earlier (const_variable u ∷ ks) b zero k e = inl (its_leaf b kind.Const k e)
all_leaves earlier (const_variable u ∷ ks) b (suc n) k e = inr (later_leaf b n k (value_leaves (b + 1) ks) (all_leaves (earlier ++ const_variable u ∷ []) ks (b + 1) n k e))
all_leaves earlier (region_variable u ∷ ks) b zero k e = inl (its_leaf b kind.Region k e)
all_leaves earlier (region_variable u ∷ ks) b (suc n) k e = inr (later_leaf b n k (value_leaves (b + 1) ks) (all_leaves (earlier ++ region_variable u ∷ []) ks (b + 1) n k e))
all_leaves earlier (placeholder s u m ∷ ks) b n k e = inr (same_leaf b n k (value_leaves (b + 0) ks) (all_leaves (earlier ++ placeholder s u m ∷ []) ks (b + 0) n k e))

-- its terms are its variables, or placeholders of the root
root_of_sort : (c : Content) → c.universe ≡ 0 → (s : Sort) (u n b : ℕ) → Knows c (leaf_tree (value_leaf (placeholder s u n) u b)) → IsFirstLeaf c (value_leaf (placeholder s u n) u b)
root_of_sort c z sort.Ty u n b h = (let low : u ≤ c.universe = h.0.1 in let root : u ≡ 0 = omega (arith, low, z) in rw root a_type)
root_of_sort c z sort.Const u n b h = (let low : u ≤ c.universe = h.0.1 in let root : u ≡ 0 = omega (arith, low, z) in rw root a_const)
root_of_sort c z sort.Region u n b h = (let low : u ≤ c.universe = h.0.1 in let root : u ≡ 0 = omega (arith, low, z) in rw root a_region)

its_term : (c : Content) → c.universe ≡ 0 → (k : PositionKind) (b : ℕ) → Knows c (leaf_tree (value_leaf k (universe_of_kind k) b)) → IsFirstLeaf c (value_leaf k (universe_of_kind k) b)
its_term c z (type_variable u r) b h = a_variable h.0.0
its_term c z integer_variable b h = a_variable h.0.0
its_term c z float_variable b h = a_variable h.0.0
its_term c z (const_variable u) b h = a_variable h.0.0
its_term c z (region_variable u) b h = a_variable h.0.0
its_term c z (placeholder s u n) b h = root_of_sort c z s u n b h

each_term : (c : Content) → c.universe ≡ 0 → (ks : List PositionKind) (b : ℕ) (y : Leaf) → Among (value_leaves b ks) y → Knows c (leaf_tree y) → IsFirstLeaf c y
each_term c z [] b y i h = absurd i
each_term c z (k ∷ ks) b y (inl e) h = subst (IsFirstLeaf c) (sym e) (its_term c z k b (subst (λ x. Knows c (leaf_tree x)) e h))
each_term c z (k ∷ ks) b y (inr i) h = each_term c z ks _ y i h

-- what occurs in a term with values in place of positions
pub record OccursInOne (y : Leaf) (vs : List Tree) : Type 0 where
  pub value : Tree
  pub found : Among vs value
  pub there : Occurs y value

in_value : (y : Leaf) (vs : List Tree) (n : ℕ) → Occurs y (get_or vs n empty) → OccursInOne y vs
in_value y [] n o = absurd o
in_value y (v ∷ vs) zero o = record { value = v; found = inl refl; there = o }
in_value y (v ∷ vs) (suc n) o = (let r = in_value y vs n o in record { value = r.value; found = inr r.found; there = r.there })

below_label : (y : Leaf) (vs : List Tree) (l : Label) (c : Tree) → (Occurs y (filled vs c) → Occurs y c ⊎ OccursInOne y vs) → Occurs y (node l (filled vs c)) → Occurs y (node l c) ⊎ OccursInOne y vs
below_label y vs l c h (inl e) = inl (inl e)
below_label y vs l c h (inr o) = elim (h o) [ inl p ↦ inl (inr p) | inr v ↦ inr v ]

occurs_label : (y : Leaf) (vs : List Tree) (l : Label) (c : Tree) → (Occurs y (filled vs c) → Occurs y c ⊎ OccursInOne y vs) → Occurs y (value_or (position_of l) vs (node l (filled vs c))) → Occurs y (node l c) ⊎ OccursInOne y vs
occurs_label y vs (label.Leaf x) c h o = below_label y vs (label.Leaf x) c h o
occurs_label y vs (label.Bound s (index.Bound d) n) c h o = below_label y vs (label.Bound s (index.Bound d) n) c h o
occurs_label y vs (label.Bound s index.Canonical n) c h o = inr (in_value y vs n o)
occurs_label y vs (label.Ty x) c h o = below_label y vs (label.Ty x) c h o
occurs_label y vs (label.Const x) c h o = below_label y vs (label.Const x) c h o
occurs_label y vs (label.Clause x) c h o = below_label y vs (label.Clause x) c h o
occurs_label y vs (label.Predicate x) c h o = below_label y vs (label.Predicate x) c h o
occurs_label y vs (label.List x) c h o = below_label y vs (label.List x) c h o

occurs_filled : (y : Leaf) (vs : List Tree) (t : Tree) → Occurs y (filled vs t) → Occurs y t ⊎ OccursInOne y vs
occurs_filled y vs empty o = absurd o
occurs_filled y vs (more a b) (inl o) = elim (occurs_filled y vs a o) [ inl p ↦ inl (inl p) | inr v ↦ inr v ]
occurs_filled y vs (more a b) (inr o) = elim (occurs_filled y vs b o) [ inl p ↦ inl (inr p) | inr v ↦ inr v ]
occurs_filled y vs (node l c) o = occurs_label y vs l c (occurs_filled y vs c) o

no_fixed_constant : (y : Leaf) → IsFixed y → IsConstant y → ⊥
no_fixed_constant (leaf.Region r) f c = c
no_fixed_constant (leaf.Variable k n) f c = c
no_fixed_constant (leaf.TyConstant a) f c = f
no_fixed_constant (leaf.ConstConstant a) f c = f

only_leaf : (x y : Leaf) → Occurs y (leaf_tree x) → y ≡ x
only_leaf x y (inl e) = one_leaf e
  where
    one_leaf : label.Leaf y ≡ label.Leaf x → y ≡ x
    one_leaf e = cc e
only_leaf x y (inr o) = absurd o

its_constant : (ls : List Leaf) (t : Tree) → IsOverPositions t → (y : Leaf) → IsConstant y → Occurs y (filled (map leaf_tree ls) t) → Among ls y
its_constant ls t over y c o = elim (occurs_filled y (map leaf_tree ls) t o) [ inl p ↦ absurd (no_fixed_constant y (over.leaves y p) c) | inr r ↦ here r ]
  where
    here : OccursInOne y (map leaf_tree ls) → Among ls y
    here r =
        (let x = among_back leaf_tree ls r.value r.found in
        subst (Among ls) (sym (only_leaf x.of y (subst (Occurs y) x.same r.there))) x.found)

-- the query of an input
pub query_begun : (a b : List Tree) (input : CanonicalInput) (t : Table) (g : Goal) (qs : List GenericArg) → IsQueryInput a input → BeginsQuery a b input t g qs → IsQueryAtFirst b t g qs
query_begun a b input t g qs over begins =
    let ks : List PositionKind = kinds_of input in
    let first = first_of_query over in
    let table = first.table in
    let posed = begins.posed in
    let knows = posed.knows in
    let held = posed.table in
    let now = held.now in
    let same = begins.first in
    record {
      kinds = ks;
      values = begins.values;
      first = subst (λ c. IsFirstQuery c (value_leaves 0 ks) (tree_at b g.param_env.node) (tree_at b g.predicate.node)) (sym same) (record {
        unset = unset_at (map (slot_of []) (made_variables [] ks)) (unset_made [] ks);
        none = refl;
        proper = record { sound = subst IsSound same now.sound; sides = tt };
        each = λ y i. each_term (first_table ks) refl ks 0 y i (let k = table.terms (leaf_tree y) (among_by leaf_tree (value_leaves 0 ks) y i) in let term = k.0 in term.knows);
        all = λ k n e. subst (λ z. Among (value_leaves 0 ks) (leaf.Variable k z)) (let z : 0 + n ≡ n = omega arith in z) (all_leaves [] ks 0 n k e);
        knows = subst (λ c. Knows c (pair (tree_at b g.param_env.node) (tree_at b g.predicate.node))) same (knows.env, (knows.predicate, tt));
        constants = λ y o c. elim o [
          | inl p ↦ its_constant (value_leaves 0 ks) (let f = form_of a input in f.environment) over.environment y c (subst (Occurs y) begins.environment p)
          | inr q ↦ elim q [
            | inl p ↦ its_constant (value_leaves 0 ks) (let f = form_of a input in f.predicate) over.predicate y c (subst (Occurs y) begins.predicate p)
            | inr p ↦ absurd p
          ]
        ];
      });
    }

-- .. in which one candidate without goals decides its goal
pub fact_begun : (h : Handler) (a b : List Tree) (input : CanonicalInput) (t : Table) (g : Goal) (qs : List GenericArg) → IsQueryInput a input → BeginsQuery a b input t g qs → AreFormed b → IsFactForm h (mode_of input.typing_mode) (form_of a input) → IsFactHere h t.mode b t g qs
fact_begun h a b input t g qs over begins formed f =
    let posed = begins.posed in
    let holds = posed.holds in
    let env = subst IsFormed begins.environment (formed g.param_env.node holds.env.within) in
    let predicate = subst IsFormed begins.predicate (formed g.predicate.node holds.predicate.within) in
    let settled : IsSettledFact h (mode_of input.typing_mode) (first_table (kinds_of input)) (asked_environment (form_of a input)) (asked_predicate (form_of a input)) = f env predicate in
    record { query = query_begun a b input t g qs over begins; settled = rw (begins.first, begins.environment, begins.predicate, begins.mode) settled }

-- nothing is decided lower than 0
pub nothing_above : (h : Handler) (ts : List Tree) (g : SearchGraph) → IsAbove h ts 0 g
nothing_above h ts g i d l m b less = absurd (omega (arith, less))

-- the same query in a later store
pub round_fact : (h : Handler) (a b : List Tree) (i j : CanonicalInput) → j ≡ i → form_of b j ≡ form_of a i → IsFactForm h (mode_of i.typing_mode) (form_of a i) → IsFactForm h (mode_of j.typing_mode) (form_of b j)
round_fact h a b i j e f d = subst (IsFactForm h (mode_of j.typing_mode)) (sym f) (subst (λ z. IsFactForm h z (form_of a i)) (ap (λ (x : CanonicalInput). mode_of x.typing_mode) (sym e)) d)

-- a goal of a table, as a query
pub fact_query : {h : Handler} {a b : List Tree} {t : Table} {os : Vec GenericArg} (g : Goal) (i : CanonicalInput) → IsQueryOf a b t g (os, i) → (IsInput (input_of a t.entries g []) → IsFactForm h (mode_of t.mode) (canonical_of (input_of a t.entries g []))) → IsFactForm h (mode_of i.typing_mode) (form_of b i)
fact_query {h} {a} {b} {t} g i q f = subst (IsFactForm h (mode_of i.typing_mode)) (sym q.form) (subst (λ z. IsFactForm h z (canonical_of (input_of a t.entries g []))) (sym q.mode) (f q.proper))

-- the last round's answer is the query's
pub last_fact : {g h : SearchGraph} (o : Option (Canonical Response)) (r : Result (Box (Canonical Response)) EvalError) → ((x : Canonical Response) → o ≡ Some x → IsBoxed x r) → IsRoundYes o → IsAsBefore g h → Decides true r (λ z. IsYes z.value.value.certainty) g h
last_fact None r some y s = absurd y
last_fact (Some x) (Ok z) some y s = record { answer = (refl, ap (λ (v : Canonical Response). v.value.certainty) (some x refl) ∙ y); search = s }
last_fact (Some x) (Err e) some y s = decides_fault (Err e) refl (λ q. some x refl (err_same e q))
  where
    err_same : (e : EvalError) → (let r : Result (Box (Canonical Response)) EvalError = Err e in r) ≡ Err error.NoSolution → e ≡ error.NoSolution
    err_same e q = cc q

-- a certain answer that was applied
pub applied_fact : {g h : SearchGraph} (r : Result Evaluated EvalError) → IfOk r (λ e. e.certainty ≡ certainty.Yes) → (r ≡ Err error.NoSolution → ⊥) → IsAsBefore g h → Decides true r (λ e. IsYes e.certainty) g h
applied_fact (Ok e) sure never s = record { answer = (refl, sure); search = s }
applied_fact (Err error.NoSolution) sure never s = absurd (never refl)
applied_fact (Err error.Memory) sure never s = record { answer = tt; search = tt }
applied_fact (Err error.Full) sure never s = record { answer = tt; search = tt }
