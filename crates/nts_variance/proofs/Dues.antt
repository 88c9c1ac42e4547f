-- Goals that are due: what stays so in later tables, and what parts and pairs can ask for.
use Rattle.std.proofs.Common.{◌≡◌, ◌≢◌, ◌⊎◌, inl, inr, ⊎_elim, ℕ, ◌≤◌, length, Bool, true, false, List, [], ◌∷◌, ◌++◌, Some, refl, sym, ap, ◌∙◌, subst, arith}
use Rattle.nts_model.specs.declared.labels.Variance.{Variance}
use Rattle.nts_model.specs.declared.labels.Variance.TheVariants as variance
use Rattle.nts_model.specs.declared.labels.AliasHead.TheVariants as alias_of
use Rattle.nts_model.specs.declared.labels.VariableKind.TheVariants as kind
use Rattle.nts_model.specs.declared.labels.Leaf.TheVariants as leaf
use Rattle.nts_model.specs.declared.labels.Label.TheVariants as label
use Rattle.nts_model.specs.Terms.Trees.{Tree, empty, more, node, infer_of}
use Rattle.nts_model.specs.Tables.Contents.{Content, unset, link, state_of}
use Rattle.nts_model.specs.Tables.Resolving.{rooted, Knows, Reaches, here, on, UnsetAt, AllUnset}
use Rattle.nts_model.specs.Tables.Holding.{Continues}
use Rattle.nts_model.specs.Derivations.Related.{times, first_variance, rest_variances}
use Rattle.nts_model.proofs.Tables.Held.{AreOne-continues}
use Rattle.nts_model.proofs.Tables.Slots.{Knows-kept, field_below}
use Rattle.nts_variance_model.specs.Variances.Forms.{Form, a_constructor, a_function, a_value, an_alias, over, variances_over, pairs_over}
use Rattle.nts_variance_model.specs.Variances.Relations.{Relating as Pair, ArePairsKnown}
use Rattle.nts_variance_model.proofs.Variances.Alongside.{times_invariant}
use Rattle.nts_relating.specs.Parts.{IsVariableValue}
use Rattle.nts_variance.specs.SubRoots.{was}
use Rattle.nts_variance.specs.Steps.{WalkStep, enter, build, owe, entering}
use Rattle.nts_variance.specs.Walking.{IsTableGrown, KnowsSteps, sides}
use Rattle.nts_variance.specs.Debts.{AreUnvaluedSteps}
use Rattle.nts_variance.specs.Due.{IsTypeVariable, IsValued, GotValue, ShareSubRoots, WasMadeFor, AreTwoSides, AreTypeVariables, IsGoalDue, AreGoalsDue, AreGoalsOfAliases, IsNoType, IsUnvalued, AreUnvaluedPairs}
use Rattle.nts_variance.proofs.Leaves.{kept_kinds}
use Rattle.nts_variance.proofs.Debts.{type_kind, opposite_varies}

-- in later tables
valued_later : {c d : Content} (t : Tree) → Continues c d → Knows c t → IsValued c t → IsValued d t
valued_later {c} {d} t k knows v =
    record { value = v.value; knows = Knows-kept c d v.value (kept_kinds c d k) v.knows; lower = v.lower; one = AreOne-continues c d t v.value k knows v.knows v.one }

pub got_later : {b c d : Content} (t : Tree) → Continues c d → Knows c t → GotValue b c t → GotValue b d t
got_later t k knows g = record { number = g.number; is = g.is; before = g.before; after = valued_later t k knows g.after }

pub reaches_later : {c d : Content} {n m : ℕ} → IsTableGrown c d → Reaches c n m → Reaches d n m
reaches_later l here = here
reaches_later l (on {m = m} {r = r} h e) = on (reaches_later l h) (let s = l.subs in s.links m r e)

share_later : {c d : Content} (n m : ℕ) → IsTableGrown c d → ShareSubRoots c n m → ShareSubRoots d n m
share_later n m l s =
    let subs = l.subs in
    record { first = s.first; second = s.second; of_first = reaches_later l s.of_first; of_second = reaches_later l s.of_second; shared = subs.all s.first s.second (was s.shared) }

made_later : {b c d : Content} (n m : ℕ) → IsTableGrown c d → WasMadeFor b c n m → WasMadeFor b d n m
made_later n m l w = record { free = w.free; new = w.new; shared = share_later n m l w.shared }

variables_later : {b c d : Content} (x y : Tree) → IsTableGrown c d → AreTypeVariables b c x y → AreTypeVariables b d x y
variables_later x y l v =
    record {
      first = v.first;
      second = v.second;
      left = v.left;
      right = v.right;
      either = ⊎_elim (λ u. inl u) (λ m. inr (⊎_elim (λ w. inl (made_later v.first v.second l w)) (λ w. inr (made_later v.second v.first l w)) m)) v.either;
    }

due_later : {b c d : Content} (p : Pair) → IsTableGrown c d → Continues c d → Knows c p.left → Knows c p.right → IsGoalDue b c p → IsGoalDue b d p
due_later p l k left right (inl a) = inl a
due_later p l k left right (inr h) = inr (h.0, h.1, ⊎_elim (λ v. inl (variables_later p.left p.right l v)) (λ g. inr (⊎_elim (λ x. inl (got_later p.left k left x)) (λ y. inr (got_later p.right k right y)) g)) h.2)

pub dues_later : (b : Content) {c d : Content} (gs : List Pair) → IsTableGrown c d → Continues c d → ArePairsKnown c gs → AreGoalsDue b c gs → AreGoalsDue b d gs
dues_later b [] l k known h = tt
dues_later b (p ∷ gs) l k known h = (due_later p l k known.0 known.1 h.0, dues_later b gs l k known.2 h.1)

pub dues_append : (b d : Content) (ps qs : List Pair) → AreGoalsDue b d ps → AreGoalsDue b d qs → AreGoalsDue b d (ps ++ qs)
dues_append b d [] qs h k = k
dues_append b d (p ∷ ps) qs h k = (h.0, dues_append b d ps qs h.1 k)

pub dues_to : (b d : Content) {ps qs : List Pair} → ps ≡ qs → AreGoalsDue b d qs → AreGoalsDue b d ps
dues_to b d e h = rw e h

-- goals of aliases are due, in any tables
pub aliases_due : (b d : Content) (gs : List Pair) → AreGoalsOfAliases gs → AreGoalsDue b d gs
aliases_due b d [] h = tt
aliases_due b d (p ∷ gs) h = (inl h.0, aliases_due b d gs h.1)

pub aliases_append : (ps qs : List Pair) → AreGoalsOfAliases ps → AreGoalsOfAliases qs → AreGoalsOfAliases (ps ++ qs)
aliases_append [] qs h k = k
aliases_append (p ∷ ps) qs h k = (h.0, aliases_append ps qs h.1 k)

-- .. and goals that are due since a table without variables are goals of aliases
abbrev pub no_variables : Content
no_variables = record { slots = []; order = []; universe = 0; constraints = [] }

never_variables : (d : Content) (a b : Tree) → AreTypeVariables no_variables d a b → ⊥
never_variables d a b v = ⊎_elim (λ u. (let e = u.first in cc e)) (λ m. ⊎_elim (λ w. (let e = w.free in cc e)) (λ w. (let e = w.free in cc e)) m) v.either

never_got : (d : Content) (t : Tree) → GotValue no_variables d t → ⊥
never_got d t g = (let e = g.before in cc e)

pub due_aliases : (d : Content) (gs : List Pair) → AreGoalsDue no_variables d gs → AreGoalsOfAliases gs
due_aliases d [] h = tt
due_aliases d (p ∷ gs) h =
    (⊎_elim (λ a. a) (λ x. absurd (⊎_elim (λ v. never_variables d p.left p.right v) (λ g. ⊎_elim (λ l. never_got d p.left l) (λ r. never_got d p.right r) g) x.2)) h.0, due_aliases d gs h.1)

-- in either order
pub variables_turned : {b d : Content} (x y : Tree) → AreTypeVariables b d x y → AreTypeVariables b d y x
variables_turned x y v =
    record {
      first = v.second;
      second = v.first;
      left = v.right;
      right = v.left;
      either = ⊎_elim (λ u. inl (record { first = u.second; second = u.first; apart = λ e. u.apart (sym e) })) (λ m. inr (⊎_elim (λ w. inr w) (λ w. inl w) m)) v.either;
    }

pub two_turned : {b : Content} {x y : Tree} → AreTwoSides b x y → AreTwoSides b y x
two_turned h = record { trees = λ e. h.trees (sym e); classes = λ n m r p q f g. h.classes m n r q p g f; left = h.right; right = h.left }

pub due_sides : (b d : Content) (z : Bool) (v : Variance) (r t : Tree) → IsGoalDue b d (record { variance = v; left = r; right = t }) → IsGoalDue b d (sides z v r t)
due_sides b d false v r t h = h
due_sides b d true v r t (inl a) = inl (⊎_elim (λ x. inr x) (λ y. inl y) a)
due_sides b d true v r t (inr h) = inr (opposite_varies v h.0, two_turned h.1, ⊎_elim (λ w. inl (variables_turned r t w)) (λ g. inr (⊎_elim (λ x. inr x) (λ y. inl y) g)) h.2)

-- two sides
pub one_number : (t : Tree) (n m : ℕ) → IsTypeVariable t n → IsTypeVariable t m → n ≡ m
one_number t n m p q = (let same : Some (label.Leaf (leaf.Variable kind.Ty n)) ≡ Some (label.Leaf (leaf.Variable kind.Ty m)) = sym p ∙ q in cc)

-- no link leads on from a variable without a value, and from one that is not of the table
no_way : (c : Content) (n : ℕ) → ((m : ℕ) → state_of c n ≡ Some (link m) → ⊥) → {r : ℕ} → Reaches c n r → n ≡ r
no_way c n none here = refl
no_way c n none (on {m = m} {r = r} h e) = (let same : n ≡ m = no_way c n none h in absurd (none r (ap (state_of c) same ∙ e)))

pub unset_way : (c : Content) (n : ℕ) → state_of c n ≡ Some unset → {r : ℕ} → Reaches c n r → n ≡ r
unset_way c n free h = no_way c n (λ m e. (let z : Some unset ≡ Some (link m) = sym free ∙ e in cc)) h

new_way : (c : Content) (n : ℕ) → length c.slots ≤ n → {r : ℕ} → Reaches c n r → n ≡ r
new_way c n new h = no_way c n (λ m e. (let below = field_below (λ x. x.state) c n (link m) e in omega (arith, new, below))) h

-- a type variable without a value, and a tree that is none of the table's type variables
pub two_owed : (b : Content) (s t : Tree) (n : ℕ) → IsTypeVariable t n → state_of b n ≡ Some unset → ((k : ℕ) → IsTypeVariable s k → length b.slots ≤ k) → AreTwoSides b s t
two_owed b s t n is free newer =
    let below = field_below (λ x. x.state) b n unset free in
    record {
      trees = λ e. (let new = newer n (subst (λ y. IsTypeVariable y n) (sym e) is) in omega (arith, new, below));
      classes = λ i j r x y f g.
          (let new = newer i x in
          let own : n ≡ j = one_number t n j is y in
          let first : i ≡ r = new_way b i new f in
          let second : j ≡ r = unset_way b j (subst (λ k. state_of b k ≡ Some unset) own free) g in
          omega (arith, new, below, own, first, second));
      left = λ k x. inr (newer k x);
      right = λ j y. inl (subst (λ k. state_of b k ≡ Some unset) (one_number t n j is y) free);
    }

-- a type variable that is of a part
pub unset_number : (c : Content) (t : Tree) (n : ℕ) → IsTypeVariable t n → AllUnset c t → state_of c n ≡ Some unset
unset_number c empty n e h = cc
unset_number c (more a b) n e h = cc
unset_number c (node l x) n e h = (let same : l ≡ label.Leaf (leaf.Variable kind.Ty n) = cc in subst (λ m. UnsetAt c (infer_of m) (AllUnset c x)) same h)

-- two parts in which no variable has a value
pub two_unset : (c : Content) (a b : Tree) → AllUnset c a → AllUnset c b → (a ≢ b) → ((n : ℕ) → IsTypeVariable a n → IsTypeVariable b n → ⊥) → AreTwoSides c a b
two_unset c a b first second trees apart =
    record {
      trees = trees;
      classes = λ n m r x y f g.
          (let p : n ≡ r = unset_way c n (unset_number c a n x first) f in
          let q : m ≡ r = unset_way c m (unset_number c b m y second) g in
          apart n x (subst (IsTypeVariable b) (q ∙ sym p) y));
      left = λ n x. inl (unset_number c a n x first);
      right = λ m y. inl (unset_number c b m y second);
    }

pub fresh_number : (c : Content) (v : Variance) (t : Tree) (n : ℕ) → IsTypeVariable t n → v ≢ variance.Invariant → IsUnvalued c v t → state_of c n ≡ Some unset
fresh_number c v t n e varies h = ⊎_elim
    (λ i. absurd (varies i))
    (λ x. ⊎_elim (λ k. absurd (k (type_kind t n e))) (λ u. unset_number c t n e u) x) h

-- a variable's value
pub value_valued : (c : Content) (t v : Tree) → IsVariableValue c t v → IsValued c t
value_valued c t v k = record { value = v; knows = k.knows; lower = k.lower; one = ap (rooted c) k.same }

-- steps
pub fresh_steps_later : (b : Content) {c d : Content} (xs : List WalkStep) → Continues c d → KnowsSteps c xs → AreUnvaluedSteps b c xs → AreUnvaluedSteps b d xs
fresh_steps_later b [] k known h = tt
fresh_steps_later b (enter v q t ∷ xs) k known h = (h.0, fresh_steps_later b xs k known.1 h.1)
fresh_steps_later b (build F n ∷ xs) k known h = fresh_steps_later b xs k known.1 h
fresh_steps_later b (owe v t ∷ xs) k known h = (let own = h.0 in ((own.0, got_later t k known.0 own.1), fresh_steps_later b xs k known.1 h.1))

pub steps_to : (b c : Content) {xs ys : List WalkStep} → xs ≡ ys → AreUnvaluedSteps b c ys → AreUnvaluedSteps b c xs
steps_to b c e h = rw e h

-- the parts of a node
unset_parts : (c : Content) (F : Form) (ts : Tree) → AllUnset c (over F ts) → AllUnset c ts
unset_parts c (a_constructor i) ts h = h.0
unset_parts c (a_function ss) ts h = h.1.0
unset_parts c (a_value b) ts h = h
unset_parts c (an_alias (alias_of.Ty i)) ts h = h.0
unset_parts c (an_alias (alias_of.Const i)) ts h = h.0

abbrev EnteredFresh : Content → Variance → List Variance → Bool → Tree → Type 0
EnteredFresh b v ws q ts = (q ≡ true) ⊎ ((v ≡ variance.Invariant) ⊎ ((ws ≡ []) ⊎ AllUnset b ts))

entered_fresh : (b c : Content) (v : Variance) (ws : List Variance) (q : Bool) (ts : Tree) (xs : List WalkStep) → EnteredFresh b v ws q ts → AreUnvaluedSteps b c xs → AreUnvaluedSteps b c (entering v ws q ts xs)
entered_fresh b c v ws q empty xs f h = h
entered_fresh b c v ws q (node l y) xs f h = h
entered_fresh b c v ws q (more t ts) xs (inl e) h = (inl e, entered_fresh b c v (rest_variances ws) q ts xs (inl e) h)
entered_fresh b c v ws q (more t ts) xs (inr (inl e)) h = (inr (inl (ap (λ w. times w (first_variance ws)) e)), entered_fresh b c v (rest_variances ws) q ts xs (inr (inl e)) h)
entered_fresh b c v ws q (more t ts) xs (inr (inr (inl e))) h =
    (inr (inl (ap (λ y. times v (first_variance y)) e ∙ times_invariant v)), entered_fresh b c v (rest_variances ws) q ts xs (inr (inr (inl (ap rest_variances e)))) h)
entered_fresh b c v ws q (more t ts) xs (inr (inr (inr u))) h = (inr (inr (inr u.0)), entered_fresh b c v (rest_variances ws) q ts xs (inr (inr (inr u.1))) h)

const_form : (declared : ℕ → List Variance) (F : Form) (ts : Tree) → IsNoType (over F ts) → variances_over declared F ts ≡ []
const_form declared (a_constructor i) ts h = absurd (h refl)
const_form declared (a_function ss) ts h = absurd (h refl)
const_form declared (a_value b) ts h = refl
const_form declared (an_alias k) ts h = refl

pub node_fresh : (declared : ℕ → List Variance) (b c : Content) (v : Variance) (q : Bool) (F : Form) (ts : Tree) (xs : List WalkStep) → (q ≡ true) ⊎ IsUnvalued b v (over F ts) → AreUnvaluedSteps b c xs → AreUnvaluedSteps b c (entering v (variances_over declared F ts) q ts xs)
node_fresh declared b c v q F ts xs f h =
    entered_fresh b c v (variances_over declared F ts) q ts xs
    (⊎_elim (λ e. inl e) (λ g. inr (⊎_elim (λ e. inl e) (λ k. inr (⊎_elim (λ e. inl (const_form declared F ts e)) (λ u. inr (unset_parts b F ts u)) k)) g)) f) h

-- pairs
pub fresh_pairs_append : (c : Content) (ps qs : List Pair) → AreUnvaluedPairs c ps → AreUnvaluedPairs c qs → AreUnvaluedPairs c (ps ++ qs)
fresh_pairs_append c [] qs h k = k
fresh_pairs_append c (p ∷ ps) qs h k = (h.0, fresh_pairs_append c ps qs h.1 k)

row_fresh : (c : Content) (v : Variance) (ws : List Variance) (ts us : Tree) → (v ≡ variance.Invariant) ⊎ ((ws ≡ []) ⊎ (AllUnset c ts × AllUnset c us)) → AreUnvaluedPairs c (pairs_over v ws ts us)
row_fresh c v ws empty us f = tt
row_fresh c v ws (node l y) us f = tt
row_fresh c v ws (more a ts) empty f = tt
row_fresh c v ws (more a ts) (node l y) f = tt
row_fresh c v ws (more a ts) (more b us) (inl e) = (inl (ap (λ w. times w (first_variance ws)) e), row_fresh c v (rest_variances ws) ts us (inl e))
row_fresh c v ws (more a ts) (more b us) (inr (inl e)) = (inl (ap (λ y. times v (first_variance y)) e ∙ times_invariant v), row_fresh c v (rest_variances ws) ts us (inr (inl (ap rest_variances e))))
row_fresh c v ws (more a ts) (more b us) (inr (inr u)) = (inr (inr (u.0.0, u.1.0)), row_fresh c v (rest_variances ws) ts us (inr (inr (u.0.1, u.1.1))))

pub parts_fresh : (declared : ℕ → List Variance) (c : Content) (v : Variance) (F G : Form) (ts us : Tree) → (v ≡ variance.Invariant) ⊎ (IsNoType (over F ts) ⊎ (AllUnset c (over F ts) × AllUnset c (over G us))) → AreUnvaluedPairs c (pairs_over v (variances_over declared F ts) ts us)
parts_fresh declared c v F G ts us f =
    row_fresh c v (variances_over declared F ts) ts us (⊎_elim (λ e. inl e) (λ g. inr (⊎_elim (λ n. inl (const_form declared F ts n)) (λ u. inr (unset_parts c F ts u.0, unset_parts c G us u.1)) g)) f)

-- .. and of two lists, which do not vary
pub list_fresh : (c : Content) (v : Variance) (ws : List Variance) (ts us : Tree) → v ≡ variance.Invariant → AreUnvaluedPairs c (pairs_over v ws ts us)
list_fresh c v ws ts us e = row_fresh c v ws ts us (inl e)
