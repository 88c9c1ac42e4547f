-- The goals that a call of relating leaves are due, pair by pair.
use Rattle.std.proofs.Common.{◌≡◌, ◌≢◌, ◌⊎◌, inl, inr, ⊎_elim, ℕ, Bool, true, false, List, [], ◌∷◌, ◌++◌, Some, refl, sym, ap, ◌∙◌, subst, arith}
use Rattle.std.specs.Prelude.{Option, None, Result, Ok, Err, IfOk, IfErr, OnOk, slice_get}
use Rattle.std.specs.Result.{is_ok}
use Rattle.std.specs.Option.{is_some}
use Rattle.nts_model.specs.declared.labels.Sort.TheVariants as sort
use Rattle.nts_model.specs.declared.labels.Variance.{Variance}
use Rattle.nts_model.specs.declared.labels.Variance.TheVariants as variance
use Rattle.nts_model.specs.declared.labels.VariableKind.TheVariants as kind
use Rattle.nts_model.specs.declared.labels.Leaf.TheVariants as leaf
use Rattle.nts_model.specs.declared.labels.Label.{Label}
use Rattle.nts_model.specs.declared.labels.Label.TheVariants as label
use Rattle.nts_model.specs.Terms.Trees.{Tree, node, children, kind_of, of_sort, label_of, any_label, is_alias, infer_of, IsClosed, IsFormed}
use Rattle.nts_model.specs.Tables.Contents.{Content}
use Rattle.nts_model.specs.Tables.Resolving.{Knows, AllUnset, IsInfer}
use Rattle.nts_model.specs.Tables.Holding.{Continues}
use Rattle.nts_model.specs.Derivations.Related.{IsAlias}
use Rattle.nts_variance_model.specs.Variances.Forms.{over, variances_over, pairs_over}
use Rattle.nts_variance_model.specs.Variances.Judging.{opposite}
use Rattle.nts_variance_model.specs.Variances.Relations.{Relating as Pair}
use Rattle.nts_store.specs.declared.nodes.NodeId.{NodeId}
use Rattle.nts_store.specs.Growth.{tree_at, Extends}
use Rattle.nts_unify.specs.Entries.{Entries}
use Rattle.nts_unify.specs.Reading.{content_of, IsLawful}
use Rattle.nts_unify.specs.Roots.{HasClass}
use Rattle.nts_unify.specs.declared.contents.State.{State}
use Rattle.nts_unify.specs.declared.contents.Variable.{Variable}
use Rattle.nts_unify.proofs.Leading.{IsRoot-content}
use Rattle.nts_unify.specs.declared.contents.State.TheVariants.{Known}
use Rattle.nts_variance.specs.declared.along.Relating.{Relating}
use Rattle.nts_variance.specs.Steps.{stacked}
use Rattle.nts_variance.specs.Walking.{IsTableGrown, sides}
use Rattle.nts_variance.specs.Parts.{form_of_tree, parts_of, number_of_type}
use Rattle.nts_variance.specs.Terms.{pair_at, pairs_at, IsGoal, ArePairs}
use Rattle.nts_variance.specs.Due.{IsTypeVariable, IsValued, AreTwoUnset, IsNoType, IsUnvalued, IsUnvaluedPair, AreUnvaluedPairs, AreGoalsDue, LeavesDue}
use Rattle.nts_store.specs.declared.fault.EvalError.{EvalError}
use Rattle.nts_variance.specs.declared.splitting.Taken.{Taken}
use Rattle.nts_variance.specs.declared.splitting.Taken.TheVariants as taken
use Rattle.nts_variance.specs.Varying.{pair_in}
use Rattle.nts_variance.specs.Taking.{SaysAllOwed, IsTaken, number_at, ArePairsLeft, AreOfOneForm, ArePartsPaired, AreDueSince}
use Rattle.nts_variance.proofs.Debts.{type_kind}
use Rattle.nts_variance.proofs.Dues.{value_valued, dues_later, dues_append, dues_to, one_number, two_unset, unset_number, fresh_pairs_append, parts_fresh}
use Rattle.nts_variance.proofs.Looks.{labelled_node, looked_value, type_infer, type_plain, variable_closed, whole_variable}
use Rattle.nts_variance.proofs.Runs.{stacked-push}
use Rattle.nts_variance.proofs.VaryTurns.{known_pairs, goals_later}
use Rattle.nts_variance.proofs.Calls.{stacked_kept, pairs_joined, joined_at}

-- what is told of a result
pub if_is_ok : {A B : Type 0} {P : A → Type 0} (r : Result A B) → is_ok r ≡ true → IfOk r P → (t : A) × P t
if_is_ok (Ok t) e h = (t, h)
if_is_ok (Err x) e h = cc

pub if_is_err : {A B : Type 0} {P : B → Type 0} (r : Result A B) → is_ok r ≡ false → IfErr r P → (t : B) × P t
if_is_err (Ok t) e h = cc
if_is_err (Err x) e h = (x, h)

-- a variable's class has one state
pub class_one : (ts : List Tree) (e : Entries) (n r s : ℕ) (x y : State) → IsLawful ts e → HasClass e n r x → HasClass e n s y → x ≡ y
class_one ts e n r s x y lawful a b =
    let same : r ≡ s = sym (IsRoot-content ts e n r lawful.sound.descends a.root) ∙ IsRoot-content ts e n s lawful.sound.descends b.root in
    let entry : Some a.variable ≡ Some b.variable = sym a.at ∙ ap (slice_get e.variables) same ∙ b.at in
    let one : a.variable ≡ b.variable = cc in
    sym a.state ∙ ap (λ (v : Variable). v.state) one ∙ b.state

-- a pair is a goal for an alias, and for a type variable with a value
pub alias_due : (c d : Content) (p : Pair) → IsAlias p.left ⊎ IsAlias p.right → LeavesDue c d p (p ∷ [])
alias_due c d p a = λ b le f. (inl a, tt)

unset_sides : (c : Content) (p : Pair) → p.variance ≢ variance.Invariant → kind_of p.left ≡ Some (of_sort sort.Ty) → IsUnvaluedPair c p → AllUnset c p.left × AllUnset c p.right
unset_sides c p varies k f = ⊎_elim (λ i. absurd (varies i)) (λ x. ⊎_elim (λ n. absurd (n k)) (λ u. u) x) f

valued : (ts : List Tree) (e : Entries) (t : Tree) (n r : ℕ) (v : NodeId) → IsLawful ts e → Knows (content_of ts e) t → IsTypeVariable t n → HasClass e n r (Known v) → IsValued (content_of ts e) t
valued ts e t n r v lawful knows is class = value_valued (content_of ts e) t (tree_at ts v) (looked_value ts e t (label.Leaf (leaf.Variable kind.Ty n)) n r v lawful knows (labelled_node t (label.Leaf (leaf.Variable kind.Ty n)) is) refl class).1

pub owed_due : (ts : List Tree) (e : Entries) (p : Pair) → IsLawful ts e → Knows (content_of ts e) p.left → Knows (content_of ts e) p.right → kind_of p.left ≡ kind_of p.right → p.variance ≢ variance.Invariant → ((n : ℕ) → IsTypeVariable p.left n → IsTypeVariable p.right n → ⊥) → SaysAllOwed e p.left ⊎ SaysAllOwed e p.right → LeavesDue (content_of ts e) (content_of ts e) p (p ∷ [])
owed_due ts e p lawful left right kinds varies apart (inl (inl a)) = alias_due (content_of ts e) (content_of ts e) p (inl a)
owed_due ts e p lawful left right kinds varies apart (inr (inl a)) = alias_due (content_of ts e) (content_of ts e) p (inr a)
owed_due ts e p lawful left right kinds varies apart (inl (inr v)) =
    λ c le f. (let u = unset_sides c p varies (type_kind p.left v.0 v.1) f in let two = two_unset c p.left p.right u.0 u.1 (λ same. apart v.0 v.1 (subst (λ t. IsTypeVariable t v.0) same v.1)) apart in (inr (varies, two, inr (inl (record { number = v.0; is = v.1; before = unset_number c p.left v.0 v.1 u.0; after = valued ts e p.left v.0 v.2 v.3 lawful left v.1 v.4 }))), tt))
owed_due ts e p lawful left right kinds varies apart (inr (inr v)) =
    λ c le f. (let u = unset_sides c p varies (kinds ∙ type_kind p.right v.0 v.1) f in let two = two_unset c p.left p.right u.0 u.1 (λ same. apart v.0 (subst (λ t. IsTypeVariable t v.0) (sym same) v.1) v.1) apart in (inr (varies, two, inr (inr (record { number = v.0; is = v.1; before = unset_number c p.right v.0 v.1 u.1; after = valued ts e p.right v.0 v.2 v.3 lawful right v.1 v.4 }))), tt))

-- .. and for two type variables
pub variables_due : (c d : Content) (p : Pair) (n m : ℕ) → p.variance ≢ variance.Invariant → IsTypeVariable p.left n → IsTypeVariable p.right m → n ≢ m → LeavesDue c d p (p ∷ [])
variables_due c d p n m varies x y apart = λ b le f.
    (let u = unset_sides b p varies (type_kind p.left n x) f in
    let two : AreTwoUnset b n m = record { first = unset_number b p.left n x u.0; second = unset_number b p.right m y u.1; apart = apart } in
    let sides_apart = two_unset b p.left p.right u.0 u.1 (λ same. apart (one_number p.left n m x (subst (λ t. IsTypeVariable t m) (sym same) y))) (λ k i j. apart (one_number p.left n k x i ∙ sym (one_number p.right m k y j))) in
    (inr (varies, sides_apart, inl (record { first = n; second = m; left = x; right = y; either = inl two })), tt))

pub number_label : (l : Label) (n : ℕ) → number_of_type l ≡ Some n → l ≡ label.Leaf (leaf.Variable kind.Ty n)
number_label (label.Leaf (leaf.Variable kind.Ty m)) n e = (let same : m ≡ n = cc in ap (λ x. label.Leaf (leaf.Variable kind.Ty x)) same)
number_label l n e = cc

pub number_variable : (t : Tree) (l : Label) (n : ℕ) → t ≡ node l (children t) → number_of_type l ≡ Some n → IsTypeVariable t n
number_variable t l n is e = ap label_of is ∙ ap Some (number_label l n e)

-- a side of which a goal says all is closed, and if it is no alias, a type
pub owed_closed : (e : Entries) (t : Tree) → IsFormed t → SaysAllOwed e t → IsClosed t
owed_closed e t f (inl a) = a.closed
owed_closed e t f (inr v) = (variable_closed t v.0 v.1 f).0

pub owed_rests : (e : Entries) (t : Tree) → SaysAllOwed e t → IsAlias t ⊎ (kind_of t ≡ Some (of_sort sort.Ty))
owed_rests e t (inl a) = inl a
owed_rests e t (inr v) = inr (type_kind t v.0 v.1)

pub owed_goal : (e : Entries) (p : Pair) → p.variance ≢ variance.Invariant → SaysAllOwed e p.left ⊎ SaysAllOwed e p.right → IsClosed p.left → IsClosed p.right → kind_of p.left ≡ kind_of p.right → IsGoal p
owed_goal e p varies owed left right kinds =
    record {
      left = left;
      right = right;
      kinds = kinds;
      rests = ⊎_elim
          (λ l. ⊎_elim (λ a. inl (inl a)) (λ k. inr (varies, k, sym kinds ∙ k)) (owed_rests e p.left l))
          (λ r. ⊎_elim (λ a. inl (inr a)) (λ k. inr (varies, kinds ∙ k, k)) (owed_rests e p.right r)) owed;
    }

-- .. and so the pair is taken
pub owed_taken : (ts : List Tree) (e : Entries) (p : Relating) (r : Result Taken EvalError) → IsLawful ts e → Knows (content_of ts e) (tree_at ts p.left) → Knows (content_of ts e) (tree_at ts p.right) → p.variance ≢ variance.Invariant → ((n : ℕ) → IsTypeVariable (tree_at ts p.left) n → IsTypeVariable (tree_at ts p.right) n → ⊥) → SaysAllOwed e (tree_at ts p.left) ⊎ SaysAllOwed e (tree_at ts p.right)
    → IfOk r (λ x. x ≡ taken.Owed) → OnOk r (IsClosed (tree_at ts p.left) × IsClosed (tree_at ts p.right)) → OnOk r (kind_of (tree_at ts p.left) ≡ kind_of (tree_at ts p.right)) → (declared : ℕ → List Variance) → IfOk r (IsTaken declared ts ts e e p)
owed_taken ts e p (Err x) lawful left right varies apart owed is closed kinds declared = tt
owed_taken ts e p (Ok x) lawful left right varies apart owed is closed kinds declared =
    rw is (refl, refl, owed_goal e (pair_at ts p) varies owed closed.0 closed.1 kinds, owed_due ts e (pair_at ts p) lawful left right kinds varies apart owed)

-- .. where a side is an alias
pub alias_taken : (ts : List Tree) (e : Entries) (p : Relating) (r : Result Taken EvalError) → IsAlias (tree_at ts p.left) ⊎ IsAlias (tree_at ts p.right)
    → IfOk r (λ x. x ≡ taken.Owed) → OnOk r (IsClosed (tree_at ts p.left) × IsClosed (tree_at ts p.right)) → OnOk r (kind_of (tree_at ts p.left) ≡ kind_of (tree_at ts p.right)) → (declared : ℕ → List Variance) → IfOk r (IsTaken declared ts ts e e p)
alias_taken ts e p (Err x) a is closed kinds declared = tt
alias_taken ts e p (Ok x) a is closed kinds declared = rw is (refl, refl, record { left = closed.0; right = closed.1; kinds = kinds; rests = inl a }, alias_due (content_of ts e) (content_of ts e) (pair_at ts p) a)

-- a side that is a type variable
pub own_number : (t : Tree) (l : Label) (o : Option ℕ) (n : ℕ) → t ≡ node l (children t) → number_of_type l ≡ o → is_some o ≡ true → number_at t ≡ Some n → IsTypeVariable t n
own_number t l None n is named some e = cc
own_number t l (Some m) n is named some e =
    let labels = number_label l m named in
    let own : Some m ≡ Some n = sym (ap infer_of labels) ∙ sym (ap number_at is) ∙ e in
    let same : m ≡ n = cc in
    subst (IsTypeVariable t) same (number_variable t l m is named)

pub side_owed : (ts : List Tree) (e : Entries) (z : Bool) (v : Variance) (r t : NodeId) (p : Relating) → p ≡ pair_in z v r t → SaysAllOwed e (tree_at ts r) → SaysAllOwed e (tree_at ts p.left) ⊎ SaysAllOwed e (tree_at ts p.right)
side_owed ts e false v r t p is h = rw is (inl h)
side_owed ts e true v r t p is h = rw is (inr h)

pub side_known : (ts : List Tree) (c : Content) (z : Bool) (v : Variance) (r t : NodeId) (p : Relating) → p ≡ pair_in z v r t → Knows c (tree_at ts r) → Knows c (tree_at ts t) → Knows c (tree_at ts p.left) × Knows c (tree_at ts p.right)
side_known ts c false v r t p is h k = rw is (h, k)
side_known ts c true v r t p is h k = rw is (k, h)

-- a variable and a term that is none are two
pub side_apart : (ts : List Tree) (z : Bool) (v : Variance) (r t : NodeId) (p : Relating) → p ≡ pair_in z v r t → (IsInfer (tree_at ts t) → ⊥) → (n : ℕ) → IsTypeVariable (tree_at ts p.left) n → IsTypeVariable (tree_at ts p.right) n → ⊥
side_apart ts false v r t p is no_variable = rw is (λ n x y. no_variable (type_infer (tree_at ts t) n y))
side_apart ts true v r t p is no_variable = rw is (λ n x y. no_variable (type_infer (tree_at ts t) n x))

-- two sides that are one only where aliases are in them are no type variable if they are one
pub plain_apart : (a b : Tree) → IsFormed a → IsFormed b → (a ≡ b → any_label is_alias a ≡ true) → (n : ℕ) → IsTypeVariable a n → IsTypeVariable b n → ⊥
plain_apart a b first second h n x y = (let none = type_plain a n x first in let some = h (whole_variable a n x first ∙ sym (whole_variable b n y second)) in cc)

-- the term of a pair with a variable
opposite_invariant : (v : Variance) → opposite v ≡ variance.Invariant → v ≡ variance.Invariant
opposite_invariant variance.Invariant e = refl
opposite_invariant variance.Covariant e = cc
opposite_invariant variance.Contravariant e = cc

pub side_fresh : (c : Content) (z : Bool) (v : Variance) (r t : Tree) → (IsNoType r → IsUnvalued c v t) → IsUnvaluedPair c (sides z v r t) → IsUnvalued c v t
side_fresh c false v r t own f = ⊎_elim (λ i. inl i) (λ x. ⊎_elim (λ n. own n) (λ u. inr (inr u.1)) x) f
side_fresh c true v r t own f = ⊎_elim (λ i. inl (opposite_invariant v i)) (λ x. ⊎_elim (λ n. inr (inl n)) (λ u. inr (inr u.0)) x) f

module _ (b : Content) where
  -- a pair is taken
  pub due_front : (ts : List Tree) (e : Entries) (ps : List Relating) (q : Relating) (gs : List Relating) → AreDueSince b ts e (ps ++ q ∷ []) gs → IsUnvaluedPair b (pair_at ts q) × AreDueSince b ts e ps gs
  due_front ts e ps q gs h =
      let pairs : AreUnvaluedPairs b (pair_at ts q ∷ stacked (pair_at ts) ps) = rw (stacked-push (pair_at ts) ps q) at h.pairs in
      (pairs.0, record { before = h.before; pairs = pairs.1; known = h.known; due = h.due })

  -- .. and leaves goals
  pub due_on : (ts us : List Tree) (e f : Entries) (ps gs hs is : List Relating) → ArePairsLeft ts (content_of ts e) ps → Extends ts us → IsTableGrown (content_of ts e) (content_of us f) → Continues (content_of ts e) (content_of us f) → AreDueSince b ts e ps gs
      → ArePairs us (content_of us f) hs → AreGoalsDue b (content_of us f) (pairs_at us hs) → is ≡ gs ++ hs → AreDueSince b us f ps is
  due_on ts us e f ps gs hs is left ext later on h known due all =
      let c = content_of ts e in
      let d = content_of us f in
      record {
        before = (let first = h.before in let more = later.more in omega (arith, first, more));
        pairs = rw (stacked_kept c ps ext left) h.pairs;
        known = rw all (pairs_joined us d gs hs (goals_later gs ext later h.known) known);
        due = dues_to b d (joined_at c gs hs is ext h.known all) (dues_append b d (pairs_at ts gs) (pairs_at us hs) (dues_later b (pairs_at ts gs) later on (known_pairs ts c gs h.known) h.due) due);
      }

  -- .. or the pairs of its parts
  pub due_parts : (declared : ℕ → List Variance) (ts : List Tree) (e : Entries) (ps rs : List Relating) (q : Relating) (gs : List Relating) → AreOfOneForm (pair_at ts q).left (pair_at ts q).right → ArePartsPaired declared ts q ps rs → AreDueSince b ts e (ps ++ q ∷ []) gs → AreDueSince b ts e rs gs
  due_parts declared ts e ps rs q gs one pushed h =
      let front = due_front ts e ps q gs h in
      let p = pair_at ts q in
      let F = form_of_tree p.left in
      let G = form_of_tree p.right in
      let left = one.left in
      let right = one.right in
      let own : (p.variance ≡ variance.Invariant) ⊎ (IsNoType (over F (parts_of p.left)) ⊎ (AllUnset b (over F (parts_of p.left)) × AllUnset b (over G (parts_of p.right)))) =
      ⊎_elim (λ i. inl i) (λ x. inr (⊎_elim (λ n. inl (subst IsNoType left.with_parts.is n)) (λ u. inr (subst (AllUnset b) left.with_parts.is u.0, subst (AllUnset b) right.with_parts.is u.1)) x)) front.0 in
      let rest = front.1 in
      record {
        before = h.before;
        pairs = rw pushed.pairs (fresh_pairs_append b (pairs_over p.variance (variances_over declared F (parts_of p.left)) (parts_of p.left) (parts_of p.right)) (stacked (pair_at ts) ps) (parts_fresh declared b p.variance F G (parts_of p.left) (parts_of p.right) own) rest.pairs);
        known = h.known;
        due = h.due;
      }
