-- What the turns of the walk keep, so that each goal which it hands out is one.
use Rattle.std.proofs.Common.{◌≡◌, ◌≢◌, ◌⊎◌, inl, inr, ⊎_elim, ℕ, ◌+◌, ◌≤◌, ◌<◌, Bool, true, false, List, [], ◌∷◌, ◌++◌, Some, refl, sym, ap, ◌∙◌, arith}
use Rattle.nts_model.specs.declared.labels.Sort.TheVariants as sort
use Rattle.nts_model.specs.declared.labels.Variance.{Variance}
use Rattle.nts_model.specs.declared.labels.Variance.TheVariants as variance
use Rattle.nts_model.specs.declared.labels.AliasHead.TheVariants as alias_of
use Rattle.nts_model.specs.declared.labels.VariableKind.TheVariants as kind
use Rattle.nts_model.specs.declared.labels.Label.TheVariants as label
use Rattle.nts_model.specs.declared.labels.Leaf.TheVariants as leaf
use Rattle.nts_model.specs.Terms.Trees.{Tree, empty, more, node, label_of, kind_of, kind_of_label, of_sort, binders, IsRow, row_length, variable_of, IsClosedUnder, IsClosed}
use Rattle.nts_model.specs.Derivations.Related.{rest_variances, IsAlias}
use Rattle.nts_model.specs.Tables.Resolving.{rank_of, variable_rank}
use Rattle.nts_variance_model.specs.Variances.Forms.{Form, a_constructor, a_function, a_value, an_alias, over}
use Rattle.nts_variance_model.specs.Variances.Judging.{opposite}
use Rattle.nts_variance_model.specs.Variances.Relations.{Relating as Pair}
use Rattle.nts_model.specs.Terms.Patching.{IsPatched, patched, in_end, in_row, in_node, in_leaf}
use Rattle.nts_model.proofs.Tables.Fitting.{IsClosedUnder-more}
use Rattle.nts_variance.specs.Steps.{WalkStep, enter, build, owe, popped, unpopped, entering, MadeForRow}
use Rattle.nts_variance.specs.Walking.{NothingOwed, sides}
use Rattle.nts_variance.specs.Terms.{IsGoal, AreGoals}
use Rattle.nts_variance.specs.Debts.{IsClosedLike, IsNoOlder, OweGoals}
use Rattle.nts_variance.specs.Due.{IsTypeVariable}
use Rattle.nts_variance.proofs.Runs.{pushed, popped_row, unpopped_pushed, made_row}

-- trees in which closed trees took the place of others
pub closed_patched : (t r : Tree) → IsPatched t r → (b : ℕ) → IsClosedUnder b t → IsClosedUnder b r
closed_patched t r (patched n p) b h = IsClosedUnder-more 0 b r (omega arith) p.0
closed_patched t r in_end b h = tt
closed_patched t r (in_row {a = x} {b = y} {s = p} {t = q} f g) b h = (closed_patched x y f b h.0, closed_patched p q g b h.1)
closed_patched t r (in_node {l = l} {c = x} {d = y} f) b h = (h.0, closed_patched x y f (b + binders l) h.1)
closed_patched t r (in_leaf {c = x} {d = y} f) b h = (tt, closed_patched x y f (b + 0) h.1)

pub type_kind : (t : Tree) (n : ℕ) → label_of t ≡ Some (label.Leaf (leaf.Variable kind.Ty n)) → kind_of t ≡ Some (of_sort sort.Ty)
type_kind empty n e = cc
type_kind (more a b) n e = cc
type_kind (node l c) n e = (let same : l ≡ label.Leaf (leaf.Variable kind.Ty n) = cc in ap (λ m. Some (kind_of_label m)) same)

-- a type variable by its rank
pub type_rank : (t : Tree) (n : ℕ) → IsTypeVariable t n → variable_rank t ≡ 2
type_rank empty n e = cc
type_rank (more a b) n e = cc
type_rank (node l c) n e = (let same : l ≡ label.Leaf (leaf.Variable kind.Ty n) = cc in ap (λ m. rank_of (variable_of m)) same)

pub ranked_type : (t : Tree) → 2 ≤ variable_rank t → (n : ℕ) × IsTypeVariable t n
ranked_type (node (label.Leaf (leaf.Variable kind.Ty m)) c) h = (m, refl)
ranked_type (node (label.Leaf (leaf.Variable kind.Int m)) c) h = absurd (omega (arith, h))
ranked_type (node (label.Leaf (leaf.Variable kind.Float m)) c) h = absurd (omega (arith, h))
ranked_type (node (label.Leaf (leaf.Variable kind.Const m)) c) h = absurd (omega (arith, h))
ranked_type (node (label.Leaf (leaf.Variable kind.Region m)) c) h = absurd (omega (arith, h))
ranked_type (node (label.Leaf f) c) h = absurd (omega (arith, h))
ranked_type (node l c) h = absurd (omega (arith, h))
ranked_type t h = absurd (omega (arith, h))

pub like_itself : (n : ℕ) (v : Variance) (t : Tree) → IsClosedLike n v t t
like_itself n v t = record { closed = λ b h. h; kind = refl; variable = λ varies m e. inl (m, e) }

-- what is closed is so under any binders
pub like_closed : (n : ℕ) (v : Variance) (t s : Tree) → IsClosed s → kind_of s ≡ kind_of t → (v ≢ variance.Invariant → (m : ℕ) → IsTypeVariable s m → ((k : ℕ) × IsTypeVariable t k) ⊎ (IsAlias t × (n ≤ m))) → IsClosedLike n v t s
like_closed n v t s closed same variable = record { closed = λ b h. IsClosedUnder-more 0 b s (omega arith) closed; kind = same; variable = variable }

-- nodes over parts
arguments_closed : (ts rs : Tree) → ((b : ℕ) → IsClosedUnder b ts → IsClosedUnder b rs) → (F : Form) → (b : ℕ) → IsClosedUnder b (over F ts) → IsClosedUnder b (over F rs)
arguments_closed ts rs h (a_constructor i) b k = (tt, ((tt, h (b + 0 + 0) k.1.0.1), tt))
arguments_closed ts rs h (a_function ss) b k = (tt, (k.1.0, ((tt, h (b + 1 + 0) k.1.1.0.1), tt)))
arguments_closed ts rs h (a_value n) b k = (tt, h (b + 0) k.1)
arguments_closed ts rs h (an_alias (alias_of.Ty i)) b k = (tt, ((tt, h (b + 0 + 0) k.1.0.1), tt))
arguments_closed ts rs h (an_alias (alias_of.Const i)) b k = (tt, ((tt, h (b + 0 + 0) k.1.0.1), tt))

over_kind : (F : Form) (ts rs : Tree) → kind_of (over F rs) ≡ kind_of (over F ts)
over_kind (a_constructor i) ts rs = refl
over_kind (a_function ss) ts rs = refl
over_kind (a_value n) ts rs = refl
over_kind (an_alias (alias_of.Ty i)) ts rs = refl
over_kind (an_alias (alias_of.Const i)) ts rs = refl

over_no_variable : (F : Form) (ts : Tree) (n : ℕ) → IsTypeVariable (over F ts) n → ⊥
over_no_variable (a_constructor i) ts n e = cc e
over_no_variable (a_function ss) ts n e = cc e
over_no_variable (a_value b) ts n e = cc e
over_no_variable (an_alias (alias_of.Ty i)) ts n e = cc e
over_no_variable (an_alias (alias_of.Const i)) ts n e = cc e

abbrev LikeIn : ℕ → Variance → Bool → Tree → Tree → Type 0
LikeIn n v q t s = IsClosedLike n v t s

row_closed : (n : ℕ) (v : Variance) (ws : List Variance) (q : Bool) (ts rs : Tree) → MadeForRow (LikeIn n) NothingOwed v ws q ts rs → (b : ℕ) → IsClosedUnder b ts → IsClosedUnder b rs
row_closed n v ws q empty empty m b k = tt
row_closed n v ws q empty (more r rs) m b k = absurd m
row_closed n v ws q empty (node l c) m b k = absurd m
row_closed n v ws q (more t ts) (more r rs) m b k = (let first = m.0 in (first.closed b k.0, row_closed n v (rest_variances ws) q ts rs m.1 b k.1))
row_closed n v ws q (more t ts) empty m b k = absurd m
row_closed n v ws q (more t ts) (node l c) m b k = absurd m
row_closed n v ws q (node l c) rs m b k = absurd m

owe_entered : (n : ℕ) (v : Variance) (ws : List Variance) (q : Bool) (ts : Tree) (xs : List WalkStep) (ss : List Tree) → IsRow ts
    → ((rs : Tree) → MadeForRow (LikeIn n) NothingOwed v ws q ts rs → OweGoals n xs (pushed rs ss)) → OweGoals n (entering v ws q ts xs) ss
owe_entered n v ws q empty xs ss r h = h empty tt
owe_entered n v ws q (more t ts) xs ss r h = λ s m. owe_entered n v (rest_variances ws) q ts xs (s ∷ ss) r (λ rs k. h (more s rs) (m, k))
owe_entered n v ws q (node l c) xs ss r h = absurd r

-- a node is built over what was made last
owe_over : (k : ℕ) (F : Form) (rs : Tree) (n : ℕ) (xs : List WalkStep) (ss : List Tree) → IsRow rs → n ≡ row_length rs → OweGoals k xs (over F rs ∷ ss) → OweGoals k (build F n ∷ xs) (pushed rs ss)
owe_over k F rs n xs ss row same h =
    let one : popped n (pushed rs ss) empty ≡ rs = ap (λ m. popped m (pushed rs ss) empty) same ∙ popped_row rs ss row in
    let two : unpopped n (pushed rs ss) ≡ ss = ap (λ m. unpopped m (pushed rs ss)) same ∙ unpopped_pushed rs ss row in
    rw (one, two) h

pub owe_built : (k : ℕ) (F : Form) (rs : Tree) (n : ℕ) (xs : List WalkStep) (ss : List Tree) → IsRow rs → n ≡ row_length rs → OweGoals k (build F n ∷ xs) (pushed rs ss) → OweGoals k xs (over F rs ∷ ss)
owe_built k F rs n xs ss row same h =
    let one : popped n (pushed rs ss) empty ≡ rs = ap (λ m. popped m (pushed rs ss) empty) same ∙ popped_row rs ss row in
    let two : unpopped n (pushed rs ss) ≡ ss = ap (λ m. unpopped m (pushed rs ss)) same ∙ unpopped_pushed rs ss row in
    rw (one, two) at h

-- a node gave place to its parts
pub owe_node : (n : ℕ) (v : Variance) (ws : List Variance) (q : Bool) (F : Form) (ts : Tree) (xs : List WalkStep) (ss : List Tree) → IsRow ts → OweGoals n (enter v q (over F ts) ∷ xs) ss → OweGoals n (entering v ws q ts (build F (row_length ts) ∷ xs)) ss
owe_node n v ws q F ts xs ss row h =
    owe_entered n v ws q ts (build F (row_length ts) ∷ xs) ss row (λ rs m.
    (let r = made_row (LikeIn n) NothingOwed v ws q ts rs m in
    owe_over n F rs (row_length ts) xs ss r.0 (sym r.1) (h (over F rs) (record { closed = arguments_closed ts rs (row_closed n v ws q ts rs m) F; kind = over_kind F ts rs; variable = λ varies k e. absurd (over_no_variable F rs k e) }))))

-- a variable gave place to its value
pub owe_through : (n : ℕ) (v : Variance) (q : Bool) (t w : Tree) (xs : List WalkStep) (ss : List Tree) → IsClosed w → kind_of w ≡ kind_of t → ((k : ℕ) × IsTypeVariable t k) ⊎ ((v ≡ variance.Invariant) ⊎ (kind_of t ≡ Some (of_sort sort.Const))) → OweGoals n (enter v q t ∷ xs) ss → OweGoals n (enter v q w ∷ xs) ss
owe_through n v q t w xs ss closed same typed h = λ s m.
    h s (like_closed n v t s (m.closed 0 closed) (m.kind ∙ same) (λ varies k e.
    ⊎_elim (λ own. inl own)
    (λ other. absurd (⊎_elim (λ i. varies i) (λ (c : kind_of t ≡ Some (of_sort sort.Const)). (let both : Some (of_sort sort.Ty) ≡ Some (of_sort sort.Const) = sym (type_kind s k e) ∙ m.kind ∙ same ∙ c in cc)) other)) typed))

-- .. which is copied, and the variable is owed the copy
pub owe_value : (n : ℕ) (v : Variance) (t w : Tree) (k : ℕ) (xs : List WalkStep) (ss : List Tree) → IsTypeVariable t k → variable_rank w < variable_rank t → IsClosed t → IsClosed w → kind_of w ≡ kind_of t → v ≢ variance.Invariant → OweGoals n (enter v false t ∷ xs) ss → OweGoals n (enter v true w ∷ owe v t ∷ xs) ss
owe_value n v t w k xs ss is lower own closed same varies h = λ s m.
    (let below = m.closed 0 closed in
    let kinds = m.kind ∙ same in
    let sorted = type_kind t k is in
    let other : IsNoOlder n t s = λ j e less i mine.
    ⊎_elim (λ p. (let two = type_rank w p.0 p.1 in let first = type_rank t k is in absurd (omega (arith, two, first, lower)))) (λ p. p.1) (m.variable varies i mine) in
    (record { left = below; right = own; kinds = kinds; rests = inr (varies, kinds ∙ sorted, sorted) }, other, h s (like_closed n v t s below kinds (λ z j e. inl (k, is)))))

-- by equal lists
pub owe_at : (n : ℕ) {xs ys : List WalkStep} {ss rs : List Tree} → xs ≡ ys → ss ≡ rs → OweGoals n ys rs → OweGoals n xs ss
owe_at n p q h = rw (p, q) h

pub goals_to : {ps qs : List Pair} → ps ≡ qs → AreGoals qs → AreGoals ps
goals_to e h = rw e h

pub AreGoals-append : (ps qs : List Pair) → AreGoals ps → AreGoals qs → AreGoals (ps ++ qs)
AreGoals-append [] qs h k = k
AreGoals-append (p ∷ ps) qs h k = (h.0, AreGoals-append ps qs h.1 k)

-- a goal of either order
pub opposite_varies : (v : Variance) → v ≢ variance.Invariant → opposite v ≢ variance.Invariant
opposite_varies variance.Invariant h = h
opposite_varies variance.Covariant h = λ e. cc
opposite_varies variance.Contravariant h = λ e. cc

pub goal_sides : (z : Bool) (v : Variance) (r t : Tree) → IsGoal (record { variance = v; left = r; right = t }) → IsGoal (sides z v r t)
goal_sides false v r t g = g
goal_sides true v r t g =
    record {
      left = g.right;
      right = g.left;
      kinds = sym g.kinds;
      rests = ⊎_elim (λ a. inl (⊎_elim (λ l. inr l) (λ k. inl k) a)) (λ p. inr (opposite_varies v p.0, p.2, p.1)) g.rests;
    }
