-- Changes of a table that bring no labels but those of given trees.
use Rattle.std.proofs.Common.{◌≡◌, ⊎_elim, inl, inr, ℕ, zero, suc, ◌<◌, Bool, true, List, [], ◌∷◌, length, Some, refl, sym, ap, ◌∙◌, subst}
use Rattle.std.specs.Prelude.{Contains, get_or}
use Rattle.std.proofs.lemmas.List.Elements.{Contains-append_cases}
use Rattle.nts_model.specs.declared.labels.Leaf.{Leaf}
use Rattle.nts_model.specs.declared.labels.BoundVarIndexKind.TheVariants as index
use Rattle.nts_model.specs.declared.labels.Label.{Label}
use Rattle.nts_model.specs.declared.labels.Label.TheVariants as label
use Rattle.nts_model.specs.Terms.Trees.{Tree, empty, more, node, children, IsRow, row_at, row_take, row_push}
use Rattle.nts_model.specs.Tables.Contents.{Content, Slot, Recorded, unset, link, known, state_of, with_slot, bound_to, with_constraint}
use Rattle.nts_model.specs.Tables.Holding.{Continues}
use Rattle.nts_model.specs.Lists.{Among}
use Rattle.nts_model.specs.Terms.Substitutions.{Occurs, filled}
use Rattle.nts_model.specs.Tables.Passing.{AllLabels, AllPass, PassesVariables, TreePasses, TablePasses, BringsLabelsOf, BringsNoLabels, PassesQueries, BringsOnly}
use Rattle.nts_model.proofs.Tables.Slots.{field-changed_same, field-changed_other, field-with_slot_new, field-with_slot_old}
use Rattle.nts_model.proofs.Tables.Under.{same_or_other}
use Rattle.nts_model.proofs.Lists.{contains_none, first_or_later}

-- where the values and the constraints are old ones
pub passes-same : (P : Label → Type 0) (c d : Content) → ((n : ℕ) (t : Tree) → state_of d n ≡ Some (known t) → state_of c n ≡ Some (known t)) → ((x : Recorded) → Contains d.constraints x → Contains c.constraints x) → AllPass P c → AllPass P d
passes-same P c d values constraints h =
    record { values = λ n t e. h.values n t (values n t e); left = λ x i. h.left x (constraints x i); right = λ x i. h.right x (constraints x i) }

pub brings-same : (c d : Content) → ((n : ℕ) (t : Tree) → state_of d n ≡ Some (known t) → state_of c n ≡ Some (known t)) → d.constraints ≡ c.constraints → BringsNoLabels c d
brings-same c d values constraints =
    record { labels = λ P v h. passes-same (λ l. P l ≡ true) c d values (λ x i. subst (λ xs. Contains xs x) constraints i) h }

pub brings-refl : (c : Content) → BringsNoLabels c c
brings-refl c = record { labels = λ P v h. h }

pub brings-trans : {c d e : Content} → BringsNoLabels c d → BringsNoLabels d e → BringsNoLabels c e
brings-trans a b = record { labels = λ P v h. b.labels P v (a.labels P v h) }

-- for whatever trees
pub brings-of : {c d : Content} (a b : Tree) → BringsNoLabels c d → BringsLabelsOf c d a b
brings-of a b h = record { labels = λ P v k i j. h.labels P v k }

pub brings-turned : {c d : Content} {a b : Tree} → BringsLabelsOf c d a b → BringsLabelsOf c d b a
brings-turned h = record { labels = λ P v k i j. h.labels P v k j i }

-- one variable leads to another one
pub brings-linked : (c d : Content) (low high : ℕ) → state_of d high ≡ Some (link low) → ((n : ℕ) → (n ≡ high → ⊥) → state_of d n ≡ state_of c n) → d.constraints ≡ c.constraints → BringsNoLabels c d
brings-linked c d low high linked others constraints = brings-same c d old constraints
  where
    old : (n : ℕ) (t : Tree) → state_of d n ≡ Some (known t) → state_of c n ≡ Some (known t)
    old n t e = ⊎_elim
        (λ (q : n ≡ high). let z : Some (link low) ≡ Some (known t) = sym (ap (state_of d) q ∙ linked) ∙ e in cc)
        (λ (q : n ≡ high → ⊥). sym (others n q) ∙ e) (same_or_other n high)

-- one more variable
pub brings-with_slot : (c : Content) (v : Slot) → v.state ≡ unset → BringsNoLabels c (with_slot c v)
brings-with_slot c v free = brings-same c (with_slot c v) old refl
  where
    old : (n : ℕ) (t : Tree) → state_of (with_slot c v) n ≡ Some (known t) → state_of c n ≡ Some (known t)
    old n t e = ⊎_elim
        (λ (q : n ≡ length c.slots).
        let z : Some unset ≡ Some (known t) = sym (ap (state_of (with_slot c v)) q ∙ field-with_slot_new (λ x. x.state) c v ∙ ap Some free) ∙ e in cc)
        (λ (q : n ≡ length c.slots → ⊥). sym (field-with_slot_old (λ x. x.state) c v n q) ∙ e) (same_or_other n (length c.slots))

-- one more constraint
pub brings-with_constraint : (c : Content) (x : Recorded) → BringsLabelsOf c (with_constraint c x) x.left x.right
brings-with_constraint c x =
    record {
      labels = λ P v h i j. record {
        values = h.values;
        left = λ y k. by_case (λ z. TreePasses P z.left) h.left i y k;
        right = λ y k. by_case (λ z. TreePasses P z.right) h.right j y k;
      };
    }
  where
    last : (Q : Recorded → Type 0) → Q x → (y : Recorded) → Contains (x ∷ []) y → Q y
    last Q new y i = ⊎_elim (λ e. subst Q e new) (λ j. absurd (contains_none y j)) (first_or_later x [] y i)

    by_case : (Q : Recorded → Type 0) → ((y : Recorded) → Contains c.constraints y → Q y) → Q x → (y : Recorded) → Contains (with_constraint c x).constraints y → Q y
    by_case Q old new y k = ⊎_elim (λ i. old y i) (λ i. last Q new y i) (Contains-append_cases c.constraints (x ∷ []) y k)

-- a variable gets a value
pub brings-known : (c : Content) (n : ℕ) (w : Slot) (t : Tree) → n < length c.slots → w.state ≡ known t → BringsLabelsOf c (bound_to c n w) t empty
brings-known c n w t less is =
    record { labels = λ P v h i j. record { values = λ m s e. by_case P h i m s e; left = h.left; right = h.right } }
  where
    own : (s : Tree) → known t ≡ known s → t ≡ s
    own s e = cc

    here : (m : ℕ) (s : Tree) → m ≡ n → state_of (bound_to c n w) m ≡ Some (known s) → t ≡ s
    here m s q e =
        let z : Some (known t) ≡ Some (known s) = sym (ap (state_of (bound_to c n w)) q ∙ field-changed_same (λ x. x.state) c n w less ∙ ap Some is) ∙ e in
        own s cc

    by_case : (P : Label → Bool) → TablePasses P c → TreePasses P t → (m : ℕ) (s : Tree) → state_of (bound_to c n w) m ≡ Some (known s) → TreePasses P s
    by_case P h i m s e = ⊎_elim
        (λ (q : m ≡ n). subst (λ (z : Tree). TreePasses P z) (here m s q e) i)
        (λ (q : m ≡ n → ⊥). h.values m s (sym (field-changed_other (λ x. x.state) c n m w q) ∙ e)) (same_or_other m n)

-- a test that the labels of a table pass was passed before
pub passes-before : (P : Label → Type 0) (c d : Content) → ((n : ℕ) (t : Tree) → state_of c n ≡ Some (known t) → state_of d n ≡ Some (known t)) → Continues c d → AllPass P d → AllPass P c
passes-before P c d values k h = passes-same P d c values k.constraints h

-- the children of a row
pub passes-row_at : (P : Label → Type 0) (r : Tree) (i : ℕ) → AllLabels P r → AllLabels P (row_at r i)
passes-row_at P empty i h = tt
passes-row_at P (more a b) zero h = h.0
passes-row_at P (more a b) (suc i) h = passes-row_at P b i h.1
passes-row_at P (node l c) i h = tt

pub passes-row_push : (P : Label → Type 0) (r t : Tree) → IsRow r → AllLabels P r → AllLabels P t → AllLabels P (row_push r t)
passes-row_push P empty t h k l = (l, tt)
passes-row_push P (more a b) t h k l = (k.0, passes-row_push P b t h k.1 l)
passes-row_push P (node m c) t h k l = absurd h

pub passes-pushed : (P : Label → Type 0) (r t : Tree) → IsRow r → AllLabels P (row_push r t) → AllLabels P r × AllLabels P t
passes-pushed P empty t h k = (tt, k.0)
passes-pushed P (more a b) t h k = let q = passes-pushed P b t h k.1 in ((k.0, q.0), q.1)
passes-pushed P (node m c) t h k = absurd h

pub passes-children : (P : Label → Type 0) (t : Tree) → AllLabels P t → AllLabels P (children t)
passes-children P empty h = tt
passes-children P (more a b) h = tt
passes-children P (node l c) h = h.1

-- where what any query's table may hold passes, its variables do
pub query_variables : (P : Label → Bool) → PassesQueries P → PassesVariables P
query_variables P h k n = h (label.Leaf _) tt

pub only-refl : (ts : List Tree) (c : Content) → BringsOnly ts c c
only-refl ts c = record { labels = λ P q g h. h }

pub only-trans : {ts : List Tree} {c d e : Content} → BringsOnly ts c d → BringsOnly ts d e → BringsOnly ts c e
only-trans a b = record { labels = λ P q g h. b.labels P q g (a.labels P q g h) }

pub only-none : {c d : Content} (ts : List Tree) → BringsNoLabels c d → BringsOnly ts c d
only-none ts h = record { labels = λ P q g k. h.labels P (query_variables P q) k }

-- a change that brings the labels of two trees, whose labels are those of ts and of queries
pub only-of : {c d : Content} (ts : List Tree) (a b : Tree) → BringsLabelsOf c d a b
    → ((P : Label → Bool) → PassesQueries P → ((t : Tree) → Among ts t → TreePasses P t) → TablePasses P c → TreePasses P a × TreePasses P b) → BringsOnly ts c d
only-of ts a b h k = record { labels = λ P q g i. let z = k P q g i in h.labels P (query_variables P q) i z.0 z.1 }

-- a tree with values in place of its positions
passes-get : (P : Label → Bool) (vs : List Tree) (n : ℕ) → ((v : Tree) → Among vs v → TreePasses P v) → TreePasses P (get_or vs n empty)
passes-get P [] n h = tt
passes-get P (v ∷ vs) zero h = h v (inl refl)
passes-get P (v ∷ vs) (suc n) h = passes-get P vs n (λ w i. h w (inr i))

pub passes-filled : (P : Label → Bool) (vs : List Tree) (t : Tree) → PassesQueries P → ((v : Tree) → Among vs v → TreePasses P v) → ((l : Leaf) → Occurs l t → P (label.Leaf l) ≡ true) → TreePasses P (filled vs t)
passes-filled P vs empty q h o = tt
passes-filled P vs (more a b) q h o = (passes-filled P vs a q h (λ l i. o l (inl i)), passes-filled P vs b q h (λ l i. o l (inr i)))
passes-filled P vs (node (label.Leaf x) c) q h o = (o x (inl refl), passes-filled P vs c q h (λ l i. o l (inr i)))
passes-filled P vs (node (label.Bound s index.Canonical n) c) q h o = passes-get P vs n h
passes-filled P vs (node (label.Bound s (index.Bound d) n) c) q h o = (q (label.Bound s (index.Bound d) n) tt, passes-filled P vs c q h (λ l i. o l (inr i)))
passes-filled P vs (node (label.Ty x) c) q h o = (q (label.Ty x) tt, passes-filled P vs c q h (λ l i. o l (inr i)))
passes-filled P vs (node (label.Const x) c) q h o = (q (label.Const x) tt, passes-filled P vs c q h (λ l i. o l (inr i)))
passes-filled P vs (node (label.Clause x) c) q h o = (q (label.Clause x) tt, passes-filled P vs c q h (λ l i. o l (inr i)))
passes-filled P vs (node (label.Predicate x) c) q h o = (q (label.Predicate x) tt, passes-filled P vs c q h (λ l i. o l (inr i)))
passes-filled P vs (node (label.List x) c) q h o = (q (label.List x) tt, passes-filled P vs c q h (λ l i. o l (inr i)))

-- a leaf of a tree whose labels pass
pub passes-leaf : (P : Label → Bool) (t : Tree) (l : Leaf) → TreePasses P t → Occurs l t → P (label.Leaf l) ≡ true
passes-leaf P empty l h i = absurd i
passes-leaf P (more a b) l h i = ⊎_elim (λ j. passes-leaf P a l h.0 j) (λ j. passes-leaf P b l h.1 j) i
passes-leaf P (node m c) l h i = ⊎_elim (λ e. subst (λ z. P z ≡ true) (sym e) h.0) (λ j. passes-leaf P c l h.1 j) i
