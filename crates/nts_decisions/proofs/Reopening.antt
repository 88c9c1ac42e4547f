-- A goal that binds variables is renamed with the placeholders that stand for them.
use Rattle.std.proofs.Common.{◌≡◌, inl, inr, ℕ, zero, suc, ◌<◌, ◌≤◌, true, false, List, [], ◌∷◌, map, refl, sym, ap, subst, ◌∙◌, arith}
use Rattle.std.specs.Prelude.{Bool, ◌⊎◌, ◌==◌, max, if◌then◌else◌, ◌+◌}
use Rattle.std.proofs.Math.Nat.{le-suc_iff}
use Rattle.nts_model.specs.declared.labels.Sort.{Sort}
use Rattle.nts_model.specs.declared.labels.Sort.TheVariants as sort
use Rattle.nts_model.specs.declared.labels.VariableKind.TheVariants as kind
use Rattle.nts_model.specs.declared.labels.FreeRegion.{FreeRegion}
use Rattle.nts_model.specs.declared.labels.Leaf.{Leaf}
use Rattle.nts_model.specs.declared.labels.Leaf.TheVariants as leaf
use Rattle.nts_model.specs.declared.labels.BoundVarIndexKind.TheVariants as index
use Rattle.nts_model.specs.declared.labels.ListHead.TheVariants as list
use Rattle.nts_model.specs.declared.labels.Label.{Label}
use Rattle.nts_model.specs.declared.labels.Label.TheVariants as label
use Rattle.nts_model.specs.Terms.Trees.{Tree, empty, more, node, binders}
use Rattle.nts_model.specs.Terms.Substitutions.{leaf_tree, put, replace, of_variable as sort_of_variable, of_constant, leaf_sort, Renaming, rename, IsPlain}
use Rattle.nts_model.specs.Terms.Placeholders.{leaf_level_of}
use Rattle.nts_model.specs.Derivations.Related.{pair, unbound}
use Rattle.nts_model.specs.Derivations.Rules.{opened, opened_at, bound}
use Rattle.nts_model.specs.Canonical.Numbered.{AreDistinct}
use Rattle.nts_model.specs.Lists.{Among}
use Rattle.nts_model.specs.Refutation.Opening.{binds, placeholder_in}
use Rattle.nts_decisions.specs.Deciding.{blurred_leaf, blurred, level_or_root, top_level}
use Rattle.nts_model.proofs.Canonical.Numbering.{AllLeaves, replace-agree}
use Rattle.nts_model.proofs.Terms.Listed.{same-no, either as two_ways}
use Rattle.nts_model.proofs.Terms.Renamings.{swapped, forward, backward, backward-forward, forward-backward, sorts-forward, map-forward, renaming-injective}
use Rattle.nts_theory.proofs.Refutation.OpenedGoals.{rename_opened}
use Rattle.nts_decisions.proofs.DecidingRenamed.{region_blurred, blurred_renamed, Reopens}

-- leaves that a permutation of lists leaves alone
other_swapped : (x y l : Leaf) → (l ≡ x → ⊥) → (l ≡ y → ⊥) → swapped x y l ≡ l
other_swapped x y l p q = rw (same-no l x p, same-no l y q) refl

forward-other : (xs ys : List Leaf) (l : Leaf) → (Among xs l → ⊥) → (Among ys l → ⊥) → forward xs ys l ≡ l
forward-other [] ys l p q = refl
forward-other (x ∷ xs) [] l p q = refl
forward-other (x ∷ xs) (y ∷ ys) l p q =
    let here : forward xs ys l ≡ l = forward-other xs ys l (λ i. p (inr i)) (λ i. q (inr i)) in
    let apart : l ≡ forward xs ys x → ⊥ = λ e. p (inl (sym (backward-forward xs ys l) ∙ ap (backward xs ys) (here ∙ e) ∙ backward-forward xs ys x)) in
    ap (swapped (forward xs ys x) y) here ∙ other_swapped (forward xs ys x) y l apart (λ e. q (inl e))

-- the leaves that stand for the first n variables of types and consts
abbrev pub leaves_below : (Sort → ℕ → Leaf) → ℕ → List Leaf
leaves_below f zero = []
leaves_below f (suc n) = f sort.Ty n ∷ f sort.Const n ∷ leaves_below f n

data IsTerm : Sort → Type 0 where
  a_type : IsTerm sort.Ty
  a_const : IsTerm sort.Const

record IsBelow (f : Sort → ℕ → Leaf) (n : ℕ) (x : Leaf) : Type 0 where
  of : Sort
  term : IsTerm of
  at : ℕ
  below : at < n
  is : x ≡ f of at

is_below : (f : Sort → ℕ → Leaf) (n : ℕ) (x : Leaf) → Among (leaves_below f n) x → IsBelow f n x
is_below f zero x i = absurd i
is_below f (suc n) x (inl e) = record { of = sort.Ty; term = a_type; at = n; below = omega arith; is = e }
is_below f (suc n) x (inr (inl e)) = record { of = sort.Const; term = a_const; at = n; below = omega arith; is = e }
is_below f (suc n) x (inr (inr i)) = (let r = is_below f n x i in let b : r.at < n = r.below in record { of = r.of; term = r.term; at = r.at; below = omega (arith, b); is = r.is })

record TellApart (f : Sort → ℕ → Leaf) : Type 0 where
  numbers : (s : Sort) (n m : ℕ) → IsTerm s → f s n ≡ f s m → n ≡ m
  sorts : (n m : ℕ) → f sort.Ty n ≡ f sort.Const m → ⊥

distinct_below : (f : Sort → ℕ → Leaf) (n : ℕ) → TellApart f → AreDistinct (leaves_below f n)
distinct_below f zero t = tt
distinct_below f (suc n) t = (first, (second, distinct_below f n t))
  where
    second_at : (o : Sort) → IsTerm o → (k : ℕ) → k < n → f sort.Const n ≡ f o k → ⊥
    second_at o a_type k b e = t.sorts k n (sym e)
    second_at o a_const k b e = (let q : n ≡ k = t.numbers sort.Const n k a_const e in omega (arith, q, b))

    second : Among (leaves_below f n) (f sort.Const n) → ⊥
    second i = (let r = is_below f n (f sort.Const n) i in second_at r.of r.term r.at r.below r.is)

    first_at : (o : Sort) → IsTerm o → (k : ℕ) → k < n → f sort.Ty n ≡ f o k → ⊥
    first_at o a_type k b e = (let q : n ≡ k = t.numbers sort.Ty n k a_type e in omega (arith, q, b))
    first_at o a_const k b e = t.sorts n k e

    first : Among (f sort.Const n ∷ leaves_below f n) (f sort.Ty n) → ⊥
    first (inl e) = t.sorts n n e
    first (inr i) = (let r = is_below f n (f sort.Ty n) i in first_at r.of r.term r.at r.below r.is)

map_below : (σ : Leaf → Leaf) (f p : Sort → ℕ → Leaf) (n : ℕ) → map σ (leaves_below f n) ≡ leaves_below p n → (s : Sort) → IsTerm s → (m : ℕ) → m < n → σ (f s m) ≡ p s m
map_below σ f p zero e s t m b = absurd (omega (arith, b))
map_below σ f p (suc n) e s t m b =
    let one : σ (f sort.Ty n) ≡ p sort.Ty n = cc e in
    let two : σ (f sort.Const n) ≡ p sort.Const n = cc e in
    let rest : map σ (leaves_below f n) ≡ leaves_below p n = cc e in
    at s t one two (cases m n b) (λ q. map_below σ f p n rest s t m q)
  where
    cases : (m n : ℕ) → m < suc n → (m ≡ n) ⊎ (m < n)
    cases m n b = elim (le-suc_iff.0 b) [ inl h ↦ inr (omega (arith, h)) | inr e ↦ inl (omega (arith, e)) ]

    at : (s : Sort) → IsTerm s → σ (f sort.Ty n) ≡ p sort.Ty n → σ (f sort.Const n) ≡ p sort.Const n → (m ≡ n) ⊎ (m < n) → (m < n → σ (f s m) ≡ p s m) → σ (f s m) ≡ p s m
    at s a_type one two (inl q) k = ap (λ z. σ (f sort.Ty z)) q ∙ one ∙ ap (p sort.Ty) (sym q)
    at s a_const one two (inl q) k = ap (λ z. σ (f sort.Const z)) q ∙ two ∙ ap (p sort.Const) (sym q)
    at s t one two (inr q) k = k q

-- which bound variables a tree has
abbrev pub index_of : Label → ℕ
index_of (label.Bound s (index.Bound d) n) = suc n
index_of l = 0

abbrev pub index_bound : Tree → ℕ
index_bound empty = 0
index_bound (more a b) = max (index_bound a) (index_bound b)
index_bound (node l c) = max (index_of l) (index_bound c)

-- leaves that are alike but for regions stand for them
AgreeBelow : (Sort → ℕ → Leaf) → (Sort → ℕ → Leaf) → ℕ → Type 0
AgreeBelow f p k = (s : Sort) (n : ℕ) → n < k → blurred_leaf (f s n) ≡ blurred_leaf (p s n)

pub opened_if : (b : Bool) (x y : Leaf) (s : Sort) (d n : ℕ) (t u : Tree) → blurred_leaf x ≡ blurred_leaf y → blurred t ≡ blurred u
    → blurred (if b then leaf_tree x else node (label.Bound s (index.Bound d) n) t) ≡ blurred (if b then leaf_tree y else node (label.Bound s (index.Bound d) n) u)
opened_if true x y s d n t u e q = e
opened_if false x y s d n t u e q = ap (node (label.Bound s (index.Bound d) n)) q

opened_label : (f p : Sort → ℕ → Leaf) (k : ℕ) → AgreeBelow f p k → (c : ℕ) (l : Label) (t u : Tree) → index_of l ≤ k → blurred t ≡ blurred u → blurred (opened_at f c l t) ≡ blurred (opened_at p c l u)
unfolding AgreeBelow
opened_label f p k h c (label.Bound s (index.Bound d) n) t u b q = opened_if (d == c) (f s n) (p s n) s d n t u (h s n (omega (arith, b))) q
opened_label f p k h c (label.Bound s index.Canonical n) t u b q = ap (node (label.Bound s index.Canonical n)) q
opened_label f p k h c (label.Leaf x) t u b q = refl
opened_label f p k h c (label.Ty x) t u b q = ap (node (label.Ty x)) q
opened_label f p k h c (label.Const x) t u b q = ap (node (label.Const x)) q
opened_label f p k h c (label.Clause x) t u b q = ap (node (label.Clause x)) q
opened_label f p k h c (label.Predicate x) t u b q = ap (node (label.Predicate x)) q
opened_label f p k h c (label.List x) t u b q = ap (node (label.List x)) q

opened_agree : (f p : Sort → ℕ → Leaf) (k : ℕ) → AgreeBelow f p k → (c : ℕ) (t : Tree) → index_bound t ≤ k → blurred (opened f c t) ≡ blurred (opened p c t)
opened_agree f p k h c empty b = refl
opened_agree f p k h c (more x y) b = cc (opened_agree f p k h c x (omega (arith, b)), opened_agree f p k h c y (omega (arith, b)))
opened_agree f p k h c (node l t) b = opened_label f p k h c l (opened f (c + binders l) t) (opened p (c + binders l) t) (omega (arith, b)) (opened_agree f p k h (c + binders l) t (omega (arith, b)))

-- universes of the leaves of a tree
abbrev leaf_top : Leaf → ℕ
leaf_top l = level_or_root (leaf_level_of l)

placeholder_top : (u : ℕ) (s : Sort) (n : ℕ) → leaf_top (placeholder_in u s n) ≡ u
placeholder_top u sort.Ty n = refl
placeholder_top u sort.Const n = refl
placeholder_top u sort.Region n = refl

-- the renaming, with the placeholders of one universe brought to those of another one
module _ (ρ : Renaming) (plain : IsPlain ρ) (u v : ℕ) (k : ℕ) where
  abbrev brought : Sort → ℕ → Leaf
  brought s n = ρ.to (placeholder_in u s n)

  abbrev old_leaves : List Leaf
  old_leaves = leaves_below brought k

  abbrev new_leaves : List Leaf
  new_leaves = leaves_below (placeholder_in v) k

  one_placeholder : (w : ℕ) (s : Sort) (n m : ℕ) → IsTerm s → placeholder_in w s n ≡ placeholder_in w s m → n ≡ m
  one_placeholder w sort.Ty n m a_type e = cc e
  one_placeholder w sort.Const n m a_const e = cc e
  one_placeholder w sort.Region n m t e = elim t [ ]

  two_sorts : (w n m : ℕ) → placeholder_in w sort.Ty n ≡ placeholder_in w sort.Const m → ⊥
  two_sorts w n m e = absurd (cc e)

  new_apart : TellApart (placeholder_in v)
  new_apart = record { numbers = one_placeholder v; sorts = two_sorts v }

  old_apart : TellApart brought
  old_apart =
      (let j = renaming-injective ρ in
      record { numbers = λ s n m t e. one_placeholder u s n m t (j.tells (placeholder_in u s n) (placeholder_in u s m) e); sorts = λ n m e. two_sorts u n m (j.tells (placeholder_in u sort.Ty n) (placeholder_in u sort.Const m) e) })

  one_sorts : (n : ℕ) → map leaf_sort (leaves_below brought n) ≡ map leaf_sort (leaves_below (placeholder_in v) n)
  one_sorts zero = refl
  one_sorts (suc n) = cc (ρ.keeps_sorts (placeholder_in u sort.Ty n), ρ.keeps_sorts (placeholder_in u sort.Const n), one_sorts n)

  abbrev moved : Renaming
  moved =
      record {
        to = λ l. forward old_leaves new_leaves (ρ.to l);
        from = λ l. ρ.from (backward old_leaves new_leaves l);
        back = λ l. ap ρ.from (backward-forward old_leaves new_leaves (ρ.to l)) ∙ ρ.back l;
        forth = λ l. ap (forward old_leaves new_leaves) (ρ.forth (backward old_leaves new_leaves l)) ∙ forward-backward old_leaves new_leaves l;
        keeps_sorts = λ l. sorts-forward old_leaves new_leaves (one_sorts k) (ρ.to l) ∙ ρ.keeps_sorts l;
      }

  moved_placeholder : (s : Sort) (n : ℕ) → IsTerm s → n < k → forward old_leaves new_leaves (brought s n) ≡ placeholder_in v s n
  moved_placeholder s n t b =
      map_below (forward old_leaves new_leaves) brought (placeholder_in v) k (map-forward old_leaves new_leaves (distinct_below brought k old_apart) (distinct_below (placeholder_in v) k new_apart) (one_sorts k)) s t n b

  no_region : (r : FreeRegion) (f : Sort → ℕ → Leaf) → ((s : Sort) (n : ℕ) → IsTerm s → leaf_sort (f s n) ≡ of_constant s) → Among (leaves_below f k) (leaf.Region r) → ⊥
  no_region r f h i = (let x = is_below f k (leaf.Region r) i in let e : sort_of_variable kind.Region ≡ of_constant x.of = ap leaf_sort x.is ∙ h x.of x.at x.term in absurd (cc e))

  placeholder_sort : (w : ℕ) (s : Sort) (n : ℕ) → IsTerm s → leaf_sort (placeholder_in w s n) ≡ of_constant s
  placeholder_sort w sort.Ty n a_type = refl
  placeholder_sort w sort.Const n a_const = refl
  placeholder_sort w sort.Region n t = elim t [ ]

  moved_plain : IsPlain moved
  moved_plain r h =
      ap (forward old_leaves new_leaves) (plain r h)
      ∙ forward-other old_leaves new_leaves (leaf.Region r) (no_region r brought (λ s n t. ρ.keeps_sorts (placeholder_in u s n) ∙ placeholder_sort u s n t)) (no_region r (placeholder_in v) (λ s n t. placeholder_sort v s n t))

  moved_other : (l : Leaf) → leaf_top l < u → leaf_top (ρ.to l) < v → forward old_leaves new_leaves (ρ.to l) ≡ ρ.to l
  moved_other l a b =
      forward-other old_leaves new_leaves (ρ.to l)
      (λ i. (let x = is_below brought k (ρ.to l) i in
      let j = renaming-injective ρ in
      let e : l ≡ placeholder_in u x.of x.at = j.tells l (placeholder_in u x.of x.at) x.is in
      let t : leaf_top l ≡ u = ap leaf_top e ∙ placeholder_top u x.of x.at in omega (arith, t, a)))
      (λ i. (let x = is_below (placeholder_in v) k (ρ.to l) i in
      let t : leaf_top (ρ.to l) ≡ v = ap leaf_top x.is ∙ placeholder_top v x.of x.at in omega (arith, t, b)))

  agree_node : (l : Label) (c : Tree) → top_level (node l c) < u → top_level (rename ρ (node l c)) < v
      → (top_level c < u → top_level (rename ρ c) < v → AllLeaves (λ x. leaf_tree (forward old_leaves new_leaves (ρ.to x)) ≡ leaf_tree (ρ.to x)) c)
      → AllLeaves (λ x. leaf_tree (forward old_leaves new_leaves (ρ.to x)) ≡ leaf_tree (ρ.to x)) (node l c)
  agree_node (label.Leaf x) c a b h = ap leaf_tree (moved_other x (omega (arith, a)) (omega (arith, b)))
  agree_node (label.Bound s i n) c a b h = h (omega (arith, a)) (omega (arith, b))
  agree_node (label.Ty x) c a b h = h (omega (arith, a)) (omega (arith, b))
  agree_node (label.Const x) c a b h = h (omega (arith, a)) (omega (arith, b))
  agree_node (label.Clause x) c a b h = h (omega (arith, a)) (omega (arith, b))
  agree_node (label.Predicate x) c a b h = h (omega (arith, a)) (omega (arith, b))
  agree_node (label.List x) c a b h = h (omega (arith, a)) (omega (arith, b))

  agree : (t : Tree) → top_level t < u → top_level (rename ρ t) < v → AllLeaves (λ x. leaf_tree (forward old_leaves new_leaves (ρ.to x)) ≡ leaf_tree (ρ.to x)) t
  agree empty a b = tt
  agree (more s t) a b = (agree s (omega (arith, a)) (omega (arith, b)), agree t (omega (arith, a)) (omega (arith, b)))
  agree (node l c) a b = agree_node l c a b (λ x y. agree c x y)

  moved_tree : (t : Tree) → top_level t < u → top_level (rename ρ t) < v → rename moved t ≡ rename ρ t
  moved_tree t a b = replace-agree (λ x. leaf_tree (forward old_leaves new_leaves (ρ.to x))) (λ x. leaf_tree (ρ.to x)) t (agree t a b)

  moved_agree : AgreeBelow (λ s n. forward old_leaves new_leaves (brought s n)) (placeholder_in v) k
  unfolding AgreeBelow
  moved_agree sort.Ty n b = ap blurred_leaf (moved_placeholder sort.Ty n a_type b)
  moved_agree sort.Const n b = ap blurred_leaf (moved_placeholder sort.Const n a_const b)
  moved_agree sort.Region n b = region_blurred (forward old_leaves new_leaves (brought sort.Region n)) (sorts-forward old_leaves new_leaves (one_sorts k) (brought sort.Region n) ∙ ρ.keeps_sorts (placeholder_in u sort.Region n))

  -- what a binder binds is opened in the new universe
  moved_opened : (t : Tree) → index_bound (rename ρ t) ≤ k → top_level t < u → top_level (rename ρ t) < v → rename moved (blurred (opened (placeholder_in u) 0 t)) ≡ blurred (opened (placeholder_in v) 0 (rename ρ t))
  moved_opened t i a b =
      sym (blurred_renamed moved moved_plain (opened (placeholder_in u) 0 t))
      ∙ ap blurred (rename_opened moved (placeholder_in u) 0 t ∙ ap (opened (λ s n. forward old_leaves new_leaves (brought s n)) 0) (moved_tree t a b))
      ∙ opened_agree (λ s n. forward old_leaves new_leaves (brought s n)) (placeholder_in v) k moved_agree 0 (rename ρ t) i

-- what binds a variable has this form, and so has what is renamed to such a goal
node_not_more : (f : Leaf → Leaf) (l : Label) (c a b : Tree) → put (λ x. leaf_tree (f x)) l c ≡ more a b → ⊥
node_not_more f (label.Leaf x) c a b e = absurd (cc e)
node_not_more f (label.Bound s i n) c a b e = absurd (cc e)
node_not_more f (label.Ty x) c a b e = absurd (cc e)
node_not_more f (label.Const x) c a b e = absurd (cc e)
node_not_more f (label.Clause x) c a b e = absurd (cc e)
node_not_more f (label.Predicate x) c a b e = absurd (cc e)
node_not_more f (label.List x) c a b e = absurd (cc e)

node_not_empty : (f : Leaf → Leaf) (l : Label) (c : Tree) → put (λ x. leaf_tree (f x)) l c ≡ empty → ⊥
node_not_empty f (label.Leaf x) c e = absurd (cc e)
node_not_empty f (label.Bound s i n) c e = absurd (cc e)
node_not_empty f (label.Ty x) c e = absurd (cc e)
node_not_empty f (label.Const x) c e = absurd (cc e)
node_not_empty f (label.Clause x) c e = absurd (cc e)
node_not_empty f (label.Predicate x) c e = absurd (cc e)
node_not_empty f (label.List x) c e = absurd (cc e)

pub record IsBinding (g : Tree) : Type 0 where
  pub sort : Tree
  pub sorts : Tree
  pub says : Tree
  pub is : g ≡ bound (more sort sorts) says

pub binding : (g : Tree) → binds g ≡ true → IsBinding g
binding (node (label.List list.Binder) (more (node (label.List list.Sorts) (more s ss)) (more t empty))) e = record { sort = s; sorts = ss; says = t; is = refl }
binding g e = absurd (cc e)

pub binding_back : (f : Leaf → Leaf) (g s ss t : Tree) → replace (λ x. leaf_tree (f x)) g ≡ bound (more s ss) t → binds g ≡ true
binding_back f (node (label.List list.Binder) (more (node (label.List list.Sorts) (more a b)) (more u empty))) s ss t e = refl
binding_back f (node (label.List list.Binder) (node l c)) s ss t e =
    absurd (node_not_more f l (replace (λ x. leaf_tree (f x)) c) (node (label.List list.Sorts) (more s ss)) (more t empty) (cc e))
binding_back f (node (label.List list.Binder) (more (node (label.List list.Sorts) (node l c)) r)) s ss t e =
    absurd (node_not_more f l (replace (λ x. leaf_tree (f x)) c) s ss (cc e))
binding_back f (node (label.List list.Binder) (more (node (label.List list.Sorts) (more a b)) (node l c))) s ss t e =
    absurd (node_not_more f l (replace (λ x. leaf_tree (f x)) c) t empty (cc e))
binding_back f (node (label.List list.Binder) (more (node (label.List list.Sorts) (more a b)) (more u (node l c)))) s ss t e =
    absurd (node_not_empty f l (replace (λ x. leaf_tree (f x)) c) (cc e))
binding_back f g s ss t e = absurd (cc e)

reopens_plain : (ρ : Renaming) → IsPlain ρ → (e g : Tree) → binds g ≡ false → binds (rename ρ g) ≡ false → Reopens ρ e g
reopens_plain ρ p e g h k = record { to = ρ; plain = p; environment = refl; opened = rw (h, k) refl }

reopens_binder : (ρ : Renaming) → IsPlain ρ → (e s ss t : Tree) → Reopens ρ e (bound (more s ss) t)
reopens_binder ρ p e s ss t =
    let g : Tree = bound (more s ss) t in
    let u : ℕ = suc (top_level (pair e g)) in
    let v : ℕ = suc (top_level (pair (rename ρ e) (rename ρ g))) in
    let k : ℕ = index_bound (rename ρ t) in
    record {
      to = moved ρ p u v k;
      plain = moved_plain ρ p u v k;
      environment = moved_tree ρ p u v k e (omega arith) (omega arith);
      opened = ap unbound (moved_opened ρ p u v k t (omega arith) (omega arith) (omega arith));
    }

pub reopens : (ρ : Renaming) → IsPlain ρ → (e g : Tree) → Reopens ρ e g
reopens ρ p e g = go (two_ways (binds g)) (two_ways (binds (rename ρ g)))
  where
    go : (binds g ≡ true) ⊎ (binds g ≡ false) → (binds (rename ρ g) ≡ true) ⊎ (binds (rename ρ g) ≡ false) → Reopens ρ e g
    go (inl h) o = (let b = binding g h in subst (Reopens ρ e) (sym b.is) (reopens_binder ρ p e b.sort b.sorts b.says))
    go (inr h) (inr k) = reopens_plain ρ p e g h k
    go (inr h) (inl k) = (let b = binding (rename ρ g) k in let q : binds g ≡ true = binding_back ρ.to g b.sort b.sorts b.says b.is in absurd (cc (q, h)))
