-- Goals with values in place of their aliases, and what renaming does to them.
use Rattle.std.proofs.Common.{◌≡◌, ℕ, ◌+◌, refl, sym, ap, ◌∙◌}
use Rattle.nts_model.specs.declared.labels.Leaf.{Leaf}
use Rattle.nts_model.specs.declared.labels.BoundVarIndexKind.TheVariants as index
use Rattle.nts_model.specs.declared.labels.ClauseHead.TheVariants as clause
use Rattle.nts_model.specs.declared.labels.PredicateHead.TheVariants as predicate
use Rattle.nts_model.specs.declared.labels.ListHead.TheVariants as list
use Rattle.nts_model.specs.declared.labels.AliasHead.{AliasHead}
use Rattle.nts_model.specs.declared.labels.AliasHead.TheVariants as alias_of
use Rattle.nts_model.specs.declared.labels.AliasRelationDirection.TheVariants as direction
use Rattle.nts_model.specs.declared.labels.Label.{Label}
use Rattle.nts_model.specs.declared.labels.Label.TheVariants as label
use Rattle.nts_model.specs.Terms.Trees.{Tree, empty, more, node, binders, IsClosedUnder, IsFormed}
use Rattle.nts_model.specs.Terms.Substitutions.{leaf_tree, put, replace, Renaming, rename}
use Rattle.nts_model.specs.Derivations.Related.{alias, alias_label, arguments, IsAlias}
use Rattle.nts_model.specs.Derivations.Rules.{Replaced, chosen, kept_empty, kept_more, kept_node, KeepsAliases, statement_of}
use Rattle.nts_model.specs.Refutation.Containing.{IsAliasFree}
use Rattle.nts_model.proofs.Terms.Substituting.{leaf_alone}
use Rattle.nts_model.proofs.Terms.Composing.{IsClosed-instance}
use Rattle.nts_theory.specs.Aliasing.{alias_relation}
use Rattle.nts_theory.specs.Refutation.Refutation.{HasBareLeaves, IfBare, IsCarrying, IsProvedWithValues}
use Rattle.nts_theory.proofs.Refutation.Carriers.{instance_by}
use Rattle.nts_theory.proofs.Refutation.PlainTerms.{free_renamed}

-- a formed tree has nothing below its leaves
bare_node : (l : Label) (c : Tree) → IsFormed (node l c) → HasBareLeaves c → IfBare l c (HasBareLeaves c)
bare_node (label.Leaf x) c f h = leaf_alone x c f
bare_node (label.Bound s i n) c f h = h
bare_node (label.Ty x) c f h = h
bare_node (label.Const x) c f h = h
bare_node (label.Clause x) c f h = h
bare_node (label.Predicate x) c f h = h
bare_node (label.List x) c f h = h

pub bare_formed : (t : Tree) → IsFormed t → HasBareLeaves t
bare_formed empty f = tt
bare_formed (more a b) f = (bare_formed a f.0, bare_formed b f.1)
bare_formed (node l c) f = bare_node l c f (bare_formed c f.1)

-- so has a tree before values were put in
module _ (C : Tree → Tree → Type 0) (aliases : (a v : Tree) → C a v → HasBareLeaves a) (values : (v a : Tree) → C a v → v ≡ empty → ⊥) where
  empty_before : (t u : Tree) → Replaced C t u → u ≡ empty → t ≡ empty
  empty_before t u (chosen i k x) e = absurd (values u t x e)
  empty_before t u kept_empty e = refl
  empty_before t u (kept_more p q) e = cc e
  empty_before t u (kept_node n p) e = cc e

  bare_label : (l : Label) (c d : Tree) → Replaced C c d → (HasBareLeaves d → HasBareLeaves c) → IfBare l d (HasBareLeaves d) → IfBare l c (HasBareLeaves c)
  bare_label (label.Leaf x) c d p f h = empty_before c d p h
  bare_label (label.Bound s i n) c d p f h = f h
  bare_label (label.Ty x) c d p f h = f h
  bare_label (label.Const x) c d p f h = f h
  bare_label (label.Clause x) c d p f h = f h
  bare_label (label.Predicate x) c d p f h = f h
  bare_label (label.List x) c d p f h = f h

  pub bare_replaced : (t u : Tree) → Replaced C t u → HasBareLeaves u → HasBareLeaves t
  bare_replaced t u (chosen i k x) h = aliases t u x
  bare_replaced t u kept_empty h = tt
  bare_replaced t u (kept_more {a = a} {b = b} {s = x} {t = y} p q) h = (bare_replaced a b p h.0, bare_replaced x y q h.1)
  bare_replaced t u (kept_node {l = l} {c = c} {d = d} n p) h = bare_label l c d p (bare_replaced c d p) h

-- with closed trees in place of leaves, a tree is closed if it was, and the other way
pub closed_bare : (f : Leaf → Tree) (b : ℕ) (t : Tree) → HasBareLeaves t → IsClosedUnder b (replace f t) → IsClosedUnder b t
closed_bare f b empty i h = tt
closed_bare f b (more x y) i h = (closed_bare f b x i.0 h.0, closed_bare f b y i.1 h.1)
closed_bare f b (node (label.Leaf l) t) i h = rw i (tt, tt)
closed_bare f b (node (label.Bound s (index.Bound d) n) t) i h = (h.0, closed_bare f (b + binders (label.Bound s (index.Bound d) n)) t i h.1)
closed_bare f b (node (label.Bound s index.Canonical n) t) i h = (h.0, closed_bare f (b + binders (label.Bound s index.Canonical n)) t i h.1)
closed_bare f b (node (label.Ty x) t) i h = (h.0, closed_bare f (b + binders (label.Ty x)) t i h.1)
closed_bare f b (node (label.Const x) t) i h = (h.0, closed_bare f (b + binders (label.Const x)) t i h.1)
closed_bare f b (node (label.Clause x) t) i h = (h.0, closed_bare f (b + binders (label.Clause x)) t i h.1)
closed_bare f b (node (label.Predicate x) t) i h = (h.0, closed_bare f (b + binders (label.Predicate x)) t i h.1)
closed_bare f b (node (label.List x) t) i h = (h.0, closed_bare f (b + binders (label.List x)) t i h.1)

-- a label that no leaf has, before trees were put in place of leaves that are none of it
module _ (f : Leaf → Tree) (leaves : (x : Leaf) → (y : Leaf) × (f x ≡ leaf_tree y)) where
  not_leaf : (x : Leaf) (c : Tree) (l : Label) (d : Tree) → ((y : Leaf) → label.Leaf y ≡ l → ⊥) → replace f (node (label.Leaf x) c) ≡ node l d → ⊥
  not_leaf x c l d other e = (let y = leaves x in let z : leaf_tree y.0 ≡ node l d = sym y.1 ∙ e in let w : label.Leaf y.0 ≡ l = cc z in other y.0 w)

  no_leaf_list : (y : Leaf) → label.Leaf y ≡ label.List list.Args → ⊥
  no_leaf_list y e = cc e

  empty_first : (t : Tree) → replace f t ≡ empty → t ≡ empty
  empty_first empty e = refl
  empty_first (more a b) e = cc e
  empty_first (node (label.Leaf x) c) e = (let y = leaves x in let z : leaf_tree y.0 ≡ empty = sym y.1 ∙ e in cc z)
  empty_first (node (label.Bound s i n) c) e = cc e
  empty_first (node (label.Ty x) c) e = cc e
  empty_first (node (label.Const x) c) e = cc e
  empty_first (node (label.Clause x) c) e = cc e
  empty_first (node (label.Predicate x) c) e = cc e
  empty_first (node (label.List x) c) e = cc e

  list_first : (a ps : Tree) → replace f a ≡ node (label.List list.Args) ps → (ts : Tree) × (a ≡ node (label.List list.Args) ts)
  list_first empty ps e = cc e
  list_first (more a b) ps e = cc e
  list_first (node (label.Leaf x) c) ps e = absurd (not_leaf x c (label.List list.Args) ps no_leaf_list e)
  list_first (node (label.Bound s i n) c) ps e = cc e
  list_first (node (label.Ty x) c) ps e = cc e
  list_first (node (label.Const x) c) ps e = cc e
  list_first (node (label.Clause x) c) ps e = cc e
  list_first (node (label.Predicate x) c) ps e = cc e
  list_first (node (label.List x) c) ps e = (let same : x ≡ list.Args = cc e in (c, ap (λ z. node (label.List z) c) same))

  arguments_first : (c ps : Tree) → replace f c ≡ arguments ps → (ts : Tree) × (c ≡ arguments ts)
  arguments_first empty ps e = cc e
  arguments_first (more a b) ps e =
      let one : replace f a ≡ node (label.List list.Args) ps = cc e in
      let rest : replace f b ≡ empty = cc e in
      let x = list_first a ps one in
      (x.0, ap (λ z. more z b) x.1 ∙ ap (more (node (label.List list.Args) x.0)) (empty_first b rest))
  arguments_first (node (label.Leaf x) c) ps e = (let y = leaves x in let z : leaf_tree y.0 ≡ arguments ps = sym y.1 ∙ e in cc z)
  arguments_first (node (label.Bound s i n) c) ps e = cc e
  arguments_first (node (label.Ty x) c) ps e = cc e
  arguments_first (node (label.Const x) c) ps e = cc e
  arguments_first (node (label.Clause x) c) ps e = cc e
  arguments_first (node (label.Predicate x) c) ps e = cc e
  arguments_first (node (label.List x) c) ps e = cc e

  no_leaf_alias : (h : AliasHead) (y : Leaf) → label.Leaf y ≡ alias_label h → ⊥
  no_leaf_alias (alias_of.Ty i) y e = cc e
  no_leaf_alias (alias_of.Const i) y e = cc e

  node_first : (h : AliasHead) (l : Label) (c ps : Tree) → node l (replace f c) ≡ alias h ps → (ts : Tree) × (node l c ≡ alias h ts)
  node_first h l c ps e =
      let same : l ≡ alias_label h = cc e in
      let below : replace f c ≡ arguments ps = cc e in
      let x = arguments_first c ps below in
      (x.0, ap (λ z. node z c) same ∙ ap (node (alias_label h)) x.1)

  alias_first : (h : AliasHead) (t ps : Tree) → replace f t ≡ alias h ps → (ts : Tree) × (t ≡ alias h ts)
  alias_first h empty ps e = cc e
  alias_first h (more a b) ps e = cc e
  alias_first h (node (label.Leaf x) c) ps e = absurd (not_leaf x c (alias_label h) (arguments ps) (no_leaf_alias h) e)
  alias_first h (node (label.Bound s i n) c) ps e = node_first h (label.Bound s i n) c ps e
  alias_first h (node (label.Ty x) c) ps e = node_first h (label.Ty x) c ps e
  alias_first h (node (label.Const x) c) ps e = node_first h (label.Const x) c ps e
  alias_first h (node (label.Clause x) c) ps e = node_first h (label.Clause x) c ps e
  alias_first h (node (label.Predicate x) c) ps e = node_first h (label.Predicate x) c ps e
  alias_first h (node (label.List x) c) ps e = node_first h (label.List x) c ps e

  -- what is an alias then was one
  pub alias_bare : (t : Tree) → HasBareLeaves t → IsAlias (replace f t) → IsAlias t
  alias_bare t h x = (let y = alias_first x.head t x.parts x.is in record { head = x.head; parts = y.0; is = y.1; closed = closed_bare f 0 t h x.closed })

renamed_leaves : (ρ : Renaming) (x : Leaf) → (y : Leaf) × (leaf_tree (ρ.to x) ≡ leaf_tree y)
renamed_leaves ρ x = (ρ.to x, refl)

bare_put : (ρ : Renaming) (l : Label) (c d : Tree) → (HasBareLeaves c → HasBareLeaves d) → IfBare l c (HasBareLeaves c) → HasBareLeaves (put (λ x. leaf_tree (ρ.to x)) l d)
bare_put ρ (label.Leaf x) c d f h = refl
bare_put ρ (label.Bound s i n) c d f h = f h
bare_put ρ (label.Ty x) c d f h = f h
bare_put ρ (label.Const x) c d f h = f h
bare_put ρ (label.Clause x) c d f h = f h
bare_put ρ (label.Predicate x) c d f h = f h
bare_put ρ (label.List x) c d f h = f h

pub bare_renamed : (ρ : Renaming) (t : Tree) → HasBareLeaves t → HasBareLeaves (rename ρ t)
bare_renamed ρ empty h = tt
bare_renamed ρ (more a b) h = (bare_renamed ρ a h.0, bare_renamed ρ b h.1)
bare_renamed ρ (node l c) h = bare_put ρ l c (rename ρ c) (bare_renamed ρ c) h

-- what an alias is, once renamed
pub alias_renamed : (ρ : Renaming) (a : Tree) (x : IsAlias a) → rename ρ a ≡ alias x.head (rename ρ x.parts)
alias_renamed ρ a x = ap (rename ρ) x.is ∙ renamed_alias x.head
  where
    renamed_alias : (h : AliasHead) → rename ρ (alias h x.parts) ≡ alias h (rename ρ x.parts)
    renamed_alias (alias_of.Ty i) = refl
    renamed_alias (alias_of.Const i) = refl

abbrev pub still_alias : (ρ : Renaming) → IsCarrying ρ → (a : Tree) → IsAlias a → IsAlias (rename ρ a)
still_alias ρ k a x = record { head = x.head; parts = rename ρ x.parts; is = alias_renamed ρ a x; closed = IsClosed-instance (instance_by ρ k) a x.closed }

-- values that were put in, renamed
module _ (C D : Tree → Tree → Type 0) (ρ : Renaming) (k : IsCarrying ρ) (later : (a v : Tree) → C a v → D (rename ρ a) (rename ρ v)) where
  put_replaced : (l : Label) (c d : Tree) → (IsAlias (rename ρ (node l c)) → ⊥) → Replaced D (rename ρ c) (rename ρ d) → Replaced D (rename ρ (node l c)) (rename ρ (node l d))
  put_replaced (label.Leaf x) c d n r = kept_node n kept_empty
  put_replaced (label.Bound s i m) c d n r = kept_node n r
  put_replaced (label.Ty x) c d n r = kept_node n r
  put_replaced (label.Const x) c d n r = kept_node n r
  put_replaced (label.Clause x) c d n r = kept_node n r
  put_replaced (label.Predicate x) c d n r = kept_node n r
  put_replaced (label.List x) c d n r = kept_node n r

  bare_below : (l : Label) (c d : Tree) → IfBare l c (HasBareLeaves c) → (HasBareLeaves c → Replaced D (rename ρ c) (rename ρ d)) → (IsAlias (rename ρ (node l c)) → ⊥) → Replaced D (rename ρ (node l c)) (rename ρ (node l d))
  bare_below (label.Leaf x) c d h f n = kept_node n kept_empty
  bare_below (label.Bound s i m) c d h f n = kept_node n (f h)
  bare_below (label.Ty x) c d h f n = kept_node n (f h)
  bare_below (label.Const x) c d h f n = kept_node n (f h)
  bare_below (label.Clause x) c d h f n = kept_node n (f h)
  bare_below (label.Predicate x) c d h f n = kept_node n (f h)
  bare_below (label.List x) c d h f n = kept_node n (f h)

  pub replaced_renamed : (t u : Tree) → HasBareLeaves t → Replaced C t u → Replaced D (rename ρ t) (rename ρ u)
  replaced_renamed t u h (chosen i c x) = chosen (still_alias ρ k t i) (IsClosed-instance (instance_by ρ k) u c) (later t u x)
  replaced_renamed t u h kept_empty = kept_empty
  replaced_renamed t u h (kept_more {a = a} {b = b} {s = x} {t = y} p q) = kept_more (replaced_renamed a b h.0 p) (replaced_renamed x y h.1 q)
  replaced_renamed t u h (kept_node {l = l} {c = c} {d = d} n p) = bare_below l c d h (λ z. replaced_renamed c d z p) (λ i. n (alias_bare (λ x. leaf_tree (ρ.to x)) (renamed_leaves ρ) (node l c) h i))

pub values_renamed : (Proves Later : Tree → Tree → Type 0) (ρ : Renaming) → IsCarrying ρ → ((e g : Tree) → Proves e g → Later (rename ρ e) (rename ρ g)) → (e g : Tree) → IsProvedWithValues Proves e g → IsProvedWithValues Later (rename ρ e) (rename ρ g)
values_renamed Proves Later ρ k later e g x =
    record {
      goal = rename ρ x.goal;
      bare = bare_renamed ρ g x.bare;
      values = replaced_renamed (λ a v. IsAliasFree v × Proves e (alias_relation direction.Equate a v)) (λ a v. IsAliasFree v × Later (rename ρ e) (alias_relation direction.Equate a v)) ρ k
          (λ a v y. (free_renamed ρ v y.0, later e (alias_relation direction.Equate a v) y.1)) g x.goal x.bare x.values;
      proved = later e x.goal x.proved;
    }

-- statements whose aliases stay still do
keeps_later : (ρ : Renaming) (s : Tree) → KeepsAliases s → KeepsAliases (rename ρ s)
keeps_later ρ (node (label.Clause clause.WellFormed) c) h = tt
keeps_later ρ (node (label.Clause (clause.UnstableFeature f)) c) h = tt
keeps_later ρ (node (label.Predicate (predicate.AliasRelate d)) c) h = tt
keeps_later ρ (node (label.Predicate (predicate.NormalizesTo i)) c) h = tt
keeps_later ρ s h = absurd h

pub kept_later : (ρ : Renaming) (g : Tree) → KeepsAliases (statement_of g) → KeepsAliases (statement_of (rename ρ g))
kept_later ρ (node (label.List list.Binder) (more v (more s empty))) h = keeps_later ρ s h
kept_later ρ g h = absurd h
