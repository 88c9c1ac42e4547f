-- Related trees come to one, once aliases gave place to what they normalize to.
use Rattle.std.proofs.Common.{◌≡◌, ◌⊎◌, ℕ, ◌+◌, List, Some, refl, sym, ap, subst, ◌∙◌, arith}
use Rattle.nts_model.specs.declared.labels.Variance.{Variance}
use Rattle.nts_model.specs.declared.labels.Variance.TheVariants as variance
use Rattle.nts_model.specs.declared.labels.Relation.TheVariants as relation
use Rattle.nts_model.specs.declared.labels.AliasHead.{AliasHead}
use Rattle.nts_model.specs.declared.labels.AliasHead.TheVariants as alias_of
use Rattle.nts_model.specs.declared.labels.ListHead.TheVariants as list
use Rattle.nts_model.specs.declared.labels.Label.TheVariants as label
use Rattle.nts_model.specs.Terms.Trees.{Tree, empty, more, node, binders, kind_of, Place, FitsPlace, any_argument, AllFit, one_sort, is, IsClosed, IsClosedUnder, IsFormed}
use Rattle.nts_model.specs.Terms.Regions.{IsRegion}
use Rattle.nts_model.specs.Terms.Substitutions.{Renaming, rename}
use Rattle.nts_model.specs.Derivations.Related.{Constraint, alias_goal, alias, IsAlias, Related, AreRelatedByArgument, one_tree, regions, constructors, functions, values, open_aliases, aliases, subtypes, no_more, and_more, times, region_constraint, first_variance}
use Rattle.nts_model.specs.Refutation.Containing.{IsAliasFree}
use Rattle.nts_theory.specs.Refutation.Refutation.{HasNoAlias, HasNoClosedAlias, ComesTo, same_tree, by_alias, by_row, by_node, ComeTogether}
use Rattle.nts_model.proofs.Terms.Substituting.{closed_under_more, leaf_alone, no_children}

-- a tree without aliases has none that is closed
pub free_settled : (t : Tree) → IsAliasFree t → HasNoClosedAlias t
free_settled empty h = tt
free_settled (more a b) h = (free_settled a h.0, free_settled b h.1)
free_settled (node l c) h = ((λ k. h.0), free_settled c h.1)

-- nor has a region
region_settled : (t : Tree) → IsRegion t → HasNoClosedAlias t
region_settled empty (x, e) = cc e
region_settled (more a b) (x, e) = cc e
region_settled (node (label.Leaf l) empty) i = ((λ k. refl), tt)
region_settled (node (label.Leaf l) (more a b)) (x, e) = cc e
region_settled (node (label.Leaf l) (node m d)) (x, e) = cc e
region_settled (node (label.Bound s n m) empty) (x, e) = cc e
region_settled (node (label.Bound s n m) (more a b)) (x, e) = cc e
region_settled (node (label.Bound s n m) (node k d)) (x, e) = cc e
region_settled (node (label.Ty l) empty) (x, e) = cc e
region_settled (node (label.Ty l) (more a b)) (x, e) = cc e
region_settled (node (label.Ty l) (node m d)) (x, e) = cc e
region_settled (node (label.Const l) empty) (x, e) = cc e
region_settled (node (label.Const l) (more a b)) (x, e) = cc e
region_settled (node (label.Const l) (node m d)) (x, e) = cc e
region_settled (node (label.Clause l) empty) (x, e) = cc e
region_settled (node (label.Clause l) (more a b)) (x, e) = cc e
region_settled (node (label.Clause l) (node m d)) (x, e) = cc e
region_settled (node (label.Predicate l) empty) (x, e) = cc e
region_settled (node (label.Predicate l) (more a b)) (x, e) = cc e
region_settled (node (label.Predicate l) (node m d)) (x, e) = cc e
region_settled (node (label.List l) empty) (x, e) = cc e
region_settled (node (label.List l) (more a b)) (x, e) = cc e
region_settled (node (label.List l) (node m d)) (x, e) = cc e

-- nor have the sorts of a binder
sort_settled : (t : Tree) → kind_of t ≡ Some one_sort → IsFormed t → HasNoClosedAlias t
sort_settled (node (label.List (list.Sort s)) empty) e f = ((λ k. refl), tt)
sort_settled (node (label.List (list.Sort s)) (more a b)) e f = absurd f.0
sort_settled (node (label.List (list.Sort s)) (node m d)) e f = absurd f.0
sort_settled (node (label.List list.Args) c) e f = cc e
sort_settled (node (label.List list.Env) c) e f = cc e
sort_settled (node (label.List list.Sorts) c) e f = cc e
sort_settled (node (label.List list.Binder) c) e f = cc e
sort_settled (node (label.Leaf x) c) e f = cc e
sort_settled (node (label.Bound s i n) c) e f = cc e
sort_settled (node (label.Ty x) c) e f = cc e
sort_settled (node (label.Const x) c) e f = cc e
sort_settled (node (label.Clause x) c) e f = cc e
sort_settled (node (label.Predicate x) c) e f = cc e
sort_settled empty e f = cc e
sort_settled (more a b) e f = cc e

sorts_settled : (t : Tree) → AllFit (is one_sort) t → IsFormed t → HasNoClosedAlias t
sorts_settled empty a f = tt
sorts_settled (more x y) a f = (sort_settled x a.0 f.0, sorts_settled y a.1 f.1)
sorts_settled (node l c) a f = absurd a

-- what aliases gave place to is closed as it was, of its kind, and formed
not_row : (h : AliasHead) (ts : Tree) (p : Place) → AllFit p (alias h ts) → ⊥
not_row (alias_of.Ty i) ts p h = h
not_row (alias_of.Const i) ts p h = h

module _ (R : Tree → Tree → Type 0) (of : (a t : Tree) → R a t → IsAlias a × IsClosed t × (kind_of t ≡ kind_of a)) where
  pub closed_back : (n : ℕ) (a t : Tree) → ComesTo R a t → IsClosedUnder n t → IsClosedUnder n a
  closed_back n a t same_tree k = k
  closed_back n a t (by_alias x) k = (let i = (of a t x).0 in closed_under_more 0 n a (omega arith) i.closed)
  closed_back n (more a s) (more b t) (by_row p q) k = (closed_back n a b p k.0, closed_back n s t q k.1)
  closed_back n (node l c) (node m d) (by_node p) k = (k.0, closed_back (n + binders l) c d p k.1)

  pub closed_forth : (n : ℕ) (a t : Tree) → ComesTo R a t → IsClosedUnder n a → IsClosedUnder n t
  closed_forth n a t same_tree k = k
  closed_forth n a t (by_alias x) k = closed_under_more 0 n t (omega arith) (of a t x).1
  closed_forth n (more a s) (more b t) (by_row p q) k = (closed_forth n a b p k.0, closed_forth n s t q k.1)
  closed_forth n (node l c) (node m d) (by_node p) k = (k.0, closed_forth (n + binders l) c d p k.1)

  kind_kept : (a t : Tree) → ComesTo R a t → kind_of t ≡ kind_of a
  kind_kept a t same_tree = refl
  kind_kept a t (by_alias x) = (of a t x).2
  kind_kept (more a s) (more b t) (by_row p q) = refl
  kind_kept (node l c) (node m d) (by_node p) = refl

  fit_kept : (p : Place) (a t : Tree) → ComesTo R a t → AllFit p a → AllFit p t
  fit_kept p a t same_tree h = h
  fit_kept p a t (by_alias x) h = (let i = (of a t x).0 in absurd (not_row i.head i.parts p (subst (AllFit p) i.is h)))
  fit_kept p (more a s) (more b t) (by_row q r) h = (subst (FitsPlace p) (sym (kind_kept a b q)) h.0, fit_kept p s t r h.1)
  fit_kept p (node l c) (node m d) (by_node q) h = absurd h

-- two trees that are related as they are, where equalities are true, come to one: what may be one tree has no alias, and what an alias is
-- related with comes to what the alias does
module _ (D : ℕ → List Variance) (S : Tree → Type 0) (H : Constraint → Type 0) (P : Tree → Type 0) (R : Tree → Tree → Type 0)
    (one : (a b : Tree) → H (record { relation = relation.Equal; left = a; right = b }) → a ≡ b) (free : (t : Tree) → S t → IsAliasFree t) (of : (a t : Tree) → R a t → IsAlias a × IsClosed t × (kind_of t ≡ kind_of a))
    (resolves : (a b : Tree) → IsAlias a ⊎ IsAlias b → IsClosed a → IsClosed b → P (alias_goal variance.Invariant a b) → ComeTogether R a b) where
  open_settled : (h : AliasHead) (ts us : Tree) → (IsClosed (alias h ts) → ⊥) → ComesTo R ts us → HasNoClosedAlias us → HasNoClosedAlias (alias h us)
  open_settled (alias_of.Ty i) ts us n q s =
      ((λ k. absurd (n (closed_back R of 0 (alias (alias_of.Ty i) ts) (alias (alias_of.Ty i) us) (by_node (by_row (by_node q) same_tree)) k))), (((λ k. refl), s), tt))
  open_settled (alias_of.Const i) ts us n q s =
      ((λ k. absurd (n (closed_back R of 0 (alias (alias_of.Const i) ts) (alias (alias_of.Const i) us) (by_node (by_row (by_node q) same_tree)) k))), (((λ k. refl), s), tt))

  -- the arguments of a formed tree are formed, and trees with such arguments
  abbrev AreArguments : Tree → Type 0
  AreArguments ts = AllFit any_argument ts × IsFormed ts

  alias_arguments : (h : AliasHead) (ts : Tree) → IsFormed (alias h ts) → AreArguments ts
  alias_arguments (alias_of.Ty i) ts f = (f.1.0.0, f.1.0.1)
  alias_arguments (alias_of.Const i) ts f = (f.1.0.0, f.1.0.1)

  alias_formed : (h : AliasHead) (ts : Tree) → AreArguments ts → IsFormed (alias h ts)
  alias_formed (alias_of.Ty i) ts f = ((refl, tt), (f, tt))
  alias_formed (alias_of.Const i) ts f = ((refl, tt), (f, tt))

  mutual
    pub related_together : (v : Variance) (a b : Tree) → v ≡ variance.Invariant → IsFormed a → Related D S H P v a b → ComeTogether R a b
    related_together v a b e f (one_tree {t = t} s) = record { term = t; formed = f; settled = free_settled t (free t s); left = same_tree; right = same_tree }
    related_together v a b e f (regions i j k) =
        let same : a ≡ b = one a b (subst (λ z. H (region_constraint z a b)) e k) in
        record { term = a; formed = f; settled = region_settled a i; left = same_tree; right = subst (λ z. ComesTo R z a) same same_tree }
    related_together v a b e f (constructors {i = i} {ts = ts} {us = us} r) =
        let x = all_together v _ ts us e (f.1.0.0, f.1.0.1) r in
        record {
          term = node _ (more (node (label.List list.Args) x.term) empty);
          formed = ((refl, tt), ((fit_kept R of any_argument ts x.term x.left f.1.0.0, x.formed), tt));
          settled = ((λ k. refl), (((λ k. refl), x.settled), tt));
          left = by_node (by_row (by_node x.left) same_tree);
          right = by_node (by_row (by_node x.right) same_tree);
        }
    related_together v a b e f (functions {sorts = sorts} {ts = ts} {us = us} r) =
        let x = all_together v _ ts us e (f.1.1.0.0, f.1.1.0.1) r in
        record {
          term = node _ (more (node (label.List list.Sorts) sorts) (more (node (label.List list.Args) x.term) empty));
          formed = ((refl, (refl, tt)), (f.1.0, ((fit_kept R of any_argument ts x.term x.left f.1.1.0.0, x.formed), tt)));
          settled = ((λ k. refl), (((λ k. refl), sorts_settled sorts f.1.0.0 f.1.0.1), (((λ k. refl), x.settled), tt)));
          left = by_node (by_row same_tree (by_row (by_node x.left) same_tree));
          right = by_node (by_row same_tree (by_row (by_node x.right) same_tree));
        }
    related_together v a b e f (values {t = t} {u = u} r) =
        let x = related_together variance.Invariant t u refl f.1.0 r in
        record {
          term = node _ (more x.term empty);
          formed = ((kind_kept R of t x.term x.left ∙ f.0.0, tt), (x.formed, tt));
          settled = ((λ k. refl), (x.settled, tt));
          left = by_node (by_row x.left same_tree);
          right = by_node (by_row x.right same_tree);
        }
    related_together v a b e f (open_aliases {ts = ts} {us = us} h n m r) =
        let w = alias_arguments h ts f in
        let x = all_together v _ ts us e w r in
        record {
          term = alias h x.term;
          formed = alias_formed h x.term (fit_kept R of any_argument ts x.term x.left w.0, x.formed);
          settled = open_settled h ts x.term n x.left x.settled;
          left = by_node (by_row (by_node x.left) same_tree);
          right = by_node (by_row (by_node x.right) same_tree);
        }
    related_together v a b e f (aliases i ca cb p) = resolves a b i ca cb (subst (λ z. P (alias_goal z a b)) e p)
    related_together v a b e f (subtypes z i j k ca cb p) = absurd (i e)

    all_together : (v : Variance) (ws : List Variance) (a b : Tree) → v ≡ variance.Invariant → AreArguments a → AreRelatedByArgument D S H P v ws a b → ComeTogether R a b
    all_together v ws a b e f no_more = record { term = empty; formed = tt; settled = tt; left = same_tree; right = same_tree }
    all_together v ws (more a ts) (more b us) e f (and_more r rs) =
        let x = related_together _ a b (ap (λ z. times z (first_variance ws)) e) f.1.0 r in
        let y = all_together v _ ts us e (f.0.1, f.1.1) rs in
        record { term = more x.term y.term; formed = (x.formed, y.formed); settled = (x.settled, y.settled); left = by_row x.left y.left; right = by_row x.right y.right }

-- a tree with other names has no more of them
closed_before : (ρ : Renaming) (n : ℕ) (t : Tree) → IsFormed t → IsClosedUnder n (rename ρ t) → IsClosedUnder n t
closed_before ρ n empty f k = tt
closed_before ρ n (more a b) f k = (closed_before ρ n a f.0 k.0, closed_before ρ n b f.1 k.1)
closed_before ρ n (node (label.Leaf x) empty) f k = (tt, tt)
closed_before ρ n (node (label.Leaf x) (more a b)) f k = absurd f.0
closed_before ρ n (node (label.Leaf x) (node l c)) f k = absurd f.0
closed_before ρ n (node (label.Bound s i m) c) f k = (k.0, closed_before ρ (n + binders (label.Bound s i m)) c f.1 k.1)
closed_before ρ n (node (label.Ty x) c) f k = (k.0, closed_before ρ (n + binders (label.Ty x)) c f.1 k.1)
closed_before ρ n (node (label.Const x) c) f k = (k.0, closed_before ρ (n + binders (label.Const x)) c f.1 k.1)
closed_before ρ n (node (label.Clause x) c) f k = (k.0, closed_before ρ (n + binders (label.Clause x)) c f.1 k.1)
closed_before ρ n (node (label.Predicate x) c) f k = (k.0, closed_before ρ (n + binders (label.Predicate x)) c f.1 k.1)
closed_before ρ n (node (label.List x) c) f k = (k.0, closed_before ρ (n + binders (label.List x)) c f.1 k.1)

pub settled_renamed : (ρ : Renaming) (t : Tree) → IsFormed t → HasNoClosedAlias t → HasNoClosedAlias (rename ρ t)
settled_renamed ρ empty f h = tt
settled_renamed ρ (more a b) f h = (settled_renamed ρ a f.0 h.0, settled_renamed ρ b f.1 h.1)
settled_renamed ρ (node (label.Leaf x) c) f h = ((λ k. refl), tt)
settled_renamed ρ (node (label.Bound s i m) c) f h = ((λ k. refl), settled_renamed ρ c f.1 h.1)
settled_renamed ρ (node (label.Ty x) c) f h = ((λ k. h.0 (closed_before ρ 0 (node (label.Ty x) c) f k)), settled_renamed ρ c f.1 h.1)
settled_renamed ρ (node (label.Const x) c) f h = ((λ k. h.0 (closed_before ρ 0 (node (label.Const x) c) f k)), settled_renamed ρ c f.1 h.1)
settled_renamed ρ (node (label.Clause x) c) f h = ((λ k. refl), settled_renamed ρ c f.1 h.1)
settled_renamed ρ (node (label.Predicate x) c) f h = ((λ k. refl), settled_renamed ρ c f.1 h.1)
settled_renamed ρ (node (label.List x) c) f h = ((λ k. refl), settled_renamed ρ c f.1 h.1)

-- where a formed tree has no alias, none of its labels is one
pub none_free : (t : Tree) → IsFormed t → HasNoAlias t → IsAliasFree t
none_free empty f h = tt
none_free (more a b) f h = (none_free a f.0 h.0, none_free b f.1 h.1)
none_free (node (label.Leaf x) c) f h = (h.0, subst IsAliasFree (sym (leaf_alone x c f)) tt)
none_free (node (label.Bound s i n) c) f h = (h.0, subst IsAliasFree (sym (no_children c f.0)) tt)
none_free (node (label.Ty x) c) f h = (h.0, none_free c f.1 h.1)
none_free (node (label.Const x) c) f h = (h.0, none_free c f.1 h.1)
none_free (node (label.Clause x) c) f h = (h.0, none_free c f.1 h.1)
none_free (node (label.Predicate x) c) f h = (h.0, none_free c f.1 h.1)
none_free (node (label.List x) c) f h = (h.0, none_free c f.1 h.1)
