-- Other labels at leaves and bound variables: what binders list stays listed, and what is known stays known.
use Rattle.std.proofs.Common.{◌≡◌, ℕ, zero, suc, ◌+◌, ◌-◌, ◌<◌, ◌≤◌, nat_lt, Bool, true, false, if◌then◌else◌, List, [], ◌∷◌, length, Option, Some, None, refl, sym, ap, subst, ◌∙◌, arith}
use Rattle.nts_model.specs.declared.labels.Sort.{Sort}
use Rattle.nts_model.specs.declared.labels.Sort.TheVariants as sort
use Rattle.nts_model.specs.declared.labels.VariableKind.{VariableKind}
use Rattle.nts_model.specs.declared.labels.BoundVarIndexKind.TheVariants as index
use Rattle.nts_model.specs.declared.labels.ListHead.{ListHead}
use Rattle.nts_model.specs.declared.labels.ListHead.TheVariants as list
use Rattle.nts_model.specs.declared.labels.Label.{Label}
use Rattle.nts_model.specs.declared.labels.Label.TheVariants as label
use Rattle.nts_model.specs.Terms.Trees.{Tree, empty, more, node, label_of, binders, variable_of}
use Rattle.nts_model.specs.Terms.Scoping.{listed_by, listed_in, sorts_of, HasSortAt, IsListed, AllListed, ListsBound}
use Rattle.nts_model.specs.Terms.Placeholders.{CanName, leaf_level}
use Rattle.nts_model.specs.Tables.Contents.{Content, kind_at}
use Rattle.nts_model.specs.Tables.Resolving.{Knows, KnowsLabel, KnowsVariable}
use Rattle.nts_placeholder.specs.declared.maps.Placeholder.{Placeholder}
use Rattle.nts_placeholder.specs.declared.maps.BoundVar.{BoundVar}
use Rattle.nts_placeholder.specs.Closing.{placeholder_of, entry_of, closed_at, closed_placeholder, closed_label, closed_by}
use Rattle.nts_placeholder.specs.Opening.{placeholder_label, universe_at, opened_label, opened_by}
use Rattle.nts_placeholder.specs.Knowing.{NamesListed, OpeningKeepsKnown, ClosingKeepsKnown}
use Rattle.nts_placeholder.proofs.ClosingLemmas.{entry_low}
use Rattle.nts_placeholder.proofs.Inverting.{binders_opened}

abbrev relabelled : (ℕ → Label → Label) → ℕ → Tree → Tree
relabelled f c empty = empty
relabelled f c (more a b) = more (relabelled f c a) (relabelled f c b)
relabelled f c (node l t) = node (f c l) (relabelled f (c + binders l) t)

-- lists stay, binders stay, and what a binder inside lists stays listed
record AreKept (f : ℕ → Label → Label) : Type 0 where
  pub lists : (c : ℕ) (h : ListHead) → f c (label.List h) ≡ label.List h
  pub binds : (c : ℕ) (l : Label) → binders (f c l) ≡ binders l
  pub listed : (ss ts : Tree) → ((n : ℕ) (s : Sort) → HasSortAt ss n s → HasSortAt ts n s) → (c d : ℕ) (l : Label) → d < c → IsListed ss d l → IsListed ts d (f c l)

module _ (f : ℕ → Label → Label) (kept : AreKept f) where
  label_again : (c : ℕ) (t : Tree) (h : ListHead) → label_of t ≡ Some (label.List h) → label_of (relabelled f c t) ≡ Some (label.List h)
  label_again c empty h e = cc
  label_again c (more a b) h e = cc
  label_again c (node l t) h e = let same : l ≡ label.List h = cc in ap (λ k. Some (f c k)) same ∙ ap Some (kept.lists c h)

  sort_again : (c : ℕ) (ss : Tree) (n : ℕ) (s : Sort) → HasSortAt ss n s → HasSortAt (relabelled f c ss) n s
  sort_again c empty n s h = h
  sort_again c (more a b) zero s h = label_again c a (list.Sort s) h
  sort_again c (more a b) (suc n) s h = sort_again c b n s h
  sort_again c (node l t) n s h = h

  listed_again : (c : ℕ) (t : Tree) (n : ℕ) (s : Sort) → HasSortAt (listed_in t) n s → HasSortAt (listed_in (relabelled f c t)) n s
  listed_again c empty n s h = h
  listed_again c (more a b) n s h = h
  listed_again c (node (label.List list.Sorts) t) n s h =
      subst (λ (l : Label). HasSortAt (listed_by l (relabelled f (c + 0) t)) n s) (sym (kept.lists c list.Sorts)) (sort_again (c + 0) t n s h)
  listed_again c (node (label.List list.Args) t) n s h = cc
  listed_again c (node (label.List list.Env) t) n s h = cc
  listed_again c (node (label.List (list.Sort r)) t) n s h = cc
  listed_again c (node (label.List list.Binder) t) n s h = cc
  listed_again c (node (label.Leaf x) t) n s h = cc
  listed_again c (node (label.Bound r i k) t) n s h = cc
  listed_again c (node (label.Ty x) t) n s h = cc
  listed_again c (node (label.Const x) t) n s h = cc
  listed_again c (node (label.Clause x) t) n s h = cc
  listed_again c (node (label.Predicate x) t) n s h = cc

  sorts_again : (c : ℕ) (t : Tree) (n : ℕ) (s : Sort) → HasSortAt (sorts_of t) n s → HasSortAt (sorts_of (relabelled f c t)) n s
  sorts_again c empty n s h = h
  sorts_again c (more a b) n s h = listed_again c a n s h
  sorts_again c (node l t) n s h = h

  all_again : (ss ts : Tree) → ((n : ℕ) (s : Sort) → HasSortAt ss n s → HasSortAt ts n s) → (c d : ℕ) (t : Tree) → d < c → AllListed ss d t → AllListed ts d (relabelled f c t)
  all_again ss ts k c d empty l h = tt
  all_again ss ts k c d (more a b) l h = (all_again ss ts k c d a l h.0, all_again ss ts k c d b l h.1)
  all_again ss ts k c d (node m t) l h =
      let deeper : d + binders m < c + binders m = omega (arith, l) in
      let rest = all_again ss ts k (c + binders m) (d + binders m) t deeper h.1 in
      (kept.listed ss ts k c d m l h.0, subst (λ (n : ℕ). AllListed ts (d + n) (relabelled f (c + binders m) t)) (sym (kept.binds c m)) rest)

  binds_again : (k c : ℕ) (t : Tree) → k ≤ c → ListsBound k t → ListsBound k (relabelled f c t)
  binds_again zero c t l h = tt
  binds_again (suc k) c t l h = all_again (sorts_of t) (sorts_of (relabelled f c t)) (sorts_again c t) c 0 t (omega (arith, l)) h

  knows_again : (c d : Content) → ((e : ℕ) (l : Label) → KnowsLabel c l → KnowsLabel d (f e l)) → (e : ℕ) (t : Tree) → Knows c t → Knows d (relabelled f e t)
  knows_again c d k e empty h = tt
  knows_again c d k e (more a b) h = (knows_again c d k e a h.0, knows_again c d k e b h.1)
  knows_again c d k e (node l t) h =
      let b = binds_again (binders l) (e + binders l) t (omega arith) h.2 in
      (k e l h.0, knows_again c d k (e + binders l) t h.1, subst (λ (n : ℕ). ListsBound n (relabelled f (e + binders l) t)) (sym (kept.binds e l)) b)

-- opening

opened_is : (U : List (Option ℕ)) (c : ℕ) (t : Tree) → opened_by U c t ≡ relabelled (opened_label U) c t
opened_is U c empty = refl
opened_is U c (more a b) = ap (λ x. more x (opened_by U c b)) (opened_is U c a) ∙ ap (more (relabelled (opened_label U) c a)) (opened_is U c b)
opened_is U c (node l t) = ap (node (opened_label U c l)) (opened_is U (c + binders l) t)

free_listed : (ts : Tree) (d : ℕ) (s : Sort) (p : Placeholder) → IsListed ts d (placeholder_label s p)
free_listed ts d sort.Ty p = tt
free_listed ts d sort.Region p = tt
free_listed ts d sort.Const p = tt

open_listed : (U : List (Option ℕ)) (ss ts : Tree) → ((n : ℕ) (s : Sort) → HasSortAt ss n s → HasSortAt ts n s) → (c d : ℕ) (l : Label) → d < c → IsListed ss d l → IsListed ts d (opened_label U c l)
open_listed U ss ts k c d (label.Bound s (index.Bound e) n) low h = by_case (nat_lt e c)
  where
    by_case : (b : Bool) → IsListed ts d (if b then label.Bound s (index.Bound e) n else placeholder_label s (record { universe = universe_at U (length U + c - e - 1); var = n }))
    by_case true = λ q. k n s (h q)
    by_case false = free_listed ts d s (record { universe = universe_at U (length U + c - e - 1); var = n })
open_listed U ss ts k c d (label.Bound s index.Canonical n) low h = tt
open_listed U ss ts k c d (label.Leaf x) low h = tt
open_listed U ss ts k c d (label.Ty x) low h = tt
open_listed U ss ts k c d (label.Const x) low h = tt
open_listed U ss ts k c d (label.Clause x) low h = tt
open_listed U ss ts k c d (label.Predicate x) low h = tt
open_listed U ss ts k c d (label.List x) low h = tt

opening_keeps : (U : List (Option ℕ)) → AreKept (opened_label U)
opening_keeps U = record { lists = λ c h. refl; binds = binders_opened U (λ s p. None); listed = open_listed U }

universe_low : (u : ℕ) (U : List (Option ℕ)) (e : ℕ) → NamesListed u U → universe_at U e ≤ u
universe_low u [] e h = omega arith
universe_low u (None ∷ U) zero h = omega arith
universe_low u (Some v ∷ U) zero h = h.0
universe_low u (None ∷ U) (suc e) h = universe_low u U e h
universe_low u (Some v ∷ U) (suc e) h = universe_low u U e h.1

variable_later : (c d : Content) → ((n : ℕ) → kind_at d n ≡ kind_at c n) → (o : Option (VariableKind × ℕ)) → KnowsVariable c o → KnowsVariable d o
variable_later c d k None h = tt
variable_later c d k (Some v) h = k v.1 ∙ h

name_later : (u v : ℕ) → u ≤ v → (o : Option ℕ) → CanName u o → CanName v o
name_later u v l None h = tt
name_later u v l (Some n) h = omega (arith, l, h)

label_later : (c d : Content) → ((n : ℕ) → kind_at d n ≡ kind_at c n) → c.universe ≤ d.universe → (l : Label) → KnowsLabel c l → KnowsLabel d l
label_later c d k u l h = (variable_later c d k (variable_of l) h.0, name_later c.universe d.universe u (leaf_level l) h.1, h.2)

free_known : (c : Content) (s : Sort) (p : Placeholder) → p.universe ≤ c.universe → KnowsLabel c (placeholder_label s p)
free_known c sort.Ty p h = (tt, h, refl)
free_known c sort.Region p h = (tt, h, refl)
free_known c sort.Const p h = (tt, h, refl)

open_known : (c d : Content) (U : List (Option ℕ)) → ((n : ℕ) → kind_at d n ≡ kind_at c n) → c.universe ≤ d.universe → NamesListed d.universe U → (e : ℕ) (l : Label) → KnowsLabel c l → KnowsLabel d (opened_label U e l)
open_known c d U k u w e (label.Bound s (index.Bound m) n) h = by_case (nat_lt m e)
  where
    by_case : (b : Bool) → KnowsLabel d (if b then label.Bound s (index.Bound m) n else placeholder_label s (record { universe = universe_at U (length U + e - m - 1); var = n }))
    by_case true = (tt, tt, refl)
    by_case false = free_known d s (record { universe = universe_at U (length U + e - m - 1); var = n }) (universe_low d.universe U (length U + e - m - 1) w)
open_known c d U k u w e (label.Bound s index.Canonical n) h = label_later c d k u (label.Bound s index.Canonical n) h
open_known c d U k u w e (label.Leaf x) h = label_later c d k u (label.Leaf x) h
open_known c d U k u w e (label.Ty x) h = label_later c d k u (label.Ty x) h
open_known c d U k u w e (label.Const x) h = label_later c d k u (label.Const x) h
open_known c d U k u w e (label.Clause x) h = label_later c d k u (label.Clause x) h
open_known c d U k u w e (label.Predicate x) h = label_later c d k u (label.Predicate x) h
open_known c d U k u w e (label.List x) h = label_later c d k u (label.List x) h

pub opening_keeps_known : OpeningKeepsKnown
opening_keeps_known = λ c d U t k u w h.
    subst (Knows d) (sym (opened_is U 0 t)) (knows_again (opened_label U) (opening_keeps U) c d (open_known c d U k u w) 0 t h)

-- closing

module _ (M : Sort → Placeholder → Option BoundVar) (U : List (Option ℕ)) where
  closed_is : (c : ℕ) (t : Tree) → closed_by M U c t ≡ relabelled (closed_label M U) c t
  closed_is c empty = refl
  closed_is c (more a b) = ap (λ x. more x (closed_by M U c b)) (closed_is c a) ∙ ap (more (relabelled (closed_label M U) c a)) (closed_is c b)
  closed_is c (node l t) = ap (node (closed_label M U c l)) (closed_is (c + binders l) t)

  -- a label closes to itself, or to a bound variable of a binder outside
  data Closes (c : ℕ) (l : Label) : Label → Type 0 where
    stays : Closes c l l
    turns : (s : Sort) (e n : ℕ) → c ≤ e → binders l ≡ 0 → Closes c l (label.Bound s (index.Bound e) n)

  binders_none : (l : Label) (p : Sort × Placeholder) → placeholder_of l ≡ Some p → binders l ≡ 0
  binders_none (label.Leaf x) p e = refl
  binders_none (label.Bound r i n) p e = refl
  binders_none (label.Ty h) p e = cc
  binders_none (label.Const h) p e = refl
  binders_none (label.Clause h) p e = refl
  binders_none (label.Predicate h) p e = refl
  binders_none (label.List h) p e = cc

  closes : (c : ℕ) (l : Label) → Closes c l (closed_label M U c l)
  closes c l = by_case (placeholder_of l) refl
    where
      at : (p : Sort × Placeholder) → placeholder_of l ≡ Some p → (m : Option BoundVar) (o : Option ℕ) → entry_of U p.1.universe ≡ o → Closes c l (closed_at U c p.0 l m o)
      at p e (Some b) (Some n) q = turns p.0 (length U - n + c - 1) b.var (omega (arith, entry_low U p.1.universe n q)) (binders_none l p e)
      at p e (Some b) None q = stays
      at p e None o q = stays

      by_case : (o : Option (Sort × Placeholder)) → placeholder_of l ≡ o → Closes c l (closed_placeholder M U c l o)
      by_case None e = stays
      by_case (Some p) e = at p e (M p.0 p.1) (entry_of U p.1.universe) refl

  same_binders : (c : ℕ) (l k : Label) → Closes c l k → binders k ≡ binders l
  same_binders c l k stays = refl
  same_binders c l k (turns s e n w b) = sym b

  list_listed : (ss ts : Tree) → ((n : ℕ) (s : Sort) → HasSortAt ss n s → HasSortAt ts n s) → (d : ℕ) (l : Label) → IsListed ss d l → IsListed ts d l
  list_listed ss ts k d (label.Bound s (index.Bound e) n) h = λ q. k n s (h q)
  list_listed ss ts k d (label.Bound s index.Canonical n) h = tt
  list_listed ss ts k d (label.Leaf x) h = tt
  list_listed ss ts k d (label.Ty x) h = tt
  list_listed ss ts k d (label.Const x) h = tt
  list_listed ss ts k d (label.Clause x) h = tt
  list_listed ss ts k d (label.Predicate x) h = tt
  list_listed ss ts k d (label.List x) h = tt

  close_listed : (ss ts : Tree) → ((n : ℕ) (s : Sort) → HasSortAt ss n s → HasSortAt ts n s) → (c d : ℕ) (l k : Label) → d < c → IsListed ss d l → Closes c l k → IsListed ts d k
  close_listed ss ts f c d l k low h stays = list_listed ss ts f d l h
  close_listed ss ts f c d l k low h (turns s e n w b) = λ q. absurd (omega (arith, low, w, q))

  closing_keeps : AreKept (closed_label M U)
  closing_keeps =
      record {
        lists = λ c h. refl;
        binds = λ c l. same_binders c l (closed_label M U c l) (closes c l);
        listed = λ ss ts f c d l low h. close_listed ss ts f c d l (closed_label M U c l) low h (closes c l);
      }

  close_known : (x : Content) (c : ℕ) (l k : Label) → KnowsLabel x l → Closes c l k → KnowsLabel x k
  close_known x c l k h stays = h
  close_known x c l k h (turns s e n w b) = (tt, tt, refl)

pub closing_keeps_known : ClosingKeepsKnown
closing_keeps_known = λ c M U t h.
    subst (Knows c) (sym (closed_is M U 0 t)) (knows_again (closed_label M U) (closing_keeps M U) c c (λ e l k. close_known M U c e l (closed_label M U e l) k (closes M U e l)) 0 t h)
