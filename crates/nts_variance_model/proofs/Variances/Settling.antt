-- Normalized trees, and trees related without premises.
use Rattle.std.proofs.Common.{◌≡◌, ◌⊎◌, inl, inr, ⊎_elim, ℕ, ◌+◌, Some, None, refl, sym, ap, ◌∙◌, subst}
use Rattle.nts_model.specs.declared.labels.Variance.{Variance}
use Rattle.nts_model.specs.declared.labels.Variance.TheVariants as variance
use Rattle.nts_model.specs.declared.labels.ListHead.{ListHead}
use Rattle.nts_model.specs.declared.labels.ListHead.TheVariants as list
use Rattle.nts_model.specs.declared.labels.Sort.TheVariants as sort
use Rattle.nts_model.specs.declared.labels.AliasHead.{AliasHead}
use Rattle.nts_model.specs.declared.labels.AliasHead.TheVariants as alias_of
use Rattle.nts_model.specs.declared.labels.Label.{Label}
use Rattle.nts_model.specs.declared.labels.Label.TheVariants as label
use Rattle.nts_model.specs.Terms.Trees.{Tree, empty, more, node, binders, kind_of, of_sort, kind_of_label, IsClosedUnder}
use Rattle.nts_model.specs.Derivations.Related.{times, alias_label, alias, IsAlias, arguments}
use Rattle.nts_model.specs.Derivations.Rules.{Replaced, chosen, kept_empty, kept_more, kept_node}
use Rattle.nts_variance_model.specs.Variances.Judging.{Judging, AllStand, IsSettled, IsValueOf, Normalizes, IsLawfulJudging}
use Rattle.nts_model.proofs.Tables.Fitting.{IsClosed-under}
use Rattle.nts_model.proofs.Tables.AliasLabels.{row_no_alias, empty_no_alias}

-- an alias in a settled tree stands for itself
pub stands_alias : (S : Tree → Type 0) (a : Tree) → AllStand S a → IsAlias a → S a
stands_alias S empty s x = absurd (empty_no_alias x)
stands_alias S (more a b) s x = absurd (row_no_alias a b x)
stands_alias S (node l c) s x = s.0 x

-- normalized trees are closed below the same binders
pub replaced_closed : (C : Tree → Tree → Type 0) (a b : Tree) → Replaced C a b → (c : ℕ) → (IsClosedUnder c a → IsClosedUnder c b) × (IsClosedUnder c b → IsClosedUnder c a)
replaced_closed C a b (chosen is closed x) c = ((λ h. IsClosed-under c b closed), (λ h. IsClosed-under c a is.closed))
replaced_closed C a b kept_empty c = ((λ h. h), (λ h. h))
replaced_closed C a b (kept_more {a = x} {b = y} {s = s} {t = t} p q) c =
    let f = replaced_closed C x y p c in
    let g = replaced_closed C s t q c in
    ((λ h. (f.0 h.0, g.0 h.1)), (λ h. (f.1 h.0, g.1 h.1)))
replaced_closed C a b (kept_node {l = l} {c = x} {d = y} none p) c =
    let f = replaced_closed C x y p (c + binders l) in
    ((λ h. (h.0, f.0 h.1)), (λ h. (h.0, f.1 h.1)))

module _ (J : Judging) (law : IsLawfulJudging J) where
  -- the value of an alias that stands for itself is itself
  pub value_alone : (a v : Tree) → J.stands a → IsValueOf J a v → v ≡ a
  value_alone a v s x = ⊎_elim (λ e. e) (λ n. law.alone a v s n) x.1

  pub value_kind : (a v : Tree) → IsValueOf J a v → kind_of v ≡ kind_of a
  value_kind a v x = ⊎_elim (λ e. ap kind_of e) (λ n. law.kind a v n) x.1

  -- a settled tree normalizes to itself alone
  pub normalizes_itself : (t u : Tree) → IsSettled J t → Normalizes J t u → u ≡ t
  normalizes_itself t u s (chosen is closed x) = value_alone t u (stands_alias J.stands t s is) x
  normalizes_itself t u s kept_empty = refl
  normalizes_itself t u s (kept_more {a = a} {b = b} {s = x} {t = y} p q) =
      let f : b ≡ a = normalizes_itself a b s.0 p in
      let g : y ≡ x = normalizes_itself x y s.1 q in
      cc (f, g)
  normalizes_itself t u s (kept_node {l = l} {c = c} {d = d} none p) = ap (node l) (normalizes_itself c d s.1 p)

  -- rows and lists come from rows and lists
  alias_sort : (a : Tree) (l : Label) → IsAlias a → kind_of a ≡ Some (kind_of_label l) → kind_of_label l ≡ of_sort sort.Ty ⊎ kind_of_label l ≡ of_sort sort.Const
  alias_sort a l x e = by_head x.head (sym e ∙ ap kind_of x.is)
    where
      by_head : (h : AliasHead) → Some (kind_of_label l) ≡ kind_of (alias h x.parts) → kind_of_label l ≡ of_sort sort.Ty ⊎ kind_of_label l ≡ of_sort sort.Const
      by_head (alias_of.Ty i) q = inl (let same : kind_of_label l ≡ of_sort sort.Ty = cc in same)
      by_head (alias_of.Const i) q = inr (let same : kind_of_label l ≡ of_sort sort.Const = cc in same)

  no_list_alias : (a : Tree) (h : ListHead) → IsAlias a → kind_of a ≡ Some (kind_of_label (label.List h)) → ⊥
  no_list_alias a list.Args x e = ⊎_elim (λ q. cc) (λ q. cc) (alias_sort a (label.List list.Args) x e)
  no_list_alias a list.Env x e = ⊎_elim (λ q. cc) (λ q. cc) (alias_sort a (label.List list.Env) x e)
  no_list_alias a list.Sorts x e = ⊎_elim (λ q. cc) (λ q. cc) (alias_sort a (label.List list.Sorts) x e)
  no_list_alias a (list.Sort s) x e = ⊎_elim (λ q. cc) (λ q. cc) (alias_sort a (label.List (list.Sort s)) x e)
  no_list_alias a list.Binder x e = ⊎_elim (λ q. cc) (λ q. cc) (alias_sort a (label.List list.Binder) x e)

  no_kind_alias : (a : Tree) → IsAlias a → kind_of a ≡ None → ⊥
  no_kind_alias a x e = by_head x.head (sym e ∙ ap kind_of x.is)
    where
      by_head : (h : AliasHead) → None ≡ kind_of (alias h x.parts) → ⊥
      by_head (alias_of.Ty i) q = cc
      by_head (alias_of.Const i) q = cc

  pub record ListBack (h : ListHead) (c d : Tree) : Type 0 where
    pub parts : Tree
    pub is : c ≡ node (label.List h) parts
    pub normalizes : Normalizes J parts d

  list_back_at : (h : ListHead) (c e d : Tree) → Normalizes J c e → e ≡ node (label.List h) d → ListBack h c d
  list_back_at h c e d (chosen is closed x) q = absurd (no_list_alias c h is (sym (value_kind c e x) ∙ ap kind_of q))
  list_back_at h c e d kept_empty q = cc
  list_back_at h c e d (kept_more p r) q = cc
  list_back_at h c e d (kept_node {l = l} {c = x} {d = y} none p) q =
      let same : l ≡ label.List h = cc in
      let inner : y ≡ d = cc in
      record { parts = x; is = ap (λ z. node z x) same; normalizes = subst (λ z. Normalizes J x z) inner p }

  pub list_back : (h : ListHead) (c d : Tree) → Normalizes J c (node (label.List h) d) → ListBack h c d
  list_back h c d p = list_back_at h c (node (label.List h) d) d p refl

  pub empty_back_at : (c e : Tree) → Normalizes J c e → e ≡ empty → c ≡ empty
  empty_back_at c e (chosen is closed x) q = absurd (no_kind_alias c is (sym (value_kind c e x) ∙ ap kind_of q))
  empty_back_at c e kept_empty q = refl
  empty_back_at c e (kept_more p r) q = cc
  empty_back_at c e (kept_node none p) q = cc

  pub record MoreBack (c a b : Tree) : Type 0 where
    pub first : Tree
    pub rest : Tree
    pub is : c ≡ more first rest
    pub of_first : Normalizes J first a
    pub of_rest : Normalizes J rest b

  pub more_back_at : (c e a b : Tree) → Normalizes J c e → e ≡ more a b → MoreBack c a b
  more_back_at c e a b (chosen is closed x) q = absurd (no_kind_alias c is (sym (value_kind c e x) ∙ ap kind_of q))
  more_back_at c e a b kept_empty q = cc
  more_back_at c e a b (kept_more {a = x} {b = y} {s = s} {t = t} p r) q =
      let f : y ≡ a = cc in
      let g : t ≡ b = cc in
      record { first = x; rest = s; is = refl; of_first = subst (λ z. Normalizes J x z) f p; of_rest = subst (λ z. Normalizes J s z) g r }
  more_back_at c e a b (kept_node none p) q = cc

  pub record ArgumentsBack (c d : Tree) : Type 0 where
    pub parts : Tree
    pub is : c ≡ arguments parts
    pub normalizes : Normalizes J parts d

  pub arguments_back : (c d : Tree) → Normalizes J c (arguments d) → ArgumentsBack c d
  arguments_back c d p =
      let m = more_back_at c (arguments d) (node (label.List list.Args) d) empty p refl in
      let l = list_back list.Args m.first d m.of_first in
      let e = empty_back_at m.rest empty m.of_rest refl in
      record { parts = l.parts; is = (let i = m.is in let j = l.is in cc); normalizes = l.normalizes }

  -- an alias comes from an alias
  alias_back : (l : Label) (c d : Tree) → Normalizes J c d → IsAlias (node l d) → IsAlias (node l c)
  alias_back l c d p i =
      let h = i.is in
      let same : l ≡ alias_label i.head = cc in
      let inner : d ≡ arguments i.parts = cc in
      let back = arguments_back c i.parts (subst (λ z. Normalizes J c z) inner p) in
      let below = replaced_closed (IsValueOf J) c d p (0 + binders l) in
      let j = back.is in
      let k = i.closed in
      record { head = i.head; parts = back.parts; is = cc; closed = (k.0, below.1 k.1) }

  -- what a tree normalizes to is settled
  pub normalized_settled : (t u : Tree) → Normalizes J t u → IsSettled J u
  normalized_settled t u (chosen is closed x) = x.0
  normalized_settled t u kept_empty = tt
  normalized_settled t u (kept_more {a = a} {b = b} {s = x} {t = y} p q) = (normalized_settled a b p, normalized_settled x y q)
  normalized_settled t u (kept_node {l = l} {c = c} {d = d} none p) = ((λ i. absurd (none (alias_back l c d p i))), normalized_settled c d p)

  -- kinds
  pub normalizes_kind : (t u : Tree) → Normalizes J t u → kind_of u ≡ kind_of t
  normalizes_kind t u (chosen is closed x) = value_kind t u x
  normalizes_kind t u kept_empty = refl
  normalizes_kind t u (kept_more p q) = refl
  normalizes_kind t u (kept_node none p) = refl
