-- Trees that are alike, node by node.
use Rattle.std.proofs.Common.{◌≡◌, ◌⊎◌, inl, inr, ⊎_elim, ℕ, ◌+◌, Bool, true, false, [], ◌∷◌, Some, refl, sym, ap, ◌∙◌, subst}
use Rattle.nts_model.specs.declared.labels.Sort.{Sort}
use Rattle.nts_model.specs.declared.labels.TyHead.TheVariants as ty
use Rattle.nts_model.specs.declared.labels.ConstHead.TheVariants as konst
use Rattle.nts_model.specs.declared.labels.ListHead.TheVariants as list
use Rattle.nts_model.specs.declared.labels.AliasHead.{AliasHead}
use Rattle.nts_model.specs.declared.labels.AliasHead.TheVariants as alias_of
use Rattle.nts_model.specs.declared.labels.Label.{Label}
use Rattle.nts_model.specs.declared.labels.Label.TheVariants as label
use Rattle.nts_model.specs.Terms.Trees.{Tree, empty, more, node, kind_of, arguments, sort_list, one_sort, binders, IsClosedUnder, is_alias, is, any_argument, HavePlaces, AllFit}
use Rattle.nts_model.specs.Terms.Regions.{RegionName, name_of_label, IsRegion}
use Rattle.nts_model.specs.Tables.Alike.{Alike, one_tree, two_regions, one_label, two_rows}
use Rattle.nts_model.specs.Derivations.Related.{alias_label, IsAlias}
use Rattle.nts_model.specs.Derivations.Related.{arguments as arguments_of}
use Rattle.nts_model.proofs.Terms.Substituting.{region_alone, no_children}
use Rattle.nts_model.proofs.Terms.Closed.{closed_or_not}
use Rattle.nts_model.proofs.Terms.Unpositioned.{IsFormedTerm}

-- the arguments of a node
pub record HasArguments (c : Tree) : Type 0 where
  pub parts : Tree
  pub is : c ≡ arguments_of parts
  pub fit : AllFit any_argument parts
  pub formed : IsFormedTerm parts

arguments_node : (a : Tree) → kind_of a ≡ Some arguments → (ts : Tree) × (a ≡ node (label.List list.Args) ts)
arguments_node (node (label.List list.Args) ts) e = (ts, refl)
arguments_node a e = absurd (cc e)

pub arguments_in : (c : Tree) → HavePlaces (is arguments ∷ []) c → IsFormedTerm c → HasArguments c
arguments_in empty h f = absurd h
arguments_in (node l t) h f = absurd h
arguments_in (more a r) h f =
    let (ts, same) = arguments_node a h.0 in
    let parts : IsFormedTerm (node (label.List list.Args) ts) = subst IsFormedTerm same f.0 in
    let alone : r ≡ empty = no_children r h.1 in
    record { parts = ts; is = cc (same, alone); fit = parts.0; formed = parts.1 }

-- whether a node is an alias
alias_of_label : (l : Label) → is_alias l ≡ true → (h : AliasHead) × (l ≡ alias_label h)
alias_of_label (label.Ty (ty.Alias i)) e = (alias_of.Ty i, refl)
alias_of_label (label.Const (konst.Unevaluated i)) e = (alias_of.Const i, refl)
alias_of_label l e = absurd (cc e)

pub alias_label_is : (h : AliasHead) → is_alias (alias_label h) ≡ true
alias_label_is (alias_of.Ty i) = refl
alias_label_is (alias_of.Const i) = refl

pub alias_places : (h : AliasHead) (c : Tree) → IsFormedTerm (node (alias_label h) c) → HavePlaces (is arguments ∷ []) c × IsFormedTerm c
alias_places (alias_of.Ty i) c f = (f.0, f.1)
alias_places (alias_of.Const i) c f = (f.0, f.1)

pub label_same : (l m : Label) (c d : Tree) → node l c ≡ node m d → l ≡ m
label_same l m c d e = cc e

-- a closed node with such a label is one
pub closed_alias : (l : Label) (c : Tree) → IsFormedTerm (node l c) → is_alias l ≡ true → IsClosedUnder 0 (node l c) → IsAlias (node l c)
closed_alias l c f e k =
    let (h, same) = alias_of_label l e in
    let places = alias_places h c (subst (λ x. IsFormedTerm (node x c)) same f) in
    let args = arguments_in c places.0 places.1 in
    record { head = h; parts = args.parts; is = cc (same, args.is); closed = k }

pub alias_or_not : (l : Label) (c : Tree) → IsFormedTerm (node l c) → IsAlias (node l c) ⊎ (IsAlias (node l c) → ⊥)
alias_or_not l c f = by_case (is_alias l) refl
  where
    by_case : (z : Bool) → is_alias l ≡ z → IsAlias (node l c) ⊎ (IsAlias (node l c) → ⊥)
    by_case false e = inr (λ x. let same : is_alias l ≡ true = ap is_alias (label_same l (alias_label x.head) c (arguments_of x.parts) x.is) ∙ alias_label_is x.head in let z : true ≡ false = sym same ∙ e in cc z)
    by_case true e =
        let (h, same) = alias_of_label l e in
        let places = alias_places h c (subst (λ x. IsFormedTerm (node x c)) same f) in
        let args = arguments_in c places.0 places.1 in
        ⊎_elim (λ k. inl (record { head = h; parts = args.parts; is = cc (same, args.is); closed = k }))
        (λ n. inr (λ x. n x.closed)) (closed_or_not 0 (node l c))

-- what is alike with a tree of some form
pub data IsNodeLike (R : Tree → Tree → Type 0) (l : Label) (c t : Tree) : Type 0 where
  that_node : t ≡ node l c → IsNodeLike R l c t
  that_region : IsRegion (node l c) → IsRegion t → R (node l c) t → IsNodeLike R l c t
  that_label : (d : Tree) → t ≡ node l d → Alike R c d → IsNodeLike R l c t

pub node_like : (R : Tree → Tree → Type 0) (l : Label) (c t : Tree) → Alike R (node l c) t → IsNodeLike R l c t
node_like R l c t a = go (node l c) t a refl
  where
    go : (s t : Tree) → Alike R s t → s ≡ node l c → IsNodeLike R l c t
    go s t one_tree e = that_node e
    go s t (two_regions i j r) e = that_region (subst IsRegion e i) j (subst (λ x. R x t) e r)
    go _ _ (one_label {l = m} {c = x} {d = d} n al) e =
        let same : m ≡ l = cc e in
        let under : x ≡ c = cc e in
        that_label d (rw same refl) (subst (λ y. Alike R y d) under al)
    go _ _ (two_rows al bl) e = absurd (cc e)

pub data IsRowLike (R : Tree → Tree → Type 0) (a s t : Tree) : Type 0 where
  that_row : t ≡ more a s → IsRowLike R a s t
  that_first : (b u : Tree) → t ≡ more b u → Alike R a b → Alike R s u → IsRowLike R a s t

no_region_row : (a s : Tree) → IsRegion (more a s) → ⊥
no_region_row a s (x, e) = cc e

pub row_like : (R : Tree → Tree → Type 0) (a s t : Tree) → Alike R (more a s) t → IsRowLike R a s t
row_like R a s t al = go (more a s) t al refl
  where
    go : (r t : Tree) → Alike R r t → r ≡ more a s → IsRowLike R a s t
    go r t one_tree e = that_row e
    go r t (two_regions i j x) e = absurd (no_region_row a s (subst IsRegion e i))
    go _ _ (one_label n al) e = absurd (cc e)
    go _ _ (two_rows {a = x} {b = y} {c = b} {d = u} al bl) e =
        let first : x ≡ a = cc e in
        let rest : y ≡ s = cc e in
        that_first b u refl (subst (λ z. Alike R z b) first al) (subst (λ z. Alike R z u) rest bl)

pub empty_like : (R : Tree → Tree → Type 0) (t : Tree) → Alike R empty t → t ≡ empty
empty_like R t al = go empty t al refl
  where
    no_region : IsRegion empty → ⊥
    no_region (x, e) = cc e

    go : (s t : Tree) → Alike R s t → s ≡ empty → t ≡ empty
    go s t one_tree e = e
    go s t (two_regions i j x) e = absurd (no_region (subst IsRegion e i))
    go _ _ (one_label n al) e = absurd (cc e)
    go _ _ (two_rows al bl) e = absurd (cc e)

no_region_list : (h : _) (c : Tree) → IsRegion (node (label.List h) c) → ⊥
no_region_list h c (x, e) = let n = (region_alone (label.List h) c x e).0 in cc n

pub arguments_like : (R : Tree → Tree → Type 0) (ts d : Tree) → Alike R (arguments_of ts) d → (us : Tree) × (d ≡ arguments_of us) × Alike R ts us
arguments_like R ts d al = by_row (row_like R (node (label.List list.Args) ts) empty d al)
  where
    by_node : (b u : Tree) → d ≡ more b u → u ≡ empty → IsNodeLike R (label.List list.Args) ts b → (us : Tree) × (d ≡ arguments_of us) × Alike R ts us
    by_node b u e f (that_node x) = (ts, rw (e, f, x) refl, one_tree)
    by_node b u e f (that_region i j r) = absurd (no_region_list list.Args ts i)
    by_node b u e f (that_label us x al) = (us, rw (e, f, x) refl, al)

    by_row : IsRowLike R (node (label.List list.Args) ts) empty d → (us : Tree) × (d ≡ arguments_of us) × Alike R ts us
    by_row (that_row e) = (ts, e, one_tree)
    by_row (that_first b u e al bl) = by_node b u e (empty_like R u bl) (node_like R (label.List list.Args) ts b al)

-- sorts have no regions
sort_node : (a : Tree) → kind_of a ≡ Some one_sort → (s : Sort) × (c : Tree) × (a ≡ node (label.List (list.Sort s)) c)
sort_node (node (label.List (list.Sort s)) c) e = (s, c, refl)
sort_node a e = absurd (cc e)

sort_like : (R : Tree → Tree → Type 0) (a b : Tree) → kind_of a ≡ Some one_sort → IsFormedTerm a → Alike R a b → b ≡ a
sort_like R a b e f al =
    let (s, c, same) = sort_node a e in
    let none : c ≡ empty = no_children c (subst IsFormedTerm same f).0 in
    by_node s c same none (node_like R (label.List (list.Sort s)) c b (subst (λ x. Alike R x b) same al))
  where
    by_node : (s : Sort) (c : Tree) → a ≡ node (label.List (list.Sort s)) c → c ≡ empty → IsNodeLike R (label.List (list.Sort s)) c b → b ≡ a
    by_node s c same none (that_node x) = x ∙ sym same
    by_node s c same none (that_region i j r) = absurd (no_region_list (list.Sort s) c i)
    by_node s c same none (that_label d x al) = x ∙ ap (node (label.List (list.Sort s))) (empty_like R d (subst (λ y. Alike R y d) none al) ∙ sym none) ∙ sym same

sorts_like : (R : Tree → Tree → Type 0) (ss us : Tree) → AllFit (is one_sort) ss → IsFormedTerm ss → Alike R ss us → us ≡ ss
sorts_like R empty us h f al = empty_like R us al
sorts_like R (node l c) us h f al = absurd h
sorts_like R (more a s) us h f al = by_row (λ u. sorts_like R s u h.1 f.1) (row_like R a s us al)
  where
    by_row : ((u : Tree) → Alike R s u → u ≡ s) → IsRowLike R a s us → us ≡ more a s
    by_row rest (that_row e) = e
    by_row rest (that_first b u e x y) = rw (e, sort_like R a b h.0 f.0 x, rest u y) refl

sorts_node : (a : Tree) → kind_of a ≡ Some sort_list → (ss : Tree) × (a ≡ node (label.List list.Sorts) ss)
sorts_node (node (label.List list.Sorts) ss) e = (ss, refl)
sorts_node a e = absurd (cc e)

pub sort_list_like : (R : Tree → Tree → Type 0) (a b : Tree) → kind_of a ≡ Some sort_list → IsFormedTerm a → Alike R a b → (ss : Tree) × (a ≡ node (label.List list.Sorts) ss) × (b ≡ node (label.List list.Sorts) ss)
sort_list_like R a b e f al =
    let (ss, same) = sorts_node a e in
    let g : IsFormedTerm (node (label.List list.Sorts) ss) = subst IsFormedTerm same f in
    (ss, same, by_node ss g (node_like R (label.List list.Sorts) ss b (subst (λ x. Alike R x b) same al)))
  where
    by_node : (ss : Tree) → IsFormedTerm (node (label.List list.Sorts) ss) → IsNodeLike R (label.List list.Sorts) ss b → b ≡ node (label.List list.Sorts) ss
    by_node ss g (that_node x) = x
    by_node ss g (that_region i j r) = absurd (no_region_list list.Sorts ss i)
    by_node ss g (that_label d x al) = x ∙ ap (node (label.List list.Sorts)) (sorts_like R ss d g.0 g.1 al)

-- alike trees are closed together
region_closed : (b : ℕ) (t : Tree) → IsRegion t → IsClosedUnder b t
region_closed b empty (x, e) = tt
region_closed b (more s t) (x, e) = absurd (cc e)
region_closed b (node l c) (x, e) = let (n, none) = region_alone l c x e in rw none (by_label l x n)
  where
    by_label : (l : Label) (x : RegionName) → name_of_label l ≡ Some x → IsClosedUnder b (node l empty)
    by_label (label.Leaf y) x n = (tt, tt)
    by_label l x n = absurd (cc n)

pub alike_closed : (R : Tree → Tree → Type 0) (b : ℕ) (s t : Tree) → Alike R s t → IsClosedUnder b s → IsClosedUnder b t
alike_closed R b s t one_tree h = h
alike_closed R b s t (two_regions i j r) h = region_closed b t j
alike_closed R b _ _ (one_label {l = l} {c = c} {d = d} n al) h = (h.0, alike_closed R (b + binders l) c d al h.1)
alike_closed R b _ _ (two_rows {a = x} {b = y} {c = z} {d = w} al bl) h = (alike_closed R b x z al h.0, alike_closed R b y w bl h.1)

pub alike_closed_back : (R : Tree → Tree → Type 0) (b : ℕ) (s t : Tree) → Alike R s t → IsClosedUnder b t → IsClosedUnder b s
alike_closed_back R b s t one_tree h = h
alike_closed_back R b s t (two_regions i j r) h = region_closed b s i
alike_closed_back R b _ _ (one_label {l = l} {c = c} {d = d} n al) h = (h.0, alike_closed_back R (b + binders l) c d al h.1)
alike_closed_back R b _ _ (two_rows {a = x} {b = y} {c = z} {d = w} al bl) h = (alike_closed_back R b x z al h.0, alike_closed_back R b y w bl h.1)
