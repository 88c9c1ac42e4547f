-- Trees without aliases that are one but for regions are related under each later table.
use Rattle.std.proofs.Common.{◌≡◌, ◌⊎◌, inl, inr, ⊎_elim, ℕ, zero, suc, ◌+◌, ◌<◌, Bool, true, false, List, [], ◌∷◌, Option, Some, refl, sym, ap, ◌∙◌, subst, arith}
use Rattle.std.specs.Prelude.{◌||◌}
use Rattle.std.proofs.lemmas.Bool.{or_parts}
use Rattle.nts_model.specs.declared.labels.Sort.{Sort}
use Rattle.nts_model.specs.declared.labels.Sort.TheVariants as sort
use Rattle.nts_model.specs.declared.labels.Variance.{Variance}
use Rattle.nts_model.specs.declared.labels.Variance.TheVariants as variance
use Rattle.nts_model.specs.declared.labels.TyHead.TheVariants as ty
use Rattle.nts_model.specs.declared.labels.ConstHead.TheVariants as konst
use Rattle.nts_model.specs.declared.labels.ListHead.TheVariants as list
use Rattle.nts_model.specs.declared.labels.Label.{Label}
use Rattle.nts_model.specs.declared.labels.Label.TheVariants as label
use Rattle.nts_model.specs.Terms.Trees.{Tree, empty, more, node, size, NodeKind, kind_of, kind_of_label, of_sort, arguments, sort_list, any_label, is_alias, is, a_type, any_argument, FitsPlace, HavePlaces, AllFit, IsRow, shape, IsFormed}
use Rattle.nts_model.specs.Tables.Contents.{Content}
use Rattle.nts_model.specs.Tables.Resolving.{resolved, deeply_resolved, Knows, IsSound}
use Rattle.nts_model.specs.Terms.Regions.{RegionName, name_of_label, IsRegion}
use Rattle.nts_model.specs.Tables.Holding.{HoldsConstraint, Continues}
use Rattle.nts_model.specs.Tables.Solvable.{IsSolvable}
use Rattle.nts_model.specs.Tables.Alike.{Alike, one_tree as one, two_regions, one_label, two_rows, HoldsEqual, AreAlike}
use Rattle.nts_model.specs.Derivations.Related.{rest_variances, constructor, function, function_variances, value, AreRelatedByArgument, one_tree, regions, constructors, functions, values, no_more, and_more}
use Rattle.nts_model.specs.Derivations.Related.{arguments as arguments_of}
use Rattle.nts_model.specs.Lists.{Among}
use Rattle.nts_model.specs.Derivations.Proving.{recorded_as}
use Rattle.nts_variance_model.specs.Variances.Judging.{opposite}
use Rattle.nts_variance_model.specs.Variances.Forms.{a_constructor, a_function, a_value}
use Rattle.nts_model.proofs.Terms.Substituting.{no_children}
use Rattle.nts_model.proofs.Tables.AliasLabels.{region_tree_of, region_kind}
use Rattle.nts_model.proofs.Tables.Resolved.{deeply_resolved-empty, deeply_resolved-deeply_resolved}
use Rattle.nts_model.proofs.Tables.Open.{Knows-deeply_resolved}
use Rattle.nts_model.proofs.Tables.Alike.{IsRow-deeply_resolved, IsRegion-deeply_resolved, HoldsEqual-one, HoldsEqual-continues, AreAlike-turned}
use Rattle.nts_model.proofs.Tables.AlikeNodes.{arguments_in, IsNodeLike, that_node, that_region, that_label, node_like, IsRowLike, that_row, that_first, row_like, empty_like, arguments_like, sort_list_like}
use Rattle.nts_model.proofs.Terms.Unpositioned.{known_no_positions, known_well_bound, IsFormedTerm, formed_term, term_formed}
use Rattle.nts_model.proofs.Tables.Fitting.{region_label}
use Rattle.nts_model.proofs.Tables.Kept.{kind_of-deeply_resolved}
use Rattle.nts_model.proofs.Tables.ResolvedTerms.{IsFormed-deeply_resolved}
use Rattle.nts_variance_model.proofs.Variances.Forms.{deeply_resolved-over}
use Rattle.nts_relating.proofs.Plain.{plain_rooted}
use Rattle.nts_relating.specs.Relating.{IsLike}
use Rattle.nts_relating.proofs.Ranks.{kind_of-like, like_of-kinds}
use Rattle.nts_relating.proofs.GenLemmas.{Meets-like, IsLike-refl as like_itself}
use Rattle.nts_variance.specs.Walking.{RelatedTrees, RelatedSides}
use Rattle.nts_variance.proofs.Clean.{holds_terms}
use Rattle.nts_model.proofs.Tables.TableInstances.{deeply_resolved-more}

no_alias_left : (a b : Bool) → (a || b) ≡ false → a ≡ false
no_alias_left a b e = (or_parts a b e).0

module _ (declared : ℕ → List Variance) (f : Content) (ks : List Tree) (R : Tree → Tree → Type 0) (holds : (x y : Tree) → R x y → HoldsEqual f (deeply_resolved f x) (deeply_resolved f y)) where
  abbrev g : Tree → Tree
  g = deeply_resolved f

  abbrev Rows : List Variance → Tree → Tree → Type 0
  Rows = AreRelatedByArgument declared (λ t. Unit {0}) (λ x. HoldsConstraint f (recorded_as x)) (Among ks) variance.Invariant

  abbrev Step : ℕ → Type 0
  Step n = (a b : Tree) → size a < n → Alike R a b → any_label is_alias a ≡ false → IsFormedTerm a → FitsPlace any_argument (kind_of a) → RelatedTrees declared f ks variance.Invariant (g a) (g b)

  rows_same : (ts : Tree) → IsRow ts → (ws : List Variance) → Rows ws ts ts
  rows_same empty h ws = no_more
  rows_same (more a s) h ws = and_more (one_tree tt) (rows_same s h (rest_variances ws))
  rows_same (node l c) h ws = absurd h

  row_fits : (ts : Tree) → AllFit any_argument ts → IsRow ts
  row_fits empty h = tt
  row_fits (more a b) h = row_fits b h.1
  row_fits (node l c) h = absurd h

  row_step : (n : ℕ) → Step n → (a s us : Tree) → size (more a s) < n → IsRowLike R a s us → any_label is_alias (more a s) ≡ false → AllFit any_argument (more a s) → IsFormedTerm (more a s) → (ws : List Variance)
      → ((u : Tree) → Alike R s u → Rows (rest_variances ws) (g s) (g u)) → Rows ws (g (more a s)) (g us)
  row_step n step a s us l (that_row same) plain h form ws rest =
      subst (λ x. Rows ws (g (more a s)) (g x)) (sym same) (rows_same (g (more a s)) (IsRow-deeply_resolved f (more a s) (row_fits (more a s) h)) ws)
  row_step n step a s us l (that_first b u same x y) plain h form ws rest =
      let less : size a + size s + 1 < n = l in
      let p = or_parts (any_label is_alias a) (any_label is_alias s) plain in
      let both : Rows ws (more (g a) (g s)) (more (g b) (g u)) = and_more (step a b (omega (arith, less)) x p.0 form.0 h.0) (rest u y) in
      rw (same, deeply_resolved-more f a s, deeply_resolved-more f b u) both

  rows : (n : ℕ) → Step n → (ts us : Tree) → size ts < n → Alike R ts us → any_label is_alias ts ≡ false → AllFit any_argument ts → IsFormedTerm ts → (ws : List Variance) → Rows ws (g ts) (g us)
  rows n step empty us l al plain h form ws =
      let same = empty_like R us al in
      let none = deeply_resolved-empty f in
      rw (same, none) no_more
  rows n step (node l c) us lt al plain h form ws = absurd h
  rows n step (more a s) us l al plain h form ws =
      let less : size a + size s + 1 < n = l in
      let p = or_parts (any_label is_alias a) (any_label is_alias s) plain in
      row_step n step a s us l (row_like R a s us al) plain h form ws (λ u x. rows n step s u (omega (arith, less)) x p.1 h.1 form.1 (rest_variances ws))

  -- nodes whose children are arguments
  with_arguments : (n : ℕ) → Step n → (c d : Tree) → size c < n → any_label is_alias c ≡ false → HavePlaces (is arguments ∷ []) c → IsFormedTerm c → Alike R c d → (Z : Type 0)
      → ((ts us : Tree) → c ≡ arguments_of ts → d ≡ arguments_of us → ((ws : List Variance) → Rows ws (g ts) (g us)) → Z) → Z
  with_arguments n step c d l plain h form al Z go =
      let args = arguments_in c h form in
      let ts = args.parts in
      let (us, same, under) = arguments_like R ts d (subst (λ x. Alike R x d) args.is al) in
      let less : size ts + 1 + 0 + 1 < n = subst (λ x. size x < n) args.is l in
      let inner : any_label is_alias (arguments_of ts) ≡ false = subst (λ x. any_label is_alias x ≡ false) args.is plain in
      go ts us args.is same (λ ws. rows n step ts us (omega (arith, less)) under (no_alias_left (any_label is_alias ts) false inner) args.fit args.formed ws)

  constructor_step : (n : ℕ) → Step n → (i : ℕ) (c d : Tree) → size c < n → any_label is_alias c ≡ false → IsFormedTerm (node (label.Ty (ty.Ctor i)) c) → Alike R c d
      → RelatedTrees declared f ks variance.Invariant (g (node (label.Ty (ty.Ctor i)) c)) (g (node (label.Ty (ty.Ctor i)) d))
  constructor_step n step i c d l plain form al =
      with_arguments n step c d l plain form.0 form.1 al (RelatedTrees declared f ks variance.Invariant (g (node (label.Ty (ty.Ctor i)) c)) (g (node (label.Ty (ty.Ctor i)) d)))
      (λ ts us p q o.
      let whole : RelatedTrees declared f ks variance.Invariant (constructor i (g ts)) (constructor i (g us)) = constructors (o (declared i)) in
      rw (p, q, deeply_resolved-over f (a_constructor i) ts tt, deeply_resolved-over f (a_constructor i) us tt) whole)

  function_parts : (n : ℕ) → Step n → (s r s' r' ss : Tree) → s ≡ node (label.List list.Sorts) ss → s' ≡ node (label.List list.Sorts) ss → IsFormedTerm s → size r < n → any_label is_alias r ≡ false
      → HavePlaces (is arguments ∷ []) r → IsFormedTerm r → Alike R r r' → RelatedTrees declared f ks variance.Invariant (g (node (label.Ty ty.FnPtr) (more s r))) (g (node (label.Ty ty.FnPtr) (more s' r')))
  function_parts n step s r s' r' ss p q sorts l plain h form al =
      let formed : IsFormed (node (label.List list.Sorts) ss) = term_formed (node (label.List list.Sorts) ss) (subst IsFormedTerm p sorts) in
      with_arguments n step r r' l plain h form al (RelatedTrees declared f ks variance.Invariant (g (node (label.Ty ty.FnPtr) (more s r))) (g (node (label.Ty ty.FnPtr) (more s' r'))))
      (λ ts us i j o.
      let whole : RelatedTrees declared f ks variance.Invariant (function ss (g ts)) (function ss (g us)) = functions (o (function_variances (g ts))) in
      rw (p, q, i, j, deeply_resolved-over f (a_function ss) ts formed, deeply_resolved-over f (a_function ss) us formed) whole)

  function_rows : (n : ℕ) → Step n → (s r d : Tree) → size (more s r) < n → any_label is_alias (more s r) ≡ false → HavePlaces (is sort_list ∷ is arguments ∷ []) (more s r) → IsFormedTerm (more s r) → IsRowLike R s r d
      → RelatedTrees declared f ks variance.Invariant (g (node (label.Ty ty.FnPtr) (more s r))) (g (node (label.Ty ty.FnPtr) d))
  function_rows n step s r d l plain h form (that_row same) = rw same (one_tree tt)
  function_rows n step s r d l plain h form (that_first s' r' same x y) =
      let less : size s + size r + 1 < n = l in
      let p = or_parts (any_label is_alias s) (any_label is_alias r) plain in
      let sorts = sort_list_like R s s' h.0 form.0 x in
      rw same (function_parts n step s r s' r' sorts.0 sorts.1 sorts.2 form.0 (omega (arith, less)) p.1 h.1 form.1 y)

  function_step : (n : ℕ) → Step n → (c d : Tree) → size c < n → any_label is_alias c ≡ false → IsFormedTerm (node (label.Ty ty.FnPtr) c) → Alike R c d
      → RelatedTrees declared f ks variance.Invariant (g (node (label.Ty ty.FnPtr) c)) (g (node (label.Ty ty.FnPtr) d))
  function_step n step empty d l plain form al = absurd form.0
  function_step n step (node x y) d l plain form al = absurd form.0
  function_step n step (more s r) d l plain form al = function_rows n step s r d l plain form.0 form.1 (row_like R s r d al)

  -- a const value is so by every variance
  value_resolved : (b : ℕ) (t : Tree) → g (value b t) ≡ value b (g t)
  value_resolved b t = deeply_resolved-over f (a_value b) (more t empty) refl ∙ ap (node (label.Const (konst.Value b))) (deeply_resolved-more f t empty ∙ ap (more (g t)) (deeply_resolved-empty f))

  value_rows : (n : ℕ) → Step n → (v : Variance) (b : ℕ) (t r d : Tree) → size (more t r) < n → any_label is_alias (more t r) ≡ false → HavePlaces (a_type ∷ []) (more t r) → IsFormedTerm (more t r) → IsRowLike R t r d
      → RelatedTrees declared f ks v (g (node (label.Const (konst.Value b)) (more t r))) (g (node (label.Const (konst.Value b)) d))
  value_rows n step v b t r d l plain h form (that_row same) = rw same (one_tree tt)
  value_rows n step v b t r d l plain h form (that_first t' r' same x y) =
      let less : size t + size r + 1 < n = l in
      let p = or_parts (any_label is_alias t) (any_label is_alias r) plain in
      let alone : r ≡ empty = no_children r h.1 in
      let alone' : r' ≡ empty = empty_like R r' (subst (λ z. Alike R z r') alone y) in
      let argument : FitsPlace any_argument (kind_of t) = subst (FitsPlace any_argument) (sym h.0) tt in
      let whole : RelatedTrees declared f ks v (value b (g t)) (value b (g t')) = values (step t t' (omega (arith, less)) x p.0 form.0 argument) in
      rw (same, alone, alone', value_resolved b t, value_resolved b t') whole

  value_step : (n : ℕ) → Step n → (v : Variance) (b : ℕ) (c d : Tree) → size c < n → any_label is_alias c ≡ false → IsFormedTerm (node (label.Const (konst.Value b)) c) → Alike R c d
      → RelatedTrees declared f ks v (g (node (label.Const (konst.Value b)) c)) (g (node (label.Const (konst.Value b)) d))
  value_step n step v b empty d l plain form al = absurd form.0
  value_step n step v b (node x y) d l plain form al = absurd form.0
  value_step n step v b (more t r) d l plain form al = value_rows n step v b t r d l plain form.0 form.1 (row_like R t r d al)

  alone_step : (v : Variance) (l : Label) (c d : Tree) → HavePlaces [] c → Alike R c d → RelatedTrees declared f ks v (g (node l c)) (g (node l d))
  alone_step v l c d h al =
      let none : c ≡ empty = no_children c h in
      let none' : d ≡ empty = empty_like R d (subst (λ x. Alike R x d) none al) in
      rw (none, none') (one_tree tt)

  label_step : (n : ℕ) → Step n → (l : Label) (c d : Tree) → size c < n → any_label is_alias (node l c) ≡ false → IsFormedTerm (node l c) → Alike R c d → FitsPlace any_argument (kind_of (node l c))
      → RelatedTrees declared f ks variance.Invariant (g (node l c)) (g (node l d))
  label_step n step (label.Ty (ty.Ctor i)) c d lt plain form al arg = constructor_step n step i c d lt plain form al
  label_step n step (label.Ty ty.FnPtr) c d lt plain form al arg = function_step n step c d lt plain form al
  label_step n step (label.Ty (ty.Alias i)) c d lt plain form al arg = cc
  label_step n step (label.Const (konst.Unevaluated i)) c d lt plain form al arg = cc
  label_step n step (label.Const (konst.Value b)) c d lt plain form al arg = value_step n step variance.Invariant b c d lt plain form al
  label_step n step (label.Ty (ty.Int i)) c d lt plain form al arg = alone_step variance.Invariant (label.Ty (ty.Int i)) c d form.0 al
  label_step n step (label.Ty (ty.Uint i)) c d lt plain form al arg = alone_step variance.Invariant (label.Ty (ty.Uint i)) c d form.0 al
  label_step n step (label.Ty (ty.Float i)) c d lt plain form al arg = alone_step variance.Invariant (label.Ty (ty.Float i)) c d form.0 al
  label_step n step (label.Ty ty.Error) c d lt plain form al arg = alone_step variance.Invariant (label.Ty ty.Error) c d form.0 al
  label_step n step (label.Const konst.Error) c d lt plain form al arg = alone_step variance.Invariant (label.Const konst.Error) c d form.0 al
  label_step n step (label.Leaf x) c d lt plain form al arg = alone_step variance.Invariant (label.Leaf x) c d form.0 al
  label_step n step (label.Bound s i k) c d lt plain form al arg = alone_step variance.Invariant (label.Bound s i k) c d form.0 al
  label_step n step (label.Clause h) c d lt plain form al arg = absurd arg
  label_step n step (label.Predicate h) c d lt plain form al arg = absurd arg
  label_step n step (label.List list.Args) c d lt plain form al arg = absurd arg
  label_step n step (label.List list.Env) c d lt plain form al arg = absurd arg
  label_step n step (label.List list.Sorts) c d lt plain form al arg = absurd arg
  label_step n step (label.List (list.Sort s)) c d lt plain form al arg = absurd arg
  label_step n step (label.List list.Binder) c d lt plain form al arg = absurd arg

  two_regions_related : (v : Variance) (a b : Tree) → v ≡ variance.Invariant → IsRegion a → IsRegion b → R a b → RelatedTrees declared f ks v (g a) (g b)
  two_regions_related v a b e i j r = rw e (regions (IsRegion-deeply_resolved f a i) (IsRegion-deeply_resolved f b j) (holds a b r))

  node_step : (n : ℕ) → Step n → (l : Label) (c t : Tree) → size (node l c) < suc n → IsNodeLike R l c t → any_label is_alias (node l c) ≡ false → IsFormedTerm (node l c) → FitsPlace any_argument (kind_of (node l c))
      → RelatedTrees declared f ks variance.Invariant (g (node l c)) (g t)
  node_step n step l c t lt (that_node same) plain form arg = rw same (one_tree tt)
  node_step n step l c t lt (that_region i j r) plain form arg = two_regions_related variance.Invariant (node l c) t refl i j r
  node_step n step l c t lt (that_label d same al) plain form arg = rw same (label_step n step l c d (let k : size c + 1 < suc n = lt in omega (arith, k)) plain form al arg)

  related_below : (n : ℕ) → Step n
  related_below zero a b l al plain form arg = absurd (omega (arith, l))
  related_below (suc n) empty b l al plain form arg = absurd arg
  related_below (suc n) (more x y) b l al plain form arg = absurd arg
  related_below (suc n) (node m c) b l al plain form arg = node_step n (related_below n) m c b l (node_like R m c b al) plain form arg

  -- related invariantly
  pub alike_related : (a b : Tree) → Alike R a b → any_label is_alias a ≡ false → IsFormedTerm a → FitsPlace any_argument (kind_of a) → RelatedTrees declared f ks variance.Invariant (g a) (g b)
  alike_related a b al plain form arg = related_below (suc (size a)) a b (omega arith) al plain form arg

  -- .. and consts by every variance
  const_label : (v : Variance) (l : Label) (c d : Tree) → any_label is_alias (node l c) ≡ false → IsFormedTerm (node l c) → Alike R c d → kind_of_label l ≡ of_sort sort.Const → RelatedTrees declared f ks v (g (node l c)) (g (node l d))
  const_label v (label.Const (konst.Value b)) c d plain form al e = value_step (suc (size c)) (related_below (suc (size c))) v b c d (omega arith) plain form al
  const_label v (label.Const (konst.Unevaluated i)) c d plain form al e = cc
  const_label v (label.Const konst.Error) c d plain form al e = alone_step v (label.Const konst.Error) c d form.0 al
  const_label v (label.Leaf x) c d plain form al e = alone_step v (label.Leaf x) c d form.0 al
  const_label v (label.Bound s i k) c d plain form al e = alone_step v (label.Bound s i k) c d form.0 al
  const_label v (label.Ty h) c d plain form al e = cc
  const_label v (label.Clause h) c d plain form al e = cc
  const_label v (label.Predicate h) c d plain form al e = cc
  const_label v (label.List list.Args) c d plain form al e = cc
  const_label v (label.List list.Env) c d plain form al e = cc
  const_label v (label.List list.Sorts) c d plain form al e = cc
  const_label v (label.List (list.Sort s)) c d plain form al e = cc
  const_label v (label.List list.Binder) c d plain form al e = cc

  no_const_region : (l : Label) (c : Tree) → kind_of_label l ≡ of_sort sort.Const → IsRegion (node l c) → ⊥
  no_const_region l c e i = (let k : Some (kind_of_label l) ≡ Some (of_sort sort.Region) = region_kind (node l c) i in cc)

  const_node : (v : Variance) (l : Label) (c t : Tree) → IsNodeLike R l c t → any_label is_alias (node l c) ≡ false → IsFormedTerm (node l c) → kind_of_label l ≡ of_sort sort.Const → RelatedTrees declared f ks v (g (node l c)) (g t)
  const_node v l c t (that_node same) plain form e = rw same (one_tree tt)
  const_node v l c t (that_region i j r) plain form e = absurd (no_const_region l c e i)
  const_node v l c t (that_label d same al) plain form e = rw same (const_label v l c d plain form al e)

  pub const_related : (v : Variance) (a b : Tree) → Alike R a b → any_label is_alias a ≡ false → IsFormedTerm a → kind_of a ≡ Some (of_sort sort.Const) → RelatedTrees declared f ks v (g a) (g b)
  const_related v empty b al plain form e = cc
  const_related v (more x y) b al plain form e = cc
  const_related v (node l c) b al plain form e = const_node v l c b (node_like R l c b al) plain form (let k : Some (kind_of_label l) ≡ Some (of_sort sort.Const) = e in cc)

-- alike trees have aliases together, and are formed together
region_plain : (t : Tree) → IsRegion t → any_label is_alias t ≡ false
region_plain t i = (let x = region_tree_of t i in ap (any_label is_alias) x.is ∙ ap (λ z. z || false) x.no_alias)

alike_aliases : (R : Tree → Tree → Type 0) (a b : Tree) → Alike R a b → any_label is_alias a ≡ any_label is_alias b
alike_aliases R a b one = refl
alike_aliases R a b (two_regions i j r) = region_plain a i ∙ sym (region_plain b j)
alike_aliases R a b (one_label {l = l} {c = c} {d = d} e h) = ap (λ x. is_alias l || x) (alike_aliases R c d h)
alike_aliases R a b (two_rows {a = x} {b = y} {c = z} {d = w} h k) =
    let p = alike_aliases R x z h in
    let q = alike_aliases R y w k in
    cc (p, q)

alike_like : (R : Tree → Tree → Type 0) (a b : Tree) → Alike R a b → IsLike a b
alike_like R a b one = like_itself a
alike_like R a b (two_regions i j r) = like_of-kinds a b (of_sort sort.Region) (region_kind a i) (region_kind b j)
alike_like R a b (one_label e h) = refl
alike_like R a b (two_rows {a = x} {b = y} {c = z} {d = w} h k) = (kind_of-like x z (alike_like R x z h), alike_like R y w k)

region_formed : (t : Tree) → IsRegion t → IsFormed t
region_formed empty i = tt
region_formed (more a b) i = (let e = i.1 in cc)
region_formed (node l c) i = (let x = region_label l c i.0 i.1 in subst (λ y. IsFormed (node l y)) (sym x.1) (by_label l i.0 x.0))
  where
    by_label : (l : Label) (x : RegionName) → name_of_label l ≡ Some x → IsFormed (node l empty)
    by_label (label.Leaf y) x n = (tt, tt)
    by_label l x n = cc

alike_formed : (R : Tree → Tree → Type 0) (a b : Tree) → Alike R a b → IsFormed b → IsFormed a
alike_formed R a b one h = h
alike_formed R a b (two_regions i j r) h = region_formed a i
alike_formed R a b (one_label {l = l} {c = c} {d = d} e al) h = (Meets-like (shape l) c d (alike_like R c d al) h.0, alike_formed R c d al h.1)
alike_formed R a b (two_rows {a = x} {b = y} {c = z} {d = w} al bl) h = (alike_formed R x z al h.0, alike_formed R y w bl h.1)

abbrev KnownAlike : Content → (Tree → Tree → Type 0) → Tree → Tree → Type 0
KnownAlike d R x y = R x y × Knows d x × Knows d y

alike_known : (d : Content) (R : Tree → Tree → Type 0) (a b : Tree) → Knows d a → Knows d b → Alike R a b → Alike (KnownAlike d R) a b
alike_known d R a b k l one = one
alike_known d R a b k l (two_regions i j r) = two_regions i j (r, k, l)
alike_known d R a b k l (one_label {c = c} {d = x} e h) = one_label e (alike_known d R c x k.1 l.1 h)
alike_known d R a b k l (two_rows {a = x} {b = y} {c = z} {d = w} h j) = two_rows (alike_known d R x z k.0 l.0 h) (alike_known d R y w k.1 l.1 j)

-- an argument that is invariant, or a const
abbrev pub SettlesAlone : Variance → Option NodeKind → Type 0
SettlesAlone v k = (v ≡ variance.Invariant) ⊎ (k ≡ Some (of_sort sort.Const))

module _ (declared : ℕ → List Variance) (d f : Content) (ks : List Tree) (sound : IsSound d) (sound_later : IsSound f) (continues : Continues d f) (solvable : IsSolvable d) where
  -- .. under a later table, where the first of the two is formed and has no aliases in this one
  related_later : (v : Variance) (a b : Tree) → Knows d a → Knows d b → AreAlike d a b → any_label is_alias (deeply_resolved d a) ≡ false → IsFormed (deeply_resolved d a) → FitsPlace any_argument (kind_of (deeply_resolved d a))
      → SettlesAlone v (kind_of (deeply_resolved d a)) → RelatedTrees declared f ks v (deeply_resolved f a) (deeply_resolved f b)
  related_later v a b k l alike plain formed argument alone =
      let x = deeply_resolved d a in
      let y = deeply_resolved d b in
      let kx = Knows-deeply_resolved d a sound k in
      let ky = Knows-deeply_resolved d b sound l in
      let R = KnownAlike d (HoldsEqual d) in
      let al = alike_known d (HoldsEqual d) x y kx ky alike in
      let form = formed_term x formed (known_no_positions d x kx) (known_well_bound d x kx) in
      let holds : (p q : Tree) → R p q → HoldsEqual f (deeply_resolved f p) (deeply_resolved f q) =
      λ p q r. HoldsEqual-one f p q (deeply_resolved f p) (deeply_resolved f q) (deeply_resolved-deeply_resolved f p sound_later) (deeply_resolved-deeply_resolved f q sound_later) (HoldsEqual-continues d f p q continues solvable.sides r.1 r.2 r.0) in
      let whole : RelatedTrees declared f ks v (deeply_resolved f x) (deeply_resolved f y) = ⊎_elim
      (λ e. subst (λ w. RelatedTrees declared f ks w (deeply_resolved f x) (deeply_resolved f y)) (sym e) (alike_related declared f ks R holds x y al plain form argument))
      (λ e. const_related declared f ks R holds v x y al plain form e) alone in
      subst (λ z. RelatedTrees declared f ks v z (deeply_resolved f b)) (continues.values a k) (subst (RelatedTrees declared f ks v (deeply_resolved f x)) (continues.values b l) whole)

  -- a tree and what stands for it, which is one with it but for regions
  pub sides_related : (z : Bool) (v : Variance) (r t : Tree) → Knows d r → Knows d t → AreAlike d r t → any_label is_alias (resolved d t) ≡ false → IsFormed t → (s : Sort) → kind_of t ≡ Some (of_sort s) → SettlesAlone v (kind_of t)
      → RelatedSides z declared f ks v (deeply_resolved f r) (deeply_resolved f t)
  sides_related z v r t k l alike plain formed s sorted alone = by_side z
    where
      same : kind_of (deeply_resolved d t) ≡ kind_of t
      same = kind_of-deeply_resolved d t sound l

      clear : any_label is_alias (deeply_resolved d t) ≡ false
      clear = plain_rooted d (resolved d t) ∙ plain

      whole : IsFormed (deeply_resolved d t)
      whole = IsFormed-deeply_resolved d t sound (holds_terms d solvable) l formed

      argument : FitsPlace any_argument (kind_of (deeply_resolved d t))
      argument = subst (FitsPlace any_argument) (sym (same ∙ sorted)) tt

      across : kind_of (deeply_resolved d r) ≡ kind_of (deeply_resolved d t)
      across = kind_of-like (deeply_resolved d r) (deeply_resolved d t) (alike_like (HoldsEqual d) (deeply_resolved d r) (deeply_resolved d t) alike)

      opposite_alone : (v : Variance) (k : Option NodeKind) → SettlesAlone v k → SettlesAlone (opposite v) k
      opposite_alone v k h = ⊎_elim (λ e. inl (ap opposite e)) (λ e. inr e) h

      by_side : (z : Bool) → RelatedSides z declared f ks v (deeply_resolved f r) (deeply_resolved f t)
      by_side true = related_later (opposite v) t r l k (AreAlike-turned d r t alike) clear whole argument (subst (SettlesAlone (opposite v)) (sym same) (opposite_alone v (kind_of t) alone))
      by_side false =
          related_later v r t k l alike
          (alike_aliases (HoldsEqual d) (deeply_resolved d r) (deeply_resolved d t) alike ∙ clear)
          (alike_formed (HoldsEqual d) (deeply_resolved d r) (deeply_resolved d t) alike whole)
          (subst (FitsPlace any_argument) (sym across) argument)
          (subst (SettlesAlone v) (sym (across ∙ same)) alone)
