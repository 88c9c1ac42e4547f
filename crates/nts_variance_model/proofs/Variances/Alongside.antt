-- Trees related without premises: closedness, kinds, sizes, turning, and what stands beside what.
use Rattle.std.proofs.Common.{◌≡◌, ℕ, ◌+◌, true, false, Some, List, [], ◌∷◌, refl, sym, ap, ◌∙◌, arith, subst}
use Rattle.nts_model.specs.declared.labels.Variance.{Variance}
use Rattle.nts_model.specs.declared.labels.Variance.TheVariants as variance
use Rattle.std.specs.Prelude.{◌||◌}
use Rattle.nts_model.specs.declared.labels.Sort.{Sort}
use Rattle.nts_model.specs.declared.labels.Sort.TheVariants as sort
use Rattle.nts_model.specs.declared.labels.VariableKind.TheVariants as kind
use Rattle.nts_model.specs.declared.labels.Leaf.TheVariants as leaf
use Rattle.nts_model.specs.Terms.Fitting.{is_integer, is_float}
use Rattle.nts_model.specs.declared.labels.TyHead.TheVariants as ty
use Rattle.nts_model.specs.declared.labels.ConstHead.TheVariants as konst
use Rattle.nts_model.specs.declared.labels.ListHead.TheVariants as list
use Rattle.nts_model.specs.declared.labels.AliasHead.{AliasHead}
use Rattle.nts_model.specs.declared.labels.AliasHead.TheVariants as alias_of
use Rattle.nts_model.specs.declared.labels.Label.{Label}
use Rattle.nts_model.specs.declared.labels.Label.TheVariants as label
use Rattle.nts_model.specs.Terms.Trees.{Tree, empty, more, node, size, binders, kind_of, of_sort, is_alias, IsRow, row_length, IsClosedUnder}
use Rattle.nts_model.specs.Terms.Regions.{IsRegion}
use Rattle.nts_model.specs.Derivations.Related.{region_constraint, times, first_variance, rest_variances, constructor, function, function_variances, value, alias_label, alias, arguments, one_tree, regions, constructors, functions, values, open_aliases, aliases, subtypes, no_more, and_more}
use Rattle.nts_variance_model.specs.Variances.Judging.{Judging, IsSettled, Along, AreAlong, IsLawfulJudging, opposite}
use Rattle.nts_model.proofs.Tables.AliasLabels.{region_tree_of, region_closed, region_kind}
use Rattle.nts_model.proofs.Tables.AlikeNodes.{alias_label_is as alias_is_alias}

times_opposite : (v w : Variance) → times (opposite v) w ≡ opposite (times v w)
times_opposite variance.Invariant w = refl
times_opposite variance.Covariant variance.Invariant = refl
times_opposite variance.Covariant variance.Covariant = refl
times_opposite variance.Covariant variance.Contravariant = refl
times_opposite variance.Contravariant variance.Invariant = refl
times_opposite variance.Contravariant variance.Covariant = refl
times_opposite variance.Contravariant variance.Contravariant = refl

pub times_invariant : (v : Variance) → times v variance.Invariant ≡ variance.Invariant
times_invariant variance.Invariant = refl
times_invariant variance.Covariant = refl
times_invariant variance.Contravariant = refl

pub opposite_twice : (v : Variance) → opposite (opposite v) ≡ v
opposite_twice variance.Invariant = refl
opposite_twice variance.Covariant = refl
opposite_twice variance.Contravariant = refl

module _ (J : Judging) (law : IsLawfulJudging J) where
  -- invariantly they are one
  mutual
    pub along_one : {v : Variance} {a b : Tree} → v ≡ variance.Invariant → Along J v a b → a ≡ b
    along_one e (one_tree s) = refl
    along_one e (regions {v = v} {a = a} {b = b} i j h) = law.one a b (subst (λ x. J.holds (region_constraint x a b)) e h)
    along_one e (constructors {i = i} rs) = ap (constructor i) (along_rows_one e rs)
    along_one e (functions {sorts = ss} rs) = ap (function ss) (along_rows_one e rs)
    along_one e (values {b = b} r) = ap (value b) (along_one refl r)
    along_one e (open_aliases h i j rs) = ap (alias h) (along_rows_one e rs)
    along_one e (aliases is _ _ p) = absurd p
    along_one e (subtypes x n i j _ _ p) = absurd p

    pub along_rows_one : {v : Variance} {ws : List Variance} {ts us : Tree} → v ≡ variance.Invariant → AreAlong J v ws ts us → ts ≡ us
    along_rows_one e no_more = refl
    along_rows_one e (and_more {ws = ws} r rs) = let first = along_one (ap (λ x. times x (first_variance ws)) e) r in let rest = along_rows_one e rs in cc (first, rest)

  -- of one size
  mutual
    pub along_size : {v : Variance} {a b : Tree} → Along J v a b → size a ≡ size b
    along_size (one_tree s) = refl
    along_size (regions {a = a} {b = b} i j h) = (let x = region_tree_of a i in let y = region_tree_of b j in ap size x.is ∙ sym (ap size y.is))
    along_size (constructors rs) = ap (λ n. n + 1 + 0 + 1 + 1) (along_rows_size rs)
    along_size (functions {sorts = ss} rs) = ap (λ n. (size ss + 1) + (n + 1 + 0 + 1) + 1 + 1) (along_rows_size rs)
    along_size (values r) = ap (λ n. n + 0 + 1 + 1) (along_size r)
    along_size (open_aliases h i j rs) = ap (λ n. n + 1 + 0 + 1 + 1) (along_rows_size rs)
    along_size (aliases is _ _ p) = absurd p
    along_size (subtypes x n i j _ _ p) = absurd p

    along_rows_size : {v : Variance} {ws : List Variance} {ts us : Tree} → AreAlong J v ws ts us → size ts ≡ size us
    along_rows_size no_more = refl
    along_rows_size (and_more r rs) = let first = along_size r in let rest = along_rows_size rs in cc (first, rest)

  -- of one kind
  pub along_kind : {v : Variance} {a b : Tree} → Along J v a b → kind_of a ≡ kind_of b
  along_kind (one_tree s) = refl
  along_kind (regions {a = a} {b = b} i j h) = region_kind a i ∙ sym (region_kind b j)
  along_kind (constructors rs) = refl
  along_kind (functions rs) = refl
  along_kind (values r) = refl
  along_kind (open_aliases h i j rs) = refl
  along_kind (aliases is _ _ p) = absurd p
  along_kind (subtypes x n i j _ _ p) = absurd p

  -- closed below the same binders
  abbrev pub ClosedAlike : Tree → Tree → Type 0
  ClosedAlike a b = (c : ℕ) → (IsClosedUnder c a → IsClosedUnder c b) × (IsClosedUnder c b → IsClosedUnder c a)

  mutual
    pub along_closed : {v : Variance} {a b : Tree} → Along J v a b → ClosedAlike a b
    along_closed (one_tree x) c = ((λ h. h), (λ h. h))
    along_closed (regions {a = a} {b = b} i j h) c = ((λ x. region_closed c b j), (λ x. region_closed c a i))
    along_closed (constructors rs) c = let x = along_rows_closed rs (c + 0 + 0) in ((λ h. (tt, ((tt, x.0 h.1.0.1), tt))), (λ h. (tt, ((tt, x.1 h.1.0.1), tt))))
    along_closed (functions rs) c = let x = along_rows_closed rs (c + 1 + 0) in ((λ h. (tt, (h.1.0, ((tt, x.0 h.1.1.0.1), tt)))), (λ h. (tt, (h.1.0, ((tt, x.1 h.1.1.0.1), tt)))))
    along_closed (values r) c = let x = along_closed r (c + 0) in ((λ h. (tt, (x.0 h.1.0, tt))), (λ h. (tt, (x.1 h.1.0, tt))))
    along_closed (open_aliases h i j rs) c = let x = along_rows_closed rs (c + binders (alias_label h) + 0) in ((λ y. (y.0, ((tt, x.0 y.1.0.1), tt))), (λ y. (y.0, ((tt, x.1 y.1.0.1), tt))))
    along_closed (aliases is _ _ p) c = absurd p
    along_closed (subtypes x n i j _ _ p) c = absurd p

    pub along_rows_closed : {v : Variance} {ws : List Variance} {ts us : Tree} → AreAlong J v ws ts us → ClosedAlike ts us
    along_rows_closed no_more c = ((λ h. h), (λ h. h))
    along_rows_closed (and_more r rs) c = let first = along_closed r c in let rest = along_rows_closed rs c in ((λ h. (first.0 h.0, rest.0 h.1)), (λ h. (first.1 h.0, rest.1 h.1)))

  -- the turned pair
  region_turned : (v : Variance) (a b : Tree) → J.holds (region_constraint v a b) → J.holds (region_constraint (opposite v) b a)
  region_turned variance.Invariant a b h = let e = law.one a b h in subst (λ x. J.holds (region_constraint variance.Invariant b x)) (sym e) (law.trivial variance.Invariant b)
  region_turned variance.Covariant a b h = h
  region_turned variance.Contravariant a b h = h

  pub rows_length : {v : Variance} {ws : List Variance} {ts us : Tree} → AreAlong J v ws ts us → row_length ts ≡ row_length us
  rows_length no_more = refl
  rows_length (and_more r rs) = ap (λ n. n + 1) (rows_length rs)

  pub rows_row : {v : Variance} {ws : List Variance} {ts us : Tree} → AreAlong J v ws ts us → IsRow ts × IsRow us
  rows_row no_more = (tt, tt)
  rows_row (and_more r rs) = rows_row rs

  pub variances_of_length : (ts us : Tree) → IsRow ts → IsRow us → row_length ts ≡ row_length us → function_variances ts ≡ function_variances us
  variances_of_length empty empty p q e = refl
  variances_of_length empty (more a b) p q e = absurd (omega (arith, e))
  variances_of_length (more a b) empty p q e = absurd (omega (arith, e))
  variances_of_length (more a empty) (more b empty) p q e = refl
  variances_of_length (more a empty) (more b (more c d)) p q e = absurd (omega (arith, e))
  variances_of_length (more a (more c d)) (more b empty) p q e = absurd (omega (arith, e))
  variances_of_length (more a (more c d)) (more b (more x y)) p q e = (let same : row_length (more c d) ≡ row_length (more x y) = omega (arith, e) in ap (λ z. variance.Contravariant ∷ z) (variances_of_length (more c d) (more x y) p q same))
  variances_of_length (node l c) us p q e = absurd p
  variances_of_length empty (node l c) p q e = absurd q
  variances_of_length (more a b) (node l c) p q e = absurd q
  variances_of_length (more a (node l c)) us p q e = absurd p
  variances_of_length (more a empty) (more b (node l c)) p q e = absurd q
  variances_of_length (more a (more c d)) (more b (node l x)) p q e = absurd q

  function_variances_same : {v : Variance} {ws : List Variance} {ts us : Tree} → AreAlong J v ws ts us → function_variances ts ≡ function_variances us
  function_variances_same {ts = ts} {us = us} rs = let r = rows_row rs in variances_of_length ts us r.0 r.1 (rows_length rs)

  mutual
    pub along_turned : {v : Variance} {a b : Tree} → Along J v a b → Along J (opposite v) b a
    along_turned (one_tree s) = one_tree s
    along_turned (regions {v = v} {a = a} {b = b} i j h) = regions j i (region_turned v a b h)
    along_turned (constructors rs) = constructors (along_rows_turned rs)
    along_turned (functions {v = v} {ts = ts} {us = us} rs) = functions (subst (λ ws. AreAlong J (opposite v) ws us ts) (function_variances_same rs) (along_rows_turned rs))
    along_turned (values r) = values (along_turned r)
    along_turned (open_aliases h i j rs) = open_aliases h j i (along_rows_turned rs)
    along_turned (aliases is _ _ p) = absurd p
    along_turned (subtypes x n i j _ _ p) = absurd p

    pub along_rows_turned : {v : Variance} {ws : List Variance} {ts us : Tree} → AreAlong J v ws ts us → AreAlong J (opposite v) ws us ts
    along_rows_turned no_more = no_more
    along_rows_turned (and_more {v = v} {ws = ws} {a = a} {b = b} r rs) =
        and_more (subst (λ x. Along J x b a) (sym (times_opposite v (first_variance ws))) (along_turned r)) (along_rows_turned rs)

  -- rows of settled trees are along themselves
  pub rows_same : (v : Variance) (ws : List Variance) (ts : Tree) → IsRow ts → IsSettled J ts → AreAlong J v ws ts ts
  rows_same v ws empty r s = no_more
  rows_same v ws (more a b) r s = and_more (one_tree s.0) (rows_same v (rest_variances ws) b r s.1)
  rows_same v ws (node l c) r s = absurd r

  -- what stands beside a constructor, a function pointer, a const value and an open alias
  pub record BesideRow (v : Variance) (ws : List Variance) (us s : Tree) (whole : Tree → Tree) : Type 0 where
    pub parts : Tree
    pub is : s ≡ whole parts
    pub along : AreAlong J v ws parts us

  no_region : (l : Label) (a b : Tree) (t : Tree) → t ≡ node l (more a b) → IsRegion t → ⊥
  no_region l a b t e i = let x = region_tree_of t i in let y = x.is in cc

  clash_alias : (h : AliasHead) (l : Label) (c d : Tree) → is_alias l ≡ false → alias h c ≡ node l d → ⊥
  clash_alias h l c d e q =
      let same : alias_label h ≡ l = cc in
      let two : true ≡ is_alias l = sym (alias_is_alias h) ∙ ap is_alias same in
      cc

  pub beside_constructor : {v : Variance} {s y : Tree} (i : ℕ) (us : Tree) → y ≡ constructor i us → IsRow us → Along J v s y → BesideRow v (J.declared i) us s (constructor i)
  beside_constructor i us e r (one_tree {v = v} {t = t} x) =
      let z : IsSettled J (constructor i us) = subst (IsSettled J) e x in
      record { parts = us; is = e; along = rows_same v (J.declared i) us r z.1.0.1 }
  beside_constructor i us e r (regions {b = b} p q h) = absurd (no_region (label.Ty (ty.Ctor i)) (node (label.List list.Args) us) empty b e q)
  beside_constructor i us e r (constructors {v = v} {i = j} {ts = ts} {us = xs} rs) =
      let same : j ≡ i = cc in
      let inner : xs ≡ us = cc in
      record { parts = ts; is = ap (λ k. constructor k ts) same; along = subst (λ z. AreAlong J v (J.declared i) ts z) inner (subst (λ k. AreAlong J v (J.declared k) ts xs) same rs) }
  beside_constructor i us e r (functions rs) = cc
  beside_constructor i us e r (values x) = cc
  beside_constructor i us e r (open_aliases {us = xs} h p q rs) = absurd (clash_alias h (label.Ty (ty.Ctor i)) xs (arguments us) refl e)
  beside_constructor i us e r (aliases is _ _ p) = absurd p
  beside_constructor i us e r (subtypes x n p q _ _ z) = absurd z

  pub beside_function : {v : Variance} {s y : Tree} (ss us : Tree) → y ≡ function ss us → IsRow us → Along J v s y → BesideRow v (function_variances us) us s (function ss)
  beside_function ss us e r (one_tree {v = v} {t = t} x) =
      let z : IsSettled J (function ss us) = subst (IsSettled J) e x in
      record { parts = us; is = e; along = rows_same v (function_variances us) us r z.1.1.0.1 }
  beside_function ss us e r (regions {b = b} p q h) = absurd (no_region (label.Ty ty.FnPtr) (node (label.List list.Sorts) ss) (arguments us) b e q)
  beside_function ss us e r (constructors rs) = cc
  beside_function ss us e r (functions {v = v} {sorts = rr} {ts = ts} {us = xs} rs) =
      let same : rr ≡ ss = cc in
      let inner : xs ≡ us = cc in
      let there : AreAlong J v (function_variances us) ts xs = subst (λ ws. AreAlong J v ws ts xs) (function_variances_same rs ∙ ap function_variances inner) rs in
      record { parts = ts; is = ap (λ k. function k ts) same; along = subst (λ z. AreAlong J v (function_variances us) ts z) inner there }
  beside_function ss us e r (values x) = cc
  beside_function ss us e r (open_aliases {us = xs} h p q rs) = absurd (clash_alias h (label.Ty ty.FnPtr) xs (more (node (label.List list.Sorts) ss) (arguments us)) refl e)
  beside_function ss us e r (aliases is _ _ p) = absurd p
  beside_function ss us e r (subtypes x n p q _ _ z) = absurd z

  pub record BesideValue (b : ℕ) (u s : Tree) : Type 0 where
    pub part : Tree
    pub is : s ≡ value b part
    pub along : Along J variance.Invariant part u

  pub beside_value : {v : Variance} {s y : Tree} (b : ℕ) (u : Tree) → y ≡ value b u → Along J v s y → BesideValue b u s
  beside_value b u e (one_tree x) =
      let z : IsSettled J (value b u) = subst (IsSettled J) e x in
      record { part = u; is = e; along = one_tree z.1.0 }
  beside_value b u e (regions {b = r} p q h) = absurd (no_region (label.Const (konst.Value b)) u empty r e q)
  beside_value b u e (constructors rs) = cc
  beside_value b u e (functions rs) = cc
  beside_value b u e (values {b = c} {t = t} {u = x} r) =
      let same : c ≡ b = cc in
      let inner : x ≡ u = cc in
      record { part = t; is = ap (λ k. value k t) same; along = subst (λ z. Along J variance.Invariant t z) inner r }
  beside_value b u e (open_aliases {us = xs} h p q rs) = absurd (clash_alias h (label.Const (konst.Value b)) xs (more u empty) refl e)
  beside_value b u e (aliases is _ _ p) = absurd p
  beside_value b u e (subtypes x n p q _ _ z) = absurd z

  pub beside_alias : {v : Variance} {s y : Tree} (h : AliasHead) (us : Tree) → y ≡ alias h us → IsRow us → Along J v s y → BesideRow v [] us s (alias h)
  beside_alias h us e r (one_tree {v = v} {t = t} x) =
      let z : IsSettled J (alias h us) = subst (IsSettled J) e x in
      record { parts = us; is = e; along = rows_same v [] us r z.1.0.1 }
  beside_alias h us e r (regions {b = b} p q k) = absurd (no_region (alias_label h) (node (label.List list.Args) us) empty b e q)
  beside_alias h us e r (constructors {i = i} {us = xs} rs) = absurd (clash_alias h (label.Ty (ty.Ctor i)) us (arguments xs) refl (sym e))
  beside_alias h us e r (functions {sorts = ss} {us = xs} rs) = absurd (clash_alias h (label.Ty ty.FnPtr) us (more (node (label.List list.Sorts) ss) (arguments xs)) refl (sym e))
  beside_alias h us e r (values {b = b} {u = u} x) = absurd (clash_alias h (label.Const (konst.Value b)) us (more u empty) refl (sym e))
  beside_alias h us e r (open_aliases {v = v} {ts = ts} {us = xs} k p q rs) =
      let same : alias_label k ≡ alias_label h = cc in
      let inner : xs ≡ us = cc in
      record { parts = ts; is = ap (λ l. node l (arguments ts)) same; along = subst (λ z. AreAlong J v [] ts z) inner rs }
  beside_alias h us e r (aliases is _ _ p) = absurd p
  beside_alias h us e r (subtypes x n p q _ _ z) = absurd z

  -- beside a region stands a region, beside another node without children the same one
  pub beside_region : {v : Variance} {s y : Tree} → IsRegion y → Along J v s y → IsRegion s × J.holds (region_constraint v s y)
  beside_region r (one_tree {v = v} {t = t} x) = (r, law.trivial v t)
  beside_region r (regions p q h) = (p, h)
  beside_region r (constructors {i = i} {us = us} rs) = absurd (no_region (label.Ty (ty.Ctor i)) (node (label.List list.Args) us) empty (constructor i us) refl r)
  beside_region r (functions {sorts = ss} {us = us} rs) = absurd (no_region (label.Ty ty.FnPtr) (node (label.List list.Sorts) ss) (arguments us) (function ss us) refl r)
  beside_region r (values {b = b} {u = u} x) = absurd (no_region (label.Const (konst.Value b)) u empty (value b u) refl r)
  beside_region r (open_aliases {us = us} h p q rs) = absurd (no_region (alias_label h) (node (label.List list.Args) us) empty (alias h us) refl r)
  beside_region r (aliases is _ _ p) = absurd p
  beside_region r (subtypes x n p q _ _ z) = absurd z

  pub beside_leaf : {v : Variance} {s y : Tree} (l : Label) → y ≡ node l empty → (IsRegion y → ⊥) → Along J v s y → s ≡ y
  beside_leaf l e none (one_tree x) = refl
  beside_leaf l e none (regions p q h) = absurd (none q)
  beside_leaf l e none (constructors rs) = cc
  beside_leaf l e none (functions rs) = cc
  beside_leaf l e none (values x) = cc
  beside_leaf l e none (open_aliases h p q rs) = cc
  beside_leaf l e none (aliases is _ _ p) = absurd p
  beside_leaf l e none (subtypes x n p q _ _ z) = absurd z

  -- beside no row stands none
  pub along_empty : {v : Variance} {ws : List Variance} {ts us : Tree} → us ≡ empty → AreAlong J v ws ts us → ts ≡ empty
  along_empty e no_more = refl
  along_empty e (and_more r rs) = cc

  pub record BesideMore (v : Variance) (ws : List Variance) (a b s : Tree) : Type 0 where
    pub first : Tree
    pub rest : Tree
    pub is : s ≡ more first rest
    pub along : Along J (times v (first_variance ws)) first a
    pub along_rest : AreAlong J v (rest_variances ws) rest b

  pub beside_more : {v : Variance} {ws : List Variance} {s y : Tree} (a b : Tree) → y ≡ more a b → AreAlong J v ws s y → BesideMore v ws a b s
  beside_more a b e no_more = cc
  beside_more a b e (and_more {v = v} {ws = ws} {a = f} {b = g} {ts = ts} {us = us} r rs) =
      let i : g ≡ a = cc in
      let j : us ≡ b = cc in
      record { first = f; rest = ts; is = refl; along = subst (λ z. Along J (times v (first_variance ws)) f z) i r; along_rest = subst (λ z. AreAlong J v (rest_variances ws) ts z) j rs }

  -- the arguments of aliases are invariant
  pub along_arguments : {v : Variance} {ws : List Variance} {ts us : Tree} → ws ≡ [] → AreAlong J v ws ts us → ts ≡ us
  along_arguments e no_more = refl
  along_arguments e (and_more {v = v} {ws = ws} r rs) =
      let invariant : times v (first_variance ws) ≡ variance.Invariant = ap (λ x. times v (first_variance x)) e ∙ times_invariant v in
      let first = along_one invariant r in
      let rest = along_arguments (ap rest_variances e) rs in
      cc (first, rest)

  -- consts: the variance does not count
  const_kind : (a : Tree) (s t : Sort) → kind_of a ≡ Some (of_sort s) → kind_of a ≡ Some (of_sort t) → s ≡ t
  const_kind a s t p q = let e = sym p ∙ q in cc

  pub along_const : {v : Variance} {a b : Tree} → kind_of a ≡ Some (of_sort sort.Const) → Along J v a b → a ≡ b
  along_const e (one_tree s) = refl
  along_const e (regions {a = a} i j h) = let q = const_kind a sort.Region sort.Const (region_kind a i) e in cc
  along_const e (constructors rs) = cc
  along_const e (functions rs) = cc
  along_const e (values {b = b} r) = ap (value b) (along_one refl r)
  along_const e (open_aliases h i j rs) = ap (alias h) (along_arguments refl rs)
  along_const e (aliases is _ _ p) = absurd p
  along_const e (subtypes x n i j _ _ p) = absurd p

  -- each region in the tree is related with itself alone
  abbrev pub RegionsAlone : Tree → Type 0
  RegionsAlone empty = Unit {0}
  RegionsAlone (more a b) = RegionsAlone a × RegionsAlone b
  RegionsAlone (node l c) = (IsRegion (node l c) → (v : Variance) (a : Tree) → J.holds (region_constraint v a (node l c)) → a ≡ node l c) × RegionsAlone c

  region_alone : (v : Variance) (a b : Tree) → RegionsAlone b → IsRegion b → J.holds (region_constraint v a b) → a ≡ b
  region_alone v a empty h i x = let q = i.1 in cc
  region_alone v a (more b c) h i x = let q = i.1 in cc
  region_alone v a (node l c) h i x = h.0 i v a x

  -- beside such a tree stands itself alone, by any variance
  mutual
    pub along_alone : {v : Variance} {a b : Tree} → RegionsAlone b → Along J v a b → a ≡ b
    along_alone h (one_tree s) = refl
    along_alone h (regions {v = v} {a = a} {b = b} i j x) = region_alone v a b h j x
    along_alone h (constructors {i = i} rs) = ap (constructor i) (along_rows_alone h.1.0.1 rs)
    along_alone h (functions {sorts = ss} rs) = ap (function ss) (along_rows_alone h.1.1.0.1 rs)
    along_alone h (values {b = b} r) = ap (value b) (along_one refl r)
    along_alone h (open_aliases k i j rs) = ap (alias k) (along_arguments refl rs)
    along_alone h (aliases is _ _ p) = absurd p
    along_alone h (subtypes x n i j _ _ p) = absurd p

    along_rows_alone : {v : Variance} {ws : List Variance} {ts us : Tree} → RegionsAlone us → AreAlong J v ws ts us → ts ≡ us
    along_rows_alone h no_more = refl
    along_rows_alone h (and_more r rs) = let first = along_alone h.0 r in let rest = along_rows_alone h.1 rs in cc (first, rest)

  -- numbers: beside an integer or a float type, or a variable of one, stands the same
  no_number : (h : AliasHead) → (is_integer (alias_label h) || is_float (alias_label h)) ≡ true → ⊥
  no_number (alias_of.Ty i) e = cc
  no_number (alias_of.Const i) e = cc

  number_kind : (l : Label) (c : Tree) → (is_integer l || is_float l) ≡ true → kind_of (node l c) ≡ Some (of_sort sort.Ty)
  number_kind (label.Ty h) c e = refl
  number_kind (label.Leaf (leaf.Variable kind.Int n)) c e = refl
  number_kind (label.Leaf (leaf.Variable kind.Float n)) c e = refl
  number_kind l c e = cc

  pub beside_number : {v : Variance} {s y : Tree} (l : Label) (c : Tree) → y ≡ node l c → (is_integer l || is_float l) ≡ true → Along J v s y → s ≡ y
  beside_number l c e n (one_tree x) = refl
  beside_number l c e n (regions {b = b} p q h) = let k = const_kind b sort.Region sort.Ty (region_kind b q) (ap kind_of e ∙ number_kind l c n) in cc
  beside_number l c e n (constructors {i = i} rs) = let same : label.Ty (ty.Ctor i) ≡ l = cc in let k : (is_integer (label.Ty (ty.Ctor i)) || is_float (label.Ty (ty.Ctor i))) ≡ true = ap (λ x. is_integer x || is_float x) same ∙ n in cc
  beside_number l c e n (functions rs) = let same : label.Ty ty.FnPtr ≡ l = cc in let k : (is_integer (label.Ty ty.FnPtr) || is_float (label.Ty ty.FnPtr)) ≡ true = ap (λ x. is_integer x || is_float x) same ∙ n in cc
  beside_number l c e n (values {b = b} x) = let same : label.Const (konst.Value b) ≡ l = cc in let k : (is_integer (label.Const (konst.Value b)) || is_float (label.Const (konst.Value b))) ≡ true = ap (λ x. is_integer x || is_float x) same ∙ n in cc
  beside_number l c e n (open_aliases h p q rs) = let same : alias_label h ≡ l = cc in absurd (no_number h (ap (λ x. is_integer x || is_float x) same ∙ n))
  beside_number l c e n (aliases is _ _ p) = absurd p
  beside_number l c e n (subtypes x m p q _ _ z) = absurd z
