-- The rows of relating, for trees that normalize to settled ones: what two related nodes say of their children.
use Rattle.std.proofs.Common.{◌≡◌, ◌⊎◌, inl, inr, ⊎_elim, ℕ, ◌+◌, Bool, true, false, List, [], refl, sym, ap, ◌∙◌, subst}
use Rattle.std.specs.Prelude.{◌||◌}
use Rattle.nts_model.specs.declared.labels.Variance.{Variance}
use Rattle.nts_model.specs.declared.labels.Variance.TheVariants as variance
use Rattle.nts_model.specs.declared.labels.TyHead.TheVariants as ty
use Rattle.nts_model.specs.declared.labels.ConstHead.TheVariants as konst
use Rattle.nts_model.specs.declared.labels.ListHead.TheVariants as list
use Rattle.nts_model.specs.declared.labels.AliasHead.{AliasHead}
use Rattle.nts_model.specs.declared.labels.AliasHead.TheVariants as alias_of
use Rattle.nts_model.specs.declared.labels.Label.{Label}
use Rattle.nts_model.specs.declared.labels.Label.TheVariants as label
use Rattle.nts_model.specs.Terms.Trees.{Tree, empty, more, node, kind_of, any_label, is_alias, IsRow, row_length, IsClosedUnder, IsClosed}
use Rattle.nts_model.specs.Terms.Regions.{IsRegion}
use Rattle.nts_model.specs.Derivations.Related.{region_constraint, times, first_variance, rest_variances, constructor, function, function_variances, value, alias_label, alias, IsAlias, arguments, one_tree, regions, constructors, functions, values, open_aliases, no_more, and_more}
use Rattle.nts_model.specs.Derivations.Rules.{chosen, kept_empty, kept_more, kept_node}
use Rattle.nts_variance_model.specs.Variances.Judging.{Judging, IsSettled, IsValueOf, Normalizes, Along, AreAlong, Settles, AllSettle, IsLawfulJudging, opposite}
use Rattle.nts_model.proofs.Terms.Closed.{closed_or_not}
use Rattle.nts_model.proofs.Tables.AliasLabels.{not_alias, row_no_alias, empty_no_alias, region_tree_of}
use Rattle.nts_variance_model.proofs.Variances.Settling.{replaced_closed, normalizes_itself, normalizes_kind, empty_back_at, more_back_at}
use Rattle.nts_variance_model.proofs.Variances.Alongside.{along_one, along_alone, RegionsAlone, along_kind, along_closed, along_turned, rows_row, variances_of_length, beside_constructor, beside_function, beside_value, beside_alias, beside_region, beside_more}
use Rattle.nts_model.proofs.Terms.Unpositioned.{or_false as both_false}

-- whether a tree is an alias
args_or_not : (c : Tree) → ((p : Tree) × (c ≡ arguments p)) ⊎ ((p : Tree) → c ≡ arguments p → ⊥)
args_or_not empty = inr (λ p e. cc)
args_or_not (node l c) = inr (λ p e. cc)
args_or_not (more (node (label.List list.Args) p) empty) = inl (p, refl)
args_or_not (more (node (label.List list.Args) p) (more a b)) = inr (λ q e. cc)
args_or_not (more (node (label.List list.Args) p) (node l c)) = inr (λ q e. cc)
args_or_not (more (node (label.List list.Env) p) b) = inr (λ q e. cc)
args_or_not (more (node (label.List list.Sorts) p) b) = inr (λ q e. cc)
args_or_not (more (node (label.List (list.Sort s)) p) b) = inr (λ q e. cc)
args_or_not (more (node (label.List list.Binder) p) b) = inr (λ q e. cc)
args_or_not (more (node (label.Leaf x) p) b) = inr (λ q e. cc)
args_or_not (more (node (label.Bound s i n) p) b) = inr (λ q e. cc)
args_or_not (more (node (label.Ty x) p) b) = inr (λ q e. cc)
args_or_not (more (node (label.Const x) p) b) = inr (λ q e. cc)
args_or_not (more (node (label.Clause x) p) b) = inr (λ q e. cc)
args_or_not (more (node (label.Predicate x) p) b) = inr (λ q e. cc)
args_or_not (more empty b) = inr (λ q e. cc)
args_or_not (more (more a c) b) = inr (λ q e. cc)

head_or_not : (h : AliasHead) (c : Tree) → IsAlias (node (alias_label h) c) ⊎ (IsAlias (node (alias_label h) c) → ⊥)
head_or_not h c = ⊎_elim
    (λ a. ⊎_elim
    (λ k. inl (record { head = h; parts = a.0; is = ap (node (alias_label h)) a.1; closed = k }))
    (λ escapes. inr (λ x. escapes x.closed)) (closed_or_not 0 (node (alias_label h) c)))
    (λ none. inr (λ x. let e = x.is in let inner : c ≡ arguments x.parts = cc in none x.parts inner)) (args_or_not c)

pub alias_or_none : (t : Tree) → IsAlias t ⊎ (IsAlias t → ⊥)
alias_or_none empty = inr empty_no_alias
alias_or_none (more a b) = inr (row_no_alias a b)
alias_or_none (node (label.Ty (ty.Alias i)) c) = head_or_not (alias_of.Ty i) c
alias_or_none (node (label.Const (konst.Unevaluated i)) c) = head_or_not (alias_of.Const i) c
alias_or_none (node (label.Ty (ty.Ctor i)) c) = inr (not_alias (label.Ty (ty.Ctor i)) c refl)
alias_or_none (node (label.Ty (ty.Int i)) c) = inr (not_alias (label.Ty (ty.Int i)) c refl)
alias_or_none (node (label.Ty (ty.Uint i)) c) = inr (not_alias (label.Ty (ty.Uint i)) c refl)
alias_or_none (node (label.Ty (ty.Float i)) c) = inr (not_alias (label.Ty (ty.Float i)) c refl)
alias_or_none (node (label.Ty ty.FnPtr) c) = inr (not_alias (label.Ty ty.FnPtr) c refl)
alias_or_none (node (label.Ty ty.Error) c) = inr (not_alias (label.Ty ty.Error) c refl)
alias_or_none (node (label.Const (konst.Value b)) c) = inr (not_alias (label.Const (konst.Value b)) c refl)
alias_or_none (node (label.Const konst.Error) c) = inr (not_alias (label.Const konst.Error) c refl)
alias_or_none (node (label.Leaf x) c) = inr (not_alias (label.Leaf x) c refl)
alias_or_none (node (label.Bound s i n) c) = inr (not_alias (label.Bound s i n) c refl)
alias_or_none (node (label.Clause x) c) = inr (not_alias (label.Clause x) c refl)
alias_or_none (node (label.Predicate x) c) = inr (not_alias (label.Predicate x) c refl)
alias_or_none (node (label.List x) c) = inr (not_alias (label.List x) c refl)

module _ (J : Judging) (law : IsLawfulJudging J) where
  -- a settled tree normalizes to itself
  pub settled_normalizes : (t : Tree) → IsSettled J t → Normalizes J t t
  settled_normalizes empty s = kept_empty
  settled_normalizes (more a b) s = kept_more (settled_normalizes a s.0) (settled_normalizes b s.1)
  settled_normalizes (node l c) s = ⊎_elim
      (λ i. chosen i i.closed (s, inl refl))
      (λ none. kept_node none (settled_normalizes c s.1)) (alias_or_none (node l c))

  -- what a node that is no alias, and a list, normalize to
  pub record NodeForward (l : Label) (c u : Tree) : Type 0 where
    pub parts : Tree
    pub is : u ≡ node l parts
    pub normalizes : Normalizes J c parts

  node_forward_at : (l : Label) (c t u : Tree) → t ≡ node l c → (IsAlias t → ⊥) → Normalizes J t u → NodeForward l c u
  node_forward_at l c t u e none (chosen is closed x) = absurd (none is)
  node_forward_at l c t u e none kept_empty = cc
  node_forward_at l c t u e none (kept_more p q) = cc
  node_forward_at l c t u e none (kept_node {l = m} {c = x} {d = y} no_alias p) =
      let same : m ≡ l = cc in
      let inner : x ≡ c = cc in
      record { parts = y; is = ap (λ z. node z y) same; normalizes = subst (λ z. Normalizes J z y) inner p }

  pub node_forward : (l : Label) (c u : Tree) → (IsAlias (node l c) → ⊥) → Normalizes J (node l c) u → NodeForward l c u
  node_forward l c u none p = node_forward_at l c (node l c) u refl none p

  pub record MoreForward (a b u : Tree) : Type 0 where
    pub first : Tree
    pub rest : Tree
    pub is : u ≡ more first rest
    pub of_first : Normalizes J a first
    pub of_rest : Normalizes J b rest

  more_forward_at : (a b t u : Tree) → t ≡ more a b → Normalizes J t u → MoreForward a b u
  more_forward_at a b t u e (chosen is closed x) = absurd (row_no_alias a b (subst IsAlias e is))
  more_forward_at a b t u e kept_empty = cc
  more_forward_at a b t u e (kept_more {a = x} {b = y} {s = f} {t = g} p q) =
      let i : x ≡ a = cc in
      let j : f ≡ b = cc in
      record { first = y; rest = g; is = refl; of_first = subst (λ z. Normalizes J z y) i p; of_rest = subst (λ z. Normalizes J z g) j q }
  more_forward_at a b t u e (kept_node none p) = cc

  pub more_forward : (a b u : Tree) → Normalizes J (more a b) u → MoreForward a b u
  more_forward a b u p = more_forward_at a b (more a b) u refl p

  empty_forward_at : (t u : Tree) → t ≡ empty → Normalizes J t u → u ≡ empty
  empty_forward_at t u e (chosen is closed x) = absurd (empty_no_alias (subst IsAlias e is))
  empty_forward_at t u e kept_empty = refl
  empty_forward_at t u e (kept_more p q) = cc
  empty_forward_at t u e (kept_node none p) = cc

  pub empty_forward : (u : Tree) → Normalizes J empty u → u ≡ empty
  empty_forward u p = empty_forward_at empty u refl p

  pub record ArgumentsForward (ts u : Tree) : Type 0 where
    pub parts : Tree
    pub is : u ≡ arguments parts
    pub normalizes : Normalizes J ts parts

  pub arguments_forward : (ts u : Tree) → Normalizes J (arguments ts) u → ArgumentsForward ts u
  arguments_forward ts u p =
      let m = more_forward (node (label.List list.Args) ts) empty u p in
      let n = node_forward (label.List list.Args) ts m.first (not_alias (label.List list.Args) ts refl) m.of_first in
      let e = empty_forward m.rest m.of_rest in
      record { parts = n.parts; is = (let i = m.is in let j = n.is in cc); normalizes = n.normalizes }

  -- .. and back
  pub normalizes_arguments : (ts us : Tree) → Normalizes J ts us → Normalizes J (arguments ts) (arguments us)
  normalizes_arguments ts us p = kept_more (kept_node (not_alias (label.List list.Args) ts refl) p) kept_empty

  pub row_forward : (ts us : Tree) → IsRow ts → Normalizes J ts us → IsRow us × (row_length us ≡ row_length ts)
  row_forward empty us r p = let e = empty_forward us p in subst (λ z. IsRow z × (row_length z ≡ 0)) (sym e) (tt, refl)
  row_forward (more a b) us r p =
      let m = more_forward a b us p in
      let below = row_forward b m.rest r m.of_rest in
      subst (λ z. IsRow z × (row_length z ≡ row_length b + 1)) (sym m.is) (below.0, ap (λ n. n + 1) below.1)
  row_forward (node l c) us r p = absurd r

  -- the turned pair
  pub settles_turned : (v : Variance) (a b : Tree) → Settles J v a b → Settles J (opposite v) b a
  settles_turned v a b s = record { left = s.right; right = s.left; of_left = s.of_right; of_right = s.of_left; along = along_turned J law s.along }

  -- a settled tree with another
  pub record Beside (v : Variance) (s y : Tree) : Type 0 where
    pub to : Tree
    pub normalizes : Normalizes J y to
    pub along : Along J v s to

  pub settled_beside : (v : Variance) (s y : Tree) → IsSettled J s → Settles J v s y → Beside v s y
  settled_beside v s y h x = record { to = x.right; normalizes = x.of_right; along = subst (λ z. Along J v z x.right) (normalizes_itself J law s x.left h x.of_left) x.along }

  -- S1: settled trees are related without premises, and invariantly they are one
  pub settled_along : (v : Variance) (a b : Tree) → IsSettled J a → IsSettled J b → Settles J v a b → Along J v a b
  settled_along v a b s t x = let y = settled_beside v a b s x in subst (Along J v a) (normalizes_itself J law b y.to t y.normalizes) y.along

  pub settled_one : (a b : Tree) → IsSettled J a → IsSettled J b → Settles J variance.Invariant a b → a ≡ b
  settled_one a b s t x = along_one J law refl (settled_along variance.Invariant a b s t x)

  -- where each region is related with itself alone, they are one by any variance
  pub settled_alone : (v : Variance) (a b : Tree) → RegionsAlone J law b → IsSettled J a → IsSettled J b → Settles J v a b → a ≡ b
  settled_alone v a b h s t x = along_alone J law h (settled_along v a b s t x)

  pub settles_itself : (v : Variance) (a : Tree) → IsSettled J a → Settles J v a a
  settles_itself v a s = record { left = a; right = a; of_left = settled_normalizes a s; of_right = settled_normalizes a s; along = one_tree s }

  -- related trees are of one kind, and closed below the same binders
  pub settles_kind : (v : Variance) (a b : Tree) → Settles J v a b → kind_of a ≡ kind_of b
  settles_kind v a b s = sym (normalizes_kind J law a s.left s.of_left) ∙ along_kind J law s.along ∙ normalizes_kind J law b s.right s.of_right

  pub settles_closed : (v : Variance) (a b : Tree) → Settles J v a b → (c : ℕ) → (IsClosedUnder c a → IsClosedUnder c b) × (IsClosedUnder c b → IsClosedUnder c a)
  settles_closed v a b s c =
      let x = replaced_closed (IsValueOf J) a s.left s.of_left c in
      let y = along_closed J law s.along c in
      let z = replaced_closed (IsValueOf J) b s.right s.of_right c in
      ((λ h. z.1 (y.0 (x.0 h))), (λ h. x.1 (y.1 (z.0 h))))

  -- rows of arguments
  pub row_settles : (v : Variance) (ws : List Variance) (a b ts us : Tree) → AllSettle J v ws (more a ts) (more b us) → Settles J (times v (first_variance ws)) a b × AllSettle J v (rest_variances ws) ts us
  row_settles v ws a b ts us s =
      let l = more_forward a ts s.left s.of_left in
      let r = more_forward b us s.right s.of_right in
      let al : AreAlong J v ws (more l.first l.rest) (more r.first r.rest) = subst (λ z. AreAlong J v ws z (more r.first r.rest)) l.is (subst (AreAlong J v ws s.left) r.is s.along) in
      let parts = split al refl refl in (
        record { left = l.first; right = r.first; of_left = l.of_first; of_right = r.of_first; along = parts.0 },
        record { left = l.rest; right = r.rest; of_left = l.of_rest; of_right = r.of_rest; along = parts.1 },
      )
    where
      split : {v : Variance} {ws : List Variance} {x y a b ts us : Tree} → AreAlong J v ws x y → x ≡ more a ts → y ≡ more b us → Along J (times v (first_variance ws)) a b × AreAlong J v (rest_variances ws) ts us
      split no_more p q = cc
      split {a = a} {b = b} {ts = ts} {us = us} (and_more {v = v} {ws = ws} {a = e} {b = f} {ts = g} {us = h} r rs) p q =
          let i : e ≡ a = cc in
          let j : f ≡ b = cc in
          let k : g ≡ ts = cc in
          let m : h ≡ us = cc in (
            subst (λ z. Along J (times v (first_variance ws)) z b) i (subst (Along J (times v (first_variance ws)) e) j r),
            subst (λ z. AreAlong J v (rest_variances ws) z us) k (subst (AreAlong J v (rest_variances ws) g) m rs),
          )

  pub settle_row : (v : Variance) (ws : List Variance) (a b ts us : Tree) → Settles J (times v (first_variance ws)) a b → AllSettle J v (rest_variances ws) ts us → AllSettle J v ws (more a ts) (more b us)
  settle_row v ws a b ts us s t =
      record { left = more s.left t.left; right = more s.right t.right; of_left = kept_more s.of_left t.of_left; of_right = kept_more s.of_right t.of_right; along = and_more s.along t.along }

  pub settle_no_row : (v : Variance) (ws : List Variance) → AllSettle J v ws empty empty
  settle_no_row v ws = record { left = empty; right = empty; of_left = kept_empty; of_right = kept_empty; along = no_more }

  -- constructors by their variances
  no_constructor : (i : ℕ) (ts : Tree) → IsAlias (constructor i ts) → ⊥
  no_constructor i ts = not_alias (label.Ty (ty.Ctor i)) (arguments ts) refl

  pub record ConstructorForward (i : ℕ) (ts u : Tree) : Type 0 where
    pub parts : Tree
    pub is : u ≡ constructor i parts
    pub normalizes : Normalizes J ts parts

  pub constructor_forward : (i : ℕ) (ts u : Tree) → Normalizes J (constructor i ts) u → ConstructorForward i ts u
  constructor_forward i ts u p =
      let n = node_forward (label.Ty (ty.Ctor i)) (arguments ts) u (no_constructor i ts) p in
      let a = arguments_forward ts n.parts n.normalizes in
      record { parts = a.parts; is = n.is ∙ ap (node (label.Ty (ty.Ctor i))) a.is; normalizes = a.normalizes }

  pub constructors_settle : (v : Variance) (i : ℕ) (ts us : Tree) → IsRow us → Settles J v (constructor i ts) (constructor i us) → AllSettle J v (J.declared i) ts us
  constructors_settle v i ts us r s =
      let x = constructor_forward i ts s.left s.of_left in
      let y = constructor_forward i us s.right s.of_right in
      let b = beside_constructor J law i y.parts y.is (let q = row_forward us y.parts r y.normalizes in q.0) s.along in
      let e = x.is in
      let f = b.is in
      let same : b.parts ≡ x.parts = cc in
      record { left = x.parts; right = y.parts; of_left = x.normalizes; of_right = y.normalizes; along = subst (λ z. AreAlong J v (J.declared i) z y.parts) same b.along }

  pub settle_constructors : (v : Variance) (i : ℕ) (ts us : Tree) → AllSettle J v (J.declared i) ts us → Settles J v (constructor i ts) (constructor i us)
  settle_constructors v i ts us s =
      record {
        left = constructor i s.left;
        right = constructor i s.right;
        of_left = kept_node (no_constructor i ts) (normalizes_arguments ts s.left s.of_left);
        of_right = kept_node (no_constructor i us) (normalizes_arguments us s.right s.of_right);
        along = constructors s.along;
      }

  -- a settled tree with a constructor is that constructor
  pub record ConstructorBeside (v : Variance) (i : ℕ) (us s : Tree) : Type 0 where
    pub parts : Tree
    pub is : s ≡ constructor i parts
    pub settle : AllSettle J v (J.declared i) parts us
    pub row : IsRow parts

  pub constructor_beside : (v : Variance) (i : ℕ) (us s : Tree) → IsRow us → IsSettled J s → Settles J v s (constructor i us) → ConstructorBeside v i us s
  constructor_beside v i us s r h x =
      let b = settled_beside v s (constructor i us) h x in
      let y = constructor_forward i us b.to b.normalizes in
      let z = beside_constructor J law i y.parts y.is (let q = row_forward us y.parts r y.normalizes in q.0) b.along in
      let e : IsSettled J (constructor i z.parts) = subst (IsSettled J) z.is h in
      let rows = rows_row J law z.along in
      record { parts = z.parts; is = z.is; settle = record { left = z.parts; right = y.parts; of_left = settled_normalizes z.parts e.1.0.1; of_right = y.normalizes; along = z.along }; row = rows.0 }

  pub region_itself : (t : Tree) → IsRegion t → (u : Tree) → Normalizes J t u → u ≡ t
  region_itself t i u p =
      let x = region_tree_of t i in
      let n = node_forward x.label empty u (not_alias x.label empty x.no_alias) (subst (λ z. Normalizes J z u) x.is p) in
      let e = empty_forward n.parts n.normalizes in
      let same : node x.label n.parts ≡ node x.label empty = ap (node x.label) e in
      n.is ∙ same ∙ sym x.is

  -- a settled tree with a region is one
  pub region_beside : (v : Variance) (s t : Tree) → IsRegion t → IsSettled J s → Settles J v s t → IsRegion s
  region_beside v s t r h x =
      let b = settled_beside v s t h x in
      let y = beside_region J law (subst IsRegion (sym (region_itself t r b.to b.normalizes)) r) b.along in
      y.0

  -- two regions
  pub regions_settle : (v : Variance) (a b : Tree) → IsRegion a → IsRegion b → Settles J v a b → J.holds (region_constraint v a b)
  regions_settle v a b p q s =
      let x = region_itself a p s.left s.of_left in
      let y = region_itself b q s.right s.of_right in
      let al : Along J v a b = subst (λ z. Along J v z b) x (subst (Along J v s.left) y s.along) in
      let h = beside_region J law q al in h.1

  pub settle_regions : (v : Variance) (a b : Tree) → IsRegion a → IsRegion b → J.holds (region_constraint v a b) → Settles J v a b
  settle_regions v a b p q h =
      record { left = a; right = b; of_left = region_normalizes a p; of_right = region_normalizes b q; along = regions p q h }
    where
      region_normalizes : (t : Tree) → IsRegion t → Normalizes J t t
      region_normalizes t i =
          let x = region_tree_of t i in
          subst (λ z. Normalizes J z z) (sym x.is) (kept_node (not_alias x.label empty x.no_alias) kept_empty)

  -- a settled row with a row
  pub record MoreBeside (v : Variance) (ws : List Variance) (a b s : Tree) : Type 0 where
    pub first : Tree
    pub rest : Tree
    pub is : s ≡ more first rest
    pub settle : Settles J (times v (first_variance ws)) first a
    pub settle_rest : AllSettle J v (rest_variances ws) rest b

  pub more_beside : (v : Variance) (ws : List Variance) (s a b : Tree) → IsSettled J s → AllSettle J v ws s (more a b) → MoreBeside v ws a b s
  more_beside v ws s a b h x =
      let r = more_forward a b x.right x.of_right in
      let l = normalizes_itself J law s x.left h x.of_left in
      let m = beside_more J law r.first r.rest r.is (subst (λ z. AreAlong J v ws z x.right) l x.along) in
      let k : IsSettled J (more m.first m.rest) = subst (IsSettled J) m.is h in
      record {
        first = m.first;
        rest = m.rest;
        is = m.is;
        settle = record { left = m.first; right = r.first; of_left = settled_normalizes m.first k.0; of_right = r.of_first; along = m.along };
        settle_rest = record { left = m.rest; right = r.rest; of_left = settled_normalizes m.rest k.1; of_right = r.of_rest; along = m.along_rest };
      }

  -- function pointers of one list of sorts
  no_function : (ss ts : Tree) → IsAlias (function ss ts) → ⊥
  no_function ss ts = not_alias (label.Ty ty.FnPtr) (more (node (label.List list.Sorts) ss) (arguments ts)) refl

  pub record FunctionForward (ss ts u : Tree) : Type 0 where
    pub parts : Tree
    pub is : u ≡ function ss parts
    pub normalizes : Normalizes J ts parts

  pub function_forward : (ss ts u : Tree) → IsSettled J ss → Normalizes J (function ss ts) u → FunctionForward ss ts u
  function_forward ss ts u h p =
      let n = node_forward (label.Ty ty.FnPtr) (more (node (label.List list.Sorts) ss) (arguments ts)) u (no_function ss ts) p in
      let m = more_forward (node (label.List list.Sorts) ss) (arguments ts) n.parts n.normalizes in
      let l = node_forward (label.List list.Sorts) ss m.first (not_alias (label.List list.Sorts) ss refl) m.of_first in
      let a = arguments_forward ts m.rest m.of_rest in
      let sorts : l.parts ≡ ss = normalizes_itself J law ss l.parts h l.normalizes in
      let i = n.is in
      let j = m.is in
      let k = l.is in
      let o = a.is in
      record { parts = a.parts; is = cc; normalizes = a.normalizes }

  function_normalizes : (ss ts us : Tree) → IsSettled J ss → Normalizes J ts us → Normalizes J (function ss ts) (function ss us)
  function_normalizes ss ts us h p =
      kept_node (no_function ss ts) (kept_more (kept_node (not_alias (label.List list.Sorts) ss refl) (settled_normalizes ss h)) (normalizes_arguments ts us p))

  pub settle_functions : (v : Variance) (ss ts us : Tree) → IsSettled J ss → IsRow ts → AllSettle J v (function_variances ts) ts us → Settles J v (function ss ts) (function ss us)
  settle_functions v ss ts us h r s =
      let long = row_forward ts s.left r s.of_left in
      let same : function_variances ts ≡ function_variances s.left = variances_of_length J law ts s.left r long.0 (sym long.1) in
      record {
        left = function ss s.left;
        right = function ss s.right;
        of_left = function_normalizes ss ts s.left h s.of_left;
        of_right = function_normalizes ss us s.right h s.of_right;
        along = functions (subst (λ ws. AreAlong J v ws s.left s.right) same s.along);
      }

  pub record FunctionBeside (v : Variance) (ss us s : Tree) : Type 0 where
    pub parts : Tree
    pub is : s ≡ function ss parts
    pub settle : AllSettle J v (function_variances us) parts us
    pub row : IsRow parts

  pub function_beside : (v : Variance) (ss us s : Tree) → IsSettled J ss → IsRow us → IsSettled J s → Settles J v s (function ss us) → FunctionBeside v ss us s
  function_beside v ss us s sorts r h x =
      let b = settled_beside v s (function ss us) h x in
      let y = function_forward ss us b.to sorts b.normalizes in
      let long = row_forward us y.parts r y.normalizes in
      let z = beside_function J law ss y.parts y.is long.0 b.along in
      let e : IsSettled J (function ss z.parts) = subst (IsSettled J) z.is h in
      let rows = rows_row J law z.along in
      let same : function_variances y.parts ≡ function_variances us = variances_of_length J law y.parts us long.0 r long.1 in
      record { parts = z.parts; is = z.is; settle = record { left = z.parts; right = y.parts; of_left = settled_normalizes z.parts e.1.1.0.1; of_right = y.normalizes; along = subst (λ ws. AreAlong J v ws z.parts y.parts) same z.along }; row = rows.0 }

  -- const values of equal bits: their types, invariantly
  no_value : (b : ℕ) (t : Tree) → IsAlias (value b t) → ⊥
  no_value b t = not_alias (label.Const (konst.Value b)) (more t empty) refl

  pub settle_values : (v : Variance) (b : ℕ) (t u : Tree) → Settles J variance.Invariant t u → Settles J v (value b t) (value b u)
  settle_values v b t u s =
      record {
        left = value b s.left;
        right = value b s.right;
        of_left = kept_node (no_value b t) (kept_more s.of_left kept_empty);
        of_right = kept_node (no_value b u) (kept_more s.of_right kept_empty);
        along = values s.along;
      }

  record ValueForward (b : ℕ) (t u : Tree) : Type 0 where
    parts : Tree
    is : u ≡ value b parts
    normalizes : Normalizes J t parts

  pub record ValueBeside (b : ℕ) (u s : Tree) : Type 0 where
    pub part : Tree
    pub is : s ≡ value b part
    pub settle : Settles J variance.Invariant part u

  pub value_beside : (v : Variance) (b : ℕ) (u s : Tree) → IsSettled J s → Settles J v s (value b u) → ValueBeside b u s
  value_beside v b u s h x =
      let y = settled_beside v s (value b u) h x in
      let n = node_forward (label.Const (konst.Value b)) (more u empty) y.to (no_value b u) y.normalizes in
      let m = more_forward u empty n.parts n.normalizes in
      let e = empty_forward m.rest m.of_rest in
      let i = n.is in
      let j = m.is in
      let is : y.to ≡ value b m.first = cc in
      let z = beside_value J law b m.first is y.along in
      let k : IsSettled J (value b z.part) = subst (IsSettled J) z.is h in
      record { part = z.part; is = z.is; settle = record { left = z.part; right = m.first; of_left = settled_normalizes z.part k.1.0; of_right = m.of_first; along = z.along } }

  -- aliases with escaping bound variables, of one head
  no_closed : (h : AliasHead) (ts : Tree) → (IsClosed (alias h ts) → ⊥) → IsAlias (alias h ts) → ⊥
  no_closed h ts escapes x = escapes x.closed

  pub settle_open : (v : Variance) (h : AliasHead) (ts us : Tree) → (IsClosed (alias h ts) → ⊥) → (IsClosed (alias h us) → ⊥) → AllSettle J v [] ts us → Settles J v (alias h ts) (alias h us)
  settle_open v h ts us i j s =
      let l = kept_node (no_closed h ts i) (normalizes_arguments ts s.left s.of_left) in
      let r = kept_node (no_closed h us j) (normalizes_arguments us s.right s.of_right) in
      let cl = replaced_closed (IsValueOf J) (alias h ts) (alias h s.left) l 0 in
      let cr = replaced_closed (IsValueOf J) (alias h us) (alias h s.right) r 0 in
      record { left = alias h s.left; right = alias h s.right; of_left = l; of_right = r; along = open_aliases h (λ x. i (cl.1 x)) (λ x. j (cr.1 x)) s.along }

  pub record OpenBeside (v : Variance) (h : AliasHead) (us s : Tree) : Type 0 where
    pub parts : Tree
    pub is : s ≡ alias h parts
    pub settle : AllSettle J v [] parts us
    pub row : IsRow parts

  pub open_beside : (v : Variance) (h : AliasHead) (us s : Tree) → (IsClosed (alias h us) → ⊥) → IsRow us → IsSettled J s → Settles J v s (alias h us) → OpenBeside v h us s
  open_beside v h us s escapes r t x =
      let b = settled_beside v s (alias h us) t x in
      let n = node_forward (alias_label h) (arguments us) b.to (no_closed h us escapes) b.normalizes in
      let a = arguments_forward us n.parts n.normalizes in
      let is : b.to ≡ alias h a.parts = n.is ∙ ap (node (alias_label h)) a.is in
      let long = row_forward us a.parts r a.normalizes in
      let z = beside_alias J law h a.parts is long.0 b.along in
      let e : IsSettled J (alias h z.parts) = subst (IsSettled J) z.is t in
      let rows = rows_row J law z.along in
      record { parts = z.parts; is = z.is; settle = record { left = z.parts; right = a.parts; of_left = settled_normalizes z.parts e.1.0.1; of_right = a.normalizes; along = z.along }; row = rows.0 }

  -- what an alias normalizes to is its value
  alias_value_at : (a u t : Tree) → t ≡ a → IsAlias a → Normalizes J t u → IsValueOf J a u × IsClosed u
  alias_value_at a u t e i (chosen is closed x) = (subst (λ z. IsValueOf J z u) e x, closed)
  alias_value_at a u t e i kept_empty = absurd (empty_no_alias (subst IsAlias (sym e) i))
  alias_value_at a u t e i (kept_more {a = x} {s = y} p q) = absurd (row_no_alias x y (subst IsAlias (sym e) i))
  alias_value_at a u t e i (kept_node none p) = absurd (none (subst IsAlias (sym e) i))

  pub alias_value : (a u : Tree) → IsAlias a → Normalizes J a u → IsValueOf J a u × IsClosed u
  alias_value a u i p = alias_value_at a u a refl i p

  -- what normalizes to a row is one
  pub row_backward : (ts us : Tree) → IsRow us → Normalizes J ts us → IsRow ts
  row_backward ts empty r p = subst IsRow (sym (empty_back_at J law ts empty p refl)) tt
  row_backward ts (more a b) r p =
      let m = more_back_at J law ts (more a b) a b p refl in
      subst IsRow (sym m.is) (row_backward m.rest b r m.of_rest)
  row_backward ts (node l c) r p = absurd r

  -- function pointers, const values and open aliases: what they say of their children
  pub functions_settle : (v : Variance) (ss ts us : Tree) → IsSettled J ss → IsRow ts → IsRow us → Settles J v (function ss ts) (function ss us) → AllSettle J v (function_variances us) ts us
  functions_settle v ss ts us h q r s =
      let x = function_forward ss ts s.left h s.of_left in
      let y = function_forward ss us s.right h s.of_right in
      let long = row_forward us y.parts r y.normalizes in
      let b = beside_function J law ss y.parts y.is long.0 s.along in
      let e = x.is in
      let f = b.is in
      let same : b.parts ≡ x.parts = cc in
      let ws : function_variances y.parts ≡ function_variances us = variances_of_length J law y.parts us long.0 r long.1 in
      let al : AreAlong J v (function_variances us) b.parts y.parts = subst (λ a. AreAlong J v a b.parts y.parts) ws b.along in
      record { left = x.parts; right = y.parts; of_left = x.normalizes; of_right = y.normalizes; along = subst (λ z. AreAlong J v (function_variances us) z y.parts) same al }

  pub values_settle : (v : Variance) (b : ℕ) (t u : Tree) → Settles J v (value b t) (value b u) → Settles J variance.Invariant t u
  values_settle v b t u s =
      let l = value_forward b t s.left s.of_left in
      let r = value_forward b u s.right s.of_right in
      let z = beside_value J law b r.parts r.is s.along in
      let e = l.is in
      let f = z.is in
      let same : z.part ≡ l.parts = cc in
      record { left = l.parts; right = r.parts; of_left = l.normalizes; of_right = r.normalizes; along = subst (λ q. Along J variance.Invariant q r.parts) same z.along }
    where
      value_forward : (b : ℕ) (t u : Tree) → Normalizes J (value b t) u → ValueForward b t u
      value_forward b t u p =
          let n = node_forward (label.Const (konst.Value b)) (more t empty) u (no_value b t) p in
          let m = more_forward t empty n.parts n.normalizes in
          let e = empty_forward m.rest m.of_rest in
          let i = n.is in
          let j = m.is in
          record { parts = m.first; is = cc; normalizes = m.of_first }

  pub open_settle : (v : Variance) (h : AliasHead) (ts us : Tree) → (IsClosed (alias h ts) → ⊥) → (IsClosed (alias h us) → ⊥) → IsRow us → Settles J v (alias h ts) (alias h us) → AllSettle J v [] ts us
  open_settle v h ts us i j r s =
      let n = node_forward (alias_label h) (arguments ts) s.left (no_closed h ts i) s.of_left in
      let a = arguments_forward ts n.parts n.normalizes in
      let k = node_forward (alias_label h) (arguments us) s.right (no_closed h us j) s.of_right in
      let d = arguments_forward us k.parts k.normalizes in
      let left : s.left ≡ alias h a.parts = n.is ∙ ap (node (alias_label h)) a.is in
      let right : s.right ≡ alias h d.parts = k.is ∙ ap (node (alias_label h)) d.is in
      let long = row_forward us d.parts r d.normalizes in
      let b = beside_alias J law h d.parts right long.0 s.along in
      let same : b.parts ≡ a.parts = alias_parts h b.parts a.parts (sym b.is ∙ left) in
      record { left = a.parts; right = d.parts; of_left = a.normalizes; of_right = d.normalizes; along = subst (λ z. AreAlong J v [] z d.parts) same b.along }
    where
      alias_parts : (h : AliasHead) (xs ys : Tree) → alias h xs ≡ alias h ys → xs ≡ ys
      alias_parts h xs ys e = cc

  -- trees without aliases are settled, so invariantly related ones are one
  pub plain_settled : (t : Tree) → any_label is_alias t ≡ false → IsSettled J t
  plain_settled empty e = tt
  plain_settled (more a b) e = let p = both_false (any_label is_alias a) (any_label is_alias b) e in (plain_settled a p.0, plain_settled b p.1)
  plain_settled (node l c) e = let p = both_false (is_alias l) (any_label is_alias c) e in ((λ i. absurd (not_alias l c p.0 i)), plain_settled c p.1)
