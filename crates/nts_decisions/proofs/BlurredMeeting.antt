-- A candidate is met in a query's table exactly if values meet its equations but for regions.
use Rattle.std.proofs.Common.{◌≡◌, inl, inr, ℕ, ◌<◌, ◌≤◌, true, false, List, [], ◌∷◌, map, Some, refl, sym, ap, subst, ◌∙◌, arith}
use Rattle.std.specs.Prelude.{Bool, ◌⊎◌, if◌then◌else◌}
use Rattle.std.proofs.Math.Dec.{leb}
use Rattle.std.proofs.lemmas.Bool.Decides.{leb_tells}
use Rattle.nts_model.specs.declared.labels.Sort.{Sort}
use Rattle.nts_model.specs.declared.labels.Sort.TheVariants as sort
use Rattle.nts_model.specs.declared.labels.VariableKind.TheVariants as kind
use Rattle.nts_model.specs.declared.labels.FreeRegion.TheVariants as region
use Rattle.nts_model.specs.declared.labels.Constant.{Constant}
use Rattle.nts_model.specs.declared.labels.Constant.TheVariants as constant
use Rattle.nts_model.specs.declared.labels.Leaf.{Leaf}
use Rattle.nts_model.specs.declared.labels.Leaf.TheVariants as leaf
use Rattle.nts_model.specs.declared.labels.BoundVarIndexKind.TheVariants as index
use Rattle.nts_model.specs.declared.labels.Label.{Label}
use Rattle.nts_model.specs.declared.labels.Label.TheVariants as label
use Rattle.nts_model.specs.Terms.Trees.{Tree, empty, more, node, kind_of, of_sort, kind_of_label, is_infer, is_region_infer, any_label}
use Rattle.nts_model.specs.Tables.Contents.{Content}
use Rattle.nts_model.specs.Tables.Resolving.{IsSound}
use Rattle.nts_model.specs.Terms.Placeholders.{constant_level, CanName}
use Rattle.nts_model.specs.Tables.Levels.{term_level, NamesAll}
use Rattle.nts_model.specs.Terms.Regions.{of_free, IsRegion}
use Rattle.nts_model.specs.Terms.Fitting.{Fits}
use Rattle.nts_model.specs.Tables.Solvable.{IsSolvable}
use Rattle.nts_model.specs.Tables.RegionClasses.{reading}
use Rattle.nts_model.specs.Tables.Worlds.{World, inst}
use Rattle.nts_model.specs.Terms.Substitutions.{leaf_tree, put, replace, filled, position_of, value_or}
use Rattle.nts_model.specs.Lists.{Among}
use Rattle.nts_model.specs.Derivations.Rules.{Equation}
use Rattle.nts_model.specs.Derivations.Handlers.{Candidate, kind_of_sort, AreValuesOf}
use Rattle.nts_model.specs.Refutation.Choosing.{left_of, right_of, AreNamedValues, IsCandidateMet}
use Rattle.nts_model.specs.Answers.Responses.{read_in}
use Rattle.nts_decisions.specs.Deciding.{blurred_leaf, blurred, MeetsBlurred}
use Rattle.nts_model.proofs.Terms.Substituting.{kind_of-replace, IsFormed-replace, IsClosed-replace, KeepsKinds}
use Rattle.nts_model.proofs.Terms.Unpositioned.{or_false}
use Rattle.nts_model.proofs.Canonical.Positioned.{get_or-map}
use Rattle.nts_model.proofs.Tables.Solvable.{reading-solves}
use Rattle.nts_decisions.proofs.BlurredWorlds.{blurred_world, solves_blurred, region_is_blurred, blurred_kinds, blurred_leaf_formed, blurred_leaf_closed}
use Rattle.nts_decisions.proofs.DecidedGoals.{IsOfConstants, read_blurred}

-- what a world meets, values meet but for regions
pub met_meets : (c : Content) (x : Candidate) → IsOfConstants x → (m : IsCandidateMet c x) → MeetsBlurred x m.values
met_meets c x k m =
    record {
      values = m.fit;
      equal = λ q i.
          (let n = k.equations q i in
          sym (read_blurred m.world m.values (left_of q) n.0) ∙ ap blurred (m.equal q i) ∙ read_blurred m.world m.values (right_of q) n.1);
    }

-- constants of universes that are not named give place to one parameter
abbrev pub low_constant : (Constant → Leaf) → ℕ → Constant → Leaf
low_constant f u (constant.Placeholder v n) = if leb v u then f (constant.Placeholder v n) else f (constant.Param 0)
low_constant f u (constant.Param n) = f (constant.Param n)

abbrev pub low_leaf : ℕ → Leaf → Leaf
low_leaf u (leaf.TyConstant a) = low_constant leaf.TyConstant u a
low_leaf u (leaf.ConstConstant a) = low_constant leaf.ConstConstant u a
low_leaf u l = l

abbrev lowered : ℕ → Tree → Tree
lowered u = replace (λ l. leaf_tree (low_leaf u l))

leaf_kinds : (l : Leaf) (m : Leaf) → kind_of_label (label.Leaf m) ≡ kind_of_label (label.Leaf l) → kind_of (leaf_tree m) ≡ Some (kind_of_label (label.Leaf l))
leaf_kinds l m e = ap Some e

pub low_sort : (f : Constant → Leaf) (k : Sort) → ((a : Constant) → kind_of_label (label.Leaf (f a)) ≡ of_sort k) → (u : ℕ) (a : Constant) → kind_of_label (label.Leaf (low_constant f u a)) ≡ of_sort k
low_sort f k h u (constant.Placeholder v n) = by_test (leb v u)
  where
    by_test : (b : Bool) → kind_of_label (label.Leaf (if b then f (constant.Placeholder v n) else f (constant.Param 0))) ≡ of_sort k
    by_test true = h (constant.Placeholder v n)
    by_test false = h (constant.Param 0)
low_sort f k h u (constant.Param n) = h (constant.Param n)

low_kinds : (u : ℕ) → KeepsKinds (λ l. leaf_tree (low_leaf u l))
low_kinds u (leaf.Variable k n) = refl
low_kinds u (leaf.Region r) = refl
low_kinds u (leaf.TyConstant a) = ap Some (low_sort leaf.TyConstant sort.Ty (λ b. refl) u a)
low_kinds u (leaf.ConstConstant a) = ap Some (low_sort leaf.ConstConstant sort.Const (λ b. refl) u a)

named_constant : (f : Constant → Leaf) (u : ℕ) → ((a : Constant) → term_level (label.Leaf (f a)) ≡ constant_level a) → (a : Constant) → CanName u (term_level (label.Leaf (low_constant f u a)))
named_constant f u h (constant.Param n) = subst (CanName u) (sym (h (constant.Param n))) tt
named_constant f u h (constant.Placeholder v n) = by_test (leb v u) (leb_tells v u)
  where
    by_test : (b : Bool) → ((b ≡ true) × (v ≤ u)) ⊎ ((b ≡ false) × (u < v)) → CanName u (term_level (label.Leaf (if b then f (constant.Placeholder v n) else f (constant.Param 0))))
    by_test true (inl q) = subst (CanName u) (sym (h (constant.Placeholder v n))) q.1
    by_test true (inr q) = absurd (cc q.0)
    by_test false q = subst (CanName u) (sym (h (constant.Param 0))) tt

pub named_leaf : (u : ℕ) (l : Leaf) → CanName u (term_level (label.Leaf (low_leaf u l)))
named_leaf u (leaf.Variable k n) = tt
named_leaf u (leaf.Region r) = tt
named_leaf u (leaf.TyConstant a) = named_constant leaf.TyConstant u (λ b. refl) a
named_leaf u (leaf.ConstConstant a) = named_constant leaf.ConstConstant u (λ b. refl) a

named_label : (u : ℕ) (l : Label) (c : Tree) → NamesAll term_level u c → NamesAll term_level u (put (λ x. leaf_tree (low_leaf u x)) l c)
named_label u (label.Leaf x) c h = (named_leaf u x, tt)
named_label u (label.Bound s i n) c h = (tt, h)
named_label u (label.Ty x) c h = (tt, h)
named_label u (label.Const x) c h = (tt, h)
named_label u (label.Clause x) c h = (tt, h)
named_label u (label.Predicate x) c h = (tt, h)
named_label u (label.List x) c h = (tt, h)

names_lowered : (u : ℕ) (t : Tree) → NamesAll term_level u (lowered u t)
names_lowered u empty = tt
names_lowered u (more a b) = (names_lowered u a, names_lowered u b)
names_lowered u (node l c) = named_label u l (lowered u c) (names_lowered u c)

-- what is named stays
pub kept_constant : (f : Constant → Leaf) (u : ℕ) (a : Constant) → CanName u (constant_level a) → low_constant f u a ≡ f a
kept_constant f u (constant.Param n) h = refl
kept_constant f u (constant.Placeholder v n) h = by_test (leb v u) (leb_tells v u)
  where
    by_test : (b : Bool) → ((b ≡ true) × (v ≤ u)) ⊎ ((b ≡ false) × (u < v)) → (if b then f (constant.Placeholder v n) else f (constant.Param 0)) ≡ f (constant.Placeholder v n)
    by_test true q = refl
    by_test false (inl q) = absurd (cc q.0)
    by_test false (inr q) = absurd (let k : u < v = q.1 in omega (arith, k, h))

-- what the values are in a world in which all regions are one
abbrev met_value : ℕ → Tree → Tree
met_value u t = lowered u (blurred t)

module _ (w : World) (u : ℕ) (vs : List Tree) where
  exact_label : (l : Label) (a b : Tree) → is_infer l ≡ false → is_region_infer l ≡ false → CanName u (term_level l) → a ≡ met_value u b
      → value_or (position_of l) (map (met_value u) vs) (put (λ x. inst (blurred_world w) (leaf_tree x)) l a) ≡ met_value u (value_or (position_of l) vs (node l b))
  exact_label (label.Leaf (leaf.Variable kind.Region n)) a b e f h q = absurd (cc f)
  exact_label (label.Leaf (leaf.Variable kind.Ty n)) a b e f h q = absurd (cc e)
  exact_label (label.Leaf (leaf.Variable kind.Int n)) a b e f h q = absurd (cc e)
  exact_label (label.Leaf (leaf.Variable kind.Float n)) a b e f h q = absurd (cc e)
  exact_label (label.Leaf (leaf.Variable kind.Const n)) a b e f h q = absurd (cc e)
  exact_label (label.Leaf (leaf.Region r)) a b e f h q = refl
  exact_label (label.Leaf (leaf.TyConstant x)) a b e f h q = ap leaf_tree (sym (kept_constant leaf.TyConstant u x h))
  exact_label (label.Leaf (leaf.ConstConstant x)) a b e f h q = ap leaf_tree (sym (kept_constant leaf.ConstConstant u x h))
  exact_label (label.Bound s (index.Bound d) n) a b e f h q = ap (node (label.Bound s (index.Bound d) n)) q
  exact_label (label.Bound s index.Canonical n) a b e f h q = get_or-map (met_value u) refl vs n
  exact_label (label.Ty x) a b e f h q = ap (node (label.Ty x)) q
  exact_label (label.Const x) a b e f h q = ap (node (label.Const x)) q
  exact_label (label.Clause x) a b e f h q = ap (node (label.Clause x)) q
  exact_label (label.Predicate x) a b e f h q = ap (node (label.Predicate x)) q
  exact_label (label.List x) a b e f h q = ap (node (label.List x)) q

  exact : (t : Tree) → any_label is_infer t ≡ false → any_label is_region_infer t ≡ false → NamesAll term_level u t → read_in (blurred_world w) (map (met_value u) vs) t ≡ met_value u (filled vs t)
  exact empty e f h = refl
  exact (more a b) e f h =
      (let x = or_false (any_label is_infer a) (any_label is_infer b) e in
      let y = or_false (any_label is_region_infer a) (any_label is_region_infer b) f in
      cc (exact a x.0 y.0 h.0, exact b x.1 y.1 h.1))
  exact (node l c) e f h =
      (let x = or_false (is_infer l) (any_label is_infer c) e in
      let y = or_false (is_region_infer l) (any_label is_region_infer c) f in
      exact_label l (read_in (blurred_world w) (map (met_value u) vs) c) (filled vs c) x.0 y.0 h.0 (exact c x.1 y.1 h.1))

lowered_fits : (u : ℕ) (s : Sort) (t : Tree) → Fits (kind_of_sort s) t → Fits (kind_of_sort s) (met_value u t)
lowered_fits u sort.Ty t h = kind_of-replace (λ l. leaf_tree (low_leaf u l)) (low_kinds u) (blurred t) ∙ kind_of-replace blurred_leaf blurred_kinds t ∙ h
lowered_fits u sort.Const t h = kind_of-replace (λ l. leaf_tree (low_leaf u l)) (low_kinds u) (blurred t) ∙ kind_of-replace blurred_leaf blurred_kinds t ∙ h
lowered_fits u sort.Region t h = subst IsRegion (sym (ap (lowered u) (region_is_blurred t h))) (of_free region.Erased, refl)

met_values : (u : ℕ) (ss : List Sort) (vs : List Tree) → AreValuesOf ss vs → AreValuesOf ss (map (met_value u) vs)
met_values u [] [] h = tt
met_values u [] (v ∷ vs) h = absurd h
met_values u (s ∷ ss) [] h = absurd h
met_values u (s ∷ ss) (v ∷ vs) h = (
  let k = h.0 in
      record {
        fits = lowered_fits u s v k.fits;
        formed = IsFormed-replace (λ l. leaf_tree (low_leaf u l)) (low_kinds u) (λ l. (tt, tt)) (blurred v) (IsFormed-replace blurred_leaf blurred_kinds blurred_leaf_formed v k.formed);
        closed = IsClosed-replace (λ l. leaf_tree (low_leaf u l)) (λ l. (tt, tt)) 0 (blurred v) (IsClosed-replace blurred_leaf blurred_leaf_closed 0 v k.closed);
      },
  met_values u ss vs h.1,
)

met_named : (u : ℕ) (vs : List Tree) → AreNamedValues term_level u (map (met_value u) vs)
met_named u [] = tt
met_named u (v ∷ vs) = (names_lowered u (blurred v), met_named u vs)

-- .. and what values meet but for regions, a world of the table meets
pub meets_met : (c : Content) (x : Candidate) (vs : List Tree) → IsSound c → IsSolvable c → IsOfConstants x
    → ((q : Equation) → Among x.equations q → NamesAll term_level c.universe (left_of q) × NamesAll term_level c.universe (right_of q)) → MeetsBlurred x vs → IsCandidateMet c x
meets_met c x vs sound solvable k named m =
    record {
      world = blurred_world (reading c);
      solves = solves_blurred c (reading c) (reading-solves c sound solvable);
      values = map (met_value c.universe) vs;
      fit = met_values c.universe x.fresh vs m.values;
      named = met_named c.universe vs;
      equal = λ q i.
          (let n = k.equations q i in
          let l = n.0 in
          let r = n.1 in
          let u = named q i in
          exact (reading c) c.universe vs (left_of q) l.infer l.regions u.0 ∙ ap (lowered c.universe) (m.equal q i) ∙ sym (exact (reading c) c.universe vs (right_of q) r.infer r.regions u.1));
    }
