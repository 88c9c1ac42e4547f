-- A canonical form is one that a table can be made for.
use Rattle.std.proofs.Common.{◌≡◌, ◌⊎◌, ℕ, zero, suc, ◌+◌, ◌<◌, ◌≤◌, Bool, true, false, List, [], ◌∷◌, map, length, get_or, Option, Some, None, inl, inr, refl, sym, ap, subst, ◌∙◌, arith, eqb-true}
use Rattle.std.specs.Prelude.{slice_get}
use Rattle.std.specs.List.{position_or_len}
use Rattle.std.proofs.lemmas.Option.{slice_get-get_or, slice_get_within}
use Rattle.std.proofs.lemmas.List.{length-map}
use Rattle.std.proofs.Math.ListN.{get_or-map}
use Rattle.nts_model.specs.declared.labels.VariableKind.TheVariants as kind
use Rattle.nts_model.specs.declared.labels.FreeRegion.TheVariants as region
use Rattle.nts_model.specs.declared.labels.BoundVarIndexKind.TheVariants as index
use Rattle.nts_model.specs.declared.labels.Leaf.{Leaf}
use Rattle.nts_model.specs.declared.labels.Leaf.TheVariants as leaf
use Rattle.nts_model.specs.declared.labels.Label.{Label}
use Rattle.nts_model.specs.declared.labels.Label.TheVariants as label
use Rattle.nts_model.specs.Terms.Trees.{Tree, empty, more, node, kind_of, any_label, is_infer, is_region_infer, is_placeholder, is_canonical, sort_of_leaf}
use Rattle.nts_model.specs.Terms.Substitutions.{leaf_tree, put, replace, position_of}
use Rattle.nts_model.specs.Canonical.Numbered.{number, numbered, numbered_leaf, no_leaf, AreDistinct}
use Rattle.nts_model.specs.Canonical.Inputs.{Input, CanonicalInput as Form, type_variable, sub_root_of, are_one, share, position_kind, is_static, after_environment, after_predicate, originals, canonical_of, whole, whole_of}
use Rattle.nts_model.specs.Terms.Scoping.{IsWellBound}
use Rattle.nts_model.proofs.Terms.Scoping.{well_bound_patched, numbered_patched}
use Rattle.nts_model.proofs.Terms.Listed.{either}
use Rattle.nts_model.proofs.Tables.Under.{eq-self}
use Rattle.nts_store.specs.Filled.{HasValue, HasValues}
use Rattle.nts_unify.proofs.Changes.{slice_get-map}
use Rattle.nts_canonical.specs.Kinds.{IsInputKind, AreInputKinds, count_of, kind_of_position, value_leaf, value_leaves}
use Rattle.nts_model.specs.Answers.Responses.{universe_of_kind}
use Rattle.nts_canonical.specs.declared.types.CanonicalInput.{CanonicalInput}
use Rattle.nts_canonical.specs.Forms.{form_of, HoldsQuery}
use Rattle.nts_canonical.specs.Building.{HasNoName, IsInputOf}
use Rattle.nts_canonical.proofs.VarLists.{number-at}
use Rattle.nts_canonical.proofs.Making.{some}
use Rattle.nts_canonicalizer.proofs.Canonizing.{numbered-environment, numbered-predicate, numbered-hidden}
use Rattle.nts_canonicalizer.proofs.Having.{originals_are_values}
use Rattle.nts_model.proofs.Canonical.CanonicalForms.{distinct-originals}

-- the first place that passes, where there is one
record IsFirst (p : Leaf → Bool) (s : List Leaf) (i : ℕ) : Type 0 where
  found : Leaf
  below : position_or_len p s ≤ i
  at : slice_get s (position_or_len p s) ≡ Some found
  passes : p found ≡ true

first-found : (p : Leaf → Bool) (s : List Leaf) (i : ℕ) (x : Leaf) → slice_get s i ≡ Some x → p x ≡ true → IsFirst p s i
first-found p [] i x h e = cc
first-found p (z ∷ s) zero x h e =
    let same : z ≡ x = some h in
    let q : p z ≡ true = ap p same ∙ e in
    record { found = z; below = rw q (omega arith); at = rw q refl; passes = q }
first-found p (z ∷ s) (suc i) x h e = by_case (either (p z)) (first-found p s i x h e)
  where
    by_case : (p z ≡ true) ⊎ (p z ≡ false) → IsFirst p s i → IsFirst p (z ∷ s) (suc i)
    by_case (inl q) f = record { found = z; below = rw q (omega arith); at = rw q refl; passes = q }
    by_case (inr q) f =
        let b = f.below in
        let next : 1 + position_or_len p s ≡ suc (position_or_len p s) = omega arith in
        record { found = f.found; below = rw q (omega (arith, b)); at = rw (q, next) f.at; passes = f.passes }

types-share : (r : ℕ → ℕ) (n : ℕ) (y : Leaf) → are_one (Some (r n)) (sub_root_of r y) ≡ true → sub_root_of r y ≡ Some (r n)
types-share r n (leaf.Variable kind.Ty m) e = ap Some (sym (eqb-true (r n) (r m) e))
types-share r n (leaf.Variable kind.Int m) e = cc
types-share r n (leaf.Variable kind.Float m) e = cc
types-share r n (leaf.Variable kind.Const m) e = cc
types-share r n (leaf.Variable kind.Region m) e = cc
types-share r n (leaf.Region a) e = cc
types-share r n (leaf.TyConstant a) e = cc
types-share r n (leaf.ConstConstant a) e = cc

kind-of-type : (r : ℕ → ℕ) (s : List Leaf) (y : Leaf) (o : ℕ) → sub_root_of r y ≡ Some o → position_kind r s y ≡ type_variable 0 (position_or_len (λ m. are_one (Some o) (sub_root_of r m)) s)
kind-of-type r s (leaf.Variable kind.Ty m) o e = ap (λ q. type_variable 0 (position_or_len (λ l. are_one q (sub_root_of r l)) s)) e
kind-of-type r s (leaf.Variable kind.Int m) o e = cc
kind-of-type r s (leaf.Variable kind.Float m) o e = cc
kind-of-type r s (leaf.Variable kind.Const m) o e = cc
kind-of-type r s (leaf.Variable kind.Region m) o e = cc
kind-of-type r s (leaf.Region a) o e = cc
kind-of-type r s (leaf.TyConstant a) o e = cc
kind-of-type r s (leaf.ConstConstant a) o e = cc

module _ (r : ℕ → ℕ) (s : List Leaf) where
  input-kind : (i : ℕ) (x : Leaf) → slice_get s i ≡ Some x → number s x ≡ i → IsInputKind (map (position_kind r s) s) i (position_kind r s x)
  input-kind i (leaf.Variable kind.Ty n) h m =
      let p = share r (leaf.Variable kind.Ty n) in
      let f = first-found p s i (leaf.Variable kind.Ty n) h (eq-self (r n)) in
      let root = types-share r n f.found f.passes in
      (refl, f.below, slice_get-map (position_kind r s) s (position_or_len p s) f.found f.at ∙ ap Some (kind-of-type r s f.found (r n) root))
  input-kind i (leaf.Variable kind.Int n) h m = tt
  input-kind i (leaf.Variable kind.Float n) h m = tt
  input-kind i (leaf.Variable kind.Const n) h m = refl
  input-kind i (leaf.Variable kind.Region n) h m = (refl, m)
  input-kind i (leaf.Region a) h m = (refl, m)
  input-kind i (leaf.TyConstant a) h m = (refl, m)
  input-kind i (leaf.ConstConstant a) h m = (refl, m)

  pub input-kinds : AreDistinct s → AreInputKinds (map (position_kind r s) s)
  input-kinds d i k q =
      let b = slice_get_within (map (position_kind r s) s) i k q in
      let l = length-map s (position_kind r s) in
      let x = get_or s i (leaf.Region region.Static) in
      let below : i < length s = omega (arith, b, l) in
      let at = slice_get-get_or s i (leaf.Region region.Static) below in
      let same : position_kind r s x ≡ k = some (sym (slice_get-map (position_kind r s) s i x at) ∙ q) in
      rw (← same) (input-kind i x at (number-at s i (leaf.Region region.Static) d below))

  -- the values are of the sorts of the leaves
  sort-kept : (x : Leaf) (u n : ℕ) → kind_of (leaf_tree (value_leaf (position_kind r s x) u n)) ≡ kind_of (leaf_tree x)
  sort-kept (leaf.Variable kind.Ty m) u n = refl
  sort-kept (leaf.Variable kind.Int m) u n = refl
  sort-kept (leaf.Variable kind.Float m) u n = refl
  sort-kept (leaf.Variable kind.Const m) u n = refl
  sort-kept (leaf.Variable kind.Region m) u n = refl
  sort-kept (leaf.Region a) u n = refl
  sort-kept (leaf.TyConstant a) u n = refl
  sort-kept (leaf.ConstConstant a) u n = refl

  sorts-kept : (n : ℕ) (ls : List Leaf) → map kind_of (map leaf_tree (value_leaves n (map (position_kind r s) ls))) ≡ map kind_of (map leaf_tree ls)
  sorts-kept n [] = refl
  sorts-kept n (x ∷ ls) =
      let first = sort-kept x (universe_of_kind (position_kind r s x)) n in
      let rest = sorts-kept (n + count_of (kind_of_position (position_kind r s x))) ls in
      λ j. first j ∷ rest j

-- values of the same sorts serve the same terms
same-value : (vs ws : List Tree) (o : Option ℕ) (l : Label) → map kind_of vs ≡ map kind_of ws → HasValue o vs l → HasValue o ws l
same-value vs ws None l e h = tt
same-value vs ws (Some i) l e h =
    let long : length vs ≡ length ws = sym (length-map vs kind_of) ∙ ap length e ∙ length-map ws kind_of in
    let below = h.0 in
    (omega (arith, long, below), sym (get_or-map kind_of ws i empty) ∙ ap (λ ks. get_or ks i (kind_of empty)) (sym e) ∙ get_or-map kind_of vs i empty ∙ h.1)

same-values : (vs ws : List Tree) (t : Tree) → map kind_of vs ≡ map kind_of ws → HasValues vs t → HasValues ws t
same-values vs ws empty e h = tt
same-values vs ws (more a b) e h = (same-values vs ws a e h.0, same-values vs ws b e h.1)
same-values vs ws (node l c) e h = (same-value vs ws (position_of l) l e h.0, same-values vs ws c e h.1)

-- labels of a kind that only leaves have, and none of the leaves that stay
record IsOfLeaves (p : Label → Bool) (stays : Leaf → Bool) : Type 0 where
  leaves : (l : Leaf) → stays l ≡ true → p (label.Leaf l) ≡ false
  positions : (l : Leaf) (n : ℕ) → p (label.Bound (sort_of_leaf l) index.Canonical n) ≡ false
  others : (f : Leaf → Tree) (l : Label) (c : Tree) → any_label p c ≡ false → ((x : Leaf) → any_label p (f x) ≡ false) → any_label p (put f l c) ≡ false

none-leaf : (p : Label → Bool) (stays : Leaf → Bool) (u : List Leaf) (x : Leaf) → IsOfLeaves p stays → any_label p (numbered_leaf stays u x) ≡ false
none-leaf p stays u x h = elim (either (stays x)) [ inl e ↦ rw (e, h.leaves x e) refl | inr e ↦ rw (e, h.positions x (number u x)) refl ]

none-numbered : (p : Label → Bool) (stays : Leaf → Bool) (u : List Leaf) (t : Tree) → IsOfLeaves p stays → any_label p (replace (numbered_leaf stays u) t) ≡ false
none-numbered p stays u empty h = refl
none-numbered p stays u (more a b) h = rw (none-numbered p stays u a h, none-numbered p stays u b h) refl
none-numbered p stays u (node l c) h = h.others (numbered_leaf stays u) l (replace (numbered_leaf stays u) c) (none-numbered p stays u c h) (λ x. none-leaf p stays u x h)

infer-others : (f : Leaf → Tree) (l : Label) (c : Tree) → any_label is_infer c ≡ false → ((x : Leaf) → any_label is_infer (f x) ≡ false) → any_label is_infer (put f l c) ≡ false
infer-others f (label.Leaf x) c h k = k x
infer-others f (label.Bound s i n) c h k = h
infer-others f (label.Ty x) c h k = h
infer-others f (label.Const x) c h k = h
infer-others f (label.Clause x) c h k = h
infer-others f (label.Predicate x) c h k = h
infer-others f (label.List x) c h k = h

region-others : (f : Leaf → Tree) (l : Label) (c : Tree) → any_label is_region_infer c ≡ false → ((x : Leaf) → any_label is_region_infer (f x) ≡ false) → any_label is_region_infer (put f l c) ≡ false
region-others f (label.Leaf x) c h k = k x
region-others f (label.Bound s i n) c h k = h
region-others f (label.Ty x) c h k = h
region-others f (label.Const x) c h k = h
region-others f (label.Clause x) c h k = h
region-others f (label.Predicate x) c h k = h
region-others f (label.List x) c h k = h

placeholder-others : (f : Leaf → Tree) (l : Label) (c : Tree) → any_label is_placeholder c ≡ false → ((x : Leaf) → any_label is_placeholder (f x) ≡ false) → any_label is_placeholder (put f l c) ≡ false
placeholder-others f (label.Leaf x) c h k = k x
placeholder-others f (label.Bound s i n) c h k = h
placeholder-others f (label.Ty x) c h k = h
placeholder-others f (label.Const x) c h k = h
placeholder-others f (label.Clause x) c h k = h
placeholder-others f (label.Predicate x) c h k = h
placeholder-others f (label.List x) c h k = h

static-placeholder : (l : Leaf) → is_static l ≡ true → is_placeholder (label.Leaf l) ≡ false
static-placeholder (leaf.Variable k n) e = cc
static-placeholder (leaf.Region region.Static) e = refl
static-placeholder (leaf.Region region.Erased) e = refl
static-placeholder (leaf.Region region.Error) e = refl
static-placeholder (leaf.Region (region.EarlyParam n)) e = refl
static-placeholder (leaf.Region (region.LateParam n)) e = refl
static-placeholder (leaf.Region (region.Placeholder v n)) e = cc
static-placeholder (leaf.TyConstant a) e = cc
static-placeholder (leaf.ConstConstant a) e = cc

static-infer : (l : Leaf) → is_static l ≡ true → is_infer (label.Leaf l) ≡ false
static-infer (leaf.Variable k n) e = cc
static-infer (leaf.Region a) e = refl
static-infer (leaf.TyConstant a) e = refl
static-infer (leaf.ConstConstant a) e = refl

static-region : (l : Leaf) → is_static l ≡ true → is_region_infer (label.Leaf l) ≡ false
static-region (leaf.Variable k n) e = cc
static-region (leaf.Region a) e = refl
static-region (leaf.TyConstant a) e = refl
static-region (leaf.ConstConstant a) e = refl

no-name : (stays : Leaf → Bool) (u : List Leaf) (t : Tree) → ((l : Leaf) → stays l ≡ true → is_static l ≡ true) → HasNoName (replace (numbered_leaf stays u) t)
no-name stays u t h = (
  none-numbered is_infer stays u t (record { leaves = λ l e. static-infer l (h l e); positions = λ l n. refl; others = infer-others }),
  none-numbered is_region_infer stays u t (record { leaves = λ l e. static-region l (h l e); positions = λ l n. refl; others = region-others }),
  none-numbered is_placeholder stays u t (record { leaves = λ l e. static-placeholder l (h l e); positions = λ l n. refl; others = placeholder-others }),
)

row-no-name : (a b : Tree) → HasNoName a → HasNoName b → HasNoName (more a b)
row-no-name a b h k = (rw (h.0, k.0) refl, rw (h.1, k.1) refl, rw (h.2, k.2) refl)

-- a canonical form has the kinds of an input, its positions are of their sorts, and it holds neither variables nor placeholders
pub form-kinds : (i : Input) → AreInputKinds ((canonical_of i).kinds)
form-kinds i = input-kinds i.sub_root (originals i) (distinct-originals i)

pub form-positions : (i : Input) → any_label is_canonical (whole i) ≡ false → HasValues (map leaf_tree (value_leaves 0 ((canonical_of i).kinds))) (whole_of (canonical_of i))
form-positions i n =
    same-values (map leaf_tree (originals i)) (map leaf_tree (value_leaves 0 ((canonical_of i).kinds))) (whole_of (canonical_of i)) (sym (sorts-kept i.sub_root (originals i) 0 (originals i))) (originals_are_values i n)

pub form-no_name : (i : Input) → HasNoName (whole_of (canonical_of i))
form-no_name i =
    let u = originals i in
    let none : (l : Leaf) → no_leaf l ≡ true → is_static l ≡ true = (λ l e. cc) in
    let env = numbered is_static [] i.environment in
    let pred = numbered no_leaf (after_environment i) i.predicate in
    let hid = numbered no_leaf (after_predicate i) i.hidden in
    row-no-name env (more pred (more hid empty)) (subst HasNoName (sym (numbered-environment i)) (no-name is_static u i.environment (λ l e. e)))
    (row-no-name pred (more hid empty) (subst HasNoName (sym (numbered-predicate i)) (no-name no_leaf u i.predicate none))
    (row-no-name hid empty (subst HasNoName (sym (numbered-hidden i)) (no-name no_leaf u i.hidden none)) (refl, refl, refl)))

-- .. and its binders list what they bind, where those of the input do
pub form-well_bound : (i : Input) → IsWellBound (whole i) → IsWellBound (whole_of (canonical_of i))
form-well_bound i h = (
  well_bound_patched i.environment (numbered is_static [] i.environment) (numbered_patched is_static [] i.environment) h.0,
  (
    well_bound_patched i.predicate (numbered no_leaf (after_environment i) i.predicate) (numbered_patched no_leaf (after_environment i) i.predicate) h.1.0,
    (well_bound_patched i.hidden (numbered no_leaf (after_predicate i) i.hidden) (numbered_patched no_leaf (after_predicate i) i.hidden) h.1.1.0, tt),
  ),
)

pub handed_in : {ts : List Tree} {c : CanonicalInput} {f : Form} → HoldsQuery ts c.canonical.value → c.canonical.max_universe ≡ 0 → form_of ts c ≡ f → AreInputKinds f.kinds → HasValues (map leaf_tree (value_leaves 0 f.kinds)) (whole_of f) → HasNoName (whole_of f) → IsWellBound (whole_of f) → IsInputOf ts c
handed_in {ts} {c} {f} h u e k p n w =
    record {
      holds = h;
      universe = u;
      kinds = subst (λ (z : Form). AreInputKinds z.kinds) (sym e) k;
      positions = subst (λ (z : Form). HasValues (map leaf_tree (value_leaves 0 z.kinds)) (whole_of z)) (sym e) p;
      no_name = subst (λ (z : Form). HasNoName (whole_of z)) (sym e) n;
      well_bound = subst (λ (z : Form). IsWellBound (whole_of z)) (sym e) w;
    }
