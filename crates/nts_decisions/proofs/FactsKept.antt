-- What a candidate without goals makes of a variable of its query: if no more than a leaf, then a variable of the same kind. Another leaf, an
-- integer variable or a constant, would be no leaf of the goal, nor of what its other variables came to be; so something else could
-- stand in its place, and the candidate's equations would hold still.
use Rattle.std.proofs.Common.{◌≡◌, ◌⊎◌, inl, inr, ℕ, ◌<◌, ◌≤◌, true, List, [], ◌∷◌, map, length, slice_get, zero, suc, Option, Some, None, cond, refl, sym, ap, subst, ◌∙◌, arith}
use Rattle.nts_model.specs.declared.labels.Sort.{Sort}
use Rattle.nts_model.specs.declared.labels.Sort.TheVariants as sort
use Rattle.nts_model.specs.declared.labels.Relation.{Relation}
use Rattle.nts_model.specs.declared.labels.Relation.TheVariants as relation
use Rattle.nts_model.specs.declared.labels.VariableKind.{VariableKind}
use Rattle.nts_model.specs.declared.labels.VariableKind.TheVariants as kind
use Rattle.nts_model.specs.declared.labels.FreeRegion.TheVariants as region
use Rattle.nts_model.specs.declared.labels.Leaf.{Leaf}
use Rattle.nts_model.specs.declared.labels.Leaf.TheVariants as leaf
use Rattle.nts_model.specs.declared.labels.BoundVarIndexKind.TheVariants as index
use Rattle.nts_model.specs.declared.labels.TyHead.TheVariants as ty
use Rattle.nts_model.specs.declared.labels.Label.{Label}
use Rattle.nts_model.specs.declared.labels.Label.TheVariants as label
use Rattle.nts_model.specs.Terms.Trees.{Tree, empty, more, node, label_of, kind_of, of_sort, sort_of_leaf, IsFormed}
use Rattle.nts_model.specs.Terms.Scoping.{IsWellBound}
use Rattle.nts_model.specs.Terms.Regions.{RegionName, of_variable, of_free, region_tree, IsRegion}
use Rattle.nts_model.specs.Terms.Fitting.{is_integer, is_float, HasLabel, Fits}
use Rattle.nts_model.specs.Terms.Placeholders.{CanName}
use Rattle.nts_model.specs.Tables.Contents.{Content, Slot, SlotState, map_slot, unset, with_constraint, state_of, universe_of, kind_at}
use Rattle.nts_model.specs.Tables.Resolving.{Knows, IsSound, deeply_resolved}
use Rattle.nts_model.specs.Tables.Levels.{term_level, NamesAll, IfNamesAll}
use Rattle.nts_model.specs.Tables.Solvable.{IsSolvable}
use Rattle.nts_model.specs.Tables.RegionClasses.{reading}
use Rattle.nts_model.specs.Tables.Worlds.{World, inst, SolvesState, AreMet, IsValue, Solves, Agrees}
use Rattle.nts_model.specs.Terms.Substitutions.{leaf_tree, put, replace, Occurs, filled}
use Rattle.nts_model.specs.Lists.{Among}
use Rattle.nts_model.specs.Derivations.Related.{Constraint}
use Rattle.nts_model.specs.Derivations.Rules.{Equation}
use Rattle.nts_model.specs.Derivations.Handlers.{Candidate, constraint_by, kind_of_sort, AreValuesOf}
use Rattle.nts_model.specs.Canonical.Numbered.{same}
use Rattle.nts_model.specs.Refutation.Choosing.{left_of, right_of, AreNamedValues}
use Rattle.nts_model.specs.Refutation.Forcing.{seen_as, AddsBy, AddsAll}
use Rattle.nts_model.specs.Answers.Responses.{read_in}
use Rattle.nts_model.specs.Answers.Applying.{IsProperContent}
use Rattle.nts_model.proofs.Terms.Substituting.{kind_of-replace, IsFormed-replace, IsClosed-replace, KeepsKinds}
use Rattle.nts_model.proofs.Terms.Listed.{either, same-yes, same-no, same-true}
use Rattle.nts_model.proofs.Terms.Identified.{named_tree}
use Rattle.nts_model.proofs.Canonical.Positioned.{get_or-map, inst-filled}
use Rattle.nts_model.proofs.Tables.Solvable.{reading-solves}
use Rattle.nts_model.proofs.Tables.Solving.{Solves-with_constraint}
use Rattle.nts_model.proofs.Tables.Kept.{kind_of-deeply_resolved}
use Rattle.nts_model.proofs.Tables.Open.{Knows-deeply_resolved}
use Rattle.nts_model.proofs.Tables.Worlds.{inst-deeply_resolved}
use Rattle.nts_model.proofs.Tables.Instances.{inst-agrees, Agrees-refl, Agrees-trans}
use Rattle.nts_model.proofs.Tables.Slots.{Knows-kept, KeepsKinds as KeepsVariables, KeepsKinds-refl, KeepsKinds-trans}
use Rattle.nts_theory.specs.RelatingCandidates.{IsBegun}
use Rattle.nts_theory.proofs.Refutation.Freshening.{freshened_world, freshened_back, filled_agree}
use Rattle.nts_theory.proofs.Refutation.Trying.{equated_world, equated_back}
use Rattle.nts_theory.proofs.Refutation.Choosing.{AreOfTable, equations_known, fresh_known, filled_known}
use Rattle.nts_decisions.specs.Deciding.{blurred_leaf, blurred}
use Rattle.nts_decisions.proofs.BlurredWorlds.{merged_blurred, blurred_world, solves_blurred}
use Rattle.nts_decisions.proofs.DecidedGoals.{reading_blurred}
use Rattle.nts_decisions.proofs.Faring.{added_back}

-- a table that knows nothing: no variable has a value or is one with another, and no constraint is recorded
pub record KnowsNothing (q : Content) : Type 0 where
  pub unset : (n : ℕ) → (state_of q n ≡ None) ⊎ (state_of q n ≡ Some unset)
  pub none : q.constraints ≡ []

-- a variable of types or consts
abbrev pub IsOfTerms : VariableKind → Type 0
IsOfTerms kind.Ty = Unit {0}
IsOfTerms kind.Const = Unit {0}
IsOfTerms k = ⊥

-- a leaf of a type or const is no region
abbrev IsNoRegion : Leaf → Type 0
IsNoRegion l = sort_of_leaf l ≡ sort.Region → ⊥

no_region_by : (k : VariableKind) (n : ℕ) (l : Leaf) → IsOfTerms k → sort_of_leaf l ≡ sort_of_leaf (leaf.Variable k n) → IsNoRegion l
no_region_by kind.Ty n l h e q = absurd (cc (e, q))
no_region_by kind.Const n l h e q = absurd (cc (e, q))
no_region_by kind.Region n l h e q = absurd h
no_region_by kind.Int n l h e q = absurd h
no_region_by kind.Float n l h e q = absurd h

blurred_is : (l : Leaf) → IsNoRegion l → blurred_leaf l ≡ leaf_tree l
blurred_is (leaf.Region r) h = absurd (h refl)
blurred_is (leaf.Variable kind.Region n) h = absurd (h refl)
blurred_is (leaf.Variable kind.Ty n) h = refl
blurred_is (leaf.Variable kind.Int n) h = refl
blurred_is (leaf.Variable kind.Float n) h = refl
blurred_is (leaf.Variable kind.Const n) h = refl
blurred_is (leaf.TyConstant a) h = refl
blurred_is (leaf.ConstConstant a) h = refl

erased_is : (l : Leaf) → Some (label.Leaf (leaf.Region region.Erased)) ≡ Some (label.Leaf l) → l ≡ leaf.Region region.Erased
erased_is l e = cc e

no_erased : (l : Leaf) → IsNoRegion l → Some (label.Leaf (leaf.Region region.Erased)) ≡ Some (label.Leaf l) → ⊥
no_erased l h e = h (ap sort_of_leaf (erased_is l e))

-- what is blurred to the leaf has it as its label
unblurred_leaf : (x l : Leaf) → IsNoRegion l → label_of (blurred_leaf x) ≡ Some (label.Leaf l) → label.Leaf x ≡ label.Leaf l
unblurred_leaf (leaf.Region r) l h e = absurd (no_erased l h e)
unblurred_leaf (leaf.Variable kind.Region n) l h e = absurd (no_erased l h e)
unblurred_leaf (leaf.Variable kind.Ty n) l h e = cc e
unblurred_leaf (leaf.Variable kind.Int n) l h e = cc e
unblurred_leaf (leaf.Variable kind.Float n) l h e = cc e
unblurred_leaf (leaf.Variable kind.Const n) l h e = cc e
unblurred_leaf (leaf.TyConstant a) l h e = cc e
unblurred_leaf (leaf.ConstConstant a) l h e = cc e

unblurred : (t : Tree) (l : Leaf) → IsNoRegion l → label_of (blurred t) ≡ Some (label.Leaf l) → label_of t ≡ Some (label.Leaf l)
unblurred empty l h e = e
unblurred (more a b) l h e = absurd (cc e)
unblurred (node (label.Leaf x) c) l h e = ap Some (unblurred_leaf x l h e)
unblurred (node (label.Bound s i n) c) l h e = absurd (cc e)
unblurred (node (label.Ty x) c) l h e = absurd (cc e)
unblurred (node (label.Const x) c) l h e = absurd (cc e)
unblurred (node (label.Clause x) c) l h e = absurd (cc e)
unblurred (node (label.Predicate x) c) l h e = absurd (cc e)
unblurred (node (label.List x) c) l h e = absurd (cc e)

label_blurred : (t : Tree) (l : Leaf) → IsNoRegion l → label_of t ≡ Some (label.Leaf l) → blurred t ≡ leaf_tree l
label_blurred empty l h e = absurd (cc e)
label_blurred (more a b) l h e = absurd (cc e)
label_blurred (node m c) l h e = ap (λ z. put blurred_leaf z (blurred c)) (one_label e) ∙ blurred_is l h
  where
    one_label : Some m ≡ Some (label.Leaf l) → m ≡ label.Leaf l
    one_label e = cc e

-- another leaf in place of one
swap : Leaf → Leaf → Leaf → Leaf
swap l v x = cond (same l x) v x

swap_same : (l v : Leaf) → swap l v l ≡ v
unfolding swap
swap_same l v = rw (same-yes l l refl) refl

swap_other : (l v x : Leaf) → (x ≡ l → ⊥) → swap l v x ≡ x
unfolding swap
swap_other l v x n = rw (same-no l x (λ e. n (sym e))) refl

swap_cases : (P : Leaf → Type 0) (l v x : Leaf) → P v → P x → P (swap l v x)
unfolding swap
swap_cases P l v x a b = elim (either (same l x)) [ inl e ↦ rw e a | inr e ↦ rw e b ]

abbrev swapped : Leaf → Leaf → Tree → Tree
swapped l v = replace (λ x. leaf_tree (swap l v x))

-- .. of the same sort
swap_sort : (l v x : Leaf) → sort_of_leaf v ≡ sort_of_leaf l → sort_of_leaf (swap l v x) ≡ sort_of_leaf x
unfolding swap
swap_sort l v x e = elim (either (same l x)) [ inl q ↦ rw q (e ∙ ap sort_of_leaf (same-true l x q)) | inr q ↦ rw q refl ]

kinds_swapped : (l v : Leaf) → sort_of_leaf v ≡ sort_of_leaf l → KeepsKinds (λ x. leaf_tree (swap l v x))
kinds_swapped l v e x = ap (λ z. Some (of_sort z)) (swap_sort l v x e)

-- universes, and what a variable may stand for
names_label : (l v : Leaf) (u : ℕ) (m : Label) (c : Tree) → term_level (label.Leaf v) ≡ None → NamesAll term_level u (node m c) → NamesAll term_level u (swapped l v c) → NamesAll term_level u (put (λ x. leaf_tree (swap l v x)) m (swapped l v c))
names_label l v u (label.Leaf x) c e h r = (swap_cases (λ z. CanName u (term_level (label.Leaf z))) l v x (subst (CanName u) (sym e) tt) h.0, tt)
names_label l v u (label.Bound s i n) c e h r = (h.0, r)
names_label l v u (label.Ty x) c e h r = (h.0, r)
names_label l v u (label.Const x) c e h r = (h.0, r)
names_label l v u (label.Clause x) c e h r = (h.0, r)
names_label l v u (label.Predicate x) c e h r = (h.0, r)
names_label l v u (label.List x) c e h r = (h.0, r)

names_swapped : (l v : Leaf) (u : ℕ) (t : Tree) → term_level (label.Leaf v) ≡ None → NamesAll term_level u t → NamesAll term_level u (swapped l v t)
names_swapped l v u empty e h = tt
names_swapped l v u (more a b) e h = (names_swapped l v u a e h.0, names_swapped l v u b e h.1)
names_swapped l v u (node m c) e h = names_label l v u m c e h (names_swapped l v u c e h.1)

if_names_swapped : (l v : Leaf) (o : Option ℕ) (t : Tree) → term_level (label.Leaf v) ≡ None → IfNamesAll term_level o t → IfNamesAll term_level o (swapped l v t)
if_names_swapped l v None t e h = tt
if_names_swapped l v (Some u) t e h = names_swapped l v u t e h

all_named_swapped : (l v : Leaf) (u : ℕ) (ts : List Tree) → term_level (label.Leaf v) ≡ None → AreNamedValues term_level u ts → AreNamedValues term_level u (map (swapped l v) ts)
all_named_swapped l v u [] e h = tt
all_named_swapped l v u (t ∷ ts) e h = (names_swapped l v u t e h.0, all_named_swapped l v u ts e h.1)

region_swapped : (l v : Leaf) → IsNoRegion l → (x : RegionName) → swapped l v (region_tree x) ≡ region_tree x
region_swapped l v h (of_variable n) = ap leaf_tree (swap_other l v (leaf.Variable kind.Region n) (λ e. h (sym (ap sort_of_leaf e))))
region_swapped l v h (of_free r) = ap leaf_tree (swap_other l v (leaf.Region r) (λ e. h (sym (ap sort_of_leaf e))))

integer_swapped : (l v : Leaf) (m : Label) (d : Tree) → (m ≡ label.Leaf l → ⊥) → is_integer m ≡ true → HasLabel is_integer (label_of (put (λ x. leaf_tree (swap l v x)) m d))
integer_swapped l v (label.Ty (ty.Int i)) d n e = refl
integer_swapped l v (label.Ty (ty.Uint i)) d n e = refl
integer_swapped l v (label.Leaf (leaf.Variable kind.Int i)) d n e = rw (swap_other l v (leaf.Variable kind.Int i) (λ q. n (ap label.Leaf q))) refl
integer_swapped l v m d n e = absurd (cc e)

float_swapped : (l v : Leaf) (m : Label) (d : Tree) → (m ≡ label.Leaf l → ⊥) → is_float m ≡ true → HasLabel is_float (label_of (put (λ x. leaf_tree (swap l v x)) m d))
float_swapped l v (label.Ty (ty.Float i)) d n e = refl
float_swapped l v (label.Leaf (leaf.Variable kind.Float i)) d n e = rw (swap_other l v (leaf.Variable kind.Float i) (λ q. n (ap label.Leaf q))) refl
float_swapped l v m d n e = absurd (cc e)

-- .. where a variable of numbers does not stand for the leaf
abbrev pub IsApart : Leaf → VariableKind → Tree → Type 0
IsApart l kind.Int t = label_of t ≡ Some (label.Leaf l) → ⊥
IsApart l kind.Float t = label_of t ≡ Some (label.Leaf l) → ⊥
IsApart l k t = Unit {0}

fits_swapped : (l v : Leaf) → IsNoRegion l → sort_of_leaf v ≡ sort_of_leaf l → (k : VariableKind) (t : Tree) → IsApart l k t → Fits k t → Fits k (swapped l v t)
fits_swapped l v n e kind.Ty t a h = kind_of-replace (λ x. leaf_tree (swap l v x)) (kinds_swapped l v e) t ∙ h
fits_swapped l v n e kind.Const t a h = kind_of-replace (λ x. leaf_tree (swap l v x)) (kinds_swapped l v e) t ∙ h
fits_swapped l v n e kind.Region t a (x, q) = subst IsRegion (sym (ap (swapped l v) (named_tree t x q) ∙ region_swapped l v n x ∙ sym (named_tree t x q))) (x, q)
fits_swapped l v n e kind.Int empty a h = absurd h
fits_swapped l v n e kind.Int (more s t) a h = absurd h
fits_swapped l v n e kind.Int (node m c) a h = integer_swapped l v m (swapped l v c) (λ q. a (ap Some q)) h
fits_swapped l v n e kind.Float empty a h = absurd h
fits_swapped l v n e kind.Float (more s t) a h = absurd h
fits_swapped l v n e kind.Float (node m c) a h = float_swapped l v m (swapped l v c) (λ q. a (ap Some q)) h

value_swapped : (l v : Leaf) → IsNoRegion l → sort_of_leaf v ≡ sort_of_leaf l → (k : VariableKind) (t : Tree) → IsApart l k t → IsValue k t → IsValue k (swapped l v t)
value_swapped l v n e k t a h =
    record {
      fits = fits_swapped l v n e k t a h.fits;
      closed = IsClosed-replace (λ x. leaf_tree (swap l v x)) (λ x. (tt, tt)) 0 t h.closed;
      formed = IsFormed-replace (λ x. leaf_tree (swap l v x)) (kinds_swapped l v e) (λ x. (tt, tt)) t h.formed;
    }

apart_sort : (l : Leaf) (s : Sort) (t : Tree) → IsApart l (kind_of_sort s) t
apart_sort l sort.Ty t = tt
apart_sort l sort.Const t = tt
apart_sort l sort.Region t = tt

values_swapped : (l v : Leaf) → IsNoRegion l → sort_of_leaf v ≡ sort_of_leaf l → (ss : List Sort) (ts : List Tree) → AreValuesOf ss ts → AreValuesOf ss (map (swapped l v) ts)
values_swapped l v n e [] [] h = tt
values_swapped l v n e [] (t ∷ ts) h = absurd h
values_swapped l v n e (s ∷ ss) [] h = absurd h
values_swapped l v n e (s ∷ ss) (t ∷ ts) h = (
  let k = h.0 in
      let r = value_swapped l v n e (kind_of_sort s) t (apart_sort l s t) (record { fits = k.fits; closed = k.closed; formed = k.formed }) in
      record { fits = r.fits; formed = r.formed; closed = r.closed },
  values_swapped l v n e ss ts h.1,
)

-- terms over the goal and the fresh variables, in the world in which leaves are swapped
swapped_world : Leaf → Leaf → World → World
swapped_world l v w = record { tree = λ n. swapped l v (w.tree n); region = λ r. region.Erased; outlives = λ a b. true }

abbrev pub IsNotConstant : Leaf → Leaf → Type 0
IsNotConstant l (leaf.TyConstant a) = leaf.TyConstant a ≡ l → ⊥
IsNotConstant l (leaf.ConstConstant a) = leaf.ConstConstant a ≡ l → ⊥
IsNotConstant l x = Unit {0}

module _ (l v : Leaf) (n : IsNoRegion l) (w : World) (vs : List Tree) where
  read_leaf : (x : Leaf) → IsNotConstant l x → inst (swapped_world l v (blurred_world w)) (leaf_tree x) ≡ swapped l v (inst (blurred_world w) (leaf_tree x))
  unfolding swapped_world
  read_leaf (leaf.Variable k m) h = refl
  read_leaf (leaf.Region r) h = sym (region_swapped l v n (of_free region.Erased))
  read_leaf (leaf.TyConstant a) h = sym (ap leaf_tree (swap_other l v (leaf.TyConstant a) h))
  read_leaf (leaf.ConstConstant a) h = sym (ap leaf_tree (swap_other l v (leaf.ConstConstant a) h))

  read_label : (m : Label) (c : Tree) → ((x : Leaf) → label.Leaf x ≡ m → IsNotConstant l x) → read_in (swapped_world l v (blurred_world w)) (map (swapped l v) vs) c ≡ swapped l v (read_in (blurred_world w) vs c)
      → read_in (swapped_world l v (blurred_world w)) (map (swapped l v) vs) (node m c) ≡ swapped l v (read_in (blurred_world w) vs (node m c))
  read_label (label.Leaf x) c h e = read_leaf x (h x refl)
  read_label (label.Bound s (index.Bound d) i) c h e = ap (node (label.Bound s (index.Bound d) i)) e
  read_label (label.Bound s index.Canonical i) c h e = get_or-map (swapped l v) refl vs i
  read_label (label.Ty x) c h e = ap (node (label.Ty x)) e
  read_label (label.Const x) c h e = ap (node (label.Const x)) e
  read_label (label.Clause x) c h e = ap (node (label.Clause x)) e
  read_label (label.Predicate x) c h e = ap (node (label.Predicate x)) e
  read_label (label.List x) c h e = ap (node (label.List x)) e

  read_swapped : (t : Tree) → ((x : Leaf) → Occurs x t → IsNotConstant l x) → read_in (swapped_world l v (blurred_world w)) (map (swapped l v) vs) t ≡ swapped l v (read_in (blurred_world w) vs t)
  read_swapped empty h = refl
  read_swapped (more a b) h = cc (read_swapped a (λ x o. h x (inl o)), read_swapped b (λ x o. h x (inr o)))
  read_swapped (node m c) h = read_label m c (λ x e. h x (inl e)) (read_swapped c (λ x o. h x (inr o)))

-- constraints that are true in a world may be added, without losing it
pub record AreTrueFilled (c : Content) (w : World) (xs : List Tree) (ys : List Constraint) : Type 0 where
  pub left : (y : Constraint) → Among ys y → Knows c (filled xs y.left)
  pub right : (y : Constraint) → Among ys y → Knows c (filled xs y.right)
  pub equal : (y : Constraint) → Among ys y → y.relation ≡ relation.Equal → inst w (filled xs y.left) ≡ inst w (filled xs y.right)
  pub outlives : (a b : Tree) → w.outlives a b ≡ true

pub record Remains (c d : Content) (w : World) : Type 0 where
  pub world : World
  pub agrees : Agrees (length c.slots) w world
  pub solves : Solves d world
  pub longer : length c.slots ≤ length d.slots
  pub keeps : KeepsVariables c d

remains_self : (c d : Content) (w : World) → d ≡ c → Solves c w → Remains c d w
remains_self c d w e s = subst (λ z. Remains c z w) (sym e) (record { world = w; agrees = Agrees-refl (length c.slots) w; solves = s; longer = omega arith; keeps = KeepsKinds-refl c })

remains_with : (c d : Content) (x : Constraint) (w : World) → d ≡ with_constraint c (seen_as x) → Solves (with_constraint c (seen_as x)) w → Remains c d w
remains_with c d x w e s = subst (λ z. Remains c z w) (sym e) (record { world = w; agrees = Agrees-refl (length c.slots) w; solves = s; longer = omega arith; keeps = record { grows = omega arith; kinds = λ n k q. q } })

added_one : (r : Relation) (x : Constraint) (c d : Content) (w : World) → x.relation ≡ r → AddsBy r x c d → Solves c w → (r ≡ relation.Equal → inst w x.left ≡ inst w x.right) → ((a b : Tree) → w.outlives a b ≡ true) → Remains c d w
added_one relation.Equal x c d w e a s q o =
    let y = a.complete w s (q refl) in
    let g = a.continues in
    record { world = y.world; agrees = y.agrees; solves = y.solves; longer = g.more; keeps = record { grows = g.grows; kinds = g.kinds } }
added_one relation.RegionOutlives x c d w e (inl (same, is)) s q o = remains_self c d w is s
added_one relation.RegionOutlives x c d w e (inr is) s q o = remains_with c d x w is (Solves-with_constraint c (seen_as x) w s (rw e (inr (o (inst w x.left) (inst w x.right)))))
added_one relation.TypeOutlives x c d w e (inl (same, is)) s q o = remains_self c d w is s
added_one relation.TypeOutlives x c d w e (inr is) s q o = remains_with c d x w is (Solves-with_constraint c (seen_as x) w s (rw e (o (inst w x.left) (inst w x.right))))

rest_filled : (c e : Content) (w : World) (xs : List Tree) (y : Constraint) (ys : List Constraint) (r : Remains c e w) → AreTrueFilled c w xs (y ∷ ys) → AreTrueFilled e r.world xs ys
rest_filled c e w xs y ys r h =
    let k = r.agrees in
    record {
      left = λ x i. Knows-kept c e (filled xs x.left) r.keeps (h.left x (inr i));
      right = λ x i. Knows-kept c e (filled xs x.right) r.keeps (h.right x (inr i));
      equal = λ x i q. inst-agrees c w r.world (filled xs x.left) k (h.left x (inr i)) ∙ h.equal x (inr i) q ∙ sym (inst-agrees c w r.world (filled xs x.right) k (h.right x (inr i)));
      outlives = λ a b. k.outlives a b ∙ h.outlives a b;
    }

remains_trans : (c d e : Content) (w : World) → (x : Remains c d w) → Remains d e x.world → Remains c e w
remains_trans c d e w x y =
    record { world = y.world; agrees = Agrees-trans (length c.slots) (length d.slots) w x.world y.world x.longer x.agrees y.agrees; solves = y.solves; longer = (let a = x.longer in let b = y.longer in omega (arith, a, b)); keeps = KeepsKinds-trans x.keeps y.keeps }

added_world : (xs : List Tree) (ys : List Constraint) (c d : Content) (w : World) → AddsAll xs ys c d → Solves c w → AreTrueFilled c w xs ys → Remains c d w
added_world xs [] c d w a s h = remains_self c d w a s
added_world xs (y ∷ ys) c d w (e, one, rest) s h =
    let r = added_one y.relation (constraint_by (filled xs) y) c e w refl one s (h.equal y (inl refl)) h.outlives in
    remains_trans c e d w r (added_world xs ys e d r.world rest r.solves (rest_filled c e w xs y ys r h))

-- .. and those that were added are true
added_equal_by : (r : Relation) (x : Constraint) (c d : Content) (w : World) → AddsBy r x c d → Solves d w → r ≡ relation.Equal → inst w x.left ≡ inst w x.right
added_equal_by relation.Equal x c d w a s e = (a.sound w s).1
added_equal_by relation.RegionOutlives x c d w a s e = absurd (cc e)
added_equal_by relation.TypeOutlives x c d w a s e = absurd (cc e)

added_equal : (xs : List Tree) (ys : List Constraint) (c d : Content) (w : World) → AddsAll xs ys c d → Solves d w → (y : Constraint) → Among ys y → y.relation ≡ relation.Equal → inst w (filled xs y.left) ≡ inst w (filled xs y.right)
added_equal xs [] c d w a s y i q = absurd i
added_equal xs (x ∷ ys) c d w (e, one, rest) s y (inl p) q =
    subst (λ z. inst w (filled xs z.left) ≡ inst w (filled xs z.right)) (sym p) (added_equal_by x.relation (constraint_by (filled xs) x) c e w one (added_back xs ys e d w rest s) (sym (ap (λ z. z.relation) p) ∙ q))
added_equal xs (x ∷ ys) c d w (e, one, rest) s y (inr i) q = added_equal xs ys e d w rest s y i q

-- a term of the goal and the fresh variables, in which the leaf is no constant
pub record IsGoalTerm (c : Content) (l : Leaf) (t : Tree) : Type 0 where
  pub formed : IsFormed t
  pub well_bound : IsWellBound t
  pub leaves : (y : Leaf) → Occurs y t → Knows c (leaf_tree y)
  pub others : (y : Leaf) → Occurs y t → IsNotConstant l y

pub record AreGoalTerms (c : Content) (l : Leaf) (x : Candidate) : Type 0 where
  pub equations : (q : Equation) → Among x.equations q → IsGoalTerm c l (left_of q) × IsGoalTerm c l (right_of q)
  pub constraints : (y : Constraint) → Among x.constraints y → IsGoalTerm c l y.left × IsGoalTerm c l y.right

equations_of_table : (c : Content) (l : Leaf) (x : Candidate) → AreGoalTerms c l x → AreOfTable c x.equations
equations_of_table c l x h =
    record {
      left_formed = λ q i. (let k = (h.equations q i).0 in k.formed);
      right_formed = λ q i. (let k = (h.equations q i).1 in k.formed);
      left_well_bound = λ q i. (let k = (h.equations q i).0 in k.well_bound);
      right_well_bound = λ q i. (let k = (h.equations q i).1 in k.well_bound);
      left_leaves = λ q i. (let k = (h.equations q i).0 in k.leaves);
      right_leaves = λ q i. (let k = (h.equations q i).1 in k.leaves);
    }

-- a variable of that kind, or not
of_kind_or_not : (k : VariableKind) (l : Leaf) → ((m : ℕ) × (l ≡ leaf.Variable k m)) ⊎ ((m : ℕ) → l ≡ leaf.Variable k m → ⊥)
of_kind_or_not kind.Ty (leaf.Variable kind.Ty m) = inl (m, refl)
of_kind_or_not kind.Const (leaf.Variable kind.Const m) = inl (m, refl)
of_kind_or_not kind.Int (leaf.Variable kind.Int m) = inl (m, refl)
of_kind_or_not kind.Float (leaf.Variable kind.Float m) = inl (m, refl)
of_kind_or_not kind.Region (leaf.Variable kind.Region m) = inl (m, refl)
of_kind_or_not k l = inr (λ m e. cc e)

-- no world gives the leaf the variable's place
no_integer : (k : VariableKind) → IsOfTerms k → HasLabel is_integer (label_of (leaf_tree (leaf.Variable k 0))) → ⊥
no_integer kind.Ty h e = absurd (cc e)
no_integer kind.Const h e = absurd (cc e)
no_integer kind.Region h e = absurd h
no_integer kind.Int h e = absurd h
no_integer kind.Float h e = absurd h

no_float : (k : VariableKind) → IsOfTerms k → HasLabel is_float (label_of (leaf_tree (leaf.Variable k 0))) → ⊥
no_float kind.Ty h e = absurd (cc e)
no_float kind.Const h e = absurd (cc e)
no_float kind.Region h e = absurd h
no_float kind.Int h e = absurd h
no_float kind.Float h e = absurd h

never_there : (k : VariableKind) (n : ℕ) (met : Content) (w : World) → IsOfTerms k → Solves met w → (l : Leaf) (c : Tree) → ((m : ℕ) → l ≡ leaf.Variable k m → ⊥) → sort_of_leaf l ≡ sort_of_leaf (leaf.Variable k n) → Knows met (node (label.Leaf l) c)
    → inst w (node (label.Leaf l) c) ≡ leaf_tree (leaf.Variable k 0) → ⊥
never_there k n met w t s (leaf.Variable kind.Int m) c none e h q = (let f = s.fitting in let v = f.each m kind.Int h.0.0 in no_integer k t (subst (Fits kind.Int) q v.fits))
never_there k n met w t s (leaf.Variable kind.Float m) c none e h q = (let f = s.fitting in let v = f.each m kind.Float h.0.0 in no_float k t (subst (Fits kind.Float) q v.fits))
never_there kind.Ty n met w t s (leaf.Variable kind.Ty m) c none e h q = absurd (none m refl)
never_there kind.Const n met w t s (leaf.Variable kind.Const m) c none e h q = absurd (none m refl)
never_there kind.Ty n met w t s (leaf.TyConstant a) c none e h q = absurd (cc q)
never_there kind.Ty n met w t s l c none e h q = absurd (cc e)
never_there kind.Const n met w t s (leaf.ConstConstant a) c none e h q = absurd (cc q)
never_there kind.Const n met w t s l c none e h q = absurd (cc e)
never_there kind.Region n met w t s l c none e h q = absurd t
never_there kind.Int n met w t s l c none e h q = absurd t
never_there kind.Float n met w t s l c none e h q = absurd t

new_sort : (k : VariableKind) (n : ℕ) → sort_of_leaf (leaf.Variable k 0) ≡ sort_of_leaf (leaf.Variable k n)
new_sort kind.Ty n = refl
new_sort kind.Const n = refl
new_sort kind.Region n = refl
new_sort kind.Int n = refl
new_sort kind.Float n = refl

at_label : (t : Tree) (m : Label) → label_of t ≡ Some m → (c : Tree) × (t ≡ node m c)
at_label empty m e = absurd (cc e)
at_label (more a b) m e = absurd (cc e)
at_label (node l c) m e = (c, ap (λ z. node z c) (one_label e))
  where
    one_label : Some l ≡ Some m → l ≡ m
    one_label e = cc e

sort_back : (l m : Leaf) → Some (of_sort (sort_of_leaf l)) ≡ Some (of_sort (sort_of_leaf m)) → sort_of_leaf l ≡ sort_of_leaf m
sort_back l m e = cc e

slot_below : (xs : List Slot) (n : ℕ) (k : VariableKind) → map_slot (λ v. v.kind) (slice_get xs n) ≡ Some k → n < length xs
slot_below [] n k e = absurd (cc e)
slot_below (y ∷ ys) zero k e = omega arith
slot_below (y ∷ ys) (suc n) k e = (let h : n < length ys = slot_below ys n k e in omega (arith, h))

module _ (c : Content) (nothing : KnowsNothing c) (proper : IsProperContent c) (x : Candidate) (chosen : List Tree) (met : Content) (begun : IsBegun c x chosen met) (continues : KeepsVariables c met) (sound : IsSound met) (solvable : IsSolvable met)
    (k : VariableKind) (n : ℕ) (at : kind_at c n ≡ Some k) (of_terms : IsOfTerms k) (l : Leaf) (is : label_of (deeply_resolved met (leaf_tree (leaf.Variable k n))) ≡ Some (label.Leaf l)) (terms : AreGoalTerms c l x)
    (numbers : (j : VariableKind) (m : ℕ) → kind_at c m ≡ Some j → IsApart l j (deeply_resolved met (leaf_tree (leaf.Variable j m)))) where
  v : Leaf
  v = leaf.Variable k 0

  knows_there : (j : VariableKind) (m : ℕ) → kind_at c m ≡ Some j → Knows met (leaf_tree (leaf.Variable j m))
  knows_there j m e = ((continues.kinds m j e, tt, refl), tt, tt)

  its_sort : sort_of_leaf l ≡ sort_of_leaf (leaf.Variable k n)
  its_sort =
      let (d, e) = at_label (deeply_resolved met (leaf_tree (leaf.Variable k n))) (label.Leaf l) is in
      sort_back l (leaf.Variable k n) (sym (ap kind_of e) ∙ kind_of-deeply_resolved met (leaf_tree (leaf.Variable k n)) sound (knows_there k n at))

  no_region : IsNoRegion l
  no_region = no_region_by k n l of_terms its_sort

  same_sort : sort_of_leaf v ≡ sort_of_leaf l
  unfolding v
  same_sort = new_sort k n ∙ sym its_sort

  -- the world of the table in which each variable is what it came to be, and all regions are one
  own : World
  own = blurred_world (reading met)

  own_solves : Solves met own
  unfolding own
  own_solves = solves_blurred met (reading met) (reading-solves met sound solvable)

  own_tree : (j : VariableKind) (m : ℕ) → kind_at c m ≡ Some j → own.tree m ≡ blurred (deeply_resolved met (leaf_tree (leaf.Variable j m)))
  unfolding own
  own_tree j m e =
      let s = reading-solves met sound solvable in
      let f = s.fitting in
      let value = f.each m j (continues.kinds m j e) in
      merged_blurred ((reading met).tree m) value.formed ∙ reading_blurred met (leaf_tree (leaf.Variable j m)) sound (knows_there j m e)

  its_tree : own.tree n ≡ leaf_tree l
  its_tree = own_tree k n at ∙ label_blurred (deeply_resolved met (leaf_tree (leaf.Variable k n))) l no_region is

  apart_at : (j : VariableKind) (t d : Tree) → t ≡ blurred d → IsApart l j d → IsApart l j t
  apart_at kind.Int t d e a = λ q. a (unblurred d l no_region (ap label_of (sym e) ∙ q))
  apart_at kind.Float t d e a = λ q. a (unblurred d l no_region (ap label_of (sym e) ∙ q))
  apart_at kind.Ty t d e a = tt
  apart_at kind.Const t d e a = tt
  apart_at kind.Region t d e a = tt

  -- back to the first table
  equal_solves : Solves begun.equal own
  equal_solves = added_back chosen x.constraints begun.equal met own begun.adds own_solves

  solves_made : Solves begun.made own
  solves_made = (equated_back chosen x.equations begun.made begun.equal own begun.equates equal_solves).0

  first_solves : Solves c own
  first_solves = (let b = freshened_back c.universe x.fresh chosen c begun.made own begun.freshens solves_made in b.solves)

  other : World
  other = swapped_world l v own

  state_solved : (w : World) (m : ℕ) (o : Option SlotState) → (o ≡ None) ⊎ (o ≡ Some unset) → SolvesState w m o
  state_solved w m o (inl e) = rw e tt
  state_solved w m o (inr e) = rw e tt

  other_solves : Solves c other
  unfolding other swapped_world v
  other_solves =
      let f = first_solves in
      let names = f.nameable in
      let fits = f.fitting in
      record {
        values = λ m. state_solved other m (state_of c m) (nothing.unset m);
        constraints = subst (AreMet other) (sym nothing.none) tt;
        nameable = record { each = λ m. if_names_swapped l v (universe_of c m) (own.tree m) refl (names.each m) };
        fitting = record { each = λ m j e. value_swapped l v no_region same_sort j (own.tree m) (apart_at j (own.tree m) (deeply_resolved met (leaf_tree (leaf.Variable j m))) (own_tree j m e) (numbers j m e)) (fits.each m j e) };
      }

  first_values : List Tree
  first_values = map (inst own) chosen

  -- a term of the candidate, in each world that goes on from that one
  same_read : (t : Tree) → IsGoalTerm c l t → read_in other (map (swapped l v) first_values) t ≡ swapped l v (inst own (filled chosen t))
  unfolding other own first_values
  same_read t g = read_swapped l v no_region (reading met) (map (inst own) chosen) t g.others ∙ ap (swapped l v) (sym (inst-filled own chosen t g.formed))

  -- the new variables are its values there
  made_there : (w : World) → Agrees (length c.slots) other w → map (inst w) chosen ≡ map (swapped l v) first_values → (t : Tree) → IsGoalTerm c l t → inst w (filled chosen t) ≡ swapped l v (inst own (filled chosen t))
  made_there w agrees images t g =
      inst-filled w chosen t g.formed
      ∙ ap (λ z. read_in w z t) images
      ∙ filled_agree (λ y. inst w (leaf_tree y)) (λ y. inst other (leaf_tree y)) (map (swapped l v) first_values) t g.formed (λ y o. inst-agrees c other w (leaf_tree y) agrees (g.leaves y o))
      ∙ same_read t g

  swapped_fit : AreValuesOf x.fresh (map (swapped l v) first_values)
  unfolding first_values
  swapped_fit = (let b = freshened_back c.universe x.fresh chosen c begun.made own begun.freshens solves_made in values_swapped l v no_region same_sort x.fresh (map (inst own) chosen) b.fit)

  swapped_named : AreNamedValues term_level c.universe (map (swapped l v) first_values)
  unfolding first_values v
  swapped_named = (let b = freshened_back c.universe x.fresh chosen c begun.made own begun.freshens solves_made in all_named_swapped l (leaf.Variable k 0) c.universe (map (inst own) chosen) refl b.named)

  terms_equal : (w : World) → Agrees (length c.slots) other w → map (inst w) chosen ≡ map (swapped l v) first_values → (s t : Tree) → IsGoalTerm c l s → IsGoalTerm c l t → inst own (filled chosen s) ≡ inst own (filled chosen t) → inst w (filled chosen s) ≡ inst w (filled chosen t)
  terms_equal w agrees images s t gs gt e = made_there w agrees images s gs ∙ ap (swapped l v) e ∙ sym (made_there w agrees images t gt)

  outlives_all : (a b : Tree) → other.outlives a b ≡ true
  unfolding other swapped_world
  outlives_all a b = refl

  other_tree : other.tree n ≡ leaf_tree (leaf.Variable k 0)
  unfolding other swapped_world v
  other_tree = ap (swapped l v) its_tree ∙ ap leaf_tree (swap_same l v)

  carried_tree : (first second third : World) (b d e : ℕ) → Agrees b other first → Agrees d first second → Agrees e second third → n < b → n < d → n < e → third.tree n ≡ leaf_tree (leaf.Variable k 0)
  carried_tree first second third b d e x y z lb ld le = z.trees n le ∙ y.trees n ld ∙ x.trees n lb ∙ other_tree

  not_there : (w : World) → Solves met w → ((m : ℕ) → l ≡ leaf.Variable k m → ⊥) → w.tree n ≡ leaf_tree (leaf.Variable k 0) → ⊥
  not_there w solves none last =
      let (d, e) = at_label (deeply_resolved met (leaf_tree (leaf.Variable k n))) (label.Leaf l) is in
      never_there k n met w of_terms solves l d none its_sort (subst (Knows met) e (Knows-deeply_resolved met (leaf_tree (leaf.Variable k n)) sound (knows_there k n at)))
      (ap (inst w) (sym e) ∙ inst-deeply_resolved met w (leaf_tree (leaf.Variable k n)) sound solves ∙ last)

  never : ((m : ℕ) → l ≡ leaf.Variable k m → ⊥) → ⊥
  never none =
      let fresh = fresh_known c.universe x.fresh chosen c begun.made begun.freshens in
      let made = freshened_world c.universe x.fresh chosen (map (swapped l v) first_values) c begun.made other proper begun.freshens swapped_fit swapped_named other_solves in
      let back = equated_back chosen x.equations begun.made begun.equal own begun.equates equal_solves in
      let own_equal = back.1 in
      let known = equations_known c begun.made chosen x.equations fresh.keeps fresh.known fresh.patches (equations_of_table c l x terms) in
      let equated = equated_world chosen x.equations begun.made begun.equal made.world begun.equates made.solves known
      (record { each = λ q i. (let g = terms.equations q i in terms_equal made.world made.agrees made.images (left_of q) (right_of q) g.0 g.1 (own_equal.each q i)) }) in
      let there = equated.extended in
      let side : (t : Tree) → IsGoalTerm c l t → Knows begun.made (filled chosen t) = λ t g. filled_known begun.made chosen t g.well_bound fresh.known fresh.patches (λ y o. Knows-kept c begun.made (leaf_tree y) fresh.keeps (g.leaves y o)) in
      let far : (t : Tree) → IsGoalTerm c l t → inst there.world (filled chosen t) ≡ inst made.world (filled chosen t) = λ t g. inst-agrees begun.made made.world there.world (filled chosen t) there.agrees (side t g) in
      let made_agrees = made.agrees in
      let there_agrees = there.agrees in
      let added = added_world chosen x.constraints begun.equal met there.world begun.adds there.solves
      (record {
        left = λ y i. (let g = (terms.constraints y i).0 in Knows-kept begun.made begun.equal (filled chosen y.left) equated.keeps (side y.left g));
        right = λ y i. (let g = (terms.constraints y i).1 in Knows-kept begun.made begun.equal (filled chosen y.right) equated.keeps (side y.right g));
        equal = λ y i q. (let g = terms.constraints y i in
            far y.left g.0
            ∙ terms_equal made.world made.agrees made.images y.left y.right g.0 g.1 (added_equal chosen x.constraints begun.equal met own begun.adds own_solves y i q)
            ∙ sym (far y.right g.1));
        outlives = λ a b. there_agrees.outlives a b ∙ made_agrees.outlives a b ∙ outlives_all a b;
      }) in
      let low : n < length c.slots = slot_below c.slots n k at in
      let longer : length c.slots ≤ length begun.made.slots = made.longer in
      let longest : length begun.made.slots ≤ length begun.equal.slots = equated.longer in
      not_there added.world added.solves none
      (carried_tree made.world there.world added.world (length c.slots) (length begun.made.slots) (length begun.equal.slots) made.agrees there.agrees added.agrees low (omega (arith, low, longer)) (omega (arith, low, longer, longest)))

  -- it came to be a variable of its kind
  pub stays_variable : (m : ℕ) × (l ≡ leaf.Variable k m)
  stays_variable = elim (of_kind_or_not k l) [ inl h ↦ h | inr h ↦ absurd (never h) ]
